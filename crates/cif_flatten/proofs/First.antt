-- The first of calls.
use Rattle.std.proofs.Common.{◌≡◌, ℕ, ◌+◌, ◌<◌, ◌≤◌, length, get_or, take, List, [], ◌∷◌, ◌++◌, refl, sym, ap, ◌∙◌, add-one, arith, rules, subst}
use Rattle.std.specs.Prelude.{Option, Some, None, flat_map}
use Rattle.std.proofs.Math.Seq.{take-suc}
use Rattle.std.proofs.lemmas.List.{append-nil}
use Rattle.std.proofs.lemmas.List.Concat.{flat_map-append}
use Rattle.std.proofs.lemmas.List.Elements.{All-append, All-weaker, Contains-append_left, Contains-append_right}
use Rattle.cif_flatten.specs.declared.calls.UndefinedCall.{UndefinedCall}
use Rattle.cif_flatten.specs.Faults.{IsFirst, IsFirstIfAny, list_of}

pub flat_map_more : {X Y : Type 0} (f : X → List Y) (xs : List X) (i : ℕ) (d : X) → i < length xs → flat_map f (take (i + 1) xs) ≡ flat_map f (take i xs) ++ f (get_or xs i d)
flat_map_more f xs i d h =
    ap (λ n. flat_map f (take n xs)) (add-one i) ∙ ap (flat_map f) (take-suc xs i d h) ∙ flat_map-append f (take i xs) (get_or xs i d ∷ [])
    ∙ ap (λ r. flat_map f (take i xs) ++ r) (append-nil (f (get_or xs i d)))

-- The one of the left list is the first of both, where it stands before that of the right list.
pub first_left : (a b : UndefinedCall) (xs ys : List UndefinedCall) → IsFirst xs a → IsFirst ys b → a.pos ≤ b.pos → IsFirst (xs ++ ys) a
first_left a b xs ys f g h = record {
  one = Contains-append_left xs ys a f.one;
  first = All-append (λ (c : UndefinedCall). a.pos ≤ c.pos) xs ys f.first (All-weaker (λ (c : UndefinedCall). b.pos ≤ c.pos) (λ (c : UndefinedCall). a.pos ≤ c.pos) (λ c k. omega (arith, h, k)) ys g.first);
}

pub first_right : (a b : UndefinedCall) (xs ys : List UndefinedCall) → IsFirst xs a → IsFirst ys b → b.pos ≤ a.pos → IsFirst (xs ++ ys) b
first_right a b xs ys f g h = record {
  one = Contains-append_right xs ys b g.one;
  first = All-append (λ (c : UndefinedCall). b.pos ≤ c.pos) xs ys (All-weaker (λ (c : UndefinedCall). a.pos ≤ c.pos) (λ (c : UndefinedCall). b.pos ≤ c.pos) (λ c k. omega (arith, h, k)) xs f.first) g.first;
}

pub first_other : (one other : Option UndefinedCall) (a b : UndefinedCall) → one ≡ Some a → other ≡ Some b → b.pos < a.pos → (xs ys : List UndefinedCall) → IsFirstIfAny xs one → IsFirstIfAny ys other → IsFirst (xs ++ ys) b
first_other one other a b e d h xs ys f g = first_right a b xs ys (subst (IsFirstIfAny xs) e f) (subst (IsFirstIfAny ys) d g) (omega (arith, h))

none_of_two : (xs ys : List UndefinedCall) → xs ≡ [] → ys ≡ [] → xs ++ ys ≡ []
none_of_two xs ys f g = ap (λ r. r ++ ys) f ∙ g

pub first_of_rest : (one other : Option UndefinedCall) → one ≡ None → (xs ys : List UndefinedCall) → IsFirstIfAny xs one → IsFirstIfAny ys other → IsFirstIfAny (xs ++ ys) other
first_of_rest one other e xs ys f g = subst (λ r. IsFirstIfAny (r ++ ys) other) (sym (subst (IsFirstIfAny xs) e f)) g

left_case : (a : UndefinedCall) (other : Option UndefinedCall) → ((b : UndefinedCall) → other ≡ Some b → a.pos ≤ b.pos) → (xs ys : List UndefinedCall) → IsFirst xs a → IsFirstIfAny ys other → IsFirst (xs ++ ys) a
left_case a None h xs ys f g = subst (λ r. IsFirst (xs ++ r) a) (sym g) (subst (λ r. IsFirst r a) (sym (append-nil xs)) f)
left_case a (Some b) h xs ys f g = first_left a b xs ys f g (h b refl)

-- one item more
pub step : {X : Type 0} (f : X → List UndefinedCall) (xs : List X) (i : ℕ) (d : X) (one other result : Option UndefinedCall) → i < length xs → IsFirstIfAny (flat_map f (take i xs)) one → IsFirstIfAny (f (get_or xs i d)) other
    → ((us vs : List UndefinedCall) → IsFirstIfAny us one → IsFirstIfAny vs other → IsFirstIfAny (us ++ vs) result) → IsFirstIfAny (flat_map f (take (i + 1) xs)) result
step f xs i d one other result h p q all = subst (λ r. IsFirstIfAny r result) (sym (flat_map_more f xs i d h)) (all _ _ p q)

-- The item by itself.
pub one_item : (found : Option UndefinedCall) (xs : List UndefinedCall) → list_of found ≡ xs → IsFirstIfAny xs found
one_item None xs h = sym h
one_item (Some a) xs h = subst (λ r. IsFirst r a) h (record { one = search rules; first = search rules })
