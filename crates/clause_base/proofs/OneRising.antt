-- Literals have one rising list.
use Rattle.std.proofs.Common.{◌≡◌, zero, suc, ◌⊎◌, inl, inr, ℤ, ◌<ℤ◌, List, [], ◌∷◌, get_or, refl, sym, ◌∙◌, subst, arith}
use Rattle.std.specs.List.{All, Contains}
use Rattle.std.proofs.lemmas.Int.{ints}
use Rattle.std.proofs.lemmas.List.Elements.{Contains-get_or}
use Rattle.clause_base.specs.Literals.{IsRising}
use Rattle.clause_base.specs.Novelty.{HaveSame}
use Rattle.clause_base.proofs.Rising.{not_self}

tail_rises : (x : ℤ) (xs : List ℤ) → IsRising (x ∷ xs) → IsRising xs
tail_rises x xs up = record { rising = λ j k d jk lt. up.rising (suc j) (suc k) d (omega (arith, jk)) (omega (arith, lt)) }

head_below : (x : ℤ) (xs : List ℤ) (z : ℤ) → IsRising (x ∷ xs) → Contains xs z → x <ℤ z
head_below x xs z up has = let (k, lt, is) = has in subst (λ y. x <ℤ y) is (up.rising 0 (suc k) z (omega arith) (omega (arith, lt)))

in_cons : (y : ℤ) (ys : List ℤ) (z : ℤ) → Contains (y ∷ ys) z → (y ≡ z) ⊎ Contains ys z
in_cons y ys z (zero, lt, is) = inl is
in_cons y ys z (suc k, lt, is) = inr (k, omega (arith, lt), is)

in_none : {P : Type 0} (z : ℤ) → Contains [] z → P
in_none z has = let (k, lt, is) = has in absurd (omega (arith, lt))

not_both : {P : Type 0} (x y : ℤ) → x <ℤ y → y <ℤ x → P
not_both x y there back = let none : ⊥ = grind (arith, ints, there, back) in absurd none

one_head : (x y : ℤ) (xs ys : List ℤ) → IsRising (x ∷ xs) → IsRising (y ∷ ys) → HaveSame (x ∷ xs) (y ∷ ys) → x ≡ y
one_head x y xs ys up down same = elim (in_cons y ys x (same.there 0 x (omega arith))) [
  | inl is ↦ sym is
  | inr there ↦ elim (in_cons x xs y (same.back 0 y (omega arith))) [
    | inl is ↦ is
    | inr back ↦ not_both y x (head_below y ys x down there) (head_below x xs y up back)
  ]
]

all_in_tail : (x y : ℤ) (xs ys : List ℤ) → x ≡ y → IsRising (x ∷ xs) → All (Contains (y ∷ ys)) (x ∷ xs) → All (Contains ys) xs
all_in_tail x y xs ys heads up there k d lt = elim (in_cons y ys (get_or xs k d) (there (suc k) d (omega (arith, lt)))) [
  | inl is ↦ not_self (get_or xs k d) (subst (λ y. y <ℤ get_or xs k d) (heads ∙ is) (head_below x xs (get_or xs k d) up (Contains-get_or xs k d lt)))
  | inr has ↦ has
]

pub one_rising : (a b : List ℤ) → IsRising a → IsRising b → HaveSame a b → a ≡ b
one_rising [] [] up down same = refl
one_rising [] (y ∷ ys) up down same = in_none y (same.back 0 y (omega arith))
one_rising (x ∷ xs) [] up down same = in_none x (same.there 0 x (omega arith))
one_rising (x ∷ xs) (y ∷ ys) up down same =
    let heads = one_head x y xs ys up down same in
    let tails = one_rising xs ys (tail_rises x xs up) (tail_rises y ys down) (record {
      there = all_in_tail x y xs ys heads up same.there;
      back = all_in_tail y x ys xs (sym heads) down same.back;
    }) in
    λ i. heads i ∷ tails i
