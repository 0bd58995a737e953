-- Sizes of items, added.
use Rattle.std.proofs.Common.{◌≡◌, ℕ, ◌+◌, ◌^◌, ◌<◌, length, List, [], ◌∷◌, ◌++◌, add-one, take, get_or, refl, sym, ap, ◌∙◌, subst, arith, rules}
use Rattle.std.specs.Prelude.{min, true, false, Option, Some, None, is_some, find, sum_by}
use Rattle.std.proofs.Math.Seq.{take-suc}
use Rattle.std.proofs.lemmas.List.{append-nil, map-append}
use Rattle.std.proofs.lemmas.List.Sums.{sum_by-cons, sum_by-append}
use Rattle.std.proofs.lemmas.Option.{none-some, same_Some}
use Rattle.plane_geom.specs.declared.places.Place.{Place}
use Rattle.plane_geom.specs.Placement.{Step, steps_of}
use Rattle.cif_reader.specs.declared.file.Item.{Item}
use Rattle.cif_reader.specs.declared.file.Symbol.{Symbol}
use Rattle.cif_reader.specs.declared.file.What.{What}
use Rattle.cif_reader.specs.declared.file.What.TheVariants.{Draw, Call, Mark}
use Rattle.cif_flatten.specs.declared.sizes.Size.{Size}
use Rattle.cif_reader.specs.File.{has_number}
use Rattle.cif_flatten.specs.declared.sizes.ItemSize.TheVariants.{Known}
use Rattle.cif_flatten.specs.Unfolding.{Placed, opened, in_place, items_in, items_of, Unfolds, call_count, weight, capped}
use Rattle.cif_flatten.specs.Sizes.{HasSize, called_by}
use Rattle.cif_flatten.proofs.Unfoldings.{unfolds_append}

unfoldable pub nothing : Size
nothing = record { calls = 0; weight = 0 }

pub size_nothing : (symbols : List Symbol) → HasSize symbols [] nothing
unfolding nothing
size_nothing symbols = record { placed = λ steps depth. []; unfolds = λ steps depth. refl; calls = λ steps depth. search rules; weight = λ steps depth. search rules }

capped_sum : (m x y a b r : ℕ) → a ≡ min x m → b ≡ min y m → r ≡ min (a + b) m → r ≡ min (x + y) m
capped_sum m x y a b r f g h = omega (arith, f, g, h)

pub size_append : (symbols : List Symbol) (xs ys : List Item) (a b r : Size) → HasSize symbols xs a → HasSize symbols ys b → r.calls ≡ capped (a.calls + b.calls) → r.weight ≡ capped (a.weight + b.weight) → HasSize symbols (xs ++ ys) r
size_append symbols xs ys a b r f g h k = record {
  placed = λ steps depth. f.placed steps depth ++ g.placed steps depth;
  unfolds = λ steps depth. subst (λ zs. Unfolds symbols zs (f.placed steps depth ++ g.placed steps depth)) (sym (map-append (λ (item : Item). record { item = item; steps = steps; depth = depth }) xs ys))
      (unfolds_append symbols _ _ _ _ (f.unfolds steps depth) (g.unfolds steps depth));
  calls = λ steps depth. capped_sum _ _ _ _ _ _ (f.calls steps depth) (g.calls steps depth) h ∙ ap capped (sym (sum_by-append (λ (c : Placed). call_count c.item.what) (f.placed steps depth) (g.placed steps depth)));
  weight = λ steps depth. capped_sum _ _ _ _ _ _ (f.weight steps depth) (g.weight steps depth) k ∙ ap capped (sym (sum_by-append (λ (c : Placed). weight c.item.what) (f.placed steps depth) (g.placed steps depth)));
}

-- the size of one command, and what it opens
one_more : (f : Placed → ℕ) (c : Placed) (p : List Placed) (own inner r : ℕ) → own ≡ f c → inner ≡ capped (sum_by f p) → r ≡ capped (own + inner) → r ≡ capped (sum_by f (c ∷ p))
one_more f c p own inner r h k e = omega (arith, h, k, e, sum_by-cons f c p)

no_sum : (f : Placed → ℕ) → sum_by f [] ≡ 0
no_sum f = refl

one_alone : (f : Placed → ℕ) (c : Placed) (r : ℕ) → r < 2 ^ 64 → r ≡ f c → r ≡ capped (sum_by f (c ∷ []))
one_alone f c r small h = omega (arith, h, small, sum_by-cons f c [], no_sum f)

pub size_calling : (symbols : List Symbol) (pos number : ℕ) (place : Place) (own a r : Size) → own.calls ≡ 1 → own.weight ≡ 0 → HasSize symbols (items_of symbols number) a
    → r.calls ≡ capped (own.calls + a.calls) → r.weight ≡ capped (own.weight + a.weight) → HasSize symbols (record { pos = pos; what = Call number place } ∷ []) r
size_calling symbols pos number place own a r f g h k e = record {
  placed = λ steps depth. record { item = record { pos = pos; what = Call number place }; steps = steps; depth = depth } ∷ h.placed (steps_of place ++ steps) (depth + 1);
  unfolds = λ steps depth. (refl, subst (λ zs. Unfolds symbols zs (h.placed (steps_of place ++ steps) (depth + 1))) (sym (append-nil (in_place (steps_of place ++ steps) (depth + 1) (items_of symbols number)))) (h.unfolds (steps_of place ++ steps) (depth + 1)));
  calls = λ steps depth. one_more (λ (c : Placed). call_count c.item.what) (record { item = record { pos = pos; what = Call number place }; steps = steps; depth = depth }) (h.placed (steps_of place ++ steps) (depth + 1)) _ _ _ f (h.calls (steps_of place ++ steps) (depth + 1)) k;
  weight = λ steps depth. one_more (λ (c : Placed). weight c.item.what) (record { item = record { pos = pos; what = Call number place }; steps = steps; depth = depth }) (h.placed (steps_of place ++ steps) (depth + 1)) _ _ _ g (h.weight (steps_of place ++ steps) (depth + 1)) e;
}

alone : (symbols : List Symbol) (item : Item) (r : Size) → r.calls < 2 ^ 64 → r.weight < 2 ^ 64 → ((steps : List Step) (depth : ℕ) → opened symbols (record { item = item; steps = steps; depth = depth }) ≡ []) → r.calls ≡ call_count item.what → r.weight ≡ weight item.what → HasSize symbols (item ∷ []) r
alone symbols item r m n none f g = record {
  placed = λ steps depth. record { item = item; steps = steps; depth = depth } ∷ [];
  unfolds = λ steps depth. (refl, ap (λ zs. zs ++ []) (none steps depth));
  calls = λ steps depth. one_alone (λ (c : Placed). call_count c.item.what) (record { item = item; steps = steps; depth = depth }) r.calls m f;
  weight = λ steps depth. one_alone (λ (c : Placed). weight c.item.what) (record { item = item; steps = steps; depth = depth }) r.weight n g;
}

alone_case : (symbols : List Symbol) (pos : ℕ) (what : What) (r : Size) → called_by what ≡ None → r.calls < 2 ^ 64 → r.weight < 2 ^ 64 → r.calls ≡ call_count what → r.weight ≡ weight what → HasSize symbols (record { pos = pos; what = what } ∷ []) r
alone_case symbols pos (Draw layer shape) r none m n f g = alone symbols _ r m n (λ steps depth. refl) f g
alone_case symbols pos (Call number place) r none m n f g = absurd (none-some _ (sym none))
alone_case symbols pos (Mark name at layer) r none m n f g = alone symbols _ r m n (λ steps depth. refl) f g

-- The size of an item that calls nothing.
pub size_alone : (symbols : List Symbol) (item : Item) (r : Size) → called_by item.what ≡ None → r.calls < 2 ^ 64 → r.weight < 2 ^ 64 → r.calls ≡ call_count item.what → r.weight ≡ weight item.what → HasSize symbols (item ∷ []) r
size_alone symbols item r none m n f g = alone_case symbols item.pos item.what r none m n f g

calling_case : (symbols : List Symbol) (pos : ℕ) (what : What) (number : ℕ) (own a r : Size) → called_by what ≡ Some number → own.calls ≡ call_count what → own.weight ≡ weight what → HasSize symbols (items_of symbols number) a
    → r.calls ≡ capped (own.calls + a.calls) → r.weight ≡ capped (own.weight + a.weight) → HasSize symbols (record { pos = pos; what = what } ∷ []) r
calling_case symbols pos (Draw layer shape) number own a r is f g h k e = absurd (none-some _ is)
calling_case symbols pos (Call called place) number own a r is f g h k e = size_calling symbols pos called place own a r f g (subst (λ n. HasSize symbols (items_of symbols n) a) (sym (same_Some _ _ is)) h) k e
calling_case symbols pos (Mark name at layer) number own a r is f g h k e = absurd (none-some _ is)

-- The size of a call.
pub size_called : (symbols : List Symbol) (item : Item) (number : ℕ) (own a r : Size) → called_by item.what ≡ Some number → own.calls ≡ call_count item.what → own.weight ≡ weight item.what → HasSize symbols (items_of symbols number) a
    → r.calls ≡ capped (own.calls + a.calls) → r.weight ≡ capped (own.weight + a.weight) → HasSize symbols (item ∷ []) r
size_called symbols item number own a r is f g h k e = calling_case symbols item.pos item.what number own a r is f g h k e

true_false : true ≡ false → ⊥
true_false h = cc

no_items : (s : Option Symbol) → is_some s ≡ false → items_in s ≡ []
no_items None h = refl
no_items (Some s) h = absurd (true_false h)

-- The size of a symbol that is not defined.
pub size_undefined : (symbols : List Symbol) (number : ℕ) → is_some (find (has_number number) symbols) ≡ false → HasSize symbols (items_of symbols number) nothing
size_undefined symbols number h = subst (λ items. HasSize symbols items nothing) (sym (no_items (find (has_number number) symbols) h)) (size_nothing symbols)

pub known_is : (a b : Size) → Known a ≡ Known b → a ≡ b
known_is a b h = cc

-- one item more
pub size_step : (symbols : List Symbol) (xs : List Item) (i : ℕ) (d : Item) (a b r : Size) → i < length xs → HasSize symbols (take i xs) a → HasSize symbols (get_or xs i d ∷ []) b
    → r.calls ≡ capped (a.calls + b.calls) → r.weight ≡ capped (a.weight + b.weight) → HasSize symbols (take (i + 1) xs) r
size_step symbols xs i d a b r h f g k e = subst (λ zs. HasSize symbols zs r) (sym (ap (λ n. take n xs) (add-one i) ∙ take-suc xs i d h)) (size_append symbols (take i xs) (get_or xs i d ∷ []) a b r f g k e)
