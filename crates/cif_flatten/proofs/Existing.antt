-- A file in which no symbol calls itself unfolds to some list.
use Rattle.std.proofs.Common.{◌≡◌, ℕ, zero, suc, ◌+◌, ◌<◌, length, Bool, true, false, List, [], ◌∷◌, ◌++◌, refl, sym, ap, ◌∙◌, subst, arith, eqb-true, eq-eqb}
use Rattle.std.specs.Prelude.{nat_eq, Option, Some, None, is_some, find}
use Rattle.std.specs.List.{IsDistinct, AllByRecursion}
use Rattle.std.proofs.lemmas.Bool.{false≢true, or_left, or_right, or_parts}
use Rattle.std.proofs.lemmas.Map.Keys.{IsDistinct-cons}
use Rattle.plane_geom.specs.Placement.{Step, steps_of}
use Rattle.cif_reader.specs.declared.file.Item.{Item}
use Rattle.cif_reader.specs.declared.file.Symbol.{Symbol}
use Rattle.cif_reader.specs.declared.file.What.{What}
use Rattle.cif_reader.specs.declared.file.What.TheVariants.{Draw, Call, Mark}
use Rattle.cif_reader.specs.File.{Contents, has_number}
use Rattle.cif_reader.proofs.Numbered.{some_any}
use Rattle.cif_flatten.specs.Unfolding.{Placed, in_place, items_in, items_of, opened_by, Unfolds, HasUnfolding}
use Rattle.cif_flatten.specs.Faults.{is_call_of, has_call, CallsThrough, IsNested}
use Rattle.cif_flatten.specs.Reaching.{has, is_defined}
use Rattle.cif_flatten.proofs.Cases.{or_case}
use Rattle.cif_flatten.proofs.Circling.{distinct_none, through_more, few_defined}
use Rattle.cif_flatten.proofs.Unfoldings.{unfolds_append}

-- The commands unfold to some list.
record Unfolding (symbols : List Symbol) (commands : List Placed) : Type 0 where
  placed : List Placed
  unfolds : Unfolds symbols commands placed

-- The items unfold in every place.
abbrev Everywhere : List Symbol → List Item → Type 0
Everywhere symbols items = (steps : List Step) (depth : ℕ) → Unfolding symbols (in_place steps depth items)

-- ---- from the symbols that are called

one_unfolds : (symbols : List Symbol) (what : What) → ((n : ℕ) → is_call_of n what ≡ true → Everywhere symbols (items_of symbols n))
    → (steps : List Step) (depth : ℕ) → Unfolding symbols (opened_by symbols steps depth what)
one_unfolds symbols (Draw layer shape) each steps depth = record { placed = []; unfolds = refl }
one_unfolds symbols (Call number place) each steps depth = each number (eq-eqb number number refl) (steps_of place ++ steps) (depth + 1)
one_unfolds symbols (Mark name at layer) each steps depth = record { placed = []; unfolds = refl }

all_unfold : (symbols : List Symbol) (items : List Item) → ((n : ℕ) → has_call n items ≡ true → Everywhere symbols (items_of symbols n))
    → Everywhere symbols items
all_unfold symbols [] each steps depth = record { placed = []; unfolds = refl }
all_unfold symbols (item ∷ items) each steps depth =
    let first = one_unfolds symbols item.what (λ n h. each n (or_left (is_call_of n item.what) (has_call n items) h)) steps depth in
    let more = all_unfold symbols items (λ n h. each n (or_right (is_call_of n item.what) (has_call n items) h)) steps depth in
    let c : Placed = record { item = item; steps = steps; depth = depth } in
    record {
      placed = c ∷ (first.placed ++ more.placed);
      unfolds = (
        refl,
        unfolds_append symbols (opened_by symbols steps depth item.what)
            (in_place steps depth items) first.placed more.placed first.unfolds more.unfolds,
      );
    }

-- ---- the way from the top

-- The symbols that were opened on the way to the items: all are different and defined, and call what the items call.
record Way (symbols : List Symbol) (path : List ℕ) (items : List Item) : Type 0 where
  distinct : IsDistinct nat_eq path
  defined : (n : ℕ) → has path n ≡ true → is_defined symbols n ≡ true
  leads : (m n : ℕ) → has path m ≡ true → has_call n items ≡ true → CallsThrough symbols m n

all_other : (n : ℕ) (path : List ℕ) → has path n ≡ false → AllByRecursion (λ m. nat_eq n m ≡ false) path
all_other n [] h = tt
all_other n (m ∷ path) h = let parts = or_parts (nat_eq n m) (has path n) h in (parts.0, all_other n path parts.1)

further : (symbols : List Symbol) (path : List ℕ) (items : List Item) (n : ℕ) → Way symbols path items → has_call n items ≡ true
    → is_defined symbols n ≡ true → has path n ≡ false → Way symbols (n ∷ path) (items_of symbols n)
further symbols path items n way called is_one new = record {
  distinct = IsDistinct-cons nat_eq n path (all_other n path new) way.distinct;
  defined = λ m h. or_case (nat_eq m n) (has path m) h (λ e. ap (is_defined symbols) (eqb-true m n e) ∙ is_one) (λ r. way.defined m r);
  leads = λ m k h c. or_case (nat_eq m n) (has path m) h
      (λ e. subst (λ x. CallsThrough symbols x k) (sym (eqb-true m n e)) (record { through = []; along = c }))
      (λ r. through_more symbols m n k (way.leads m n r called) c);
}

none_in : (s : Option Symbol) → is_some s ≡ false → items_in s ≡ []
none_in None h = refl
none_in (Some s) h = absurd (false≢true (sym h))

-- A symbol that is not defined has no items.
undefined_unfolds : (symbols : List Symbol) (n : ℕ) → is_defined symbols n ≡ false → Everywhere symbols (items_of symbols n)
undefined_unfolds symbols n h steps depth = record {
  placed = [];
  unfolds = ap (in_place steps depth) (none_in (find (has_number n) symbols) (some_any (has_number n) symbols ∙ h));
}

by_cases : {P : Type 0} (b : Bool) → (b ≡ true → P) → (b ≡ false → P) → P
by_cases true f g = f refl
by_cases false f g = g refl

-- The way may go on for so many symbols.
unfold_from : (fuel : ℕ) (symbols : List Symbol) (path : List ℕ) (items : List Item) → IsNested symbols → Way symbols path items
    → length symbols < length path + fuel → Everywhere symbols items
unfold_from zero symbols path items nested way few = absurd (omega (arith, few, few_defined symbols path way.distinct way.defined))
unfold_from (suc fuel) symbols path items nested way few =
    all_unfold symbols items (λ n called.
    by_cases (is_defined symbols n)
    (λ is_one. by_cases (has path n) (λ again. absurd (nested.none n (way.leads n n again called)))
    (λ new. unfold_from fuel symbols (n ∷ path) (items_of symbols n) nested (further symbols path items n way called is_one new)
    (omega (arith, few))))
    (λ none. undefined_unfolds symbols n none))

-- A file in which no symbol calls itself unfolds to some list.
pub some_unfolding : (file : Contents) → IsNested file.symbols → HasUnfolding file
some_unfolding file nested =
    let way : Way file.symbols [] file.top = record {
      distinct = distinct_none;
      defined = λ n h. absurd (false≢true h);
      leads = λ m n h c. absurd (false≢true h);
    } in
    let u = unfold_from (length file.symbols + 1) file.symbols [] file.top nested way (omega arith) [] 0 in
    record { placed = u.placed; unfolded = u.unfolds }
