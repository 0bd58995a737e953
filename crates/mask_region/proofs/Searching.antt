-- A cell is looked up by halving the list of strips.
use Rattle.std.proofs.Common.{◌≡◌, ℕ, zero, suc, ◌<◌, ◌≤◌, Bool, true, false, List, [], ◌∷◌, length, get_or, Option, Some, None, sym, ◌∙◌, inl, inr, arith}
use Rattle.std.specs.Prelude.{ℤ, ◌≤ℤ◌, ◌<ℤ◌, slice_index_or, is_some, MatchOption}
use Rattle.std.specs.List.Sorted.{IsPartitionedBy, IsPartitionPoint}
use Rattle.std.proofs.lemmas.Bool.{cases_lt, cases_eq}
use Rattle.std.proofs.lemmas.Int.{ints, by_lt_z}
use Rattle.std.proofs.lemmas.List.{get_or_default}
use Rattle.std.proofs.lemmas.List.Elements.{All-get_or, All-from_recursion}
use Rattle.std.proofs.lemmas.List.Folds.{list_any_none, list_any_at}
use Rattle.std.proofs.lemmas.Map.Keys.{any_passes_from_place}
use Rattle.mask_region.specs.declared.strips.Strip.{Strip}
use Rattle.mask_region.specs.Strips.{is_in_strip, is_in, HasCellAt, IsStrip, Follows, IsBanded, Banded}
use Rattle.mask_region.specs.Sweeping.{is_before_cell}
use Rattle.mask_region.proofs.Banding.{all_strips}

-- a later strip follows an earlier one
pub follows_at : (strips : List Strip) (i j : ℕ) (d : Strip) → IsBanded strips → i < j → j < length strips → Follows (get_or strips i d) (get_or strips j d)
follows_at [] i j d h lt in' = absurd (omega arith)
follows_at (s ∷ strips) zero zero d h lt in' = absurd (omega arith)
follows_at (s ∷ strips) zero (suc j) d h lt in' = All-get_or (Follows s) strips j d (omega arith) (All-from_recursion (Follows s) strips h.1)
follows_at (s ∷ strips) (suc i) zero d h lt in' = absurd (omega arith)
follows_at (s ∷ strips) (suc i) (suc j) d h lt in' = follows_at strips i j d h.2 (omega arith) (omega arith)

before_too : (x y : ℤ) (s t : Strip) → IsStrip t → Follows s t → is_before_cell x y t ≡ true → is_before_cell x y s ≡ true
before_too x y s t st f h =
    by_lt_z s.y0 t.y0
    (λ up. let apart : s.y1 ≤ℤ t.y0 = f.apart up in grind (arith, ints, st.high))
    (λ same.
    let level : s.y0 ≡ t.y0 = omega (arith, ints, f.later) in
    let band : s.y1 ≡ t.y1 = f.band level in
    let right : s.x1 <ℤ t.x0 = f.right level in
    grind (arith, ints, st.wide, st.high))

pub partitioned : (strips : List Strip) (x y : ℤ) → Banded strips → IsPartitionedBy (is_before_cell x y) strips
partitioned strips x y banded i j d le lt h =
    elim (cases_lt i j) [
      | inl less ↦
          before_too x y (get_or strips i d) (get_or strips j d) (All-get_or IsStrip strips j d lt (All-from_recursion IsStrip strips (all_strips strips banded.each)))
          (follows_at strips i j d banded.each less lt) h
      | inr more ↦ let same : i ≡ j = omega arith in rw same h
    ]

-- Of the strips that come behind the cell, only the first may have it.
not_inside : (x y : ℤ) (t : Strip) → is_before_cell x y t ≡ true → is_in_strip t x y ≡ false
not_inside x y t h = grind (arith, ints)

only_first : (x y : ℤ) (s t : Strip) → Follows s t → is_before_cell x y s ≡ false → is_in_strip t x y ≡ false
only_first x y s t f h =
    by_lt_z s.y0 t.y0
    (λ up. let apart : s.y1 ≤ℤ t.y0 = f.apart up in grind (arith, ints))
    (λ same.
    let level : s.y0 ≡ t.y0 = omega (arith, ints, f.later) in
    let band : s.y1 ≡ t.y1 = f.band level in
    let right : s.x1 <ℤ t.x0 = f.right level in
    grind (arith, ints))

pub found : (strips : List Strip) (k : ℕ) (d : Strip) (x y : ℤ) (b : Bool) → Banded strips → k < length strips
    → IsPartitionPoint (λ s. is_before_cell x y s ≡ true) (λ s. is_before_cell x y s ≡ false) strips k
    → b ≡ is_in_strip (get_or strips k d) x y → b ≡ is_in strips x y
found strips k d x y true banded lt point e = sym (list_any_at (λ s. is_in_strip s x y) strips k d lt (sym e))
found strips k d x y false banded lt point e =
    sym (list_any_none (λ s. is_in_strip s x y) strips (λ i v h. elim (cases_lt i k) [
      | inl less ↦ not_inside x y (get_or strips i v) (point.0 i v (omega arith) less)
      | inr more ↦ elim (cases_eq i k) [
        | inl same ↦ rw (same, get_or_default strips k v d lt) (sym e)
        | inr other ↦ only_first x y (get_or strips k v) (get_or strips i v) (follows_at strips k i v banded.each (omega arith) h) (point.1 k v (omega arith) lt)
      ]
    ]))

pub found_none : (strips : List Strip) (k : ℕ) (x y : ℤ) → length strips ≤ k
    → IsPartitionPoint (λ s. is_before_cell x y s ≡ true) (λ s. is_before_cell x y s ≡ false) strips k → is_in strips x y ≡ false
found_none strips k x y le point = list_any_none (λ s. is_in_strip s x y) strips (λ i v h. not_inside x y (slice_index_or strips i v) (point.0 i v (omega arith) (omega arith)))

-- A strip is found exactly where one has the cell.
pub some_found : (strips : List Strip) (x y : ℤ) (at : Option ℕ) (b : Bool) → b ≡ is_some at → MatchOption at (is_in strips x y ≡ false) (λ k. HasCellAt strips x y k) → b ≡ is_in strips x y
some_found strips x y None b is h = is ∙ sym h
some_found strips x y (Some k) b is h = is ∙ sym (any_passes_from_place (λ s. is_in_strip s x y) strips k h.strip h.at h.has)
