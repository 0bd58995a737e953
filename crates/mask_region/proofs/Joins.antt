-- Two banded lists, joined band by band.
use Rattle.std.proofs.Common.{◌≡◌, ℕ, ◌+◌, ◌≤◌, ◌^◌, Bool, true, false, ◌&&◌, ◌||◌, List, [], length, take, drop, refl, sym, ap, ◌∙◌, subst, arith}
use Rattle.std.specs.Prelude.{ℤ, pos, neg_ℤ, ◌+ℤ◌, ◌-ℤ◌, ◌≤ℤ◌, ◌<ℤ◌}
use Rattle.std.specs.List.{AllByRecursion}
use Rattle.std.proofs.lemmas.Int.{ints, by_lt_z}
use Rattle.std.proofs.lemmas.List.{take-append-drop, take_all}
use Rattle.std.proofs.lemmas.List.Elements.{All-nil}
use Rattle.std.proofs.lemmas.List.Folds.{list_any-append}
use Rattle.plane_geom.specs.Bounds.{IsWithin}
use Rattle.plane_geom.specs.Cells.{is_between}
use Rattle.plane_geom.specs.Ends.{flips}
use Rattle.plane_geom.proofs.Lists.{all_weaker}
use Rattle.mask_region.specs.declared.strips.Strip.{Strip}
use Rattle.mask_region.specs.declared.ends.Joining.{Joining}
use Rattle.mask_region.specs.declared.ends.Joining.TheVariants.{Union, Meet, Minus}
use Rattle.mask_region.specs.Joins.{joined}
use Rattle.mask_region.specs.Rows.{IsRow}
use Rattle.mask_region.specs.Strips.{is_in_strip, is_in, IsStrip, Banded}
use Rattle.mask_region.specs.Sweeping.{ArePassed, IsFree, IsEdge, IsRowOf, IsSteady, IsSplitAt, is_shown, IsShown}
use Rattle.mask_region.proofs.Banding.{all_with, all_strips, none_above, passed_none, passed_further}

-- The rows at y are those of the two sets, and below y the strips and the held band are the joined set.
pub record AreJoinedTo (op : Joining) (a b : List Strip) (i j : ℕ) (y : ℤ) (row_a row_b : List ℤ) (out : List Strip) (held : List ℤ) (from : ℤ) : Type 0 where
  pub a_banded : Banded a
  pub b_banded : Banded b
  pub a_split : IsSplitAt a y i
  pub b_split : IsSplitAt b y j
  pub a_row : IsRowOf (drop i a) y row_a
  pub b_row : IsRowOf (drop j b) y row_b
  pub shown : IsShown out held from y
  pub low : neg_ℤ (pos (2 ^ 25)) ≤ℤ (y +ℤ pos 1)
  pub high : y ≤ℤ pos (2 ^ 25)
  pub now : (x : ℤ) → flips held x ≡ joined op (flips row_a x) (flips row_b x)
  pub cells : (x z : ℤ) → z <ℤ y → is_shown out held from y x z ≡ joined op (is_in a x z) (is_in b x z)

joined_nothing : (op : Joining) → joined op false false ≡ false
joined_nothing Union = refl
joined_nothing Meet = refl
joined_nothing Minus = refl

-- ---- the start

start_split : (strips : List Strip) (y : ℤ) → Banded strips → y ≤ℤ neg_ℤ (pos (2 ^ 25)) → IsSplitAt strips y 0
start_split strips y h low =
    record {
      in_range = omega arith;
      passed = record { each = tt };
      ahead = record { each = all_weaker IsStrip (λ s. y <ℤ s.y1) strips (λ s st. omega (arith, ints, st.below, st.high)) (all_strips strips h.each) };
    }

start_none : (strips : List Strip) (y x z : ℤ) → Banded strips → y ≤ℤ neg_ℤ (pos (2 ^ 25)) → z <ℤ y → is_in strips x z ≡ false
start_none strips y x z h low below = none_above strips x z (all_weaker IsStrip (λ s. z <ℤ s.y0) strips (λ s st. omega (arith, ints, st.below)) (all_strips strips h.each))

none_row : IsRow []
none_row = record { rising = record { each = λ k h. absurd (omega arith); within = All-nil (IsWithin (2 ^ 25)) }; even = refl }

start_row : (strips : List Strip) (y : ℤ) → Banded strips → y <ℤ neg_ℤ (pos (2 ^ 25)) → IsRowOf strips y []
start_row strips y h low =
    record {
      row = none_row;
      cells = λ x z up free.
          none_above strips x z (all_with IsStrip (IsFree y z) (λ s. z <ℤ s.y0) strips
          (λ s st f. f.ahead (omega (arith, ints, st.below))) (all_strips strips h.each) free);
    }

pub join_start : (op : Joining) (a b : List Strip) (i j : ℕ) (y : ℤ) (row_a row_b : List ℤ) (out : List Strip) (held : List ℤ) → Banded a → Banded b → i ≡ 0 → j ≡ 0 → y ≡ neg_ℤ (pos (2 ^ 25 + 1))
    → row_a ≡ [] → row_b ≡ [] → out ≡ [] → held ≡ [] → AreJoinedTo op a b i j y row_a row_b out held y
join_start op a b i j y row_a row_b out held banded_a banded_b no_i no_j low no_a no_b no_out no_held =
    rw (no_i, no_j, no_a, no_b, no_out, no_held)
    (record {
      a_banded = banded_a;
      b_banded = banded_b;
      a_split = start_split a y banded_a (omega (arith, ints));
      b_split = start_split b y banded_b (omega (arith, ints));
      a_row = start_row a y banded_a (omega (arith, ints));
      b_row = start_row b y banded_b (omega (arith, ints));
      shown = record { banded = record { each = tt }; passed = record { each = tt }; row = none_row; low = λ some. absurd (omega arith); order = omega (arith, ints) };
      low = omega (arith, ints);
      high = omega (arith, ints);
      now = λ x. sym (joined_nothing op);
      cells = λ x z below. sym (joined_nothing op)
          ∙ (λ k. joined op (sym (start_none a y x z banded_a (omega (arith, ints)) below) k) (sym (start_none b y x z banded_b (omega (arith, ints)) below) k));
    })

-- ---- one row of one operand

pub row_cells : (strips : List Strip) (y : ℤ) (i : ℕ) (next : ℤ) (row : List ℤ) (x z : ℤ) → IsSplitAt strips y i → IsEdge (drop i strips) y next → IsRowOf (drop i strips) y row
    → y ≤ℤ z → z <ℤ next → is_in strips x z ≡ flips row x
row_cells strips y i next row x z split edge is_row low up =
    ap (λ l. is_in l x z) (sym (take-append-drop i strips))
    ∙ list_any-append (λ s. is_in_strip s x z) (take i strips) (drop i strips)
    ∙ ap (λ b. b || is_in (drop i strips) x z) (passed_none (take i strips) y x z split.passed low)
    ∙ is_row.cells x z low (edge.free z low up)

-- A strip that neither begins nor ends from the row y up to the row `next`, and does not begin there, is free on.
still_free : (y next z : ℤ) (s : Strip) → y <ℤ next → IsFree y (next -ℤ pos 1) s → (s.y0 ≡ next → ⊥) → IsFree next z s → IsFree y z s
still_free y next z s up before apart free =
    record {
      now = λ h. free.now (omega (arith, ints));
      ahead = λ h.
          let far : (next -ℤ pos 1) <ℤ s.y0 = before.ahead h in
          free.ahead (by_lt_z next s.y0 (λ lt. lt) (λ le. absurd (apart (omega (arith, ints)))));
    }

pub row_steady : (strips : List Strip) (y next : ℤ) (row : List ℤ) → IsEdge strips y next → IsRowOf strips y row → IsSteady strips next → IsRowOf strips next row
row_steady strips y next row edge is_row steady =
    let later : y <ℤ next = edge.later in
    let before : AllByRecursion (IsFree y (next -ℤ pos 1)) strips = edge.free (next -ℤ pos 1) (omega (arith, ints)) (omega (arith, ints)) in
    record {
      row = is_row.row;
      cells = λ x z low free.
          is_row.cells x z (omega (arith, ints))
          (all_with (IsFree y (next -ℤ pos 1)) (λ s. (s.y0 ≡ next → ⊥) × IsFree next z s) (IsFree y z) strips (λ s b af. still_free y next z s later b af.0 af.1) before
          (all_with (λ s. s.y0 ≡ next → ⊥) (IsFree next z) (λ s. (s.y0 ≡ next → ⊥) × IsFree next z s) strips (λ s p q. (p, q)) steady.each free));
    }

pub split_further : (strips : List Strip) (y next : ℤ) (i : ℕ) → IsSplitAt strips y i → y ≤ℤ next → ArePassed (take i strips) next
split_further strips y next i h up = passed_further (take i strips) y next up h.passed

all_passed_cells : (strips : List Strip) (y : ℤ) (i : ℕ) (x z : ℤ) → IsSplitAt strips y i → length strips ≤ i → y ≤ℤ z → is_in strips x z ≡ false
all_passed_cells strips y i x z split le low =
    let P : List Strip → Type 0 = λ l. ArePassed l y in
    passed_none strips y x z (subst P (take_all i strips le) split.passed) low

-- ---- the step

shown_below : (out : List Strip) (held : List ℤ) (from y next x z : ℤ) → z <ℤ y → y <ℤ next → is_shown out held from next x z ≡ is_shown out held from y x z
shown_below out held from y next x z below up =
    let same : is_between from next z ≡ is_between from y z = grind (arith, ints) in
    ap (λ b. is_in out x z || (flips held x && b)) same

and_true : (p q : Bool) → q ≡ true → (p && q) ≡ p
and_true true q h = h
and_true false q h = refl

shown_now : (out : List Strip) (held : List ℤ) (from y next x z : ℤ) → IsShown out held from y → y ≤ℤ z → z <ℤ next → is_shown out held from next x z ≡ flips held x
shown_now out held from y next x z h low up =
    let order = h.order in
    let none : is_in out x z ≡ false = passed_none out from x z h.passed (omega (arith, ints)) in
    let here : is_between from next z ≡ true = grind (arith, ints) in
    ap (λ b. b || (flips held x && is_between from next z)) none ∙ and_true (flips held x) (is_between from next z) here

-- With the same band held back, the joined set is shown up to the next edge.
pub joined_up_to : (op : Joining) (a b : List Strip) (i j : ℕ) (y : ℤ) (row_a row_b : List ℤ) (out : List Strip) (held : List ℤ) (from next x z : ℤ) → AreJoinedTo op a b i j y row_a row_b out held from
    → IsEdge (drop i a) y next → IsEdge (drop j b) y next → z <ℤ next → is_shown out held from next x z ≡ joined op (is_in a x z) (is_in b x z)
joined_up_to op a b i j y row_a row_b out held from next x z h edge_a edge_b up =
    by_lt_z z y
    (λ below. shown_below out held from y next x z below edge_a.later ∙ h.cells x z below)
    (λ low. shown_now out held from y next x z h.shown low up ∙ h.now x
    ∙ (λ k. joined op (sym (row_cells a y i next row_a x z h.a_split edge_a h.a_row low up) k) (sym (row_cells b y j next row_b x z h.b_split edge_b h.b_row low up) k)))

pub shown_to : (out : List Strip) (held : List ℤ) (from y next : ℤ) → IsShown out held from y → y <ℤ next → IsShown out held from next
shown_to out held from y next h up = record { banded = h.banded; passed = h.passed; row = h.row; low = h.low; order = omega (arith, ints, h.order) }

-- ---- a joined row that stays

-- Where the rows below are the same and what is joined of them is what is joined of the rows, the held band has the joined row.
pub still_joined : (op : Joining) (old_a below_a row_a old_b below_b row_b held : List ℤ) (x : ℤ) → old_a ≡ below_a → old_b ≡ below_b
    → joined op (flips old_a x) (flips old_b x) ≡ joined op (flips row_a x) (flips row_b x)
    → flips held x ≡ joined op (flips below_a x) (flips below_b x) → flips held x ≡ joined op (flips row_a x) (flips row_b x)
still_joined op old_a below_a row_a old_b below_b row_b held x same_a same_b stays now = now ∙ (λ k. joined op (flips (sym same_a k) x) (flips (sym same_b k) x)) ∙ stays

pub join_more : (op : Joining) (a b : List Strip) (i j : ℕ) (y : ℤ) (row_a row_b : List ℤ) (out : List Strip) (held : List ℤ) (from next : ℤ) (row_a2 row_b2 : List ℤ) (out2 : List Strip) (held2 : List ℤ) (from2 : ℤ) (i2 j2 : ℕ)
    → AreJoinedTo op a b i j y row_a row_b out held from → IsEdge (drop i a) y next → IsEdge (drop j b) y next → IsSplitAt a next i2 → IsSplitAt b next j2
    → IsRowOf (drop i2 a) next row_a2 → IsRowOf (drop j2 b) next row_b2 → IsShown out2 held2 from2 next
    → ((x z : ℤ) → is_shown out2 held2 from2 next x z ≡ is_shown out held from next x z) → ((x : ℤ) → flips held2 x ≡ joined op (flips row_a2 x) (flips row_b2 x))
    → AreJoinedTo op a b i2 j2 next row_a2 row_b2 out2 held2 from2
join_more op a b i j y row_a row_b out held from next row_a2 row_b2 out2 held2 from2 i2 j2 h edge_a edge_b split_a split_b is_a is_b shown kept now =
    record {
      a_banded = h.a_banded;
      b_banded = h.b_banded;
      a_split = split_a;
      b_split = split_b;
      a_row = is_a;
      b_row = is_b;
      shown = shown;
      low = omega (arith, ints, h.low, edge_a.later);
      high = edge_a.near;
      now = now;
      cells = λ x z up. kept x z ∙ joined_up_to op a b i j y row_a row_b out held from next x z h edge_a edge_b up;
    }

-- ---- the end

or_nothing : (p q : Bool) → q ≡ false → (p && q) ≡ false
or_nothing true q h = h
or_nothing false q h = refl

shown_none : (out : List Strip) (held : List ℤ) (from y x z : ℤ) → IsShown out held from y → y ≤ℤ z → is_shown out held from y x z ≡ false
shown_none out held from y x z h low =
    let order = h.order in
    let none : is_in out x z ≡ false = passed_none out from x z h.passed (omega (arith, ints)) in
    let here : is_between from y z ≡ false = grind (arith, ints) in
    ap (λ b. b || (flips held x && is_between from y z)) none ∙ or_nothing (flips held x) (is_between from y z) here

pub join_end : (op : Joining) (a b : List Strip) (i j : ℕ) (y : ℤ) (row_a row_b : List ℤ) (out : List Strip) (held : List ℤ) (from x z : ℤ) → AreJoinedTo op a b i j y row_a row_b out held from → length a ≤ i → length b ≤ j
    → is_shown out held from y x z ≡ joined op (is_in a x z) (is_in b x z)
join_end op a b i j y row_a row_b out held from x z h all_a all_b =
    by_lt_z z y (λ below. h.cells x z below)
    (λ low. shown_none out held from y x z h.shown low ∙ sym (joined_nothing op)
    ∙ (λ k. joined op (sym (all_passed_cells a y i x z h.a_split all_a low) k) (sym (all_passed_cells b y j x z h.b_split all_b low) k)))
