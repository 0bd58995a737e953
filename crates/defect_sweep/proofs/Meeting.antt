-- How many placements are among two sets of them.
use Rattle.std.proofs.Common.{◌≡◌, ℕ, ◌+◌, ◌*◌, ◌<◌, ◌≤◌, ◌^◌, Bool, true, false, ◌&&◌, List, [], ◌∷◌, length, get_or, refl, sym, ap, ◌∙◌, arith}
use Rattle.std.specs.Prelude.{ℤ, sum_by}
use Rattle.std.specs.List.{range_with_len}
use Rattle.std.proofs.lemmas.Bool.{false≢true, and_parts}
use Rattle.std.proofs.lemmas.Nat.{mul-le}
use Rattle.std.proofs.lemmas.List.{get_or_read}
use Rattle.std.proofs.lemmas.List.Elements.{All-get_or}
use Rattle.std.proofs.lemmas.List.Sums.{sum_by-cons}
use Rattle.std.proofs.lemmas.List.Folds.{fold-map}
use Rattle.std.proofs.lemmas.List.FromFn.{sum_by-map-range_with_len_more}
use Rattle.plane_geom.specs.declared.shapes.Rect.{Rect}
use Rattle.plane_geom.specs.Cells.{is_in_rect, count_cells}
use Rattle.plane_geom.proofs.Counting.{count_cells_agree}
use Rattle.mask_region.specs.declared.strips.Strip.{Strip}
use Rattle.mask_region.specs.Strips.{is_in}
use Rattle.mask_region.proofs.Areas.{area_none}
use Rattle.defect_sweep.specs.declared.sides.SideWeight.{SideWeight}
use Rattle.defect_sweep.specs.Sides.{IsSide, AreSides, side_at, no_side}
use Rattle.defect_sweep.specs.Reaching.{placements_at, side_meets, first_meets, meets, meets_on, AreNear, HoldsAll, AreApart, Reach, IsReach, Reaches, AreReaches, reach_at}
use Rattle.defect_sweep.proofs.Near.{count_within}

-- ---- sums over the first numbers

pub sum_more : (f : ℕ → ℕ) (n : ℕ) → sum_by f (range_with_len 0 (n + 1)) ≡ sum_by f (range_with_len 0 n) + f n
sum_more f n =
    sym (fold-map (λ a x. a + x) f 0 (range_with_len 0 (n + 1)))
    ∙ sum_by-map-range_with_len_more (λ x. x) f 0 n n (omega arith)
    ∙ ap (λ m. m + f n) (fold-map (λ a x. a + x) f 0 (range_with_len 0 n))

pub sum_zero : (f : ℕ → ℕ) (xs : List ℕ) → ((k : ℕ) → f k ≡ 0) → sum_by f xs ≡ 0
sum_zero f [] none = refl
sum_zero f (x ∷ xs) none = omega (arith, sum_by-cons f x xs, none x, sum_zero f xs none)

-- ---- how much one side counts

pub side_of_all : (sides : List SideWeight) (k : ℕ) → k < length sides → AreSides sides → IsSide (side_at sides k)
side_of_all sides k lt h = All-get_or IsSide sides k no_side lt h.each

-- a count of placements
pub meets_small : (a b : List (List Strip)) (k : ℕ) → AreNear a → count_cells (λ x y. is_in (placements_at a k) x y && is_in (placements_at b k) x y) < 2 ^ 51
meets_small a b k near =
    omega (
      arith,
      count_within (2 ^ 24 + 2 ^ 16) (λ x y. is_in (placements_at a k) x y && is_in (placements_at b k) x y) (omega arith)
          (λ x y h. near.cells k x y (and_parts (is_in (placements_at a k) x y) (is_in (placements_at b k) x y) h).0),
    )

-- ---- nets that lie apart

apart_cells : (p q r s : Bool) → (p ≡ true → r ≡ true) → (q ≡ true → s ≡ true) → (r && s) ≡ false → (p && q) ≡ false
apart_cells true true r s f g h = absurd (false≢true (sym h ∙ (λ i. f refl i && g refl i)))
apart_cells true false r s f g h = refl
apart_cells false q r s f g h = refl

none_of : (p : ℤ → ℤ → Bool) → ((x y : ℤ) → p x y ≡ false) → count_cells p ≡ 0
none_of p none = count_cells_agree p (is_in []) (λ x y. none x y) ∙ sym area_none

times_none : (w n : ℕ) → n ≡ 0 → w * n ≡ 0
times_none w n e = rw e (omega arith)

pub side_apart : (sides : List SideWeight) (first second : Rect) (a b : List (List Strip)) (k : ℕ) → AreApart first second → HoldsAll first a → HoldsAll second b → side_meets sides a b k ≡ 0
side_apart sides first second a b k apart in_a in_b =
    times_none (side_at sides k).weight _
    (none_of (λ x y. is_in (placements_at a k) x y && is_in (placements_at b k) x y)
    (λ x y. apart_cells (is_in (placements_at a k) x y) (is_in (placements_at b k) x y) (is_in_rect first x y) (is_in_rect second x y)
    ((in_a.each k).cells x y) ((in_b.each k).cells x y) (apart.cells x y)))

pub meets_apart : (sides : List SideWeight) (first second : Rect) (a b : List (List Strip)) → AreApart first second → HoldsAll first a → HoldsAll second b → meets sides a b ≡ 0
meets_apart sides first second a b apart in_a in_b =
    sum_zero (λ k. side_meets sides a b k) (range_with_len 0 (length sides)) (λ k. side_apart sides first second a b k apart in_a in_b)

-- ---- the steps of the code

-- the placements among both, of one side
pub area_meets : (a b : List (List Strip)) (k n : ℕ) (both p q : List Strip) → n ≡ count_cells (is_in both) → ((x y : ℤ) → is_in both x y ≡ (is_in p x y && is_in q x y))
    → p ≡ placements_at a k → q ≡ placements_at b k → n ≡ count_cells (λ x y. is_in (placements_at a k) x y && is_in (placements_at b k) x y)
area_meets a b k n both p q e cells ep eq =
    e ∙ count_cells_agree (is_in both) (λ x y. is_in (placements_at a k) x y && is_in (placements_at b k) x y)
    (λ x y. cells x y ∙ (λ i. is_in (ep i) x y && is_in (eq i) x y))

-- what one more side adds
pub record IsSideStep (sides : List SideWeight) (a b : List (List Strip)) (k total n : ℕ) : Type 0 where
  pub small : (side_at sides k).weight * n ≤ 30 * 2 ^ 51
  pub sum : total + (side_at sides k).weight * n ≡ first_meets (k + 1) sides a b

pub side_step : (sides : List SideWeight) (a b : List (List Strip)) (k total n : ℕ) → k < length sides → AreSides sides → AreNear a → total ≡ first_meets k sides a b
    → n ≡ count_cells (λ x y. is_in (placements_at a k) x y && is_in (placements_at b k) x y) → IsSideStep sides a b k total n
side_step sides a b k total n lt are near so_far e =
    let light = (side_of_all sides k lt are).light in
    let few = meets_small a b k near in
    record {
      small = mul-le (side_at sides k).weight n 30 (2 ^ 51) light (omega (arith, few, e));
      sum = (λ i. so_far i + (side_at sides k).weight * e i) ∙ sym (sum_more (λ j. side_meets sides a b j) k);
    }

pub step_at : (sides : List SideWeight) (a b : List (List Strip)) (k total n : ℕ) (both p q : List Strip) → k < length sides → AreSides sides → length a ≡ length sides → length b ≡ length sides → AreNear a
    → total ≡ first_meets k sides a b → p ≡ get_or a k p → q ≡ get_or b k q → ((x y : ℤ) → is_in both x y ≡ (is_in p x y && is_in q x y)) → n ≡ count_cells (is_in both)
    → IsSideStep sides a b k total n
step_at sides a b k total n both p q lt are each_a each_b near so_far ep eq cells e =
    side_step sides a b k total n lt are near so_far
    (area_meets a b k n both p q e cells (get_or_read a k p (omega (arith, each_a, lt)) ep []) (get_or_read b k q (omega (arith, each_b, lt)) eq []))

-- nets that lie apart on a wire
pub reaches_apart : (sides : List SideWeight) (inside_a inside_b a b : Reach) → inside_a ≡ a → inside_b ≡ b → AreApart inside_a.bounds inside_b.bounds → IsReach inside_a → IsReach inside_b
    → 0 ≡ meets sides a.placements b.placements
reaches_apart sides inside_a inside_b a b ea eb apart ra rb =
    sym (meets_apart sides inside_a.bounds inside_b.bounds inside_a.placements inside_b.placements apart ra.held rb.held) ∙ (λ i. meets sides (ea i).placements (eb i).placements)

-- nets that lie apart on every wire
pub nets_apart : (sides : List SideWeight) (inside_a inside_b a b : Reaches) (wire : ℕ) → inside_a ≡ a → inside_b ≡ b → AreApart inside_a.bounds inside_b.bounds → AreReaches inside_a → AreReaches inside_b
    → meets_on sides a b wire ≡ 0
nets_apart sides inside_a inside_b a b wire ea eb apart ra rb =
    (λ i. meets_on sides (sym ea i) (sym eb i) wire)
    ∙ meets_apart sides inside_a.bounds inside_b.bounds (reach_at inside_a.on wire).placements (reach_at inside_b.on wire).placements apart (ra.held wire) (rb.held wire)
