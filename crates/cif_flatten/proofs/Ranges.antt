-- How far placed shapes and labels reach.
use Rattle.std.proofs.Common.{◌≡◌, ◌⊎◌, inl, inr, ℕ, add-one, get_or, ◌+◌, ◌-◌, ◌*◌, ◌^◌, ◌<◌, ◌≤◌, length, map, take, Bool, true, false, List, [], ◌∷◌, ◌++◌, refl, sym, ap, ◌∙◌, subst, arith}
use Rattle.std.specs.Prelude.{Option, Some, None, ℤ, pos, ◌+ℤ◌, ◌-ℤ◌, ◌≤ℤ◌, ◌↔◌, flat_map, min, nat_lt, IsTrue}
use Rattle.std.specs.List.{All}
use Rattle.std.specs.Int.{int_min, int_max}
use Rattle.std.proofs.Math.Seq.{take-suc}
use Rattle.std.proofs.lemmas.Int.{ints, clamps}
use Rattle.std.proofs.lemmas.Bool.Decides.{nat_tests}
use Rattle.std.proofs.lemmas.List.{take_all, map-append}
use Rattle.std.proofs.lemmas.List.Elements.{All-append, All-map, All-weaker, All-push, All-cons, All-head, All-tail, All-nil, Contains-push, Contains-append_left}
use Rattle.plane_geom.specs.declared.shapes.Point.{Point}
use Rattle.plane_geom.specs.declared.shapes.Rect.{Rect}
use Rattle.plane_geom.specs.declared.shapes.Shape.{Shape}
use Rattle.plane_geom.specs.declared.shapes.Shape.TheVariants.{Block}
use Rattle.plane_geom.specs.declared.places.Place.{Place}
use Rattle.plane_geom.specs.Bounds.{IsWithin, IsPointWithin}
use Rattle.plane_geom.specs.Covering.{Figure, IsWellFormed, block, polygon, wire, figure_of, moved_figure, rect_round, segments, edges_from, widened, IsFigureWithin}
use Rattle.plane_geom.specs.Placement.{moved, steps_of, placed, IsShiftWithin}
use Rattle.cif_grammar.specs.Words.{limit}
use Rattle.cif_reader.specs.declared.file.What.{What}
use Rattle.cif_reader.specs.declared.file.What.TheVariants.{Draw, Call, Mark}
use Rattle.cif_reader.specs.File.{IsKeptWhat, IsDrawn}
use Rattle.cif_flatten.specs.declared.unfolding.Command.{Command}
use Rattle.cif_flatten.specs.declared.flat.Draw.{Draw as Draw'}
use Rattle.cif_flatten.specs.Unfolding.{Placed}
use Rattle.cif_flatten.specs.Faults.{rect_corners, corners, most_fineness, count_distinct, fineness}
use Rattle.cif_flatten.specs.Unrolling.{placed_of, reach_by, IsIn, IsOutAt, IsLeastOut, lesser_of, IsPairIn, IsWideAt, IsWideIn, IsDrawable, corners_of}
use Rattle.cif_flatten.proofs.Cases.{min_case}

-- ---- what a file keeps, with room

near_within : (z : ℤ) → IsWithin limit z → IsWithin (2 ^ 60) z
unfolding limit
near_within z h = record { low = omega (arith, ints, h.low); high = omega (arith, ints, h.high) }

near_point : (p : Point) → IsPointWithin limit p → IsPointWithin (2 ^ 60) p
near_point p h = record { x = near_within p.x h.x; y = near_within p.y h.y }

near_figure : (f : Figure) → IsFigureWithin limit f → IsFigureWithin (2 ^ 60) f
near_figure (block r) h = record { x0 = near_within r.x0 h.x0; y0 = near_within r.y0 h.y0; x1 = near_within r.x1 h.x1; y1 = near_within r.y1 h.y1 }
near_figure (polygon points) h = All-weaker (IsPointWithin limit) (IsPointWithin (2 ^ 60)) near_point points h
near_figure (wire half path) h = (near_within half h.0, All-weaker (IsPointWithin limit) (IsPointWithin (2 ^ 60)) near_point path h.1)

pub drawable : (what : What) (layer : List ℕ) (shape : Shape) → what ≡ Draw layer shape → IsKeptWhat what → IsDrawable (figure_of shape)
drawable what layer shape is h = let k : IsDrawn shape = subst IsKeptWhat is h in record { formed = k.formed; within = near_figure (figure_of shape) k.within }

pub markable : (what : What) (name : List ℕ) (at : Point) (layer : Option (List ℕ)) → what ≡ Mark name at layer → IsKeptWhat what → IsPointWithin (2 ^ 60) at
markable what name at layer is h = near_point at (subst IsKeptWhat is h)

pub callable : (what : What) (number : ℕ) (place : Place) → what ≡ Call number place → IsKeptWhat what → IsShiftWithin limit place
callable what number place is h = subst IsKeptWhat is h

-- ---- points

pub in_range_near : (p q : Point) → q ≡ p → IsPointWithin (2 ^ 24) p → IsPointWithin (2 ^ 60) q
in_range_near p q is h = subst (IsPointWithin (2 ^ 60)) (sym is) (record {
  x = record { low = omega (arith, ints, h.x.low); high = omega (arith, ints, h.x.high) };
  y = record { low = omega (arith, ints, h.y.low); high = omega (arith, ints, h.y.high) };
})

pub wide_same : {A : Type 0} (h k : ℤ) (p q : Point) → h ≡ k → q ≡ p → A ↔ IsWideIn h q → A ↔ IsWideIn k p
wide_same h k p q e f w = (λ a. subst (λ z. IsWideIn k z) f (subst (λ z. IsWideIn z q) e (w.0 a)), λ v. w.1 (subst (λ z. IsWideIn h z) (sym f) (subst (λ z. IsWideIn z p) (sym e) v)))

pub wide_at : (h k z w : ℤ) → h ≡ k → z ≡ w → IsWideAt h z → IsWideAt k w
wide_at h k z w e f v = record { low = omega (arith, ints, e, f, v.low); high = omega (arith, ints, e, f, v.high) }

all_more : {X : Type 0} (P : X → Type 0) (xs : List X) (i : ℕ) (d : X) → i < length xs → All P (take i xs) → P (get_or xs i d) → All P (take (i + 1) xs)
all_more P xs i d inside h p = subst (All P) (sym (ap (λ n. take n xs) (add-one i) ∙ take-suc xs i d inside)) (All-push P (take i xs) (get_or xs i d) h p)

pub wide_more : (half : ℤ) (place : Place) (path : List Point) (i : ℕ) (d : Point) → i < length path → All (λ (p : Point). IsWideIn half (placed place p)) (take i path) → IsWideIn half (placed place (get_or path i d))
    → All (λ (p : Point). IsWideIn half (placed place p)) (take (i + 1) path)
wide_more half place path i d inside h w = all_more (λ (p : Point). IsWideIn half (placed place p)) path i d inside h w

pub wide_all : (h k : ℤ) (place : Place) (path : List Point) (i : ℕ) → length path ≤ i → h ≡ k → All (λ (p : Point). IsWideIn h (placed place p)) (take i path) → All (λ (p : Point). IsWideIn k (placed place p)) path
wide_all h k place path i whole e w = subst (λ z. All (λ (p : Point). IsWideIn z (placed place p)) path) e (subst (All (λ (p : Point). IsWideIn h (placed place p))) (take_all i path whole) w)

-- ---- shapes

iff : {A B C : Type 0} → A ↔ B → (B → C) → (C → B) → A ↔ C
iff h f g = (λ a. f (h.0 a), λ c. h.1 (g c))

two : (P : Point → Type 0) (p q : Point) → P p → P q → All P (p ∷ q ∷ [])
two P p q h k = All-cons P p (q ∷ []) h (All-cons P q [] k (All-nil P))

pub second : (P : Point → Type 0) (p q : Point) → All P (p ∷ q ∷ []) → P q
second P p q h = All-head P q [] (All-tail P p (q ∷ []) h)

pair_round : (p q : Point) → IsPairIn p q → All (IsPointWithin (2 ^ 24)) (rect_corners (rect_round p q))
pair_round p q h = two (IsPointWithin (2 ^ 24)) _ _
    (record {
      x = record { low = omega (arith, ints, clamps, h.first.x.low, h.second.x.low); high = omega (arith, ints, clamps, h.first.x.high, h.second.x.high) };
      y = record { low = omega (arith, ints, clamps, h.first.y.low, h.second.y.low); high = omega (arith, ints, clamps, h.first.y.high, h.second.y.high) };
    })
    (record {
      x = record { low = omega (arith, ints, clamps, h.first.x.low, h.second.x.low); high = omega (arith, ints, clamps, h.first.x.high, h.second.x.high) };
      y = record { low = omega (arith, ints, clamps, h.first.y.low, h.second.y.low); high = omega (arith, ints, clamps, h.first.y.high, h.second.y.high) };
    })

between : (a b : ℤ) → IsWithin (2 ^ 24) (int_min a b) → IsWithin (2 ^ 24) (int_max a b) → IsWithin (2 ^ 24) a
between a b h k = record { low = omega (arith, ints, clamps, h.low); high = omega (arith, ints, clamps, k.high) }

between_other : (a b : ℤ) → IsWithin (2 ^ 24) (int_min a b) → IsWithin (2 ^ 24) (int_max a b) → IsWithin (2 ^ 24) b
between_other a b h k = record { low = omega (arith, ints, clamps, h.low); high = omega (arith, ints, clamps, k.high) }

pub round_pair : (p q : Point) → All (IsPointWithin (2 ^ 24)) (rect_corners (rect_round p q)) → IsPairIn p q
round_pair p q h =
    let lowest : Point = record { x = int_min p.x q.x; y = int_min p.y q.y } in
    let highest : Point = record { x = int_max p.x q.x; y = int_max p.y q.y } in
    let low : IsPointWithin (2 ^ 24) lowest = All-head (IsPointWithin (2 ^ 24)) lowest (highest ∷ []) h in
    let high : IsPointWithin (2 ^ 24) highest = second (IsPointWithin (2 ^ 24)) lowest highest h in
    record {
      first = record { x = between p.x q.x low.x high.x; y = between p.y q.y low.y high.y };
      second = record { x = between_other p.x q.x low.x high.x; y = between_other p.y q.y low.y high.y };
    }

pub block_in : {A : Type 0} (shape : Shape) (place : Place) (r : Rect) → shape ≡ Block r → A ↔ IsPairIn (placed place (record { x = r.x0; y = r.y0 })) (placed place (record { x = r.x1; y = r.y1 }))
    → A ↔ All (IsPointWithin (2 ^ 24)) (corners (moved_figure (steps_of place) (figure_of shape)))
block_in {A} shape place r is h = subst (λ s. A ↔ All (IsPointWithin (2 ^ 24)) (corners (moved_figure (steps_of place) (figure_of s)))) (sym is) (iff h (pair_round _ _) (round_pair _ _))

thin_wide : (half z : ℤ) → half ≡ pos 0 → IsWideAt half z → IsWithin (2 ^ 24) z
thin_wide half z e h = record { low = omega (arith, ints, e, h.low); high = omega (arith, ints, e, h.high) }

wide_thin : (half z : ℤ) → half ≡ pos 0 → IsWithin (2 ^ 24) z → IsWideAt half z
wide_thin half z e h = record { low = omega (arith, ints, e, h.low); high = omega (arith, ints, e, h.high) }

from_wide : (half : ℤ) (place : Place) (path : List Point) → half ≡ pos 0 → All (λ (p : Point). IsWideIn half (placed place p)) path → All (λ (p : Point). IsPointWithin (2 ^ 24) (placed place p)) path
from_wide half place path e h = All-weaker (λ (p : Point). IsWideIn half (placed place p)) (λ (p : Point). IsPointWithin (2 ^ 24) (placed place p)) (λ p w. record { x = thin_wide half _ e w.x; y = thin_wide half _ e w.y }) path h

to_wide : (half : ℤ) (place : Place) (path : List Point) → half ≡ pos 0 → All (λ (p : Point). IsPointWithin (2 ^ 24) (placed place p)) path → All (λ (p : Point). IsWideIn half (placed place p)) path
to_wide half place path e h = All-weaker (λ (p : Point). IsPointWithin (2 ^ 24) (placed place p)) (λ (p : Point). IsWideIn half (placed place p)) (λ p w. record { x = wide_thin half _ e w.x; y = wide_thin half _ e w.y }) path h

-- all of a mapped list, and all of the list
pub unmapped : {X Y : Type 0} (P : Y → Type 0) (f : X → Y) (xs : List X) → All P (map f xs) → All (λ (x : X). P (f x)) xs
unmapped {X} P f [] h = All-nil (λ (x : X). P (f x))
unmapped {X} P f (x ∷ xs) h = All-cons (λ (x : X). P (f x)) x xs (All-head P (f x) (map f xs) h) (unmapped P f xs (All-tail P (f x) (map f xs) h))

pub polygon_in : {A : Type 0} (shape : Shape) (place : Place) (half : ℤ) (points : List Point) → figure_of shape ≡ polygon points → half ≡ pos 0 → A ↔ All (λ (p : Point). IsWideIn half (placed place p)) points
    → A ↔ All (IsPointWithin (2 ^ 24)) (corners (moved_figure (steps_of place) (figure_of shape)))
polygon_in {A} shape place half points is e h = subst (λ f. A ↔ All (IsPointWithin (2 ^ 24)) (corners (moved_figure (steps_of place) f))) (sym is)
    (iff h (λ w. All-map (IsPointWithin (2 ^ 24)) (placed place) points (from_wide half place points e w)) (λ w. to_wide half place points e (unmapped (IsPointWithin (2 ^ 24)) (placed place) points w)))

-- the corners of a widened segment, and its ends
low_in : (half z w : ℤ) → pos 0 ≤ℤ half → IsWideAt half z → IsWideAt half w → IsWithin (2 ^ 24) (int_min z w -ℤ half)
low_in half z w t a b = record { low = omega (arith, ints, clamps, a.low, b.low); high = omega (arith, ints, clamps, t, a.high, b.high) }

high_in : (half z w : ℤ) → pos 0 ≤ℤ half → IsWideAt half z → IsWideAt half w → IsWithin (2 ^ 24) (int_max z w +ℤ half)
high_in half z w t a b = record { low = omega (arith, ints, clamps, t, a.low, b.low); high = omega (arith, ints, clamps, a.high, b.high) }

segment_in : (half : ℤ) (p q : Point) → pos 0 ≤ℤ half → IsWideIn half p → IsWideIn half q → All (IsPointWithin (2 ^ 24)) (rect_corners (widened half (p, q)))
segment_in half p q t h k = two (IsPointWithin (2 ^ 24)) _ _
    (record { x = low_in half p.x q.x t h.x k.x; y = low_in half p.y q.y t h.y k.y })
    (record { x = high_in half p.x q.x t h.x k.x; y = high_in half p.y q.y t h.y k.y })

first_out : (half z w : ℤ) → IsWithin (2 ^ 24) (int_min z w -ℤ half) → IsWithin (2 ^ 24) (int_max z w +ℤ half) → IsWideAt half z
first_out half z w a b = record { low = omega (arith, ints, clamps, a.low); high = omega (arith, ints, clamps, b.high) }

second_out : (half z w : ℤ) → IsWithin (2 ^ 24) (int_min z w -ℤ half) → IsWithin (2 ^ 24) (int_max z w +ℤ half) → IsWideAt half w
second_out half z w a b = record { low = omega (arith, ints, clamps, a.low); high = omega (arith, ints, clamps, b.high) }

record Ends (half : ℤ) (p q : Point) : Type 0 where
  first : IsWideIn half p
  other : IsWideIn half q

segment_out : (half : ℤ) (p q : Point) → All (IsPointWithin (2 ^ 24)) (rect_corners (widened half (p, q))) → Ends half p q
segment_out half p q h =
    let lowest : Point = record { x = int_min p.x q.x -ℤ half; y = int_min p.y q.y -ℤ half } in
    let highest : Point = record { x = int_max p.x q.x +ℤ half; y = int_max p.y q.y +ℤ half } in
    let low : IsPointWithin (2 ^ 24) lowest = All-head (IsPointWithin (2 ^ 24)) lowest (highest ∷ []) h in
    let high : IsPointWithin (2 ^ 24) highest = second (IsPointWithin (2 ^ 24)) lowest highest h in
    record {
      first = record { x = first_out half p.x q.x low.x high.x; y = first_out half p.y q.y low.y high.y };
      other = record { x = second_out half p.x q.x low.x high.x; y = second_out half p.y q.y low.y high.y };
    }

pub all_front : {X : Type 0} (P : X → Type 0) (xs ys : List X) → All P (xs ++ ys) → All P xs
all_front P [] ys h = All-nil P
all_front P (x ∷ xs) ys h = All-cons P x xs (All-head P x (xs ++ ys) h) (all_front P xs ys (All-tail P x (xs ++ ys) h))

pub all_back : {X : Type 0} (P : X → Type 0) (xs ys : List X) → All P (xs ++ ys) → All P ys
all_back P [] ys h = h
all_back P (x ∷ xs) ys h = all_back P xs ys (All-tail P x (xs ++ ys) h)

abbrev pub widened_corners : ℤ → Point × Point → List Point
widened_corners half s = rect_corners (widened half s)

edges_in : (half : ℤ) (p : Point) (qs : List Point) → pos 0 ≤ℤ half → IsWideIn half p → All (IsWideIn half) qs → All (IsPointWithin (2 ^ 24)) (flat_map (widened_corners half) (edges_from p qs))
edges_in half p [] t h k = All-nil (IsPointWithin (2 ^ 24))
edges_in half p (q ∷ qs) t h k =
    let w : IsWideIn half q = All-head (IsWideIn half) q qs k in
    All-append (IsPointWithin (2 ^ 24)) (widened_corners half (p, q)) (flat_map (widened_corners half) (edges_from q qs)) (segment_in half p q t h w) (edges_in half q qs t w (All-tail (IsWideIn half) q qs k))

path_in : (half : ℤ) (path : List Point) → pos 0 ≤ℤ half → All (IsWideIn half) path → All (IsPointWithin (2 ^ 24)) (flat_map (widened_corners half) (segments path))
path_in half [] t h = All-nil (IsPointWithin (2 ^ 24))
path_in half (p ∷ []) t h = let w : IsWideIn half p = All-head (IsWideIn half) p [] h in edges_in half p (p ∷ []) t w (All-cons (IsWideIn half) p [] w (All-nil (IsWideIn half)))
path_in half (p ∷ q ∷ qs) t h = edges_in half p (q ∷ qs) t (All-head (IsWideIn half) p (q ∷ qs) h) (All-tail (IsWideIn half) p (q ∷ qs) h)

edges_out : (half : ℤ) (p q : Point) (qs : List Point) → All (IsPointWithin (2 ^ 24)) (flat_map (widened_corners half) (edges_from p (q ∷ qs))) → All (IsWideIn half) (p ∷ q ∷ qs)
edges_out half p q [] h =
    let e : Ends half p q = segment_out half p q (all_front (IsPointWithin (2 ^ 24)) (widened_corners half (p, q)) [] h) in
    All-cons (IsWideIn half) p (q ∷ []) e.first (All-cons (IsWideIn half) q [] e.other (All-nil (IsWideIn half)))
edges_out half p q (r ∷ rs) h =
    let e : Ends half p q = segment_out half p q (all_front (IsPointWithin (2 ^ 24)) (widened_corners half (p, q)) (flat_map (widened_corners half) (edges_from q (r ∷ rs))) h) in
    All-cons (IsWideIn half) p (q ∷ r ∷ rs) e.first (edges_out half q r rs (all_back (IsPointWithin (2 ^ 24)) (widened_corners half (p, q)) (flat_map (widened_corners half) (edges_from q (r ∷ rs))) h))

pub path_out : (half : ℤ) (path : List Point) → All (IsPointWithin (2 ^ 24)) (flat_map (widened_corners half) (segments path)) → All (IsWideIn half) path
path_out half [] h = All-nil (IsWideIn half)
path_out half (p ∷ []) h = All-cons (IsWideIn half) p [] (All-head (IsWideIn half) p (p ∷ []) (edges_out half p p [] h)) (All-nil (IsWideIn half))
path_out half (p ∷ q ∷ qs) h = edges_out half p q qs h

mapped : (half : ℤ) (f : Point → Point) (path : List Point) → All (λ (p : Point). IsWideIn half (f p)) path → All (IsWideIn half) (map f path)
mapped half f path h = All-map (IsWideIn half) f path h

unmapped_wide : (half : ℤ) (f : Point → Point) (path : List Point) → All (IsWideIn half) (map f path) → All (λ (p : Point). IsWideIn half (f p)) path
unmapped_wide half f path h = unmapped (IsWideIn half) f path h

pub wire_in : {A : Type 0} (shape : Shape) (place : Place) (half given : ℤ) (path : List Point) → figure_of shape ≡ wire half path → pos 0 ≤ℤ half → given ≡ half → A ↔ All (λ (p : Point). IsWideIn given (placed place p)) path
    → A ↔ All (IsPointWithin (2 ^ 24)) (corners (moved_figure (steps_of place) (figure_of shape)))
wire_in {A} shape place half given path is t e h = subst (λ f. A ↔ All (IsPointWithin (2 ^ 24)) (corners (moved_figure (steps_of place) f))) (sym is)
    (iff (subst (λ z. A ↔ All (λ (p : Point). IsWideIn z (placed place p)) path) e h)
    (λ w. path_in half (map (placed place) path) t (mapped half (placed place) path w)) (λ w. unmapped_wide half (placed place) path (path_out half (map (placed place) path) w)))

pub narrow : (half z : ℤ) → pos 0 ≤ℤ half → IsWideAt half z → IsWithin (2 ^ 24) z
narrow half z t h = record { low = omega (arith, ints, t, h.low); high = omega (arith, ints, t, h.high) }

-- The points of a wire that lies in the range do so too.
pub wire_points : (half : ℤ) (place : Place) (path : List Point) → pos 0 ≤ℤ half → All (IsPointWithin (2 ^ 24)) (corners (moved_figure (steps_of place) (wire half path))) → All (λ (p : Point). IsPointWithin (2 ^ 24) (placed place p)) path
wire_points half place path t h = All-weaker (λ (p : Point). IsWideIn half (placed place p)) (λ (p : Point). IsPointWithin (2 ^ 24) (placed place p))
    (λ p w. record { x = narrow half _ t w.x; y = narrow half _ t w.y }) path (unmapped_wide half (placed place) path (path_out half (map (placed place) path) h))

-- ---- commands

pub draw_in : {A : Type 0} (c : Placed) (layer : List ℕ) (shape : Shape) → c.item.what ≡ Draw layer shape → A ↔ All (IsPointWithin (2 ^ 24)) (corners (moved_figure c.steps (figure_of shape))) → A ↔ IsIn c
draw_in c layer shape is h = iff h (λ w. record { all = subst (λ what. All (IsPointWithin (2 ^ 24)) (reach_by c.steps what)) (sym is) w }) (λ w. subst (λ what. All (IsPointWithin (2 ^ 24)) (reach_by c.steps what)) is w.all)

pub mark_in : {A : Type 0} (c : Placed) (name : List ℕ) (at : Point) (layer : Option (List ℕ)) → c.item.what ≡ Mark name at layer → A ↔ IsPointWithin (2 ^ 24) (moved c.steps at) → A ↔ IsIn c
mark_in c name at layer is h = iff h
    (λ w. record { all = subst (λ what. All (IsPointWithin (2 ^ 24)) (reach_by c.steps what)) (sym is) (All-cons (IsPointWithin (2 ^ 24)) (moved c.steps at) [] w (All-nil (IsPointWithin (2 ^ 24)))) })
    (λ w. All-head (IsPointWithin (2 ^ 24)) (moved c.steps at) [] (subst (λ what. All (IsPointWithin (2 ^ 24)) (reach_by c.steps what)) is w.all))

-- ---- the least that reaches out

abbrev Later : ℕ → Placed → Type 0
Later place c = (IsIn c → ⊥) → place ≤ c.item.pos

out_none : (done : List Placed) (c : Placed) (place : ℕ) → All IsIn done → place ≡ c.item.pos → (IsIn c → ⊥) → IsOutAt (done ++ c ∷ []) place
out_none done c place h e out = record {
  command = c;
  one = Contains-push done c;
  at = sym e;
  out = out;
  least = All-push (Later place) done c (All-weaker IsIn (Later place) (λ d w k. absurd (k w)) done h) (λ k. omega (arith, e));
}

out_at : (done : List Placed) (c : Placed) (old place : ℕ) → IsOutAt done old → (IsIn c → ⊥) → place ≡ min old c.item.pos → (place ≡ old) ⊎ (place ≡ c.item.pos) → IsOutAt (done ++ c ∷ []) place
out_at done c old place h out e (inl same) = record {
  command = h.command;
  one = Contains-append_left done (c ∷ []) h.command h.one;
  at = h.at ∙ sym same;
  out = h.out;
  least = All-push (Later place) done c (All-weaker (Later old) (Later place) (λ d w k. omega (arith, e, w k)) done h.least) (λ k. omega (arith, e));
}
out_at done c old place h out e (inr same) = record {
  command = c;
  one = Contains-push done c;
  at = sym same;
  out = out;
  least = All-push (Later place) done c (All-weaker (Later old) (Later place) (λ d w k. omega (arith, e, w k)) done h.least) (λ k. omega (arith, e));
}

out_case : (done : List Placed) (c : Placed) (least : Option ℕ) (place : ℕ) → IsLeastOut done least → (IsIn c → ⊥) → place ≡ lesser_of least c.item.pos → IsOutAt (done ++ c ∷ []) place
out_case done c None place h out e = out_none done c place h e out
out_case done c (Some old) place h out e = out_at done c old place h out e (min_case old c.item.pos place e)

same_case : (done : List Placed) (c : Placed) (least : Option ℕ) → IsLeastOut done least → IsIn c → IsLeastOut (done ++ c ∷ []) least
same_case done c None h w = All-push IsIn done c h w
same_case done c (Some old) h w = record { command = h.command; one = Contains-append_left done (c ∷ []) h.command h.one; at = h.at; out = h.out; least = All-push (Later old) done c h.least (λ k. absurd (k w)) }

map_more : (commands : List Command) (i : ℕ) (d : Command) → i < length commands → map placed_of (take (i + 1) commands) ≡ map placed_of (take i commands) ++ placed_of (get_or commands i d) ∷ []
map_more commands i d inside = ap (λ n. map placed_of (take n commands)) (add-one i) ∙ ap (map placed_of) (take-suc commands i d inside) ∙ map-append placed_of (take i commands) (get_or commands i d ∷ [])

pub out_more : (commands : List Command) (i : ℕ) (x : Command) (least : Option ℕ) (place : ℕ) → i < length commands → x ≡ get_or commands i x → IsLeastOut (map placed_of (take i commands)) least → (IsIn (placed_of x) → ⊥)
    → place ≡ lesser_of least x.item.now.pos → IsLeastOut (map placed_of (take (i + 1) commands)) (Some place)
out_more commands i x least place inside is h out e =
    subst (λ cs. IsOutAt cs place) (ap (λ (y : Command). map placed_of (take i commands) ++ placed_of y ∷ []) is ∙ sym (map_more commands i x inside)) (out_case (map placed_of (take i commands)) (placed_of x) least place h out e)

pub same_more : (commands : List Command) (i : ℕ) (x : Command) (least : Option ℕ) → i < length commands → x ≡ get_or commands i x → IsLeastOut (map placed_of (take i commands)) least → IsIn (placed_of x) → IsLeastOut (map placed_of (take (i + 1) commands)) least
same_more commands i x least inside is h w =
    subst (λ cs. IsLeastOut cs least) (ap (λ (y : Command). map placed_of (take i commands) ++ placed_of y ∷ []) is ∙ sym (map_more commands i x inside)) (same_case (map placed_of (take i commands)) (placed_of x) least h w)

pub out_all : (commands : List Command) (i : ℕ) (least : Option ℕ) → length commands ≤ i → IsLeastOut (map placed_of (take i commands)) least → IsLeastOut (map placed_of commands) least
out_all commands i least whole h = subst (λ cs. IsLeastOut (map placed_of cs) least) (take_all i commands whole) h

-- ---- too fine

pub fine_is : (x y r : ℕ) → r ≡ min (x * y) (2 ^ 64 - 1) → IsTrue (nat_lt 4194304 r) ↔ (most_fineness < x * y)
unfolding most_fineness
fine_is x y r e = (λ h. grind (arith, nat_tests, h, e), λ h. grind (arith, nat_tests, h, e))

pub too_fine : (x y r : ℕ) (xs ys : List ℤ) (shown other points : List Point) (draws : List Draw') → x ≡ count_distinct xs → xs ≡ map (λ (p : Point). p.x) shown → shown ≡ points → y ≡ count_distinct ys → ys ≡ map (λ (p : Point). p.y) other → other ≡ points
    → points ≡ corners_of draws → r ≡ min (x * y) (2 ^ 64 - 1) → IsTrue (nat_lt 4194304 r) ↔ (most_fineness < fineness (corners_of draws))
too_fine x y r xs ys shown other points draws a b c d e f all is =
    let on_x : x ≡ count_distinct (map (λ (p : Point). p.x) (corners_of draws)) = a ∙ ap count_distinct (b ∙ ap (map (λ (p : Point). p.x)) (c ∙ all)) in
    let on_y : y ≡ count_distinct (map (λ (p : Point). p.y) (corners_of draws)) = d ∙ ap count_distinct (e ∙ ap (map (λ (p : Point). p.y)) (f ∙ all)) in
    subst (λ n. IsTrue (nat_lt 4194304 r) ↔ (most_fineness < n)) (λ i. on_x i * on_y i) (fine_is x y r is)

pub yes_case : (b : Bool) → (b ≡ false → ⊥) → b ≡ true
yes_case true h = refl
yes_case false h = absurd (h refl)

pub some_iff : {C : Type 0} (r b : Bool) → r ≡ b → (b ≡ true) ↔ C → (r ≡ true) ↔ C
some_iff r b e h = (λ a. h.0 (sym e ∙ a), λ c. e ∙ h.1 c)

pub at_item : (P : Command → Type 0) (commands : List Command) (i : ℕ) (x : Command) → i < length commands → x ≡ get_or commands i x → All P commands → P x
at_item P commands i x inside is h = subst P (sym is) (h i x inside)

pub thick_of : (f : Figure) (half : ℤ) (path : List Point) → f ≡ wire half path → IsDrawable f → pos 0 ≤ℤ half
thick_of f half path is h = (subst IsWellFormed is h.formed).thick

pub block_ends : (shape : Shape) (place : Place) (r : Rect) → shape ≡ Block r → All (IsPointWithin (2 ^ 24)) (corners (moved_figure (steps_of place) (figure_of shape))) → IsPairIn (placed place (record { x = r.x0; y = r.y0 })) (placed place (record { x = r.x1; y = r.y1 }))
block_ends shape place r is h = round_pair _ _ (subst (λ s. All (IsPointWithin (2 ^ 24)) (corners (moved_figure (steps_of place) (figure_of s)))) is h)

pub polygon_points : (f : Figure) (place : Place) (points : List Point) → f ≡ polygon points → All (IsPointWithin (2 ^ 24)) (corners (moved_figure (steps_of place) f)) → All (λ (p : Point). IsPointWithin (2 ^ 24) (placed place p)) points
polygon_points f place points is h = unmapped (IsPointWithin (2 ^ 24)) (placed place) points (subst (λ g. All (IsPointWithin (2 ^ 24)) (corners (moved_figure (steps_of place) g))) is h)

pub wire_points_of : (f : Figure) (place : Place) (half : ℤ) (path : List Point) → f ≡ wire half path → IsDrawable f → All (IsPointWithin (2 ^ 24)) (corners (moved_figure (steps_of place) f)) → All (λ (p : Point). IsPointWithin (2 ^ 24) (placed place p)) path
wire_points_of f place half path is d h = wire_points half place path (thick_of f half path is d) (subst (λ g. All (IsPointWithin (2 ^ 24)) (corners (moved_figure (steps_of place) g))) is h)

pub draw_within : (c : Placed) (layer : List ℕ) (shape : Shape) → c.item.what ≡ Draw layer shape → IsIn c → All (IsPointWithin (2 ^ 24)) (corners (moved_figure c.steps (figure_of shape)))
draw_within c layer shape is w = subst (λ what. All (IsPointWithin (2 ^ 24)) (reach_by c.steps what)) is w.all

pub mark_within : (c : Placed) (name : List ℕ) (at : Point) (layer : Option (List ℕ)) → c.item.what ≡ Mark name at layer → IsIn c → IsPointWithin (2 ^ 24) (moved c.steps at)
mark_within c name at layer is w = All-head (IsPointWithin (2 ^ 24)) (moved c.steps at) [] (subst (λ what. All (IsPointWithin (2 ^ 24)) (reach_by c.steps what)) is w.all)

pub pushed : {X : Type 0} (P : X → Type 0) (old now : List X) (x : X) → now ≡ old ++ x ∷ [] → P x → All P old → All P now
pushed P old now x is p h = subst (All P) (sym is) (All-push P old x h p)
