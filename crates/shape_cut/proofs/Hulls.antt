-- Every shape with a point has a reach, and so its points are within the reach's bound.
use Rattle.std.proofs.Common.{ℕ, ◌<◌, ◌^◌, List, [], ◌∷◌, length, arith}
use Rattle.std.specs.Prelude.{ℤ, pos, ◌≤ℤ◌}
use Rattle.std.specs.List.{All}
use Rattle.std.proofs.lemmas.Int.{ints}
use Rattle.std.proofs.lemmas.List.Elements.{All-nil, All-cons, All-head, All-tail, All-weaker}
use Rattle.plane_geom.specs.declared.shapes.Point.{Point}
use Rattle.plane_geom.specs.declared.shapes.Rect.{Rect}
use Rattle.plane_geom.specs.Bounds.{IsPointWithin, IsRectWithin}
use Rattle.plane_geom.specs.Covering.{Figure, polygon, wire, IsRectIn, HoldsAround, IsReach, stretched_to}
use Rattle.plane_geom.proofs.Reaching.{thickened, still_holds, holds_it, stretched_in, widened_holds}

-- the least rectangle round points
hull : Point → List Point → Rect
hull p [] = record { x0 = p.x; y0 = p.y; x1 = p.x; y1 = p.y }
hull p (q ∷ qs) = stretched_to (hull q qs) p

hull_holds : (p : Point) (ps : List Point) → All (HoldsAround (hull p ps) (pos 0)) (p ∷ ps)
unfolding hull
hull_holds p [] =
    let r : Rect = record { x0 = p.x; y0 = p.y; x1 = p.x; y1 = p.y } in
    All-cons (HoldsAround r (pos 0)) p [] (record { left = omega (arith, ints); below = omega (arith, ints); right = omega (arith, ints); above = omega (arith, ints) }) (All-nil (HoldsAround r (pos 0)))
hull_holds p (q ∷ qs) =
    let r : Rect = stretched_to (hull q qs) p in
    All-cons (HoldsAround r (pos 0)) p (q ∷ qs) (holds_it (hull q qs) p)
    (All-weaker (HoldsAround (hull q qs) (pos 0)) (HoldsAround r (pos 0)) (λ a h. still_holds (hull q qs) p a h) (q ∷ qs) (hull_holds q qs))

hull_least : (half : ℤ) (s : Rect) (p : Point) (ps : List Point) → All (HoldsAround s half) (p ∷ ps) → IsRectIn s (thickened half (hull p ps))
unfolding hull
hull_least half s p [] h =
    let here = All-head (HoldsAround s half) p [] h in
    record { left = here.left; below = here.below; right = here.right; above = here.above }
hull_least half s p (q ∷ qs) h =
    stretched_in half s (hull q qs) p (hull_least half s q qs (All-tail (HoldsAround s half) p (q ∷ qs) h)) (All-head (HoldsAround s half) p (q ∷ qs) h)

wire_reach : (half : ℤ) (p : Point) (ps : List Point) → IsReach (wire half (p ∷ ps)) (thickened half (hull p ps))
wire_reach half p ps =
    record {
      round = All-weaker (HoldsAround (hull p ps) (pos 0)) (HoldsAround (thickened half (hull p ps)) half) (λ q. widened_holds half (hull p ps) q) (p ∷ ps) (hull_holds p ps);
      least = λ s h. hull_least half s p ps h;
    }

polygon_reach : (p : Point) (ps : List Point) → IsReach (polygon (p ∷ ps)) (thickened (pos 0) (hull p ps))
polygon_reach p ps = let r = wire_reach (pos 0) p ps in record { round = r.round; least = r.least }

-- ---- bounds of the points

point_near : (half : ℤ) (r : Rect) (p : Point) → pos 0 ≤ℤ half → IsRectWithin (2 ^ 24) r → HoldsAround r half p → IsPointWithin (2 ^ 24) p
point_near half r p thick near h =
    record {
      x = record { low = omega (arith, ints, near.x0.low, h.left); high = omega (arith, ints, near.x1.high, h.right) };
      y = record { low = omega (arith, ints, near.y0.low, h.below); high = omega (arith, ints, near.y1.high, h.above) };
    }

pub wire_near : (half : ℤ) (path : List Point) → 0 < length path → pos 0 ≤ℤ half → ((r : Rect) → IsReach (wire half path) r → IsRectWithin (2 ^ 24) r) → All (IsPointWithin (2 ^ 24)) path
wire_near half [] some thick within = absurd (omega arith)
wire_near half (p ∷ ps) some thick within =
    let r = thickened half (hull p ps) in
    let reach = wire_reach half p ps in
    All-weaker (HoldsAround r half) (IsPointWithin (2 ^ 24)) (λ q h. point_near half r q thick (within r reach) h) (p ∷ ps) reach.round

half_near : (half : ℤ) (r : Rect) (p : Point) → IsRectWithin (2 ^ 24) r → HoldsAround r half p → half ≤ℤ pos (2 ^ 24)
half_near half r p near h = omega (arith, ints, near.x0.low, near.x1.high, h.left, h.right)

pub wire_thin : (half : ℤ) (path : List Point) → 0 < length path → ((r : Rect) → IsReach (wire half path) r → IsRectWithin (2 ^ 24) r) → half ≤ℤ pos (2 ^ 24)
wire_thin half [] some within = absurd (omega arith)
wire_thin half (p ∷ ps) some within =
    let r = thickened half (hull p ps) in
    let reach = wire_reach half p ps in
    half_near half r p (within r reach) (All-head (HoldsAround r half) p ps reach.round)

pub polygon_near : (points : List Point) → 0 < length points → ((r : Rect) → IsReach (polygon points) r → IsRectWithin (2 ^ 24) r) → All (IsPointWithin (2 ^ 24)) points
polygon_near [] some within = absurd (omega arith)
polygon_near (p ∷ ps) some within =
    let r = thickened (pos 0) (hull p ps) in
    let reach = polygon_reach p ps in
    All-weaker (HoldsAround r (pos 0)) (IsPointWithin (2 ^ 24)) (λ q h. point_near (pos 0) r q (omega (arith, ints)) (within r reach) h) (p ∷ ps) reach.round

-- ---- there is one reach

pub reach_near : (bound : ℕ) (figure : Figure) (r s : Rect) → IsReach figure r → IsRectWithin bound r → IsReach figure s → IsRectWithin bound s
reach_near bound figure r s a near b =
    let out : IsRectIn r s = b.least r a.round in
    let into : IsRectIn s r = a.least s b.round in
    record {
      x0 = record { low = omega (arith, ints, near.x0.low, out.left, into.left); high = omega (arith, ints, near.x0.high, out.left, into.left) };
      y0 = record { low = omega (arith, ints, near.y0.low, out.below, into.below); high = omega (arith, ints, near.y0.high, out.below, into.below) };
      x1 = record { low = omega (arith, ints, near.x1.low, out.right, into.right); high = omega (arith, ints, near.x1.high, out.right, into.right) };
      y1 = record { low = omega (arith, ints, near.y1.low, out.above, into.above); high = omega (arith, ints, near.y1.high, out.above, into.above) };
    }
