-- Every well-formed shape has a reach, and so what is cut from it is within the reach's bound.
use Rattle.std.proofs.Common.{ℕ, zero, suc, ◌^◌, ◌<◌, ◌≤◌, List, [], ◌∷◌, length, get_or, refl, add-one, arith}
use Rattle.std.specs.Prelude.{ℤ, pos, slice_index_or}
use Rattle.std.specs.List.{All}
use Rattle.std.proofs.lemmas.Int.{ints}
use Rattle.std.proofs.lemmas.List.Elements.{All-nil, All-head, All-weaker}
use Rattle.plane_geom.specs.declared.shapes.Point.{Point}
use Rattle.plane_geom.specs.declared.shapes.Rect.{Rect}
use Rattle.plane_geom.specs.Bounds.{IsPointWithin, IsRectWithin}
use Rattle.plane_geom.specs.Covering.{Figure, block, polygon, wire, IsRect, IsRectIn, HoldsAround, IsReach, IsWellFormed, stretched_to}
use Rattle.plane_geom.proofs.Reaching.{thickened, IsHull, hull_more, hull_reach_is}
use Rattle.shape_cut.proofs.Hulls.{wire_near, polygon_near}

record Hull (points : List Point) (k : ℕ) : Type 0 where
  rect : Rect
  hull : IsHull points k rect

-- The shape has a reach.
pub record Reach (figure : Figure) : Type 0 where
  pub rect : Rect
  pub is : IsReach figure rect

hull_to : (p : Point) (ps : List Point) → All (IsPointWithin (2 ^ 60)) (p ∷ ps) → (k : ℕ) → k ≤ length (p ∷ ps) → Hull (p ∷ ps) k
hull_to p ps near zero le =
    let r : Rect = record { x0 = p.x; y0 = p.y; x1 = p.x; y1 = p.y } in
    let n = All-head (IsPointWithin (2 ^ 60)) p ps near in
    record {
      rect = r;
      hull = record {
        near = record { x0 = n.x; y0 = n.y; x1 = n.x; y1 = n.y };
        holds = All-nil (HoldsAround r (pos 0));
        least = λ half s all. let here = All-head (HoldsAround s half) p ps all in record { left = here.left; below = here.below; right = here.right; above = here.above };
      };
    }
hull_to p ps near (suc k) le =
    let before = hull_to p ps near k (omega (arith, le)) in
    record {
      rect = stretched_to before.rect (get_or (p ∷ ps) k p);
      hull = rw (add-one k) at (hull_more (p ∷ ps) k before.rect p (omega (arith, le)) near before.hull);
    }

point_weaker : (p : Point) → IsPointWithin (2 ^ 24) p → IsPointWithin (2 ^ 60) p
point_weaker p h =
    record {
      x = record { low = omega (arith, ints, h.x.low); high = omega (arith, ints, h.x.high) };
      y = record { low = omega (arith, ints, h.y.low); high = omega (arith, ints, h.y.high) };
    }

path_reach : (half : ℤ) (path : List Point) → 0 < length path → All (IsPointWithin (2 ^ 24)) path → Reach (wire half path)
path_reach half [] some near = absurd (omega arith)
path_reach half (p ∷ ps) some near =
    let far = All-weaker (IsPointWithin (2 ^ 24)) (IsPointWithin (2 ^ 60)) point_weaker (p ∷ ps) near in
    let h = hull_to p ps far (length (p ∷ ps)) (omega arith) in
    record { rect = thickened half h.rect; is = hull_reach_is (p ∷ ps) (length (p ∷ ps)) half h.rect (thickened half h.rect) (omega arith) h.hull refl }

-- A well-formed shape within the bound has a reach.
pub has_reach : (figure : Figure) → IsWellFormed figure → ((r : Rect) → IsReach figure r → IsRectWithin (2 ^ 24) r) → Reach figure
has_reach (block r) formed within =
    record {
      rect = r;
      is = record {
        round = record { left = omega (arith, ints); below = omega (arith, ints); right = omega (arith, ints); above = omega (arith, ints) };
        least = λ s h. h;
      };
    }
has_reach (polygon points) formed within =
    let h = path_reach (pos 0) points formed.some (polygon_near points formed.some within) in
    record { rect = h.rect; is = record { round = h.is.round; least = h.is.least } }
has_reach (wire half path) formed within = path_reach half path formed.some (wire_near half path formed.some formed.thick within)

rect_near : (r s : Rect) → IsRectWithin (2 ^ 24) r → IsRect s → IsRectIn r s → IsRectWithin (2 ^ 24) s
rect_near r s near formed inside =
    record {
      x0 = record { low = omega (arith, ints, near.x0.low, inside.left); high = omega (arith, ints, near.x1.high, inside.right, formed.across) };
      y0 = record { low = omega (arith, ints, near.y0.low, inside.below); high = omega (arith, ints, near.y1.high, inside.above, formed.up) };
      x1 = record { low = omega (arith, ints, near.x0.low, inside.left, formed.across); high = omega (arith, ints, near.x1.high, inside.right) };
      y1 = record { low = omega (arith, ints, near.y0.low, inside.below, formed.up); high = omega (arith, ints, near.y1.high, inside.above) };
    }

pub cut_near : (figure : Figure) (rects : List Rect) → IsWellFormed figure → ((r : Rect) → IsReach figure r → IsRectWithin (2 ^ 24) r) → All IsRect rects → ((r : Rect) → IsReach figure r → All (IsRectIn r) rects)
    → All (IsRectWithin (2 ^ 24)) rects
cut_near figure rects formed within each inside =
    let reach = has_reach figure formed within in
    λ k d lt. rect_near reach.rect (slice_index_or rects k d) (within reach.rect reach.is) (each k d lt) (inside reach.rect reach.is k d lt)
