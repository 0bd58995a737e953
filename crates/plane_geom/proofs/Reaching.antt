-- The least rectangle round some points.
use Rattle.std.proofs.Common.{◌≡◌, ℕ, ◌+◌, ◌^◌, ◌<◌, ◌≤◌, List, length, take, get_or, subst, arith}
use Rattle.std.specs.Prelude.{ℤ, pos, ◌+ℤ◌, ◌-ℤ◌}
use Rattle.std.specs.Int.{int_min, int_max}
use Rattle.std.specs.List.{All}
use Rattle.std.proofs.lemmas.Int.{ints, clamps}
use Rattle.std.proofs.lemmas.List.{take_all}
use Rattle.std.proofs.lemmas.List.Elements.{All-more, All-weaker, All-get_or}
use Rattle.plane_geom.specs.declared.shapes.Point.{Point}
use Rattle.plane_geom.specs.declared.shapes.Rect.{Rect}
use Rattle.plane_geom.specs.Bounds.{IsWithin, IsPointWithin, IsRectWithin}
use Rattle.plane_geom.specs.Covering.{wire, IsRectIn, HoldsAround, IsReach, stretched_to}

-- the rectangle, with `half` to each side
abbrev pub thickened : ℤ → Rect → Rect
thickened half r = record { x0 = r.x0 -ℤ half; y0 = r.y0 -ℤ half; x1 = r.x1 +ℤ half; y1 = r.y1 +ℤ half }

-- The rectangle is the least one round the first so many points and one point of the list.
pub record IsHull (points : List Point) (k : ℕ) (r : Rect) : Type 0 where
  pub near : IsRectWithin (2 ^ 60) r
  pub holds : All (HoldsAround r (pos 0)) (take k points)
  pub least : (half : ℤ) (s : Rect) → All (HoldsAround s half) points → IsRectIn s (thickened half r)

pub rect_is : (p q : Rect) → p.x0 ≡ q.x0 → p.y0 ≡ q.y0 → p.x1 ≡ q.x1 → p.y1 ≡ q.y1 → p ≡ q
rect_is p q a b c d = λ i. record { x0 = a i; y0 = b i; x1 = c i; y1 = d i }

-- ---- the steps of the loop

min_within : (bound : ℕ) (a b : ℤ) → IsWithin bound a → IsWithin bound b → IsWithin bound (int_min a b)
min_within bound a b p q = record { low = omega (arith, ints, clamps, p.low, q.low); high = omega (arith, ints, clamps, p.high, q.high) }

max_within : (bound : ℕ) (a b : ℤ) → IsWithin bound a → IsWithin bound b → IsWithin bound (int_max a b)
max_within bound a b p q = record { low = omega (arith, ints, clamps, p.low, q.low); high = omega (arith, ints, clamps, p.high, q.high) }

pub still_holds : (r : Rect) (p q : Point) → HoldsAround r (pos 0) q → HoldsAround (stretched_to r p) (pos 0) q
still_holds r p q h =
    record {
      left = omega (arith, ints, clamps, h.left);
      below = omega (arith, ints, clamps, h.below);
      right = omega (arith, ints, clamps, h.right);
      above = omega (arith, ints, clamps, h.above);
    }

pub holds_it : (r : Rect) (p : Point) → HoldsAround (stretched_to r p) (pos 0) p
holds_it r p =
    record {
      left = omega (arith, ints, clamps);
      below = omega (arith, ints, clamps);
      right = omega (arith, ints, clamps);
      above = omega (arith, ints, clamps);
    }

pub stretched_in : (half : ℤ) (s r : Rect) (p : Point) → IsRectIn s (thickened half r) → HoldsAround s half p → IsRectIn s (thickened half (stretched_to r p))
stretched_in half s r p a h =
    record {
      left = omega (arith, ints, clamps, a.left, h.left);
      below = omega (arith, ints, clamps, a.below, h.below);
      right = omega (arith, ints, clamps, a.right, h.right);
      above = omega (arith, ints, clamps, a.above, h.above);
    }

pub hull_more : (points : List Point) (k : ℕ) (r : Rect) (d : Point) → k < length points → All (IsPointWithin (2 ^ 60)) points → IsHull points k r → IsHull points (k + 1) (stretched_to r (get_or points k d))
hull_more points k r d below near h =
    let p : Point = get_or points k d in
    let n : IsPointWithin (2 ^ 60) p = All-get_or (IsPointWithin (2 ^ 60)) points k d below near in
    let before = All-weaker (HoldsAround r (pos 0)) (HoldsAround (stretched_to r p) (pos 0)) (λ q. still_holds r p q) (take k points) h.holds in
    record {
      near = record {
        x0 = min_within (2 ^ 60) r.x0 p.x h.near.x0 n.x;
        y0 = min_within (2 ^ 60) r.y0 p.y h.near.y0 n.y;
        x1 = max_within (2 ^ 60) r.x1 p.x h.near.x1 n.x;
        y1 = max_within (2 ^ 60) r.y1 p.y h.near.y1 n.y;
      };
      holds = All-more (HoldsAround (stretched_to r p) (pos 0)) points k d below before (holds_it r p);
      least = λ half s all. stretched_in half s r p (h.least half s all) (All-get_or (HoldsAround s half) points k d below all);
    }

-- ---- the end

pub widened_holds : (half : ℤ) (r : Rect) (p : Point) → HoldsAround r (pos 0) p → HoldsAround (thickened half r) half p
widened_holds half r p h =
    record {
      left = omega (arith, ints, h.left);
      below = omega (arith, ints, h.below);
      right = omega (arith, ints, h.right);
      above = omega (arith, ints, h.above);
    }

hull_reach : (points : List Point) (k : ℕ) (half : ℤ) (r : Rect) → length points ≤ k → IsHull points k r → IsReach (wire half points) (thickened half r)
hull_reach points k half r all h =
    let P : List Point → Type 0 = All (HoldsAround r (pos 0)) in
    record {
      round = All-weaker (HoldsAround r (pos 0)) (HoldsAround (thickened half r) half) (λ p. widened_holds half r p) points (subst P (take_all k points all) h.holds);
      least = λ s held. h.least half s held;
    }

pub hull_reach_is : (points : List Point) (k : ℕ) (half : ℤ) (r made : Rect) → length points ≤ k → IsHull points k r → made ≡ thickened half r → IsReach (wire half points) made
hull_reach_is points k half r made all h e = rw e (hull_reach points k half r all h)
