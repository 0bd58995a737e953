-- How far coordinates lie from 0.
use Rattle.std.specs.Prelude.{ℕ, ℤ, pos, neg_ℤ, ◌≤ℤ◌}
use Rattle.plane_geom.specs.declared.shapes.Point.{Point}
use Rattle.plane_geom.specs.declared.shapes.Rect.{Rect}

-- The number is at most so far from 0.
pub record IsWithin (bound : ℕ) (z : ℤ) : Type 0 where
  pub low : neg_ℤ (pos bound) ≤ℤ z
  pub high : z ≤ℤ pos bound

pub record IsPointWithin (bound : ℕ) (p : Point) : Type 0 where
  pub x : IsWithin bound p.x
  pub y : IsWithin bound p.y

pub record IsRectWithin (bound : ℕ) (r : Rect) : Type 0 where
  pub x0 : IsWithin bound r.x0
  pub y0 : IsWithin bound r.y0
  pub x1 : IsWithin bound r.x1
  pub y1 : IsWithin bound r.y1
