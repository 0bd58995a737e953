-- What is left of a layout when its calls are unfolded.
use Rattle.std.specs.Prelude.{ℕ, List}
use Rattle.std.specs.List.{All}
use Rattle.plane_geom.specs.declared.shapes.Rect.{Rect}
use Rattle.plane_geom.specs.declared.shapes.Shape.{Shape}
use Rattle.plane_geom.specs.Bounds.{IsPointWithin, IsRectWithin}
use Rattle.plane_geom.specs.Covering.{figure_of, IsWellFormed, IsReach}
use Rattle.cif_flatten.specs.declared.flat.Draw.{Draw}
use Rattle.cif_flatten.specs.declared.flat.Mark.{Mark}

-- the placed shapes and the placed labels, in the order in which they are unfolded
pub record Lists : Type 0 where
  pub draws : List Draw
  pub marks : List Mark

-- The shape is well formed, and its reach within the bound.
pub record IsShapeWithin (bound : ℕ) (shape : Shape) : Type 0 where
  pub formed : IsWellFormed (figure_of shape)
  pub reach : (r : Rect) → IsReach (figure_of shape) r → IsRectWithin bound r

-- Each shape and each label's point is within the bound.
pub record IsFlatWithin (bound : ℕ) (lists : Lists) : Type 0 where
  pub draws : All (λ (d : Draw). IsShapeWithin bound d.shape) lists.draws
  pub marks : All (λ (m : Mark). IsPointWithin bound m.at) lists.marks
