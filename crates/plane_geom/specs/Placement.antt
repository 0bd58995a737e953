-- Places: steps that move points, one after the other.
use Rattle.std.specs.Prelude.{◌≡◌, ℕ, ℤ, neg_ℤ, ◌+ℤ◌, Bool, true, false, List, [], ◌∷◌, ◌++◌}
use Rattle.plane_geom.specs.declared.shapes.Point.{Point}
use Rattle.plane_geom.specs.declared.places.Place.{Place}
use Rattle.plane_geom.specs.declared.places.Turn.{Turn}
use Rattle.plane_geom.specs.Bounds.{IsWithin}

pub data Step : Type 0 where
  shift : ℤ → ℤ → Step
  negate_x : Step
  negate_y : Step
  exchange : Step

-- where one step takes a point
abbrev pub moved_once : Step → Point → Point
moved_once (shift dx dy) p = record { x = p.x +ℤ dx; y = p.y +ℤ dy }
moved_once negate_x p = record { x = neg_ℤ p.x; y = p.y }
moved_once negate_y p = record { x = p.x; y = neg_ℤ p.y }
moved_once exchange p = record { x = p.y; y = p.x }

-- where steps take a point, the first one first
abbrev pub moved : List Step → Point → Point
moved [] p = p
moved (s ∷ ss) p = moved ss (moved_once s p)

-- the step before the others, where it is to be made
abbrev pub step_if : Bool → Step → List Step → List Step
step_if true s ss = s ∷ ss
step_if false s ss = ss

-- A turn exchanges first, and then negates.
abbrev pub turn_steps : Turn → List Step
turn_steps turn = step_if turn.swap exchange (step_if turn.neg_x negate_x (step_if turn.neg_y negate_y []))

-- A place turns first, and then shifts.
abbrev pub steps_of : Place → List Step
steps_of place = turn_steps place.turn ++ shift place.dx place.dy ∷ []

-- where a place takes a point
abbrev pub placed : Place → Point → Point
placed place p = moved (steps_of place) p

-- The place moves every point as these steps do. There is one such place at most.
pub record IsPlaceOf (steps : List Step) (place : Place) : Type 0 where
  pub moves : (p : Point) → placed place p ≡ moved steps p

-- The place shifts by at most so much.
pub record IsShiftWithin (bound : ℕ) (place : Place) : Type 0 where
  pub dx : IsWithin bound place.dx
  pub dy : IsWithin bound place.dy
