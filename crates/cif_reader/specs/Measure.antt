-- Measures of commands. A distance d of the text is 2·d mask units, times the scale a/b of its definition.
use Rattle.std.specs.Prelude.{ℕ, ◌*◌, ◌/◌, ◌%◌, ℤ, pos, neg_ℤ, ◌+ℤ◌, ◌-ℤ◌, ◌*ℤ◌, nat_abs, int_lt, nat_lt, Bool, true, false, ◌==◌, List, [], ◌∷◌, map, flat_map, is_some, Option, Some, None, if◌then◌else◌}
use Rattle.std.specs.List.{list_all}
use Rattle.std.specs.Ordering.{int_eq}
use Rattle.plane_geom.specs.declared.shapes.Point.{Point}
use Rattle.plane_geom.specs.declared.shapes.Rect.{Rect}
use Rattle.plane_geom.specs.Placement.{Step, shift, negate_x, negate_y, exchange, moved}
use Rattle.cif_grammar.specs.declared.spelled.Signed.{Signed}
use Rattle.cif_grammar.specs.declared.spelled.Spot.{Spot}
use Rattle.cif_grammar.specs.Words.{limit}
use Rattle.cif_grammar.specs.Grammar.{Points, Transform, translate, mirror_x, mirror_y, rotate, Command, box, polygon, wire, call, user}
use Rattle.cif_reader.specs.declared.measure.Scale.{Scale}
use Rattle.cif_reader.specs.declared.measure.Corners.{Corners}
use Rattle.cif_reader.specs.declared.facing.Facing.{Facing}
use Rattle.cif_reader.specs.declared.facing.Facing.TheVariants.{East, North, West, South}
use Rattle.cif_reader.specs.Label.{Label, label_in}

-- ---- points, as they are written

abbrev pub value_of : Signed → ℤ
value_of s = if s.minus then neg_ℤ (pos s.size.value) else pos s.size.value

abbrev pub point_of : Spot → Point
point_of p = record { x = value_of p.x; y = value_of p.y }

abbrev pub points_along : Points → List Point
points_along p = map point_of (p.first ∷ p.others)

-- ---- numbers of mask units in a scale

-- z·a/b lies beyond the limit on either side
abbrev pub is_far : Scale → ℤ → Bool
is_far s z = nat_lt (limit * s.b) (nat_abs z * s.a)

-- z·a/b is a whole number
abbrev pub is_whole : Scale → ℤ → Bool
is_whole s z = nat_abs z * s.a % s.b == 0

-- that number
abbrev pub scaled : Scale → ℤ → ℤ
scaled s z = if int_lt z (pos 0) then neg_ℤ (pos (nat_abs z * s.a / s.b)) else pos (nat_abs z * s.a / s.b)

-- a point of the text, in mask units
abbrev pub scaled_point : Scale → Point → Point
scaled_point s p = record { x = scaled s (pos 2 *ℤ p.x); y = scaled s (pos 2 *ℤ p.y) }

abbrev pub scaled_rect : Scale → Corners → Rect
scaled_rect s r = record { x0 = scaled s r.x0; y0 = scaled s r.y0; x1 = scaled s r.x1; y1 = scaled s r.y1 }

-- ---- directions

-- the direction of a point from (0, 0) along an axis, if it lies on one
abbrev pub facing : Point → Option Facing
facing d = if int_eq d.y (pos 0) then (if int_lt (pos 0) d.x then Some East else if int_lt d.x (pos 0) then Some West else None) else if int_eq d.x (pos 0) then (if int_lt (pos 0) d.y then Some North else Some South) else None

-- the steps that turn the x axis to a direction
abbrev pub turns_to : Option Facing → List Step
turns_to None = []
turns_to (Some East) = []
turns_to (Some North) = exchange ∷ negate_x ∷ []
turns_to (Some West) = negate_x ∷ negate_y ∷ []
turns_to (Some South) = exchange ∷ negate_y ∷ []

-- The length lies along y.
abbrev pub lies_along_y : Option Facing → Bool
lies_along_y (Some North) = true
lies_along_y (Some South) = true
lies_along_y _ = false

abbrev pub is_upright : Option Spot → Bool
is_upright None = false
is_upright (Some d) = lies_along_y (facing (point_of d))

-- ---- what a command measures, in mask units before the scale

-- both coordinates of a point
abbrev pub doubled : Point → List ℤ
doubled p = (pos 2 *ℤ p.x) ∷ (pos 2 *ℤ p.y) ∷ []

-- a box, so wide in x and in y, round a centre
abbrev pub corners : ℕ → ℕ → Point → Corners
corners across up c = record { x0 = (pos 2 *ℤ c.x) -ℤ pos across; y0 = (pos 2 *ℤ c.y) -ℤ pos up; x1 = (pos 2 *ℤ c.x) +ℤ pos across; y1 = (pos 2 *ℤ c.y) +ℤ pos up }

-- A box whose direction is along y has its length in y.
abbrev pub box_corners : ℕ → ℕ → Spot → Option Spot → Corners
box_corners l w c d = if is_upright d then corners w l (point_of c) else corners l w (point_of c)

abbrev pub sides : Corners → List ℤ
sides r = r.x0 ∷ r.y0 ∷ r.x1 ∷ r.y1 ∷ []

-- the steps that a transformation makes, where a number z of mask units before the scale counts as f z
abbrev pub steps_once : (ℤ → ℤ) → Transform → List Step
steps_once f (translate d) = shift (f (pos 2 *ℤ (point_of d).x)) (f (pos 2 *ℤ (point_of d).y)) ∷ []
steps_once f mirror_x = negate_x ∷ []
steps_once f mirror_y = negate_y ∷ []
steps_once f (rotate d) = turns_to (facing (point_of d))

-- the steps of a call's transformations, from left to right
abbrev pub steps_of : (ℤ → ℤ) → List Transform → List Step
steps_of f ts = flat_map (steps_once f) ts

abbrev pub origin : Point
origin = record { x = pos 0; y = pos 0 }

-- where a call takes the point (0, 0), before the scale
abbrev pub shift_of : List Transform → Point
shift_of ts = moved (steps_of (λ z. z) ts) origin

-- Its direction, if it has one, lies on an axis.
abbrev pub is_turn : Transform → Bool
is_turn (rotate d) = is_some (facing (point_of d))
is_turn _ = true

abbrev pub has_turns : List Transform → Bool
has_turns ts = list_all is_turn ts

abbrev pub of_label : Option Label → List ℤ
of_label None = []
of_label (Some l) = doubled l.at

-- what may not be far: corners, points, half widths, label points, and the composed shift of a call that has one
abbrev pub reached : Command → List ℤ
reached (box l w c d) = sides (box_corners l.value w.value c d)
reached (polygon p) = flat_map doubled (points_along p)
reached (wire w p) = pos w.value ∷ flat_map doubled (points_along p)
reached (call n ts) = if has_turns ts then (shift_of ts).x ∷ (shift_of ts).y ∷ [] else []
reached (user text) = of_label (label_in text)
reached _ = []

abbrev pub shifts_once : Transform → List ℤ
shifts_once (translate d) = doubled (point_of d)
shifts_once _ = []

-- what has to be whole: the same, but of a call each single shift
abbrev pub gridded : Command → List ℤ
gridded (call n ts) = flat_map shifts_once ts
gridded c = reached c
