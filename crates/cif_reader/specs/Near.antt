-- What the code computes step by step, and how far from 0 its numbers lie before the scale, so that its sums fit.
-- The definitions of what a text says are in the other files.
use Rattle.std.specs.Prelude.{ℕ, ℤ, ◌^◌, ◌==◌, not, take, drop, Bool, List, [], ◌∷◌, Option, Some, None, if◌then◌else◌}
use Rattle.std.specs.List.{list_any, list_all, prefix_len}
use Rattle.plane_geom.specs.Covering.{is_along}
use Rattle.plane_geom.specs.Placement.{Step, negate_x, negate_y}
use Rattle.cif_grammar.specs.declared.spelled.Spot.{Spot}
use Rattle.cif_grammar.specs.Grammar.{Transform, translate, mirror_x, mirror_y, rotate}
use Rattle.cif_reader.specs.declared.measure.Scale.{Scale}
use Rattle.cif_reader.specs.Measure.{point_of, doubled, is_far, is_whole, facing, turns_to, has_turns, shift_of}
use Rattle.plane_geom.specs.Bounds.{IsWithin}
use Rattle.cif_reader.specs.declared.measure.Corners.{Corners}
use Rattle.cif_reader.specs.declared.label.LabelText.{LabelText}
use Rattle.plane_geom.specs.Names.{is_short}
use Rattle.plane_geom.specs.Texts.{◌>>=◌}
use Rattle.cif_reader.specs.Label.{Label, is_white, coordinate_of, label_at}

pub record AreNear (r : Corners) : Type 0 where
  pub x0 : IsWithin (2 ^ 96) r.x0
  pub y0 : IsWithin (2 ^ 96) r.y0
  pub x1 : IsWithin (2 ^ 96) r.x1
  pub y1 : IsWithin (2 ^ 96) r.y1

-- the tests of points, as the code makes them one by one
abbrev pub is_spot_far : Scale → Spot → Bool
is_spot_far s p = list_any (is_far s) (doubled (point_of p))

abbrev pub is_spot_whole : Scale → Spot → Bool
is_spot_whole s p = list_all (is_whole s) (doubled (point_of p))

-- the last point, if all edges on the way lie on the axes
abbrev pub end_along : Spot → List Spot → Option Spot
end_along p [] = Some p
end_along p (q ∷ qs) = if is_along (point_of p, point_of q) then end_along q qs else None

-- the turn of a transformation, without its shift
abbrev pub turns_once : Transform → List Step
turns_once (translate d) = []
turns_once mirror_x = negate_x ∷ []
turns_once mirror_y = negate_y ∷ []
turns_once (rotate d) = turns_to (facing (point_of d))

-- ---- the fields of a label, one by one

abbrev pub is_dark : ℕ → Bool
is_dark b = not (is_white b)

-- the first field of these bytes, and what stands behind it
abbrev pub split_field : List ℕ → Option (List ℕ × List ℕ)
split_field bytes = if prefix_len is_dark bytes == 0 then None else Some (take (prefix_len is_dark bytes) bytes, drop (prefix_len is_dark bytes) bytes)

unfoldable pub field_at : List ℕ → Option (List ℕ × List ℕ)
field_at bytes = split_field (drop (prefix_len is_white bytes) bytes)

abbrev pub label_seen : LabelText → Label
label_seen l = record { name = l.name.now; at = l.at; layer = l.layer }

-- with the layer, if one more field stands there, and with no further one
abbrev pub label_on : List ℕ → List ℕ → List ℕ → List ℕ → Option (List ℕ × List ℕ) → Option Label
label_on name x y layer None = if is_short layer then label_at name (coordinate_of x) (coordinate_of y) (Some layer) else None
label_on name x y layer (Some f) = None

abbrev pub label_tail : List ℕ → List ℕ → List ℕ → Option (List ℕ × List ℕ) → Option Label
label_tail name x y None = label_at name (coordinate_of x) (coordinate_of y) None
label_tail name x y (Some f) = label_on name x y f.0 (field_at f.1)

abbrev pub label_by_fields : List ℕ → Option Label
label_by_fields text = do
  n ← field_at text
  name ← field_at n.1
  x ← field_at name.1
  y ← field_at x.1
  label_tail name.0 x.0 y.0 (field_at y.1)

-- the composed shift of a call that has one
abbrev pub shift_parts : List Transform → List ℤ
shift_parts ts = if has_turns ts then (shift_of ts).x ∷ (shift_of ts).y ∷ [] else []
