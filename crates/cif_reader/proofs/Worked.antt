-- Worked rows: labels, measures, scope, faults and whole texts, by the definitions.
use Rattle.std.proofs.Common.{◌≡◌, ℕ, suc, ◌-◌, true, false, codes, List, [], ◌∷◌, ◌++◌, length, map, Option, Some, None, refl, ap, ◌∙◌, arith, append_assoc, inl, inr}
use Rattle.std.specs.Prelude.{ℤ, pos, neg_ℤ}
use Rattle.std.specs.Option.{option_or}
use Rattle.std.proofs.lemmas.List.{length-append}
use Rattle.plane_geom.specs.declared.shapes.Rect.{Rect}
use Rattle.plane_geom.specs.declared.shapes.Shape.TheVariants.{Block}
use Rattle.plane_geom.specs.Covering.{block, wire as drawn_along}
use Rattle.plane_geom.specs.Placement.{shift, negate_x, exchange, moved}
use Rattle.plane_geom.proofs.Worked.{at}
use Rattle.cif_grammar.specs.declared.spelled.Number.{Number}
use Rattle.cif_grammar.specs.declared.spelled.Spot.{Spot}
use Rattle.cif_grammar.specs.Words.{limit}
use Rattle.cif_grammar.specs.Grammar.{Placed, Items, is_inside, user}
use Rattle.cif_grammar.specs.Readers.{command_at, body_at, box_at, polygon_at, wire_at, width_at, layer_at, call_at, transforms_at, transform_at, user_at, comment_at, definition_at, start_at, two_at, integer_at, next_at, next_point_at, more_points_at, point_at, signed_at, digits_at, end_at}
use Rattle.cif_grammar.proofs.Walking.{walk, walk_takes, longest_here}
use Rattle.cif_reader.specs.declared.refusal.CifRefusal.{CifRefusal}
use Rattle.cif_reader.specs.declared.refusal.CifRefusal.TheVariants.{Syntax, NumberTooLarge, Unsupported, NotManhattan, NoLayer, TwiceDefined, ZeroScale, OffGrid, BadLabel}
use Rattle.cif_reader.specs.declared.refusal.Feature.TheVariants.{Round, DefDelete}
use Rattle.cif_reader.specs.declared.facing.Facing.TheVariants.{East, North, West, South}
use Rattle.cif_reader.specs.declared.file.Symbol.{Symbol}
use Rattle.cif_reader.specs.declared.file.What.TheVariants.{Draw, Mark}
use Rattle.cif_reader.specs.declared.measure.Scale.{Scale}
use Rattle.cif_reader.specs.Scope.{layer_behind, scale_behind}
use Rattle.cif_reader.specs.Label.{fields, coordinate_of, label_in}
use Rattle.cif_reader.specs.Measure.{is_far, is_whole, scaled, facing, turns_to, box_corners}
use Rattle.cif_reader.specs.Faults.{first_fault, fault_of, end_fault, FaultAt, Refuses}
use Rattle.cif_reader.specs.Reading.{drawn, called, marked, definitions, said_outside, IsSaid, Accepts}
use Rattle.cif_reader.specs.File.{AreApart}

number : ℕ → ℕ → Number
number at value = record { at = at; value = value }

minus : ℕ → ℤ
minus n = neg_ℤ (pos n)

by : ℕ → ℕ → Scale
by a b = record { a = a; b = b }

-- ---- labels

-- Spaces, tabs, CR and LF are between fields, as many as there are.
three_fields : fields (57 ∷ 52 ∷ 32 ∷ 9 ∷ 65 ∷ 13 ∷ 10 ∷ 66 ∷ 32 ∷ []) ≡ codes "94" ∷ codes "A" ∷ codes "B" ∷ []
three_fields = refl

with_layer : label_in (codes "94 A 6 -20 CMF") ≡ Some (record { name = codes "A"; at = at (pos 6) (minus 20); layer = Some (codes "CMF") })
unfolding limit at minus
with_layer = refl

without_layer : label_in (codes "94 A+B 6 20 ") ≡ Some (record { name = codes "A+B"; at = at (pos 6) (pos 20); layer = None })
unfolding limit at
without_layer = refl

-- a coordinate less, a field more, a `#`, a layer of five letters, one in small letters, and user text that is no label
no_labels : map label_in (codes "94 A 6" ∷ codes "94 A 6 20 CMF x" ∷ codes "94 #A 6 20" ∷ codes "94 A 6 20 CMFAB" ∷ codes "94 A 6 20 metal" ∷ codes "94A 6 20" ∷ codes "95 A 6 20" ∷ []) ≡ None ∷ None ∷ None ∷ None ∷ None ∷ None ∷ None ∷ []
unfolding limit
no_labels = refl

-- The greatest coordinate, one more, a zero with a sign, and a sign alone.
coordinates : map coordinate_of (codes "2147483647" ∷ codes "-2147483647" ∷ codes "2147483648" ∷ codes "-00" ∷ codes "-" ∷ codes "+1" ∷ []) ≡ Some (pos 2147483647) ∷ Some (minus 2147483647) ∷ None ∷ Some (pos 0) ∷ None ∷ None ∷ []
unfolding limit minus
coordinates = refl

-- ---- measures

-- 3/2 is not whole; 6/2 and -6/2 are 3 and -3.
wholes : map (is_whole (by 1 2)) (pos 3 ∷ pos 6 ∷ minus 3 ∷ []) ≡ false ∷ true ∷ false ∷ []
unfolding by minus
wholes = refl

halves : map (scaled (by 1 2)) (pos 6 ∷ minus 6 ∷ pos 0 ∷ []) ≡ pos 3 ∷ minus 3 ∷ pos 0 ∷ []
unfolding by minus
halves = refl

-- The limit itself is not far, on either side; half a unit more is.
far : map (is_far (by 1 2)) (pos 4294967294 ∷ pos 4294967295 ∷ minus 4294967294 ∷ minus 4294967295 ∷ []) ≡ false ∷ true ∷ false ∷ true ∷ []
unfolding by minus limit
far = refl

facings : map facing (at (pos 2) (pos 0) ∷ at (pos 0) (pos 1) ∷ at (minus 1) (pos 0) ∷ at (pos 0) (minus 3) ∷ at (pos 0) (pos 0) ∷ at (pos 1) (pos 1) ∷ []) ≡ Some East ∷ Some North ∷ Some West ∷ Some South ∷ None ∷ None ∷ []
unfolding at minus
facings = refl

-- where each direction takes the point (2, 1)
turned : map (λ f. moved (turns_to (Some f)) (at (pos 2) (pos 1))) (East ∷ North ∷ West ∷ South ∷ []) ≡ at (pos 2) (pos 1) ∷ at (minus 1) (pos 2) ∷ at (minus 2) (minus 1) ∷ at (pos 1) (minus 2) ∷ []
unfolding at minus
turned = refl

spot : ℕ → ℕ → Spot
spot x y = record { x = record { minus = false; size = number 0 x }; y = record { minus = false; size = number 0 y } }

-- A box of length 10 and width 4: with no direction, along y, and with a direction on no axis.
flat_box : box_corners 10 4 (spot 5 2) None ≡ record { x0 = pos 0; y0 = pos 0; x1 = pos 20; y1 = pos 8 }
unfolding spot number
flat_box = refl

upright_box : box_corners 10 4 (spot 5 2) (Some (spot 0 1)) ≡ record { x0 = pos 6; y0 = minus 6; x1 = pos 14; y1 = pos 14 }
unfolding spot number minus
upright_box = refl

slanted_box : box_corners 10 4 (spot 5 2) (Some (spot 1 1)) ≡ box_corners 10 4 (spot 5 2) None
unfolding spot number
slanted_box = refl

-- ---- scope

-- the commands of these bytes, so many of them, the latest first
behind : ℕ → List ℕ → List Placed
behind n text = elim (walk n (length text) text) [ None ↦ [] | Some walked ↦ walked.0 ]

-- The layer is none behind a start, that of the definition inside, and the one from before behind its finish.
layers : map (λ n. layer_behind (behind n (codes "L CMF;DS 1;L CPG;DF;L CAA;"))) (0 ∷ 1 ∷ 2 ∷ 3 ∷ 4 ∷ 5 ∷ []) ≡ None ∷ Some (codes "CMF") ∷ None ∷ Some (codes "CPG") ∷ Some (codes "CMF") ∷ Some (codes "CAA") ∷ []
unfolding behind command_at body_at layer_at definition_at start_at two_at next_at integer_at digits_at end_at limit
layers = refl

-- Behind a finish it may be none again.
layer_of_none : layer_behind (behind 3 (codes "DS 1;L CPG;DF;")) ≡ None
unfolding behind command_at body_at layer_at definition_at start_at two_at next_at integer_at digits_at end_at limit
layer_of_none = refl

scales : map (λ n. scale_behind (behind n (codes "DS 1 25 2;DF;DS 2;"))) (0 ∷ 1 ∷ 2 ∷ 3 ∷ []) ≡ by 1 1 ∷ by 25 2 ∷ by 1 1 ∷ by 1 1 ∷ []
unfolding by behind command_at body_at definition_at start_at two_at next_at integer_at digits_at end_at limit
scales = refl

-- ---- refusals of whole texts

among_case : (text : List ℕ) (f : CifRefusal) (c : Placed) (before : List Placed) (front rest : List ℕ) (o : Option CifRefusal) → first_fault before ≡ o → Items (c ∷ before) 0 front → text ≡ front ++ rest → option_or o (fault_of before c) ≡ Some f → ((front rest : List ℕ) → Items before 0 front → text ≡ front ++ rest → first_fault before ≡ Some f → FaultAt text f) → FaultAt text f
among_case text f c before front rest None e items whole h more = record { before = before; command = c; front = front; rest = rest; items = items; whole = whole; none_before = e; is = h }
among_case text f c before front rest (Some g) e items whole h more = more items.front (items.back ++ rest) items.first (whole ∙ ap (λ s. s ++ rest) items.whole ∙ append_assoc items.front items.back rest) (e ∙ h)

among : (text : List ℕ) (f : CifRefusal) (commands : List Placed) (front rest : List ℕ) → Items commands 0 front → text ≡ front ++ rest → first_fault commands ≡ Some f → FaultAt text f
among text f [] front rest items whole h = absurd (let no : None ≡ Some f = h in cc)
among text f (c ∷ before) front rest items whole h = among_case text f c before front rest (first_fault before) refl items whole h (λ front rest items whole h. among text f before front rest items whole h)

-- One of the first n commands is at fault.
command : (n : ℕ) (text : List ℕ) (walked : List Placed × List ℕ) (f : CifRefusal) → walk n (length text) text ≡ Some walked → first_fault walked.0 ≡ Some f → Refuses text f
command n text walked f w h = let t = walk_takes n (length text) text walked.0 walked.1 refl w in inl (among text f walked.0 t.front walked.1 t.spelled t.whole h)

-- Behind n commands without fault none stands, and no `E` that may.
behind_all : (n : ℕ) (text : List ℕ) (walked : List Placed × List ℕ) (f : CifRefusal) → walk n (length text) text ≡ Some walked → walk (suc n) (length text) text ≡ None → first_fault walked.0 ≡ None → end_fault (is_inside walked.0) (length text - length walked.1) walked.1 ≡ Some f → Refuses text f
behind_all n text walked f w stuck none h =
    let here = longest_here n text walked.0 walked.1 w stuck in
    let place : length (walk_takes n (length text) text walked.0 walked.1 refl w).front ≡ length text - length walked.1 = omega (arith, ap length here.whole ∙ length-append _ walked.1) in
    inr (record { commands = walked.0; front = _; rest = walked.1; longest = here; none_before = none; is = ap (λ n. end_fault (is_inside walked.0) n walked.1) place ∙ h })

-- A box of three numbers, an end without an `E`, no text, blanks alone, and a start with one number of two for its scale.
no_command_stands : Refuses (codes "L CMF; B 10 10 5") (Syntax 7) × Refuses (codes "L CMF; B 10 10 5 5;") (Syntax 19) × Refuses (codes "") (Syntax 0) × Refuses (codes "  ") (Syntax 2) × Refuses (codes "DS 1 2; L CMF; DF; E") (Syntax 0)
unfolding command_at body_at box_at polygon_at wire_at width_at layer_at call_at transforms_at transform_at user_at comment_at definition_at start_at two_at integer_at next_at next_point_at more_points_at point_at signed_at digits_at end_at limit
no_command_stands = (behind_all 1 _ _ _ refl refl refl refl, behind_all 2 _ _ _ refl refl refl refl, behind_all 0 _ _ _ refl refl refl refl, behind_all 0 _ _ _ refl refl refl refl, behind_all 0 _ _ _ refl refl refl refl)

-- An `E`, a start and the end inside of a definition, and a finish outside.
out_of_place : Refuses (codes "DS 1; E") (Syntax 6) × Refuses (codes "DS 1; DS 2; DF; E") (Syntax 6) × Refuses (codes "DS 1; ") (Syntax 6) × Refuses (codes "DF; E") (Syntax 0)
unfolding command_at body_at box_at polygon_at wire_at width_at layer_at call_at transforms_at transform_at user_at comment_at definition_at start_at two_at integer_at next_at next_point_at more_points_at point_at signed_at digits_at end_at limit
out_of_place = (behind_all 1 _ _ _ refl refl refl refl, behind_all 1 _ _ _ refl refl refl refl, behind_all 1 _ _ _ refl refl refl refl, behind_all 0 _ _ _ refl refl refl refl)

-- Words in capitals behind letters that no number follows, and a label without its `;`.
capitals : Refuses (codes "LAYER CMF; E") (Syntax 0) × Refuses (codes "DEF START 1; DF; E") (Syntax 0) × Refuses (codes "C 1 MIRROR X; E") (Syntax 0) × Refuses (codes "94 A 1 1") (Syntax 0)
unfolding command_at body_at box_at polygon_at wire_at width_at layer_at call_at transforms_at transform_at user_at comment_at definition_at start_at two_at integer_at next_at next_point_at more_points_at point_at signed_at digits_at end_at limit
capitals = (behind_all 0 _ _ _ refl refl refl refl, behind_all 0 _ _ _ refl refl refl refl, behind_all 0 _ _ _ refl refl refl refl, behind_all 0 _ _ _ refl refl refl refl)

-- Round flashes and deletions, with a `;` or without, and inside of a definition.
unsupported : Refuses (codes "L CMF; R 10 0 0; E") (Unsupported 7 Round) × Refuses (codes "DS 1; R") (Unsupported 6 Round) × Refuses (codes "DD") (Unsupported 0 DefDelete) × Refuses (codes "DS 1;D D 1") (Unsupported 5 DefDelete) × Refuses (codes "Delete Def 1; E") (Unsupported 0 DefDelete)
unfolding command_at body_at box_at polygon_at wire_at width_at layer_at call_at transforms_at transform_at user_at comment_at definition_at start_at two_at integer_at next_at next_point_at more_points_at point_at signed_at digits_at end_at limit
unsupported = (behind_all 1 _ _ _ refl refl refl refl, behind_all 1 _ _ _ refl refl refl refl, behind_all 0 _ _ _ refl refl refl refl, behind_all 1 _ _ _ refl refl refl refl, behind_all 0 _ _ _ refl refl refl refl)

-- A closing edge, a segment, directions of a box and of a call. The call has no composed shift, so none that is far.
slanted : Refuses (codes "L CMF; P 0 0 10 0 10 10; E") (NotManhattan 7) × Refuses (codes "L CMF; W 2 0 0 5 5; E") (NotManhattan 7) × Refuses (codes "L CMF; B 2 2 0 0 0 0; E") (NotManhattan 7) × Refuses (codes "C 1 R 1 1 T 2147483647 0; E") (NotManhattan 0)
unfolding command_at body_at box_at polygon_at wire_at width_at layer_at call_at transforms_at transform_at user_at comment_at definition_at start_at two_at integer_at next_at next_point_at more_points_at point_at signed_at digits_at end_at limit
slanted = (command 2 _ _ _ refl refl, command 2 _ _ _ refl refl, command 2 _ _ _ refl refl, command 1 _ _ _ refl refl)

-- The first number over the limit, at its first digit, leading zeros included and its sign not; it comes before all other faults.
large : Refuses (codes "L CMF; B 2 2 -00999999999999999999999999 0; E") (NumberTooLarge 14) × Refuses (codes "B 2147483648 2147483649 0 0; E") (NumberTooLarge 2) × Refuses (codes "C 1 R 1 1 T 0 2147483648; E") (NumberTooLarge 14) × Refuses (codes "DS 1 1 2147483648; DF; E") (NumberTooLarge 7)
unfolding command_at body_at box_at polygon_at wire_at width_at layer_at call_at transforms_at transform_at user_at comment_at definition_at start_at two_at integer_at next_at next_point_at more_points_at point_at signed_at digits_at end_at limit
large = (command 2 _ _ _ refl refl, command 1 _ _ _ refl refl, command 1 _ _ _ refl refl, command 1 _ _ _ refl refl)

-- Scaled values beyond the limit, of a corner, a composed shift, a label's point, and one that isn't whole either; before directions and layers.
far_commands : Refuses (codes "L CMF; B 2 2 1073741823 0; E") (NumberTooLarge 7) × Refuses (codes "C 1 T 1073741824 0; E") (NumberTooLarge 0) × Refuses (codes "94 A 1073741824 0; E") (NumberTooLarge 0) × Refuses (codes "DS 1 3 4;B 1 2 2147483647 0 1 1;DF;E") (NumberTooLarge 9)
unfolding command_at body_at box_at polygon_at wire_at width_at layer_at call_at transforms_at transform_at user_at comment_at definition_at start_at two_at integer_at next_at next_point_at more_points_at point_at signed_at digits_at end_at limit
far_commands = (command 2 _ _ _ refl refl, command 1 _ _ _ refl refl, command 1 _ _ _ refl refl, command 2 _ _ _ refl refl)

-- No layer at the top, behind a start and behind a finish; a symbol twice; a scale with a 0.
layers_and_symbols : Refuses (codes "B 10 10 5 5; E") (NoLayer 0) × Refuses (codes "L CMF; DS 1; B 2 2 1 1; DF; E") (NoLayer 13) × Refuses (codes "DS 1; L CMF; DF; B 2 2 1 1; E") (NoLayer 17) × Refuses (codes "DS 1; DF; DS 1; DF; E") (TwiceDefined 10) × Refuses (codes "DS 1 0 1; DF; E") (ZeroScale 0)
unfolding command_at body_at box_at polygon_at wire_at width_at layer_at call_at transforms_at transform_at user_at comment_at definition_at start_at two_at integer_at next_at next_point_at more_points_at point_at signed_at digits_at end_at limit
layers_and_symbols = (command 1 _ _ _ refl refl, command 3 _ _ _ refl refl, command 4 _ _ _ refl refl, command 3 _ _ _ refl refl, command 1 _ _ _ refl refl)

-- A corner, a half width, a single shift of two whose sum is whole, and a label's point.
off_the_grid : Refuses (codes "DS 1 1 2; L CMF; B 3 4 0 0; DF; C 1; E") (OffGrid 17) × Refuses (codes "DS 1 1 2;L CMF;W 1 0 0;DF;E") (OffGrid 15) × Refuses (codes "DS 1 1 4; C 2 T 1 0 T 1 0; DF; E") (OffGrid 10) × Refuses (codes "DS 1 1 4;94 A 1 0;DF;E") (OffGrid 9)
unfolding command_at body_at box_at polygon_at wire_at width_at layer_at call_at transforms_at transform_at user_at comment_at definition_at start_at two_at integer_at next_at next_point_at more_points_at point_at signed_at digits_at end_at limit
off_the_grid = (command 3 _ _ _ refl refl, command 3 _ _ _ refl refl, command 2 _ _ _ refl refl, command 2 _ _ _ refl refl)

-- Within one command: a slanted box without layer, one off the grid without layer, a symbol twice with a 0 in its scale. Of several commands the first.
order : Refuses (codes "B 2 2 0 0 1 1; E") (NotManhattan 0) × Refuses (codes "DS 1 1 2;B 3 4 0 0;DF;E") (NoLayer 9) × Refuses (codes "DS 1;DF;DS 1 0 1;DF;E") (TwiceDefined 8) × Refuses (codes "94;B 1 1 0 0;R") (BadLabel 0)
unfolding command_at body_at box_at polygon_at wire_at width_at layer_at call_at transforms_at transform_at user_at comment_at definition_at start_at two_at integer_at next_at next_point_at more_points_at point_at signed_at digits_at end_at limit
order = (command 1 _ _ _ refl refl, command 2 _ _ _ refl refl, command 3 _ _ _ refl refl, command 2 _ _ _ refl refl)

-- Nothing behind `94`, a `#`, a coordinate over the limit, a layer in small letters.
bad_labels : Refuses (codes "94; E") (BadLabel 0) × Refuses (codes "94 #1 0 0; E") (BadLabel 0) × Refuses (codes "94 Vdd 2147483648 0; E") (BadLabel 0) × Refuses (codes "94 Vdd 0 0 metal; E") (BadLabel 0)
unfolding command_at body_at box_at polygon_at wire_at width_at layer_at call_at transforms_at transform_at user_at comment_at definition_at start_at two_at integer_at next_at next_point_at more_points_at point_at signed_at digits_at end_at limit
bad_labels = (command 1 _ _ _ refl refl, command 1 _ _ _ refl refl, command 1 _ _ _ refl refl, command 1 _ _ _ refl refl)

-- No fault: other user commands, a box on the grid whose centre is off it, and shifts that are far one by one.
without_fault : map (λ text. first_fault (behind 4 text)) (codes "94A;95 x;0;L CMF;" ∷ codes "DS 1 1 4; L CMF; B 2 2 1 1; DF; E" ∷ codes ";C 7 T 2147483647 0 T -2147483647 0;9;9;9;" ∷ []) ≡ None ∷ None ∷ None ∷ []
unfolding behind command_at body_at box_at polygon_at wire_at width_at layer_at call_at transforms_at transform_at user_at comment_at definition_at start_at two_at integer_at next_at next_point_at more_points_at point_at signed_at digits_at end_at limit
without_fault = refl

-- ---- what texts say

-- A label and a box inside, scaled by 25/2 and by their layers; behind it a call, its shifts as they stand, and a wire.
text : List ℕ
text = codes "L CMF;DS 5 25 2;94 A 2 -4 CPG;L CAA;B 2 4 1 2;DF;C 5 T 10 0 R 0 1;W 4 0 0 5 0;E"

inside : definitions (behind 8 text) ≡ record { number = 5; at = 6; remarks = record { at = 16; what = marked (codes "A") (at (pos 50) (minus 100)) (Some (codes "CPG")) } ∷ record { at = 36; what = drawn (codes "CAA") (block (record { x0 = pos 0; y0 = pos 0; x1 = pos 50; y1 = pos 100 })) } ∷ [] } ∷ []
unfolding behind text at minus command_at body_at box_at polygon_at wire_at width_at layer_at call_at transforms_at transform_at user_at comment_at definition_at start_at two_at integer_at next_at next_point_at more_points_at point_at signed_at digits_at end_at limit
inside = refl

outside : said_outside (behind 8 text) ≡ record { at = 49; what = called 5 (shift (pos 20) (pos 0) ∷ exchange ∷ negate_x ∷ []) } ∷ record { at = 66; what = drawn (codes "CMF") (drawn_along (pos 4) (at (pos 0) (pos 0) ∷ at (pos 10) (pos 0) ∷ [])) } ∷ []
unfolding behind text at command_at body_at box_at polygon_at wire_at width_at layer_at call_at transforms_at transform_at user_at comment_at definition_at start_at two_at integer_at next_at next_point_at more_points_at point_at signed_at digits_at end_at limit
outside = refl

square : Rect
square = record { x0 = pos 0; y0 = pos 0; x1 = pos 2; y1 = pos 2 }

-- The item is on the layer that was said, and on no other.
is_said : IsSaid (Draw (codes "CMF") (Block square)) (drawn (codes "CMF") (block square))
is_said = (refl, refl)

other_layer : IsSaid (Draw (codes "CPG2") (Block square)) (drawn (codes "CMF") (block square)) → ⊥
other_layer h = omega (arith, ap length h.0)

-- Two symbols of one number are not apart.
not_apart : (s t : Symbol) → s.number ≡ t.number → AreApart (s ∷ t ∷ []) → ⊥
not_apart s t e h = grind (arith, e, h.0)

-- A label at the top, and nothing else.
one_label : Accepts (codes "94 A 1 2;E") (record { symbols = []; top = record { pos = 0; what = Mark (codes "A") (at (pos 2) (pos 4)) None } ∷ [] })
unfolding command_at body_at user_at end_at limit at
one_label = record {
  commands = record { at = 0; what = user (codes "94 A 1 2") } ∷ [];
  spelled = record {
    front = codes "94 A 1 2;";
    rest = [];
    items = record { front = []; back = codes "94 A 1 2;"; first = refl; second = record { place = refl; scope = refl; word = record { front = codes "94 A 1 2"; back = codes ";"; first = record { form = refl; whole = refl }; second = record { front = codes ";"; back = []; first = refl; second = refl; whole = refl }; whole = refl } }; whole = refl };
    outside = refl;
    whole = refl;
  };
  none_at_fault = refl;
  symbols = tt;
  top = (refl, (refl, refl, refl), tt);
}
