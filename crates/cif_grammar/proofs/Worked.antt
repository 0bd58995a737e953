-- Worked rows of the grammar: words and texts by hand, and commands that are computed.
use Rattle.std.proofs.Common.{◌≡◌, ℕ, ◌≤◌, true, false, List, [], ◌∷◌, ◌++◌, length, map, codes, Option, Some, None, refl, ap, sym, ◌∙◌, arith}
use Rattle.std.proofs.lemmas.List.{length-append}
use Rattle.cif_grammar.specs.declared.spelled.Number.{Number}
use Rattle.cif_grammar.specs.declared.spelled.Signed.{Signed}
use Rattle.cif_grammar.specs.declared.spelled.Spot.{Spot}
use Rattle.cif_grammar.specs.Words.{Takes, One, ◌⋅◌, is_blank, is_sep, limit}
use Rattle.cif_grammar.specs.Grammar.{signed, translate, mirror_x, mirror_y, rotate, Command, box, polygon, wire, layer, call, user, comment, start, finish, Matched, command, end, Placed, is_inside, may_stand, Items, Spells, Longest}
use Rattle.cif_grammar.specs.Readers.{digits_at, integer_at, signed_at, point_at, next_at, next_point_at, more_points_at, transform_at, transforms_at, box_at, polygon_at, width_at, wire_at, layer_at, call_at, user_at, comment_at, two_at, start_at, definition_at, body_at, end_at, command_at}
use Rattle.cif_grammar.proofs.Walking.{walk, command_takes, command_again, longest_here, longest_one, spells_longest}

-- what a whole text begins with
abbrev first : List ℕ → Option (Command × List ℕ)
first text = command_at (length text) text

abbrev number : ℕ → ℕ → Number
number at value = record { at = at; value = value }

abbrev plus : ℕ → ℕ → Signed
plus at value = record { minus = false; size = number at value }

abbrev minus : ℕ → ℕ → Signed
minus at value = record { minus = true; size = number at value }

abbrev spot : Signed → Signed → Spot
spot x y = record { x = x; y = y }

-- ---- bytes and words, by hand

-- A tab, a comma, a lower-case letter and a byte above 127 are blanks.
blanks : map is_blank (9 ∷ 44 ∷ 101 ∷ 200 ∷ []) ≡ true ∷ true ∷ true ∷ true ∷ []
blanks = refl

no_blanks : map is_blank (codes "-();0Z") ≡ false ∷ false ∷ false ∷ false ∷ false ∷ false ∷ []
no_blanks = refl

-- A capital separates as a blank does; a `-` does not.
separators : map is_sep (codes "Z,-;") ≡ true ∷ true ∷ false ∷ false ∷ []
separators = refl

no_separator_here : One is_sep 0 (codes "-") → ⊥
no_separator_here one =
    let dash : 45 ≡ one.byte = cc in
    let no : false ≡ true = ap is_sep dash ∙ one.passes in
    cc

-- A capital and a blank stand before the sign, and the number's place is that of its digit.
signed_here : signed (minus 3 7) 0 (codes "X -7")
unfolding limit
signed_here = record {
  front = codes "X ";
  back = codes "-7";
  first = refl;
  second = record { front = codes "-"; back = codes "7"; first = refl; second = record { some = omega arith; digits = (omega arith, tt); value = refl; place = refl }; whole = refl };
  whole = refl;
}

-- as many closed as opened, but the first one too early
closed_too_early : Matched 0 (codes ")(") → ⊥
closed_too_early m = let early : 1 ≤ 0 = m.fronts (codes ")") (codes "(") refl in omega (arith, early)

-- What is computed below is the relation: what is read is spelled, and where nothing is read nothing is spelled.
spelled : (text rest : List ℕ) (c : Command) → first text ≡ Some (c, rest) → Takes (command c ⋅ end c) 0 text rest
spelled text rest c h = command_takes (length text) 0 text c rest (omega arith) h

not_spelled : (text : List ℕ) → first text ≡ None → (c : Command) (rest : List ℕ) → Takes (command c ⋅ end c) 0 text rest → ⊥
not_spelled text h c rest t =
    let read = ap (command_at (length text)) t.whole ∙ command_again (length text) 0 c t.front rest (omega (arith, ap length t.whole)) t.spelled in
    cc

-- ---- boxes

with_commas : first (codes "B10,20,30,40;\nE") ≡ Some (box (number 1 10) (number 4 20) (spot (plus 7 30) (plus 10 40)) None, codes "E")
unfolding command_at body_at box_at integer_at next_at next_point_at point_at signed_at digits_at end_at limit
with_commas = refl

with_noise : first (codes "BOX LENGTH 25 WIDTH 60 CENTER 80,40;") ≡ Some (box (number 11 25) (number 20 60) (spot (plus 30 80) (plus 33 40)) None, [])
unfolding command_at body_at box_at integer_at next_at next_point_at point_at signed_at digits_at end_at limit
with_noise = refl

-- The place of a number is that of its first digit, leading zeros included, behind any `-`.
with_direction : first (codes "B 1 2 -03 4 0 -1 ; ;; E") ≡ Some (box (number 2 1) (number 4 2) (spot (minus 7 3) (plus 10 4)) (Some (spot (plus 12 0) (minus 15 1))), codes "E")
unfolding command_at body_at box_at integer_at next_at next_point_at point_at signed_at digits_at end_at limit
with_direction = refl

-- Between two numbers something stands that isn't a `-`.
no_separator : first (codes "B1 2-3 4;") ≡ None
unfolding command_at body_at box_at integer_at next_at next_point_at point_at signed_at digits_at end_at limit
no_separator = refl

-- A length and a width have no sign.
signed_width : first (codes "B 1 -2 3 4;") ≡ None
unfolding command_at body_at box_at integer_at next_at next_point_at point_at signed_at digits_at end_at limit
signed_width = refl

half_a_direction : first (codes "B 1 2 3 4 5;") ≡ None
unfolding command_at body_at box_at integer_at next_at next_point_at point_at signed_at digits_at end_at limit
half_a_direction = refl

no_end : first (codes "B 1 2 3 4 E") ≡ None
unfolding command_at body_at box_at integer_at next_at next_point_at point_at signed_at digits_at end_at limit
no_end = refl

-- ---- numbers

greatest : first (codes "C 2147483647;") ≡ Some (call (number 2 2147483647) [], [])
unfolding command_at body_at call_at integer_at transforms_at transform_at digits_at end_at limit
greatest = refl

one_more : first (codes "C 2147483648;") ≡ Some (call (number 2 2147483648) [], [])
unfolding command_at body_at call_at integer_at transforms_at transform_at digits_at end_at limit
one_more = refl

forty_digits : first (codes "C 1111111111222222222233333333334444444444;") ≡ Some (call (number 2 2147483648) [], [])
unfolding command_at body_at call_at integer_at transforms_at transform_at digits_at end_at limit
forty_digits = refl

-- Leading zeros are of no weight, however many, and the place is that of the first of them.
forty_zeros : first (codes "C 00000000000000000000000000000000000000007;") ≡ Some (call (number 2 7) [], [])
unfolding command_at body_at call_at integer_at transforms_at transform_at digits_at end_at limit
forty_zeros = refl

-- ---- paths

outline : first (codes "P 0 0 1 0 1 -1;") ≡ Some (polygon (record { first = spot (plus 2 0) (plus 4 0); others = spot (plus 6 1) (plus 8 0) ∷ spot (plus 10 1) (minus 13 1) ∷ [] }), [])
unfolding command_at body_at polygon_at more_points_at next_point_at point_at signed_at digits_at end_at limit
outline = refl

-- Capitals separate, so words in capitals may stand before a number.
in_words : first (codes "POLYGON 0 0 X1 0;") ≡ Some (polygon (record { first = spot (plus 8 0) (plus 10 0); others = spot (plus 13 1) (plus 15 0) ∷ [] }), [])
unfolding command_at body_at polygon_at more_points_at next_point_at point_at signed_at digits_at end_at limit
in_words = refl

one_point : first (codes "P 0 0;") ≡ Some (polygon (record { first = spot (plus 2 0) (plus 4 0); others = [] }), [])
unfolding command_at body_at polygon_at more_points_at next_point_at point_at signed_at digits_at end_at limit
one_point = refl

line : first (codes "W 4 0 0 10 0;") ≡ Some (wire (number 2 4) (record { first = spot (plus 4 0) (plus 6 0); others = spot (plus 8 10) (plus 11 0) ∷ [] }), [])
unfolding command_at body_at wire_at width_at integer_at more_points_at next_point_at point_at signed_at digits_at end_at limit
line = refl

half_a_point : first (codes "W 4 0 0 10;") ≡ None
unfolding command_at body_at wire_at width_at integer_at more_points_at next_point_at point_at signed_at digits_at end_at limit
half_a_point = refl

-- ---- layers

short_name : first (codes "L CMF;") ≡ Some (layer (codes "CMF"), [])
unfolding command_at body_at layer_at end_at
short_name = refl

with_blanks : first (codes "Layer NW1Z ;") ≡ Some (layer (codes "NW1Z"), [])
unfolding command_at body_at layer_at end_at
with_blanks = refl

-- Upper-case letters are no blanks.
in_capitals : first (codes "LAYER CMF;") ≡ None
unfolding command_at body_at layer_at end_at
in_capitals = refl

in_lower_case : first (codes "L abc;") ≡ None
unfolding command_at body_at layer_at end_at
in_lower_case = refl

five_letters : first (codes "L CMFAB;") ≡ None
unfolding command_at body_at layer_at end_at
five_letters = refl

-- ---- calls

steps : first (codes "C 1 R 1 1 T 2 3 M X MY;") ≡ Some (call (number 2 1) (rotate (spot (plus 6 1) (plus 8 1)) ∷ translate (spot (plus 12 2) (plus 14 3)) ∷ mirror_x ∷ mirror_y ∷ []), [])
unfolding command_at body_at call_at integer_at transforms_at transform_at point_at signed_at digits_at end_at limit
steps = refl

steps_in_words : first (codes "CALL 1 TRANSLATE 2 3 Mirror X ROTATE 0 -1;") ≡ Some (call (number 5 1) (translate (spot (plus 17 2) (plus 19 3)) ∷ mirror_x ∷ rotate (spot (plus 37 0) (minus 40 1)) ∷ []), [])
unfolding command_at body_at call_at integer_at transforms_at transform_at point_at signed_at digits_at end_at limit
steps_in_words = refl

mirror_in_capitals : first (codes "C 1 MIRROR X;") ≡ None
unfolding command_at body_at call_at integer_at transforms_at transform_at digits_at end_at limit
mirror_in_capitals = refl

no_axis : first (codes "C 1 MZ;") ≡ None
unfolding command_at body_at call_at integer_at transforms_at transform_at point_at signed_at digits_at end_at limit
no_axis = refl

-- ---- definitions

with_scale : first (codes "DS 1 25 2;") ≡ Some (start (number 3 1) (Some (number 5 25, number 8 2)), [])
unfolding command_at body_at definition_at start_at two_at next_at integer_at digits_at end_at limit
with_scale = refl

no_scale : first (codes "D S 7;") ≡ Some (start (number 4 7) None, [])
unfolding command_at body_at definition_at start_at two_at next_at integer_at digits_at end_at limit
no_scale = refl

half_a_scale : first (codes "DS 1 2;") ≡ None
unfolding command_at body_at definition_at start_at two_at next_at integer_at digits_at end_at limit
half_a_scale = refl

the_finish : first (codes "Def Finish ;") ≡ Some (finish, [])
unfolding command_at body_at definition_at end_at
the_finish = refl

in_all_capitals : first (codes "DEF FINISH;") ≡ None
unfolding command_at body_at definition_at end_at
in_all_capitals = refl

deletes : map first (codes "DD 1;" ∷ codes "D D 1;" ∷ codes "Delete Def 1;" ∷ []) ≡ None ∷ None ∷ None ∷ []
unfolding command_at body_at definition_at end_at
deletes = refl

-- ---- texts

nested : first (codes "(a (b;) c) ;E") ≡ Some (comment, codes "E")
unfolding command_at body_at comment_at end_at
nested = refl

nested_so : Takes (command comment ⋅ end comment) 0 (codes "(a (b;) c) ;E") (codes "E")
nested_so = spelled _ _ _ nested

one_too_many : first (codes "(a (b) c));E") ≡ None
unfolding command_at body_at comment_at end_at
one_too_many = refl

one_too_many_so : (c : Command) (rest : List ℕ) → Takes (command c ⋅ end c) 0 (codes "(a (b) c));E") rest → ⊥
one_too_many_so = not_spelled _ one_too_many

one_too_few : first (codes "(a (b c);E") ≡ None
unfolding command_at body_at comment_at end_at
one_too_few = refl

-- Blanks before the `;` are part of user text.
user_text : first (codes "94 A 1 1 ; E") ≡ Some (user (codes "94 A 1 1 "), codes "E")
unfolding command_at body_at user_at end_at
user_text = refl

-- Any digit begins a user command, whatever stands behind it.
other_user_texts : map first (codes "94;" ∷ codes "94A;" ∷ codes "0(x;" ∷ []) ≡ Some (user (codes "94"), []) ∷ Some (user (codes "94A"), []) ∷ Some (user (codes "0(x"), []) ∷ []
unfolding command_at body_at user_at end_at
other_user_texts = refl

no_user_end : first (codes "94 A 1 1") ≡ None
unfolding command_at body_at user_at end_at
no_user_end = refl

the_end : first (codes "End") ≡ None
unfolding command_at body_at
the_end = refl

-- ---- whole texts

-- the start of a definition, at the begin of a text
opening : Placed
opening = record { at = 0; what = start (number 3 1) None }

inside : walk 2 16 (codes " DS 1;9 a;DF;End") ≡ Some (record { at = 6; what = user (codes "9 a") } ∷ record { at = 1; what = start (number 4 1) None } ∷ [], codes "DF;End")
unfolding command_at body_at definition_at start_at two_at next_at integer_at digits_at user_at end_at limit
inside = refl

-- A start stands only outside of a definition, and a finish only inside.
where_they_stand : map (may_stand (opening ∷ [])) (opening.what ∷ finish ∷ comment ∷ []) ≡ false ∷ true ∷ true ∷ []
unfolding opening
where_they_stand = refl

where_they_stand_outside : map (may_stand []) (opening.what ∷ finish ∷ comment ∷ []) ≡ true ∷ false ∷ true ∷ []
unfolding opening
where_they_stand_outside = refl

-- No definition starts inside of one.
start_inside : walk 2 12 (codes "DS 1;DS 2;DF") ≡ None
unfolding command_at body_at definition_at start_at two_at next_at integer_at digits_at user_at end_at limit
start_inside = refl

-- A layer, its `;` and a blank are whole items, word by word.
one_layer : Items (record { at = 0; what = layer (codes "CMF") } ∷ []) 0 (codes "L CMF; ")
one_layer = record {
  front = [];
  back = codes "L CMF; ";
  first = refl;
  second = record {
    place = refl;
    scope = refl;
    word = record {
      front = codes "L CMF";
      back = codes "; ";
      first = record { front = codes "L"; back = codes " CMF"; first = refl; second = record { front = codes " "; back = codes "CMF"; first = refl; second = record { form = refl; whole = refl }; whole = refl }; whole = refl };
      second = record { front = []; back = codes "; "; first = refl; second = record { front = codes ";"; back = codes " "; first = refl; second = refl; whole = refl }; whole = refl };
      whole = refl;
    };
  };
  whole = refl;
}

-- A box of three numbers is no command: the longest front has 7 bytes.
longest_front : Longest (codes "L CMF; B 10 10 5") (record { at = 0; what = layer (codes "CMF") } ∷ []) (codes "L CMF; ") (codes "B 10 10 5")
unfolding command_at body_at layer_at box_at integer_at next_at next_point_at point_at signed_at digits_at end_at limit
longest_front =
    let here = longest_here 1 (codes "L CMF; B 10 10 5") (record { at = 0; what = layer (codes "CMF") } ∷ []) (codes "B 10 10 5") refl refl in
    let whole = ap length here.whole ∙ length-append _ (codes "B 10 10 5") in
    record { items = one_layer; whole = refl; longest = λ others longer more items cut. omega (arith, here.longest others longer more items cut, whole) }

-- Blanks and semicolons alone are items of no command, and what stands behind the `E` is free.
no_command : Spells (codes " ;; End (of all") []
no_command = record { front = codes " ;; "; rest = codes "nd (of all"; items = refl; outside = refl; whole = refl }

-- A text that ends without an `E`, and an `E` inside of a definition.
no_end_at_all : (c : List Placed) → Spells [] c → ⊥
no_end_at_all c s = let long = ap length s.whole ∙ length-append s.front (codes "E" ++ s.rest) in omega (arith, long)

end_inside : (c : List Placed) → Spells (codes "DS 1;E") c → ⊥
unfolding command_at body_at definition_at start_at two_at next_at integer_at digits_at end_at limit opening
end_inside c s =
    let here = longest_here 1 (codes "DS 1;E") (opening ∷ []) (codes "E") refl refl in
    let one = longest_one (codes "DS 1;E") c (opening ∷ []) _ _ _ _ (spells_longest (codes "DS 1;E") c s) here in
    let no : true ≡ false = ap is_inside (sym one.0) ∙ s.outside in
    cc
