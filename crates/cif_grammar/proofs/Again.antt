-- Commands: what is spelled so is read, whatever follows.
use Rattle.std.proofs.Common.{◌≡◌, ℕ, zero, suc, ◌+◌, ◌≤◌, Bool, true, false, if◌then◌else◌, nat_lt, List, [], ◌∷◌, ◌++◌, length, take, drop, codes, Option, Some, None, refl, ap, ◌∙◌, arith, append_assoc}
use Rattle.std.specs.List.{list_all}
use Rattle.std.specs.Char.{is_ascii_digit}
use Rattle.std.proofs.lemmas.Bool.{and_from, and_parts, lt-ltb}
use Rattle.std.proofs.lemmas.Bool.Decides.{nat_tests}
use Rattle.std.proofs.lemmas.List.{length-append}
use Rattle.plane_geom.specs.Names.{is_short, is_short_byte}
use Rattle.cif_grammar.specs.declared.spelled.Number.{Number}
use Rattle.cif_grammar.specs.declared.spelled.Spot.{Spot}
use Rattle.cif_grammar.specs.Words.{Then, ◌⋅◌, Literally, One, Run, is_blank, is_sep, skip}
use Rattle.cif_grammar.specs.Grammar.{Points, Transform, translate, mirror_x, mirror_y, rotate, Command, box, polygon, wire, layer, call, user, comment, start, finish, next, more_points, direction, scale, transform, transforms, is_user, command, end, is_gap}
use Rattle.cif_grammar.specs.Readers.{onto, and_more, repeated, or_none, digits_at, integer_at, signed_at, point_at, next_at, next_point_at, more_points_at, mirror_in, transform_in, transform_at, transforms_at, box_at, polygon_at, width_at, wire_at, layer_in, layer_at, call_at, is_text, user_at, closing, comment_at, two_at, start_at, definition_in, definition_at, body_in, body_at, semicolon_at, end_at, command_at}
use Rattle.cif_grammar.proofs.Runs.{begins, skip_run, skip_over, len_run, take_run, drop_run}
use Rattle.cif_grammar.proofs.Joins.{parts_of, one_begins}
use Rattle.cif_grammar.proofs.Points.{digit_is_text, blank_is_sep, sep_no_digit, integer_again, point_again, next_again, next_point_again}
use Rattle.cif_grammar.proofs.Repeats.{repeated_stop}
use Rattle.cif_grammar.proofs.Shorter.{next_point_shorter, transform_shorter}
use Rattle.cif_grammar.proofs.Nesting.{closing_again}

-- ---- where a command ends

-- Blanks and a `;` stand there.
record Ends (rest : List ℕ) : Type 0 where
  blanks : List ℕ
  tail : List ℕ
  are : list_all is_blank blanks ≡ true
  whole : rest ≡ blanks ++ (59 ∷ tail)

blank_no_digit : (b : ℕ) → is_blank b ≡ true → is_ascii_digit b ≡ false
blank_no_digit b h = grind (arith, nat_tests)

blank_no_short : (b : ℕ) → is_blank b ≡ true → is_short_byte b ≡ false
blank_no_short b h = grind (arith, nat_tests)

blanks_are_seps : (bs : List ℕ) → list_all is_blank bs ≡ true → list_all is_sep bs ≡ true
blanks_are_seps [] h = refl
blanks_are_seps (b ∷ bs) h =
    let parts = and_parts (is_blank b) (list_all is_blank bs) h in
    and_from _ _ (blank_is_sep b parts.0) (blanks_are_seps bs parts.1)

blanks_begin : (test : ℕ → Bool) → ((b : ℕ) → is_blank b ≡ true → test b ≡ false) → (blanks rest : List ℕ) → list_all is_blank blanks ≡ true → begins test rest ≡ false → begins test (blanks ++ rest) ≡ false
blanks_begin test h [] rest are stop = stop
blanks_begin test h (b ∷ bs) rest are stop = h b ((and_parts (is_blank b) (list_all is_blank bs) are).0)

ends_no_digit : (rest : List ℕ) → Ends rest → begins is_ascii_digit rest ≡ false
ends_no_digit rest e = ap (begins is_ascii_digit) e.whole ∙ blanks_begin is_ascii_digit blank_no_digit e.blanks (59 ∷ e.tail) e.are refl

ends_no_short : (rest : List ℕ) → Ends rest → begins is_short_byte rest ≡ false
ends_no_short rest e = ap (begins is_short_byte) e.whole ∙ blanks_begin is_short_byte blank_no_short e.blanks (59 ∷ e.tail) e.are refl

blanks_no_point : (total : ℕ) (blanks tail : List ℕ) → list_all is_blank blanks ≡ true → next_point_at total (blanks ++ (59 ∷ tail)) ≡ None
unfolding next_point_at point_at signed_at digits_at
blanks_no_point total [] tail are = refl
blanks_no_point total (b ∷ bs) tail are =
    let parts = and_parts (is_blank b) (list_all is_blank bs) are in
    let stop = skip_run is_sep bs (59 ∷ tail) (blanks_are_seps bs parts.1) refl in
    rw (blank_is_sep b parts.0, stop) refl

blanks_no_next : (total : ℕ) (blanks tail : List ℕ) → list_all is_blank blanks ≡ true → next_at total (blanks ++ (59 ∷ tail)) ≡ None
unfolding next_at integer_at digits_at
blanks_no_next total [] tail are = refl
blanks_no_next total (b ∷ bs) tail are =
    let parts = and_parts (is_blank b) (list_all is_blank bs) are in
    let stop = skip_run is_sep bs (59 ∷ tail) (blanks_are_seps bs parts.1) refl in
    rw (blank_is_sep b parts.0, stop) refl

no_point : (total : ℕ) (rest : List ℕ) → Ends rest → next_point_at total rest ≡ None
no_point total rest e = ap (next_point_at total) e.whole ∙ blanks_no_point total e.blanks e.tail e.are

no_two : (total : ℕ) (rest : List ℕ) → Ends rest → two_at total rest ≡ None
unfolding two_at
no_two total rest e = rw (ap (next_at total) e.whole ∙ blanks_no_next total e.blanks e.tail e.are) refl

skip_end : (rest : List ℕ) (e : Ends rest) → skip is_blank rest ≡ 59 ∷ e.tail
skip_end rest e = ap (skip is_blank) e.whole ∙ skip_run is_blank e.blanks (59 ∷ e.tail) e.are refl

no_transform : (total : ℕ) (rest : List ℕ) → Ends rest → transform_at total rest ≡ None
unfolding transform_at
no_transform total rest e = ap (transform_in total) (skip_end rest e)

-- ---- points and transformations, as often as they stand there

regroup : {A B : ℕ → List ℕ → Type 0} {at : ℕ} {word : List ℕ} (w : Then A B at word) (rest : List ℕ) → word ++ rest ≡ w.front ++ (w.back ++ rest)
regroup w rest = ap (λ s. s ++ rest) w.whole ∙ append_assoc w.front w.back rest

next_no_digit : {B : ℕ → List ℕ → Type 0} {at : ℕ} {word : List ℕ} (w : Then (One is_sep) B at word) (rest : List ℕ) → begins is_ascii_digit (word ++ rest) ≡ false
next_no_digit {B} {at} w rest = ap (begins is_ascii_digit) (regroup w rest) ∙ one_begins is_sep is_ascii_digit at w.front (w.back ++ rest) w.first sep_no_digit

points_no_digit : (ps : List Spot) (at : ℕ) (word rest : List ℕ) → more_points ps at word → Ends rest → begins is_ascii_digit (word ++ rest) ≡ false
points_no_digit [] at word rest w e = ap (λ s. begins is_ascii_digit (s ++ rest)) w ∙ ends_no_digit rest e
points_no_digit (p ∷ ps) at word rest w e = ap (begins is_ascii_digit) (regroup w rest) ∙ next_no_digit w.first (w.back ++ rest)

points_again : (total n at : ℕ) (ps : List Spot) (word rest : List ℕ) → at + length (word ++ rest) ≡ total → more_points ps at word → Ends rest → length (word ++ rest) ≤ n → repeated (next_point_at total) n (word ++ rest) ≡ (ps, rest)
points_again total n at [] word rest h w e k = ap (λ s. repeated (next_point_at total) n (s ++ rest)) w ∙ repeated_stop (next_point_at total) n rest (no_point total rest e)
points_again total zero at (p ∷ ps) word rest h w e k =
    let parts = parts_of total at word rest h w in
    let one = ap (next_point_at total) parts.regrouped ∙ next_point_again total at p parts.front (parts.back ++ rest) parts.here parts.first (points_no_digit ps _ parts.back rest parts.second e) in
    absurd (omega (arith, next_point_shorter total (word ++ rest) p (parts.back ++ rest) one))
points_again total (suc n) at (p ∷ ps) word rest h w e k =
    let parts = parts_of total at word rest h w in
    let one = ap (next_point_at total) parts.regrouped ∙ next_point_again total at p parts.front (parts.back ++ rest) parts.here parts.first (points_no_digit ps _ parts.back rest parts.second e) in
    let less = next_point_shorter total (word ++ rest) p (parts.back ++ rest) one in
    ap (λ o. and_more (word ++ rest) o (repeated (next_point_at total) n)) one ∙ ap (onto p) (points_again total n _ ps parts.back rest parts.there parts.second e (omega arith))

more_points_again : (total at : ℕ) (ps : List Spot) (word rest : List ℕ) → at + length (word ++ rest) ≡ total → more_points ps at word → Ends rest → more_points_at total (word ++ rest) ≡ (ps, rest)
unfolding more_points_at
more_points_again total at ps word rest h w e = points_again total (length (word ++ rest)) at ps word rest h w e (omega arith)

-- a letter, and the next word
lettered : {B : ℕ → List ℕ → Type 0} {at : ℕ} {word : List ℕ} (letter : ℕ) (w : Then (Literally (letter ∷ [])) B at word) (rest : List ℕ) → word ++ rest ≡ letter ∷ (w.back ++ rest)
lettered letter w rest = regroup w rest ∙ ap (λ s. s ++ (w.back ++ rest)) w.first

transform_begins : (test : ℕ → Bool) → test 84 ≡ false → test 77 ≡ false → test 82 ≡ false → (t : Transform) (at : ℕ) (word rest : List ℕ) → transform t at word → begins test (word ++ rest) ≡ false
transform_begins test a b c (translate p) at word rest w = ap (begins test) (lettered 84 w rest) ∙ a
transform_begins test a b c mirror_x at word rest w = ap (begins test) (lettered 77 w rest) ∙ b
transform_begins test a b c mirror_y at word rest w = ap (begins test) (lettered 77 w rest) ∙ b
transform_begins test a b c (rotate d) at word rest w = ap (begins test) (lettered 82 w rest) ∙ c

mirror_again : (axis : ℕ) (at : ℕ) (word rest : List ℕ) → is_blank axis ≡ false → (Run is_blank ⋅ Literally (axis ∷ [])) at word → skip is_blank (word ++ rest) ≡ axis ∷ rest
mirror_again axis at word rest stop w = ap (skip is_blank) (regroup w rest ∙ ap (λ s. w.front ++ (s ++ rest)) w.second) ∙ skip_run is_blank w.front (axis ∷ rest) w.first stop

transform_in_again : (total at : ℕ) (t : Transform) (word rest : List ℕ) → at + length (word ++ rest) ≡ total → transform t at word → begins is_ascii_digit rest ≡ false → transform_in total (word ++ rest) ≡ Some (t, rest)
transform_in_again total at (translate p) word rest h w stop =
    let parts = parts_of total at word rest h w in
    ap (transform_in total) (parts.regrouped ∙ ap (λ s. s ++ (parts.back ++ rest)) parts.first) ∙ rw (point_again total _ p parts.back rest parts.there parts.second stop) refl
transform_in_again total at mirror_x word rest h w stop = ap (transform_in total) (lettered 77 w rest) ∙ ap mirror_in (mirror_again 88 _ w.back rest refl w.second)
transform_in_again total at mirror_y word rest h w stop = ap (transform_in total) (lettered 77 w rest) ∙ ap mirror_in (mirror_again 89 _ w.back rest refl w.second)
transform_in_again total at (rotate d) word rest h w stop =
    let parts = parts_of total at word rest h w in
    ap (transform_in total) (parts.regrouped ∙ ap (λ s. s ++ (parts.back ++ rest)) parts.first) ∙ rw (point_again total _ d parts.back rest parts.there parts.second stop) refl

transforms_no_digit : (ts : List Transform) (at : ℕ) (word rest : List ℕ) → transforms ts at word → Ends rest → begins is_ascii_digit (word ++ rest) ≡ false
transforms_no_digit [] at word rest w e = ap (λ s. begins is_ascii_digit (s ++ rest)) w ∙ ends_no_digit rest e
transforms_no_digit (t ∷ ts) at word rest w e =
    ap (begins is_ascii_digit) (regroup w rest)
    ∙ blanks_begin is_ascii_digit blank_no_digit w.front (w.back ++ rest) w.first (ap (begins is_ascii_digit) (regroup w.second rest) ∙ transform_begins is_ascii_digit refl refl refl t _ w.second.front (w.second.back ++ rest) w.second.first)

transform_again : (total at : ℕ) (t : Transform) (ts : List Transform) (word rest : List ℕ) (h : at + length (word ++ rest) ≡ total) (w : transforms (t ∷ ts) at word) → Ends rest → transform_at total (word ++ rest) ≡ Some (t, w.second.back ++ rest)
unfolding transform_at
transform_again total at t ts word rest h w e =
    let outer = parts_of total at word rest h w in
    let inner = parts_of total _ w.back rest outer.there w.second in
    let no_blank = ap (begins is_blank) (regroup w.second rest) ∙ transform_begins is_blank refl refl refl t _ w.second.front (w.second.back ++ rest) w.second.first in
    ap (λ s. transform_in total (skip is_blank s)) (regroup w rest)
    ∙ ap (transform_in total) (skip_run is_blank w.front (w.back ++ rest) w.first no_blank ∙ regroup w.second rest)
    ∙ transform_in_again total _ t w.second.front (w.second.back ++ rest) inner.here w.second.first (transforms_no_digit ts _ w.second.back rest w.second.second e)

many_again : (total n at : ℕ) (ts : List Transform) (word rest : List ℕ) → at + length (word ++ rest) ≡ total → transforms ts at word → Ends rest → length (word ++ rest) ≤ n → repeated (transform_at total) n (word ++ rest) ≡ (ts, rest)
many_again total n at [] word rest h w e k = ap (λ s. repeated (transform_at total) n (s ++ rest)) w ∙ repeated_stop (transform_at total) n rest (no_transform total rest e)
many_again total zero at (t ∷ ts) word rest h w e k =
    absurd (omega (arith, transform_shorter total (word ++ rest) t (w.second.back ++ rest) (transform_again total at t ts word rest h w e)))
many_again total (suc n) at (t ∷ ts) word rest h w e k =
    let one = transform_again total at t ts word rest h w e in
    let less = transform_shorter total (word ++ rest) t (w.second.back ++ rest) one in
    let outer = parts_of total at word rest h w in
    let inner = parts_of total _ w.back rest outer.there w.second in
    ap (λ o. and_more (word ++ rest) o (repeated (transform_at total) n)) one ∙ ap (onto t) (many_again total n _ ts w.second.back rest inner.there w.second.second e (omega arith))

transforms_again : (total at : ℕ) (ts : List Transform) (word rest : List ℕ) → at + length (word ++ rest) ≡ total → transforms ts at word → Ends rest → transforms_at total (word ++ rest) ≡ (ts, rest)
unfolding transforms_at
transforms_again total at ts word rest h w e = many_again total (length (word ++ rest)) at ts word rest h w e (omega arith)

-- ---- the rows

further_no_digit : {B C : ℕ → List ℕ → Type 0} {at : ℕ} {word : List ℕ} (w : Then (Then (One is_sep) B) C at word) (rest : List ℕ) → begins is_ascii_digit (word ++ rest) ≡ false
further_no_digit w rest = ap (begins is_ascii_digit) (regroup w rest) ∙ next_no_digit w.first (w.back ++ rest)

direction_no_digit : (d : Option Spot) (at : ℕ) (word rest : List ℕ) → direction d at word → Ends rest → begins is_ascii_digit (word ++ rest) ≡ false
direction_no_digit None at word rest w e = ap (λ s. begins is_ascii_digit (s ++ rest)) w ∙ ends_no_digit rest e
direction_no_digit (Some q) at word rest w e = next_no_digit w rest

direction_again : (total at : ℕ) (d : Option Spot) (word rest : List ℕ) → at + length (word ++ rest) ≡ total → direction d at word → Ends rest → or_none (word ++ rest) (next_point_at total (word ++ rest)) ≡ (d, rest)
direction_again total at None word rest h w e = ap (λ s. or_none (s ++ rest) (next_point_at total (s ++ rest))) w ∙ ap (or_none rest) (no_point total rest e)
direction_again total at (Some q) word rest h w e = ap (or_none (word ++ rest)) (next_point_again total at q word rest h w (ends_no_digit rest e))

two_again : (total at : ℕ) (a b : Number) (word rest : List ℕ) → at + length (word ++ rest) ≡ total → (next a ⋅ next b) at word → Ends rest → two_at total (word ++ rest) ≡ Some ((a, b), rest)
unfolding two_at
two_again total at a b word rest h w e =
    let p = parts_of total at word rest h w in
    let first = ap (next_at total) p.regrouped ∙ next_again total at a p.front (p.back ++ rest) p.here p.first (next_no_digit p.second rest) in
    rw (first, next_again total _ b p.back rest p.there p.second (ends_no_digit rest e)) refl

scale_no_digit : (s : Option (Number × Number)) (at : ℕ) (word rest : List ℕ) → scale s at word → Ends rest → begins is_ascii_digit (word ++ rest) ≡ false
scale_no_digit None at word rest w e = ap (λ s. begins is_ascii_digit (s ++ rest)) w ∙ ends_no_digit rest e
scale_no_digit (Some s) at word rest w e = further_no_digit w rest

scale_again : (total at : ℕ) (s : Option (Number × Number)) (word rest : List ℕ) → at + length (word ++ rest) ≡ total → scale s at word → Ends rest → or_none (word ++ rest) (two_at total (word ++ rest)) ≡ (s, rest)
scale_again total at None word rest h w e = ap (λ s. or_none (s ++ rest) (two_at total (s ++ rest))) w ∙ ap (or_none rest) (no_two total rest e)
scale_again total at (Some s) word rest h w e = ap (or_none (word ++ rest)) (two_again total at s.0 s.1 word rest h w e)

box_steps : (total : ℕ) (b0 b1 b2 b3 rest : List ℕ) (l w : Number) (c : Spot) (d : Option Spot) → integer_at total b0 ≡ Some (l, b1) → next_at total b1 ≡ Some (w, b2) → next_point_at total b2 ≡ Some (c, b3) → or_none b3 (next_point_at total b3) ≡ (d, rest) → box_at total b0 ≡ Some (box l w c d, rest)
unfolding box_at
box_steps total b0 b1 b2 b3 rest l w c d e1 e2 e3 e4 = rw (e1, e2, e3) (ap (λ (y : Option Spot × List ℕ). Some (box l w c y.0, y.1)) e4)

box_again : (total at : ℕ) (l w : Number) (c : Spot) (d : Option Spot) (word rest : List ℕ) → at + length (word ++ rest) ≡ total → command (box l w c d) at word → Ends rest → body_at total (word ++ rest) ≡ Some (box l w c d, rest)
unfolding body_at
box_again total at l w c d word rest h t e =
    let p0 = parts_of total at word rest h t in
    let p1 = parts_of total _ p0.back rest p0.there p0.second in
    let p2 = parts_of total _ p1.back rest p1.there p1.second in
    let p3 = parts_of total _ p2.back rest p2.there p2.second in
    let e1 = ap (integer_at total) p1.regrouped ∙ integer_again total _ l p1.front (p1.back ++ rest) p1.here p1.first (further_no_digit p1.second rest) in
    let e2 = ap (next_at total) p2.regrouped ∙ next_again total _ w p2.front (p2.back ++ rest) p2.here p2.first (further_no_digit p2.second rest) in
    let e3 = ap (next_point_at total) p3.regrouped ∙ next_point_again total _ c p3.front (p3.back ++ rest) p3.here p3.first (direction_no_digit d _ p3.back rest p3.second e) in
    let e4 = direction_again total _ d p3.back rest p3.there p3.second e in
    ap (body_in total) (lettered 66 t rest) ∙ box_steps total _ _ _ _ rest l w c d e1 e2 e3 e4

polygon_steps : (total : ℕ) (b0 b1 rest : List ℕ) (p : Points) → point_at total b0 ≡ Some (p.first, b1) → more_points_at total b1 ≡ (p.others, rest) → polygon_at total b0 ≡ Some (polygon p, rest)
unfolding polygon_at
polygon_steps total b0 b1 rest p e1 e2 = rw e1 (ap (λ (y : List Spot × List ℕ). Some (polygon (record { first = p.first; others = y.0 }), y.1)) e2)

polygon_again : (total at : ℕ) (p : Points) (word rest : List ℕ) → at + length (word ++ rest) ≡ total → command (polygon p) at word → Ends rest → body_at total (word ++ rest) ≡ Some (polygon p, rest)
unfolding body_at
polygon_again total at p word rest h t e =
    let p0 = parts_of total at word rest h t in
    let p1 = parts_of total _ p0.back rest p0.there p0.second in
    let e1 = ap (point_at total) p1.regrouped ∙ point_again total _ p.first p1.front (p1.back ++ rest) p1.here p1.first (points_no_digit p.others _ p1.back rest p1.second e) in
    let e2 = more_points_again total _ p.others p1.back rest p1.there p1.second e in
    ap (body_in total) (lettered 80 t rest) ∙ polygon_steps total _ _ rest p e1 e2

wire_steps : (total : ℕ) (b0 b1 b2 rest : List ℕ) (w : Number) (p : Points) → integer_at total b0 ≡ Some (w, b1) → next_point_at total b1 ≡ Some (p.first, b2) → more_points_at total b2 ≡ (p.others, rest) → wire_at total b0 ≡ Some (wire w p, rest)
unfolding wire_at width_at
wire_steps total b0 b1 b2 rest w p e1 e2 e3 = rw (e1, e2) (ap (λ (y : List Spot × List ℕ). Some (wire w (record { first = p.first; others = y.0 }), y.1)) e3)

wire_again : (total at : ℕ) (w : Number) (p : Points) (word rest : List ℕ) → at + length (word ++ rest) ≡ total → command (wire w p) at word → Ends rest → body_at total (word ++ rest) ≡ Some (wire w p, rest)
unfolding body_at
wire_again total at w p word rest h t e =
    let p0 = parts_of total at word rest h t in
    let p1 = parts_of total _ p0.back rest p0.there p0.second in
    let p2 = parts_of total _ p1.back rest p1.there p1.second in
    let e1 = ap (integer_at total) p1.regrouped ∙ integer_again total _ w p1.front (p1.back ++ rest) p1.here p1.first (further_no_digit p1.second rest) in
    let e2 = ap (next_point_at total) p2.regrouped ∙ next_point_again total _ p.first p2.front (p2.back ++ rest) p2.here p2.first (points_no_digit p.others _ p2.back rest p2.second e) in
    let e3 = more_points_again total _ p.others p2.back rest p2.there p2.second e in
    ap (body_in total) (lettered 87 t rest) ∙ wire_steps total _ _ _ rest w p e1 e2 e3

short_no_blank : (b : ℕ) → is_short_byte b ≡ true → is_blank b ≡ false
short_no_blank b h = grind (arith, nat_tests)

-- all bytes of a name are digits or upper-case letters, and there is one
short_parts : (name : List ℕ) → is_short name ≡ true → list_all is_short_byte name ≡ true
short_parts name h = (and_parts _ (list_all is_short_byte name) h).1

short_begins : (name rest : List ℕ) → is_short name ≡ true → begins is_blank (name ++ rest) ≡ false
short_begins [] rest h = cc
short_begins (b ∷ bs) rest h = short_no_blank b ((and_parts (is_short_byte b) (list_all is_short_byte bs) (short_parts (b ∷ bs) h)).0)

name_of_len : List ℕ → ℕ → Option (Command × List ℕ)
name_of_len bytes n = if is_short (take n bytes) then Some (layer (take n bytes), drop n bytes) else None

name_again : (name rest : List ℕ) → is_short name ≡ true → Ends rest → layer_in (name ++ rest) ≡ Some (layer name, rest)
unfolding name_of_len
name_again name rest h e =
    let len = len_run is_short_byte name rest (short_parts name h) (ends_no_short rest e) in
    ap (name_of_len (name ++ rest)) len ∙ rw (take_run name rest, drop_run name rest, h) refl

layer_again : (total at : ℕ) (name word rest : List ℕ) → at + length (word ++ rest) ≡ total → command (layer name) at word → Ends rest → body_at total (word ++ rest) ≡ Some (layer name, rest)
unfolding body_at layer_at
layer_again total at name word rest h t e =
    let inner = regroup t.second rest ∙ ap (λ s. t.second.front ++ (s ++ rest)) t.second.second.whole in
    let found = ap (skip is_blank) inner ∙ skip_run is_blank t.second.front (name ++ rest) t.second.first (short_begins name rest t.second.second.form) in
    ap (body_in total) (lettered 76 t rest) ∙ ap layer_in found ∙ name_again name rest t.second.second.form e

call_steps : (total : ℕ) (b0 b1 rest : List ℕ) (n : Number) (ts : List Transform) → integer_at total b0 ≡ Some (n, b1) → transforms_at total b1 ≡ (ts, rest) → call_at total b0 ≡ Some (call n ts, rest)
unfolding call_at
call_steps total b0 b1 rest n ts e1 e2 = rw e1 (ap (λ (y : List Transform × List ℕ). Some (call n y.0, y.1)) e2)

call_again : (total at : ℕ) (n : Number) (ts : List Transform) (word rest : List ℕ) → at + length (word ++ rest) ≡ total → command (call n ts) at word → Ends rest → body_at total (word ++ rest) ≡ Some (call n ts, rest)
unfolding body_at
call_again total at n ts word rest h t e =
    let p0 = parts_of total at word rest h t in
    let p1 = parts_of total _ p0.back rest p0.there p0.second in
    let e1 = ap (integer_at total) p1.regrouped ∙ integer_again total _ n p1.front (p1.back ++ rest) p1.here p1.first (transforms_no_digit ts _ p1.back rest p1.second e) in
    let e2 = transforms_again total _ ts p1.back rest p1.there p1.second e in
    ap (body_in total) (lettered 67 t rest) ∙ call_steps total _ _ rest n ts e1 e2

text_of_len : List ℕ → ℕ → Option (Command × List ℕ)
text_of_len bytes n = if nat_lt n (length bytes) then Some (user (take n bytes), drop n bytes) else None

user_again : (total b : ℕ) (bs tail : List ℕ) → is_user (b ∷ bs) ≡ true → body_at total ((b ∷ bs) ++ (59 ∷ tail)) ≡ Some (user (b ∷ bs), 59 ∷ tail)
unfolding body_at user_at text_of_len
user_again total b bs tail form =
    let parts = and_parts (is_ascii_digit b) (list_all is_text bs) form in
    let len = len_run is_text (b ∷ bs) (59 ∷ tail) (and_from _ _ (digit_is_text b parts.0) parts.1) refl in
    let inside = lt-ltb (length (b ∷ bs)) (length ((b ∷ bs) ++ (59 ∷ tail))) (omega (arith, length-append (b ∷ bs) (59 ∷ tail))) in
    rw parts.0 (ap (text_of_len ((b ∷ bs) ++ (59 ∷ tail))) len ∙ rw (inside, take_run (b ∷ bs) (59 ∷ tail), drop_run (b ∷ bs) (59 ∷ tail)) refl)

comment_again : (total at : ℕ) (word rest : List ℕ) → command comment at word → body_at total (word ++ rest) ≡ Some (comment, rest)
unfolding body_at comment_at
comment_again total at word rest t =
    let inner = regroup t.second rest ∙ ap (λ s. t.second.front ++ (s ++ rest)) t.second.second in
    let matched = t.second.first in
    let close = closing_again t.second.front rest 0 (record { all = omega (arith, matched.all); fronts = λ front back h. omega (arith, matched.fronts front back h) }) in
    ap (body_in total) (lettered 40 t rest) ∙ rw (ap (closing 0) inner ∙ close) refl

-- a `D`, blanks, and the next letter
definition_letter : {B : ℕ → List ℕ → Type 0} {at : ℕ} {word : List ℕ} (total letter : ℕ) (w : Then (Literally (codes "D")) (Then (Run is_blank) (Then (Literally (letter ∷ [])) B)) at word) (rest : List ℕ) → is_blank letter ≡ false → body_at total (word ++ rest) ≡ definition_in total (letter ∷ (w.second.second.back ++ rest))
unfolding body_at definition_at
definition_letter total letter w rest stop =
    let inner = regroup w.second rest ∙ ap (λ s. w.second.front ++ s) (lettered letter w.second.second rest) in
    let found = ap (skip is_blank) inner ∙ skip_run is_blank w.second.front (letter ∷ (w.second.second.back ++ rest)) w.second.first stop in
    ap (body_in total) (lettered 68 w rest) ∙ ap (definition_in total) found

start_steps : (total : ℕ) (b0 b1 rest : List ℕ) (n : Number) (s : Option (Number × Number)) → integer_at total b0 ≡ Some (n, b1) → or_none b1 (two_at total b1) ≡ (s, rest) → start_at total b0 ≡ Some (start n s, rest)
unfolding start_at
start_steps total b0 b1 rest n s e1 e2 = rw e1 (ap (λ (y : Option (Number × Number) × List ℕ). Some (start n y.0, y.1)) e2)

start_again : (total at : ℕ) (n : Number) (s : Option (Number × Number)) (word rest : List ℕ) → at + length (word ++ rest) ≡ total → command (start n s) at word → Ends rest → body_at total (word ++ rest) ≡ Some (start n s, rest)
start_again total at n s word rest h t e =
    let p0 = parts_of total at word rest h t in
    let p1 = parts_of total _ p0.back rest p0.there p0.second in
    let p2 = parts_of total _ p1.back rest p1.there p1.second in
    let p3 = parts_of total _ p2.back rest p2.there p2.second in
    let e1 = ap (integer_at total) p3.regrouped ∙ integer_again total _ n p3.front (p3.back ++ rest) p3.here p3.first (scale_no_digit s _ p3.back rest p3.second e) in
    let e2 = scale_again total _ s p3.back rest p3.there p3.second e in
    definition_letter total 83 t rest refl ∙ start_steps total _ _ rest n s e1 e2

finish_again : (total at : ℕ) (word rest : List ℕ) → command finish at word → body_at total (word ++ rest) ≡ Some (finish, rest)
unfolding body_at definition_at
finish_again total at word rest t =
    let inner = regroup t.second rest ∙ ap (λ s. t.second.front ++ (s ++ rest)) t.second.second in
    let found = ap (skip is_blank) inner ∙ skip_run is_blank t.second.front (70 ∷ rest) t.second.first refl in
    ap (body_in total) (lettered 68 t rest) ∙ ap (definition_in total) found

-- ---- a command and its end

semicolon_again : (at : ℕ) (word more : List ℕ) → (Literally (codes ";") ⋅ Run is_gap) at word → semicolon_at (word ++ more) ≡ Some (skip is_gap more)
semicolon_again at word more w = ap semicolon_at (lettered 59 w more) ∙ ap (λ s. Some s) (skip_over is_gap w.back more w.second)

abbrev plain_end : (at : ℕ) (word more : List ℕ) → (Run is_blank ⋅ Literally (codes ";") ⋅ Run is_gap) at word → Ends (word ++ more)
plain_end at word more w = record { blanks = w.front; tail = w.second.back ++ more; are = w.first; whole = regroup w more ∙ ap (λ s. w.front ++ s) (lettered 59 w.second more) }

plain_end_again : (at : ℕ) (word more : List ℕ) → (Run is_blank ⋅ Literally (codes ";") ⋅ Run is_gap) at word → semicolon_at (skip is_blank (word ++ more)) ≡ Some (skip is_gap more)
plain_end_again at word more w =
    let found = skip_end (word ++ more) (plain_end at word more w) in
    ap semicolon_at found ∙ ap (λ s. Some s) (skip_over is_gap w.second.back more w.second.second)

pub body_then_end : (total : ℕ) (b0 b1 b2 : List ℕ) (c : Command) → body_at total b0 ≡ Some (c, b1) → end_at c b1 ≡ Some b2 → command_at total b0 ≡ Some (c, b2)
unfolding command_at
body_then_end total b0 b1 b2 c e1 e2 = rw (e1, e2) refl

user_whole : (total at : ℕ) (text word more : List ℕ) → (command (user text) ⋅ end (user text)) at word → command_at total (word ++ more) ≡ Some (user text, skip is_gap more)
unfolding end_at
user_whole total at [] word more w = let form = w.first.form in cc
user_whole total at (b ∷ bs) word more w =
    let same = regroup w more ∙ ap (λ s. s ++ (w.back ++ more)) w.first.whole ∙ ap (λ s. (b ∷ bs) ++ s) (lettered 59 w.second more) in
    body_then_end total _ _ _ (user (b ∷ bs)) (ap (body_at total) same ∙ user_again total b bs (w.second.back ++ more) w.first.form) (ap (λ s. Some s) (skip_over is_gap w.second.back more w.second.second))

-- A command that is spelled with its end is read there, whatever follows.
pub command_again : (total at : ℕ) (c : Command) (word more : List ℕ) → at + length (word ++ more) ≡ total → (command c ⋅ end c) at word → command_at total (word ++ more) ≡ Some (c, skip is_gap more)
unfolding end_at
command_again total at (box l w p d) word more h t =
    let q = parts_of total at word more h t in
    body_then_end total _ _ _ _ (ap (body_at total) q.regrouped ∙ box_again total at l w p d q.front (q.back ++ more) q.here q.first (plain_end _ q.back more q.second)) (plain_end_again _ q.back more q.second)
command_again total at (polygon p) word more h t =
    let q = parts_of total at word more h t in
    body_then_end total _ _ _ _ (ap (body_at total) q.regrouped ∙ polygon_again total at p q.front (q.back ++ more) q.here q.first (plain_end _ q.back more q.second)) (plain_end_again _ q.back more q.second)
command_again total at (wire w p) word more h t =
    let q = parts_of total at word more h t in
    body_then_end total _ _ _ _ (ap (body_at total) q.regrouped ∙ wire_again total at w p q.front (q.back ++ more) q.here q.first (plain_end _ q.back more q.second)) (plain_end_again _ q.back more q.second)
command_again total at (layer name) word more h t =
    let q = parts_of total at word more h t in
    body_then_end total _ _ _ _ (ap (body_at total) q.regrouped ∙ layer_again total at name q.front (q.back ++ more) q.here q.first (plain_end _ q.back more q.second)) (plain_end_again _ q.back more q.second)
command_again total at (call n ts) word more h t =
    let q = parts_of total at word more h t in
    body_then_end total _ _ _ _ (ap (body_at total) q.regrouped ∙ call_again total at n ts q.front (q.back ++ more) q.here q.first (plain_end _ q.back more q.second)) (plain_end_again _ q.back more q.second)
command_again total at (user text) word more h t = user_whole total at text word more t
command_again total at comment word more h t =
    let q = parts_of total at word more h t in
    body_then_end total _ _ _ _ (ap (body_at total) q.regrouped ∙ comment_again total at q.front (q.back ++ more) q.first) (plain_end_again _ q.back more q.second)
command_again total at (start n s) word more h t =
    let q = parts_of total at word more h t in
    body_then_end total _ _ _ _ (ap (body_at total) q.regrouped ∙ start_again total at n s q.front (q.back ++ more) q.here q.first (plain_end _ q.back more q.second)) (plain_end_again _ q.back more q.second)
command_again total at finish word more h t =
    let q = parts_of total at word more h t in
    body_then_end total _ _ _ _ (ap (body_at total) q.regrouped ∙ finish_again total at q.front (q.back ++ more) q.first) (plain_end_again _ q.back more q.second)
