-- Commands: what is read is spelled so.
use Rattle.std.proofs.Common.{◌≡◌, ℕ, zero, suc, ◌+◌, ◌==◌, Bool, true, false, cond, nat_lt, List, [], ◌∷◌, length, take, codes, Option, Some, None, option_map, refl, sym, ap, ◌∙◌, subst, arith}
use Rattle.std.specs.List.{prefix_len, list_all}
use Rattle.std.specs.Char.{is_ascii_digit}
use Rattle.std.proofs.lemmas.Bool.{eqb-true, and_from}
use Rattle.std.proofs.lemmas.List.{take-append-drop}
use Rattle.std.proofs.lemmas.Option.{same_Some}
use Rattle.plane_geom.specs.Names.{is_short, is_short_byte}
use Rattle.plane_geom.proofs.Options.{bind_some, map_some, guarded}
use Rattle.cif_grammar.specs.declared.spelled.Number.{Number}
use Rattle.cif_grammar.specs.declared.spelled.Spot.{Spot}
use Rattle.cif_grammar.specs.Words.{◌⋅◌, Takes, Literally, Run, is_blank, skip}
use Rattle.cif_grammar.specs.Grammar.{Transform, translate, mirror_x, mirror_y, rotate, Command, box, polygon, wire, layer, call, user, comment, start, finish, next, more_points, direction, scale, transform, transforms, Short, Matched, is_user, command, end, is_gap}
use Rattle.cif_grammar.specs.Readers.{and_more, repeated, or_none, integer_at, point_at, next_at, next_point_at, more_points_at, mirror_in, transform_in, transform_at, transforms_at, box_at, polygon_at, width_at, wire_at, layer_at, call_at, is_text, user_at, closing, comment_at, two_at, start_at, definition_in, definition_at, body_at, semicolon_at, end_at, command_at}
use Rattle.cif_grammar.proofs.Runs.{parted, len_yes}
use Rattle.cif_grammar.proofs.Joins.{takes_then, then_at, run_takes, byte_takes, nothing_takes}
use Rattle.cif_grammar.proofs.Points.{digit_is_text, integer_takes, point_takes, next_takes, next_point_takes}
use Rattle.cif_grammar.proofs.Nesting.{closing_takes}

-- ---- points and transformations, as often as they stand there

points_read : (total at : ℕ) (bytes : List ℕ) (o : Option (Spot × List ℕ)) (more : List ℕ → List Spot × List ℕ) → next_point_at total bytes ≡ o → at + length bytes ≡ total → ((at : ℕ) (bytes : List ℕ) → at + length bytes ≡ total → Takes (more_points (more bytes).0) at bytes (more bytes).1) → Takes (more_points (and_more bytes o more).0) at bytes (and_more bytes o more).1
points_read total at bytes None more e h ih = nothing_takes at bytes
points_read total at bytes (Some x) more e h ih =
    let first = next_point_takes total at bytes x.0 x.1 h e in
    takes_then first (ih _ x.1 (then_at total first h))

points_takes : (total n at : ℕ) (bytes : List ℕ) → at + length bytes ≡ total → Takes (more_points (repeated (next_point_at total) n bytes).0) at bytes (repeated (next_point_at total) n bytes).1
points_takes total zero at bytes h = nothing_takes at bytes
points_takes total (suc n) at bytes h = points_read total at bytes (next_point_at total bytes) (repeated (next_point_at total) n) refl h (points_takes total n)

more_points_takes : (total at : ℕ) (bytes : List ℕ) → at + length bytes ≡ total → Takes (more_points (more_points_at total bytes).0) at bytes (more_points_at total bytes).1
unfolding more_points_at
more_points_takes total at bytes h = points_takes total (length bytes) at bytes h

mirror_read : (at b letter : ℕ) (bs back : List ℕ) (x y : Bool) (z : Transform × List ℕ) → letter ≡ 77 → skip is_blank back ≡ b ∷ bs → (b == 88) ≡ x → (b == 89) ≡ y → cond {A = Option (Transform × List ℕ)} x (Some (mirror_x, bs)) (cond y (Some (mirror_y, bs)) None) ≡ Some z → Takes (transform z.0) at (letter ∷ back) z.1
mirror_read at b letter bs back true y z m same e f h =
    let first = byte_takes letter 77 back at m in
    let run = run_takes is_blank (at + length first.front) back in
    let axis = byte_takes b 88 bs ((at + length first.front) + length run.front) (eqb-true b 88 e) in
    subst (λ (z : Transform × List ℕ). Takes (transform z.0) at (letter ∷ back) z.1) (same_Some _ z h) (takes_then first (takes_then run (subst (λ s. Takes (Literally (codes "X")) ((at + length first.front) + length run.front) s bs) (sym same) axis)))
mirror_read at b letter bs back false true z m same e f h =
    let first = byte_takes letter 77 back at m in
    let run = run_takes is_blank (at + length first.front) back in
    let axis = byte_takes b 89 bs ((at + length first.front) + length run.front) (eqb-true b 89 f) in
    subst (λ (z : Transform × List ℕ). Takes (transform z.0) at (letter ∷ back) z.1) (same_Some _ z h) (takes_then first (takes_then run (subst (λ s. Takes (Literally (codes "Y")) ((at + length first.front) + length run.front) s bs) (sym same) axis)))
mirror_read at b letter bs back false false z m same e f h = cc

mirror_takes : (at letter : ℕ) (back axis : List ℕ) (z : Transform × List ℕ) → letter ≡ 77 → skip is_blank back ≡ axis → mirror_in axis ≡ Some z → Takes (transform z.0) at (letter ∷ back) z.1
mirror_takes at letter back [] z m same h = cc
mirror_takes at letter back (b ∷ bs) z m same h = mirror_read at b letter bs back (b == 88) (b == 89) z m same refl refl h

transform_read : (total at b : ℕ) (bs : List ℕ) (x y w : Bool) (z : Transform × List ℕ) → (b == 84) ≡ x → (b == 77) ≡ y → (b == 82) ≡ w → at + length (b ∷ bs) ≡ total → cond {A = Option (Transform × List ℕ)} x (option_map (λ p. (translate p.0, p.1)) (point_at total bs)) (cond y (mirror_in (skip is_blank bs)) (cond w (option_map (λ d. (rotate d.0, d.1)) (point_at total bs)) None)) ≡ Some z → Takes (transform z.0) at (b ∷ bs) z.1
transform_read total at b bs true y w z e f g h got =
    let p = map_some (λ (p : Spot × List ℕ). (translate p.0, p.1)) (point_at total bs) z got in
    let first = byte_takes b 84 bs at (eqb-true b 84 e) in
    subst (λ (z : Transform × List ℕ). Takes (transform z.0) at (b ∷ bs) z.1) p.2 (takes_then first (point_takes total _ bs p.0.0 p.0.1 (then_at total first h) p.1))
transform_read total at b bs false true w z e f g h got = mirror_takes at b bs (skip is_blank bs) z (eqb-true b 77 f) refl got
transform_read total at b bs false false true z e f g h got =
    let p = map_some (λ (p : Spot × List ℕ). (rotate p.0, p.1)) (point_at total bs) z got in
    let first = byte_takes b 82 bs at (eqb-true b 82 g) in
    subst (λ (z : Transform × List ℕ). Takes (transform z.0) at (b ∷ bs) z.1) p.2 (takes_then first (point_takes total _ bs p.0.0 p.0.1 (then_at total first h) p.1))
transform_read total at b bs false false false z e f g h got = cc

transform_in_takes : (total at : ℕ) (bytes : List ℕ) (z : Transform × List ℕ) → at + length bytes ≡ total → transform_in total bytes ≡ Some z → Takes (transform z.0) at bytes z.1
transform_in_takes total at [] z h got = cc
transform_in_takes total at (b ∷ bs) z h got = transform_read total at b bs (b == 84) (b == 77) (b == 82) z refl refl refl h got

transforms_read : (total at : ℕ) (bytes : List ℕ) (o : Option (Transform × List ℕ)) (more : List ℕ → List Transform × List ℕ) → transform_in total (skip is_blank bytes) ≡ o → at + length bytes ≡ total → ((at : ℕ) (bytes : List ℕ) → at + length bytes ≡ total → Takes (transforms (more bytes).0) at bytes (more bytes).1) → Takes (transforms (and_more bytes o more).0) at bytes (and_more bytes o more).1
transforms_read total at bytes None more e h ih = nothing_takes at bytes
transforms_read total at bytes (Some x) more e h ih =
    let run = run_takes is_blank at bytes in
    let there = then_at total run h in
    let first = transform_in_takes total _ (skip is_blank bytes) x there e in
    takes_then run (takes_then first (ih _ x.1 (then_at total first there)))

many_takes : (total n at : ℕ) (bytes : List ℕ) → at + length bytes ≡ total → Takes (transforms (repeated (transform_at total) n bytes).0) at bytes (repeated (transform_at total) n bytes).1
unfolding transform_at
many_takes total zero at bytes h = nothing_takes at bytes
many_takes total (suc n) at bytes h = transforms_read total at bytes (transform_in total (skip is_blank bytes)) (repeated (transform_at total) n) refl h (many_takes total n)

transforms_takes : (total at : ℕ) (bytes : List ℕ) → at + length bytes ≡ total → Takes (transforms (transforms_at total bytes).0) at bytes (transforms_at total bytes).1
unfolding transforms_at
transforms_takes total at bytes h = many_takes total (length bytes) at bytes h

-- ---- the rows

direction_takes : (total at : ℕ) (bytes : List ℕ) (o : Option (Spot × List ℕ)) → next_point_at total bytes ≡ o → at + length bytes ≡ total → Takes (direction (or_none bytes o).0) at bytes (or_none bytes o).1
direction_takes total at bytes None e h = nothing_takes at bytes
direction_takes total at bytes (Some x) e h = next_point_takes total at bytes x.0 x.1 h e

two_takes : (total at : ℕ) (bytes : List ℕ) (s : Number × Number) (rest : List ℕ) → at + length bytes ≡ total → two_at total bytes ≡ Some (s, rest) → Takes (next s.0 ⋅ next s.1) at bytes rest
unfolding two_at
two_takes total at bytes s rest h got =
    let a = bind_some (next_at total bytes) _ (s, rest) got in
    let b = bind_some (next_at total a.0.1) _ (s, rest) a.2 in
    let first = next_takes total at bytes a.0.0 a.0.1 h a.1 in
    let second = next_takes total _ a.0.1 b.0.0 b.0.1 (then_at total first h) b.1 in
    subst (λ (z : (Number × Number) × List ℕ). Takes (next z.0.0 ⋅ next z.0.1) at bytes z.1) (same_Some _ _ b.2) (takes_then first second)

scale_takes : (total at : ℕ) (bytes : List ℕ) (o : Option ((Number × Number) × List ℕ)) → two_at total bytes ≡ o → at + length bytes ≡ total → Takes (scale (or_none bytes o).0) at bytes (or_none bytes o).1
scale_takes total at bytes None e h = nothing_takes at bytes
scale_takes total at bytes (Some x) e h = two_takes total at bytes x.0 x.1 h e

box_takes : (total at b : ℕ) (bs : List ℕ) (z : Command × List ℕ) → b ≡ 66 → at + length (b ∷ bs) ≡ total → box_at total bs ≡ Some z → Takes (command z.0) at (b ∷ bs) z.1
unfolding box_at
box_takes total at b bs z e h got =
    let l = bind_some (integer_at total bs) _ z got in
    let w = bind_some (next_at total l.0.1) _ z l.2 in
    let c = bind_some (next_point_at total w.0.1) _ z w.2 in
    let letter = byte_takes b 66 bs at e in
    let h1 = then_at total letter h in
    let first = integer_takes total _ bs l.0.0 l.0.1 h1 l.1 in
    let h2 = then_at total first h1 in
    let second = next_takes total _ l.0.1 w.0.0 w.0.1 h2 w.1 in
    let h3 = then_at total second h2 in
    let third = next_point_takes total _ w.0.1 c.0.0 c.0.1 h3 c.1 in
    let last = direction_takes total _ c.0.1 (next_point_at total c.0.1) refl (then_at total third h3) in
    subst (λ (z : Command × List ℕ). Takes (command z.0) at (b ∷ bs) z.1) (same_Some _ z c.2) (takes_then letter (takes_then first (takes_then second (takes_then third last))))

polygon_takes : (total at b : ℕ) (bs : List ℕ) (z : Command × List ℕ) → b ≡ 80 → at + length (b ∷ bs) ≡ total → polygon_at total bs ≡ Some z → Takes (command z.0) at (b ∷ bs) z.1
unfolding polygon_at
polygon_takes total at b bs z e h got =
    let p = bind_some (point_at total bs) _ z got in
    let letter = byte_takes b 80 bs at e in
    let h1 = then_at total letter h in
    let first = point_takes total _ bs p.0.0 p.0.1 h1 p.1 in
    let last = more_points_takes total _ p.0.1 (then_at total first h1) in
    subst (λ (z : Command × List ℕ). Takes (command z.0) at (b ∷ bs) z.1) (same_Some _ z p.2) (takes_then letter (takes_then first last))

wire_takes : (total at b : ℕ) (bs : List ℕ) (z : Command × List ℕ) → b ≡ 87 → at + length (b ∷ bs) ≡ total → wire_at total bs ≡ Some z → Takes (command z.0) at (b ∷ bs) z.1
unfolding wire_at width_at
wire_takes total at b bs z e h got =
    let wide = bind_some (width_at total bs) _ z got in
    let w = bind_some (integer_at total bs) _ wide.0 wide.1 in
    let p = bind_some (next_point_at total w.0.1) _ wide.0 w.2 in
    let letter = byte_takes b 87 bs at e in
    let h1 = then_at total letter h in
    let first = integer_takes total _ bs w.0.0 w.0.1 h1 w.1 in
    let h2 = then_at total first h1 in
    let second = next_point_takes total _ w.0.1 p.0.0 p.0.1 h2 p.1 in
    let last = more_points_takes total _ p.0.1 (then_at total second h2) in
    let same : (w.0.0, p.0.0, p.0.1) ≡ wide.0 = same_Some _ _ p.2 in
    let whole = ap (λ (y : Number × Spot × List ℕ). Some (wire y.0 (record { first = y.1; others = (more_points_at total y.2).0 }), (more_points_at total y.2).1)) same ∙ wide.2 in
    subst (λ (z : Command × List ℕ). Takes (command z.0) at (b ∷ bs) z.1) (same_Some _ z whole) (takes_then letter (takes_then first (takes_then second last)))

layer_takes : (total at b : ℕ) (bs : List ℕ) (z : Command × List ℕ) → b ≡ 76 → at + length (b ∷ bs) ≡ total → layer_at bs ≡ Some z → Takes (command z.0) at (b ∷ bs) z.1
unfolding layer_at
layer_takes total at b bs z e h got =
    let letter = byte_takes b 76 bs at e in
    let run = run_takes is_blank (at + length letter.front) bs in
    let name = guarded (is_short (take (prefix_len is_short_byte (skip is_blank bs)) (skip is_blank bs))) _ z got in
    let text = take (prefix_len is_short_byte (skip is_blank bs)) (skip is_blank bs) in
    let last : Takes (Short text) ((at + length letter.front) + length run.front) (skip is_blank bs) (skip is_short_byte (skip is_blank bs)) = record { front = text; spelled = record { form = name.0; whole = refl }; whole = sym (take-append-drop (prefix_len is_short_byte (skip is_blank bs)) (skip is_blank bs)) } in
    subst (λ (z : Command × List ℕ). Takes (command z.0) at (b ∷ bs) z.1) name.1 (takes_then letter (takes_then run last))

call_takes : (total at b : ℕ) (bs : List ℕ) (z : Command × List ℕ) → b ≡ 67 → at + length (b ∷ bs) ≡ total → call_at total bs ≡ Some z → Takes (command z.0) at (b ∷ bs) z.1
unfolding call_at
call_takes total at b bs z e h got =
    let n = bind_some (integer_at total bs) _ z got in
    let letter = byte_takes b 67 bs at e in
    let h1 = then_at total letter h in
    let first = integer_takes total _ bs n.0.0 n.0.1 h1 n.1 in
    let last = transforms_takes total _ n.0.1 (then_at total first h1) in
    subst (λ (z : Command × List ℕ). Takes (command z.0) at (b ∷ bs) z.1) (same_Some _ z n.2) (takes_then letter (takes_then first last))

user_form : (b : ℕ) (bs : List ℕ) → is_ascii_digit b ≡ true → is_user (take (prefix_len is_text (b ∷ bs)) (b ∷ bs)) ≡ true
user_form b bs e =
    let p = parted is_text bs in
    ap (λ n. is_user (take n (b ∷ bs))) (len_yes is_text b bs (digit_is_text b e)) ∙ and_from _ _ e (ap (list_all is_text) p.taken ∙ p.passes)

user_takes : (at b : ℕ) (bs : List ℕ) (z : Command × List ℕ) → is_ascii_digit b ≡ true → user_at (b ∷ bs) ≡ Some z → Takes (command z.0) at (b ∷ bs) z.1
unfolding user_at
user_takes at b bs z e got =
    let text = guarded (nat_lt (prefix_len is_text (b ∷ bs)) (length (b ∷ bs))) _ z got in
    subst (λ (z : Command × List ℕ). Takes (command z.0) at (b ∷ bs) z.1) text.1 (record {
      front = take (prefix_len is_text (b ∷ bs)) (b ∷ bs);
      spelled = record { form = user_form b bs e; whole = refl };
      whole = sym (take-append-drop (prefix_len is_text (b ∷ bs)) (b ∷ bs));
    })

comment_takes : (at b : ℕ) (bs : List ℕ) (z : Command × List ℕ) → b ≡ 40 → comment_at bs ≡ Some z → Takes (command z.0) at (b ∷ bs) z.1
unfolding comment_at
comment_takes at b bs z e got =
    let rest = map_some (λ (rest : List ℕ). (comment, rest)) (closing 0 bs) z got in
    let c = closing_takes bs rest.0 0 rest.1 in
    let letter = byte_takes b 40 bs at e in
    let inner : Takes Matched (at + length letter.front) bs (41 ∷ rest.0) = record { front = c.text; spelled = record { all = omega (arith, c.level.all); fronts = λ front back h. omega (arith, c.level.fronts front back h) }; whole = c.whole } in
    let last = byte_takes 41 41 rest.0 ((at + length letter.front) + length c.text) refl in
    subst (λ (z : Command × List ℕ). Takes (command z.0) at (b ∷ bs) z.1) rest.2 (takes_then letter (takes_then inner last))

finish_takes : (at b d : ℕ) (bs back : List ℕ) → b ≡ 68 → d ≡ 70 → skip is_blank bs ≡ d ∷ back → Takes (command finish) at (b ∷ bs) back
finish_takes at b d bs back e f same =
    let letter = byte_takes b 68 bs at e in
    let run = run_takes is_blank (at + length letter.front) bs in
    let last = byte_takes d 70 back ((at + length letter.front) + length run.front) f in
    takes_then letter (takes_then run (subst (λ s. Takes (Literally (codes "F")) ((at + length letter.front) + length run.front) s back) (sym same) last))

start_takes : (total at b d : ℕ) (bs back : List ℕ) (z : Command × List ℕ) → b ≡ 68 → d ≡ 83 → skip is_blank bs ≡ d ∷ back → at + length (b ∷ bs) ≡ total → start_at total back ≡ Some z → Takes (command z.0) at (b ∷ bs) z.1
unfolding start_at
start_takes total at b d bs back z e f same h got =
    let n = bind_some (integer_at total back) _ z got in
    let letter = byte_takes b 68 bs at e in
    let h1 = then_at total letter h in
    let run = run_takes is_blank (at + length letter.front) bs in
    let h2 = then_at total run h1 in
    let second = subst (λ s. Takes (Literally (codes "S")) ((at + length letter.front) + length run.front) s back) (sym same) (byte_takes d 83 back ((at + length letter.front) + length run.front) f) in
    let h3 = then_at total second h2 in
    let third = integer_takes total _ back n.0.0 n.0.1 h3 n.1 in
    let last = scale_takes total _ n.0.1 (two_at total n.0.1) refl (then_at total third h3) in
    subst (λ (z : Command × List ℕ). Takes (command z.0) at (b ∷ bs) z.1) (same_Some _ z n.2) (takes_then letter (takes_then run (takes_then second (takes_then third last))))

definition_read : (total at b d : ℕ) (bs back : List ℕ) (t u : Bool) (z : Command × List ℕ) → b ≡ 68 → (d == 83) ≡ t → (d == 70) ≡ u → skip is_blank bs ≡ d ∷ back → at + length (b ∷ bs) ≡ total → cond {A = Option (Command × List ℕ)} t (start_at total back) (cond u (Some (finish, back)) None) ≡ Some z → Takes (command z.0) at (b ∷ bs) z.1
definition_read total at b d bs back true u z e f g same h got = start_takes total at b d bs back z e (eqb-true d 83 f) same h got
definition_read total at b d bs back false true z e f g same h got = subst (λ (z : Command × List ℕ). Takes (command z.0) at (b ∷ bs) z.1) (same_Some _ z got) (finish_takes at b d bs back e (eqb-true d 70 g) same)
definition_read total at b d bs back false false z e f g same h got = cc

definition_in_takes : (total at b : ℕ) (bs back : List ℕ) (z : Command × List ℕ) → b ≡ 68 → skip is_blank bs ≡ back → at + length (b ∷ bs) ≡ total → definition_in total back ≡ Some z → Takes (command z.0) at (b ∷ bs) z.1
definition_in_takes total at b bs [] z e same h got = cc
definition_in_takes total at b bs (d ∷ back) z e same h got = definition_read total at b d bs back (d == 83) (d == 70) z e refl refl same h got

definition_takes : (total at b : ℕ) (bs : List ℕ) (z : Command × List ℕ) → b ≡ 68 → at + length (b ∷ bs) ≡ total → definition_at total bs ≡ Some z → Takes (command z.0) at (b ∷ bs) z.1
unfolding definition_at
definition_takes total at b bs z e h got = definition_in_takes total at b bs (skip is_blank bs) z e refl h got

-- ---- any command

body_read : (total at b : ℕ) (bs : List ℕ) (z : Command × List ℕ) (t0 t1 t2 t3 t4 t5 t6 t7 : Bool) → is_ascii_digit b ≡ t0 → (b == 66) ≡ t1 → (b == 80) ≡ t2 → (b == 87) ≡ t3 → (b == 76) ≡ t4 → (b == 67) ≡ t5 → (b == 40) ≡ t6 → (b == 68) ≡ t7 → at + length (b ∷ bs) ≡ total → cond {A = Option (Command × List ℕ)} t0 (user_at (b ∷ bs)) (cond t1 (box_at total bs) (cond t2 (polygon_at total bs) (cond t3 (wire_at total bs) (cond t4 (layer_at bs) (cond t5 (call_at total bs) (cond t6 (comment_at bs) (cond t7 (definition_at total bs) None))))))) ≡ Some z → Takes (command z.0) at (b ∷ bs) z.1
body_read total at b bs z true t1 t2 t3 t4 t5 t6 t7 e0 e1 e2 e3 e4 e5 e6 e7 h got = user_takes at b bs z e0 got
body_read total at b bs z false true t2 t3 t4 t5 t6 t7 e0 e1 e2 e3 e4 e5 e6 e7 h got = box_takes total at b bs z (eqb-true b 66 e1) h got
body_read total at b bs z false false true t3 t4 t5 t6 t7 e0 e1 e2 e3 e4 e5 e6 e7 h got = polygon_takes total at b bs z (eqb-true b 80 e2) h got
body_read total at b bs z false false false true t4 t5 t6 t7 e0 e1 e2 e3 e4 e5 e6 e7 h got = wire_takes total at b bs z (eqb-true b 87 e3) h got
body_read total at b bs z false false false false true t5 t6 t7 e0 e1 e2 e3 e4 e5 e6 e7 h got = layer_takes total at b bs z (eqb-true b 76 e4) h got
body_read total at b bs z false false false false false true t6 t7 e0 e1 e2 e3 e4 e5 e6 e7 h got = call_takes total at b bs z (eqb-true b 67 e5) h got
body_read total at b bs z false false false false false false true t7 e0 e1 e2 e3 e4 e5 e6 e7 h got = comment_takes at b bs z (eqb-true b 40 e6) got
body_read total at b bs z false false false false false false false true e0 e1 e2 e3 e4 e5 e6 e7 h got = definition_takes total at b bs z (eqb-true b 68 e7) h got
body_read total at b bs z false false false false false false false false e0 e1 e2 e3 e4 e5 e6 e7 h got = cc

pub body_takes : (total at : ℕ) (bytes : List ℕ) (c : Command) (rest : List ℕ) → at + length bytes ≡ total → body_at total bytes ≡ Some (c, rest) → Takes (command c) at bytes rest
unfolding body_at
body_takes total at [] c rest h got = cc
body_takes total at (b ∷ bs) c rest h got = body_read total at b bs (c, rest) (is_ascii_digit b) (b == 66) (b == 80) (b == 87) (b == 76) (b == 67) (b == 40) (b == 68) refl refl refl refl refl refl refl refl h got

semicolon_takes : (at : ℕ) (bytes rest : List ℕ) → semicolon_at bytes ≡ Some rest → Takes (Literally (codes ";") ⋅ Run is_gap) at bytes rest
semicolon_takes at [] rest got = cc
semicolon_takes at (b ∷ bs) rest got =
    let mark = guarded (b == 59) (skip is_gap bs) rest got in
    let first = byte_takes b 59 bs at (eqb-true b 59 mark.0) in
    subst (λ rest. Takes (Literally (codes ";") ⋅ Run is_gap) at (b ∷ bs) rest) mark.1 (takes_then first (run_takes is_gap (at + length first.front) bs))

plain_end_takes : (at : ℕ) (bytes rest : List ℕ) → semicolon_at (skip is_blank bytes) ≡ Some rest → Takes (Run is_blank ⋅ Literally (codes ";") ⋅ Run is_gap) at bytes rest
plain_end_takes at bytes rest got = let run = run_takes is_blank at bytes in takes_then run (semicolon_takes (at + length run.front) (skip is_blank bytes) rest got)

end_takes : (at : ℕ) (c : Command) (bytes rest : List ℕ) → end_at c bytes ≡ Some rest → Takes (end c) at bytes rest
unfolding end_at
end_takes at (box l w p d) bytes rest got = plain_end_takes at bytes rest got
end_takes at (polygon p) bytes rest got = plain_end_takes at bytes rest got
end_takes at (wire w p) bytes rest got = plain_end_takes at bytes rest got
end_takes at (layer name) bytes rest got = plain_end_takes at bytes rest got
end_takes at (call n ts) bytes rest got = plain_end_takes at bytes rest got
end_takes at (user text) bytes rest got = semicolon_takes at bytes rest got
end_takes at comment bytes rest got = plain_end_takes at bytes rest got
end_takes at (start n s) bytes rest got = plain_end_takes at bytes rest got
end_takes at finish bytes rest got = plain_end_takes at bytes rest got

-- A command that is read, and its end, are spelled where they are read.
pub command_takes : (total at : ℕ) (bytes : List ℕ) (c : Command) (rest : List ℕ) → at + length bytes ≡ total → command_at total bytes ≡ Some (c, rest) → Takes (command c ⋅ end c) at bytes rest
unfolding command_at
command_takes total at bytes c rest h got =
    let body = bind_some (body_at total bytes) _ (c, rest) got in
    let behind = bind_some (end_at body.0.0 body.0.1) _ (c, rest) body.2 in
    let first = body_takes total at bytes body.0.0 body.0.1 h body.1 in
    subst (λ (z : Command × List ℕ). Takes (command z.0 ⋅ end z.0) at bytes z.1) (same_Some _ _ behind.2) (takes_then first (end_takes (at + length first.front) body.0.0 body.0.1 behind.0 behind.1))
