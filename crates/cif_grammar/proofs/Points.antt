-- Numbers and points: what is read is spelled so, and what is spelled so is read.
use Rattle.std.proofs.Common.{◌≡◌, ℕ, ◌+◌, ◌-◌, ◌<◌, ◌==◌, Bool, true, false, cond, if◌then◌else◌, List, [], ◌∷◌, ◌++◌, length, take, drop, min, Option, Some, None, refl, sym, ap, ◌∙◌, subst, arith}
use Rattle.std.specs.List.{prefix_len, list_all}
use Rattle.std.specs.Char.{is_ascii_digit}
use Rattle.std.specs.Str.Parse.{digits_value}
use Rattle.std.proofs.lemmas.Bool.{eqb-true, eqb-false, ne_eqb, and_parts}
use Rattle.std.proofs.lemmas.Bool.Decides.{nat_tests}
use Rattle.std.proofs.lemmas.Option.{same_Some}
use Rattle.plane_geom.specs.Texts.{◌>>=◌}
use Rattle.plane_geom.proofs.Options.{bind_some}
use Rattle.cif_grammar.specs.declared.spelled.Number.{Number}
use Rattle.cif_grammar.specs.declared.spelled.Signed.{Signed}
use Rattle.cif_grammar.specs.declared.spelled.Spot.{Spot}
use Rattle.cif_grammar.specs.Words.{◌⋅◌, Takes, Digits, is_blank, is_sep, limit, skip}
use Rattle.cif_grammar.specs.Grammar.{integer, sign, signed, point, next, next_point}
use Rattle.cif_grammar.specs.Readers.{behind, digits_at, integer_at, sized_at, signed_in, signed_at, point_at, next_at, next_point_at, is_text}
use Rattle.cif_grammar.proofs.Runs.{begins, parted, skip_run, len_run, take_run, drop_run}
use Rattle.cif_grammar.proofs.Numbers.{own}
use Rattle.cif_grammar.proofs.Joins.{takes_then, then_at, run_takes, one_takes, byte_takes, nothing_takes, parts_of, one_again, one_begins}

-- ---- kinds of bytes

pub digit_no_sep : (b : ℕ) → is_ascii_digit b ≡ true → is_sep b ≡ false
digit_no_sep b h = grind (arith, nat_tests)

pub sep_no_digit : (b : ℕ) → is_sep b ≡ true → is_ascii_digit b ≡ false
sep_no_digit b h = grind (arith, nat_tests)

pub blank_is_sep : (b : ℕ) → is_blank b ≡ true → is_sep b ≡ true
blank_is_sep b h = grind (arith, nat_tests)

pub digit_is_text : (b : ℕ) → is_ascii_digit b ≡ true → is_text b ≡ true
digit_is_text b h = grind (arith, nat_tests)

digit_no_minus : (b : ℕ) → is_ascii_digit b ≡ true → (b == 45) ≡ false
digit_no_minus b h = grind (arith, nat_tests)

pub begins_no : (f g : ℕ → Bool) → ((b : ℕ) → f b ≡ true → g b ≡ false) → (bytes : List ℕ) → begins f bytes ≡ true → begins g bytes ≡ false
begins_no f g h [] e = refl
begins_no f g h (b ∷ bs) e = h b e

-- ---- what is read is spelled so

digits_read : (total at : ℕ) (bytes : List ℕ) (t : Bool) (y : Number × List ℕ) → (prefix_len is_ascii_digit bytes == 0) ≡ t → at + length bytes ≡ total → cond {A = Option (Number × List ℕ)} t None (Some (record { at = total - length bytes; value = min (digits_value 10 (take (prefix_len is_ascii_digit bytes) bytes)) (limit + 1) }, skip is_ascii_digit bytes)) ≡ Some y → Takes (Digits y.0) at bytes y.1
digits_read total at bytes true y e h got = cc
digits_read total at bytes false y e h got =
    let p = parted is_ascii_digit bytes in
    let some : 0 < length p.run = omega (arith, eqb-false _ 0 e, p.size) in
    let value : min (digits_value 10 (take (prefix_len is_ascii_digit bytes) bytes)) (limit + 1) ≡ min (digits_value 10 p.run) (limit + 1) = ap (λ ds. min (digits_value 10 ds) (limit + 1)) p.taken in
    subst (λ (z : Number × List ℕ). Takes (Digits z.0) at bytes z.1) (same_Some _ y got) (record {
      front = p.run;
      spelled = record { some = some; digits = own.to p.run p.passes; value = value; place = omega (arith, h) };
      whole = p.whole;
    })

pub digits_takes : (total at : ℕ) (bytes : List ℕ) (n : Number) (rest : List ℕ) → at + length bytes ≡ total → digits_at total bytes ≡ Some (n, rest) → Takes (Digits n) at bytes rest
unfolding digits_at
digits_takes total at bytes n rest h got = digits_read total at bytes (prefix_len is_ascii_digit bytes == 0) (n, rest) refl h got

pub integer_takes : (total at : ℕ) (bytes : List ℕ) (n : Number) (rest : List ℕ) → at + length bytes ≡ total → integer_at total bytes ≡ Some (n, rest) → Takes (integer n) at bytes rest
unfolding integer_at
integer_takes total at bytes n rest h got =
    let run = run_takes is_sep at bytes in
    takes_then run (digits_takes total _ _ n rest (then_at total run h) got)

signed_read : (total at b : ℕ) (bs : List ℕ) (t : Bool) (s : Signed) (rest : List ℕ) → (b == 45) ≡ t → at + length (b ∷ bs) ≡ total → cond {A = Option (Signed × List ℕ)} t (sized_at total true bs) (sized_at total false (b ∷ bs)) ≡ Some (s, rest) → Takes (sign s.minus ⋅ Digits s.size) at (b ∷ bs) rest
signed_read total at b bs true s rest e h got =
    let n = bind_some (digits_at total bs) _ (s, rest) got in
    let first = byte_takes b 45 bs at (eqb-true b 45 e) in
    subst (λ (z : Signed × List ℕ). Takes (sign z.0.minus ⋅ Digits z.0.size) at (b ∷ bs) z.1) (same_Some _ _ n.2) (takes_then first (digits_takes total _ bs n.0.0 n.0.1 (then_at total first h) n.1))
signed_read total at b bs false s rest e h got =
    let n = bind_some (digits_at total (b ∷ bs)) _ (s, rest) got in
    let first = nothing_takes at (b ∷ bs) in
    subst (λ (z : Signed × List ℕ). Takes (sign z.0.minus ⋅ Digits z.0.size) at (b ∷ bs) z.1) (same_Some _ _ n.2) (takes_then first (digits_takes total _ (b ∷ bs) n.0.0 n.0.1 (then_at total first h) n.1))

signed_in_takes : (total at : ℕ) (bytes : List ℕ) (s : Signed) (rest : List ℕ) → at + length bytes ≡ total → signed_in total bytes ≡ Some (s, rest) → Takes (sign s.minus ⋅ Digits s.size) at bytes rest
signed_in_takes total at [] s rest h got = cc
signed_in_takes total at (b ∷ bs) s rest h got = signed_read total at b bs (b == 45) s rest refl h got

pub signed_takes : (total at : ℕ) (bytes : List ℕ) (s : Signed) (rest : List ℕ) → at + length bytes ≡ total → signed_at total bytes ≡ Some (s, rest) → Takes (signed s) at bytes rest
unfolding signed_at
signed_takes total at bytes s rest h got =
    let run = run_takes is_sep at bytes in
    takes_then run (signed_in_takes total _ _ s rest (then_at total run h) got)

pub point_takes : (total at : ℕ) (bytes : List ℕ) (p : Spot) (rest : List ℕ) → at + length bytes ≡ total → point_at total bytes ≡ Some (p, rest) → Takes (point p) at bytes rest
unfolding point_at
point_takes total at bytes p rest h got =
    let x = bind_some (signed_at total bytes) _ (p, rest) got in
    let sep = bind_some (behind is_sep x.0.1) _ (p, rest) x.2 in
    let y = bind_some (signed_at total sep.0) _ (p, rest) sep.2 in
    let first = signed_takes total at bytes x.0.0 x.0.1 h x.1 in
    let second = one_takes is_sep (at + length first.front) x.0.1 sep.0 sep.1 in
    let third = signed_takes total _ sep.0 y.0.0 y.0.1 (then_at total second (then_at total first h)) y.1 in
    subst (λ (z : Spot × List ℕ). Takes (point z.0) at bytes z.1) (same_Some _ _ y.2) (takes_then first (takes_then second third))

pub next_takes : (total at : ℕ) (bytes : List ℕ) (n : Number) (rest : List ℕ) → at + length bytes ≡ total → next_at total bytes ≡ Some (n, rest) → Takes (next n) at bytes rest
unfolding next_at
next_takes total at bytes n rest h got =
    let sep = bind_some (behind is_sep bytes) _ (n, rest) got in
    let first = one_takes is_sep at bytes sep.0 sep.1 in
    takes_then first (integer_takes total _ sep.0 n rest (then_at total first h) sep.2)

pub next_point_takes : (total at : ℕ) (bytes : List ℕ) (p : Spot) (rest : List ℕ) → at + length bytes ≡ total → next_point_at total bytes ≡ Some (p, rest) → Takes (next_point p) at bytes rest
unfolding next_point_at
next_point_takes total at bytes p rest h got =
    let sep = bind_some (behind is_sep bytes) _ (p, rest) got in
    let first = one_takes is_sep at bytes sep.0 sep.1 in
    takes_then first (point_takes total _ sep.0 p rest (then_at total first h) sep.2)

-- ---- what is spelled so is read

digits_begin : (n : Number) (at : ℕ) (word rest : List ℕ) → Digits n at word → begins is_ascii_digit (word ++ rest) ≡ true
digits_begin n at [] rest w = absurd (omega (arith, w.some))
digits_begin n at (b ∷ bs) rest w = (and_parts (is_ascii_digit b) (list_all is_ascii_digit bs) (own.from (b ∷ bs) w.digits)).0

digits_of_len : ℕ → List ℕ → ℕ → Option (Number × List ℕ)
digits_of_len total bytes k = if k == 0 then None else Some (record { at = total - length bytes; value = min (digits_value 10 (take k bytes)) (limit + 1) }, drop k bytes)

pub digits_again : (total at : ℕ) (n : Number) (word rest : List ℕ) → at + length (word ++ rest) ≡ total → Digits n at word → begins is_ascii_digit rest ≡ false → digits_at total (word ++ rest) ≡ Some (n, rest)
unfolding digits_at digits_of_len
digits_again total at n word rest h w stop =
    let len = len_run is_ascii_digit word rest (own.from word w.digits) stop in
    let some : (length word == 0) ≡ false = ne_eqb (length word) 0 (λ e. omega (arith, w.some)) in
    let place : total - length (word ++ rest) ≡ n.at = omega (arith, h, w.place) in
    let value : min (digits_value 10 (take (length word) (word ++ rest))) (limit + 1) ≡ n.value = ap (λ ds. min (digits_value 10 ds) (limit + 1)) (take_run word rest) ∙ sym w.value in
    ap (digits_of_len total (word ++ rest)) len ∙ rw some (λ i. Some (record { at = place i; value = value i }, drop_run word rest i))

pub integer_again : (total at : ℕ) (n : Number) (word rest : List ℕ) → at + length (word ++ rest) ≡ total → integer n at word → begins is_ascii_digit rest ≡ false → integer_at total (word ++ rest) ≡ Some (n, rest)
unfolding integer_at
integer_again total at n word rest h w stop =
    let p = parts_of total at word rest h w in
    let no_sep = begins_no is_ascii_digit is_sep digit_no_sep (p.back ++ rest) (digits_begin n _ p.back rest p.second) in
    ap (λ s. digits_at total (skip is_sep s)) p.regrouped ∙ ap (digits_at total) (skip_run is_sep p.front (p.back ++ rest) p.first no_sep) ∙ digits_again total _ n p.back rest p.there p.second stop

signed_plain : (total : ℕ) (bytes : List ℕ) → begins is_ascii_digit bytes ≡ true → signed_in total bytes ≡ sized_at total false bytes
signed_plain total [] h = cc
signed_plain total (b ∷ bs) h = rw (digit_no_minus b h) refl

-- The sign and the digits begin with no separator.
sign_no_sep : (minus : Bool) (n : Number) (total at : ℕ) (word rest : List ℕ) → at + length (word ++ rest) ≡ total → (sign minus ⋅ Digits n) at word → begins is_sep (word ++ rest) ≡ false
sign_no_sep true n total at word rest h w =
    let p = parts_of total at word rest h w in
    ap (begins is_sep) (p.regrouped ∙ ap (λ s. s ++ (p.back ++ rest)) p.first)
sign_no_sep false n total at word rest h w =
    let p = parts_of total at word rest h w in
    ap (begins is_sep) (p.regrouped ∙ ap (λ s. s ++ (p.back ++ rest)) p.first) ∙ begins_no is_ascii_digit is_sep digit_no_sep (p.back ++ rest) (digits_begin n _ p.back rest p.second)

signed_in_again : (total at : ℕ) (minus : Bool) (n : Number) (word rest : List ℕ) → at + length (word ++ rest) ≡ total → (sign minus ⋅ Digits n) at word → begins is_ascii_digit rest ≡ false → signed_in total (word ++ rest) ≡ Some (record { minus = minus; size = n }, rest)
signed_in_again total at true n word rest h w stop =
    let p = parts_of total at word rest h w in
    ap (signed_in total) (p.regrouped ∙ ap (λ s. s ++ (p.back ++ rest)) p.first) ∙ rw (digits_again total _ n p.back rest p.there p.second stop) refl
signed_in_again total at false n word rest h w stop =
    let p = parts_of total at word rest h w in
    ap (signed_in total) (p.regrouped ∙ ap (λ s. s ++ (p.back ++ rest)) p.first) ∙ signed_plain total (p.back ++ rest) (digits_begin n _ p.back rest p.second) ∙ rw (digits_again total _ n p.back rest p.there p.second stop) refl

pub signed_again : (total at : ℕ) (s : Signed) (word rest : List ℕ) → at + length (word ++ rest) ≡ total → signed s at word → begins is_ascii_digit rest ≡ false → signed_at total (word ++ rest) ≡ Some (s, rest)
unfolding signed_at
signed_again total at s word rest h w stop =
    let p = parts_of total at word rest h w in
    let no_sep = sign_no_sep s.minus s.size total _ p.back rest p.there p.second in
    ap (λ x. signed_in total (skip is_sep x)) p.regrouped ∙ ap (signed_in total) (skip_run is_sep p.front (p.back ++ rest) p.first no_sep) ∙ signed_in_again total _ s.minus s.size p.back rest p.there p.second stop

point_steps : (total : ℕ) (b0 b1 b2 b3 : List ℕ) (x y : Signed) → signed_at total b0 ≡ Some (x, b1) → behind is_sep b1 ≡ Some b2 → signed_at total b2 ≡ Some (y, b3) → point_at total b0 ≡ Some (record { x = x; y = y }, b3)
unfolding point_at
point_steps total b0 b1 b2 b3 x y e1 e2 e3 = rw (e1, e2, e3) refl

pub point_again : (total at : ℕ) (p : Spot) (word rest : List ℕ) → at + length (word ++ rest) ≡ total → point p at word → begins is_ascii_digit rest ≡ false → point_at total (word ++ rest) ≡ Some (p, rest)
point_again total at p word rest h w stop =
    let a = parts_of total at word rest h w in
    let b = parts_of total _ a.back rest a.there a.second in
    let x = signed_again total at p.x a.front (a.back ++ rest) a.here a.first (ap (begins is_ascii_digit) b.regrouped ∙ one_begins is_sep is_ascii_digit _ b.front (b.back ++ rest) b.first sep_no_digit) in
    let sep = ap (behind is_sep) b.regrouped ∙ one_again is_sep _ b.front (b.back ++ rest) b.first in
    let y = signed_again total _ p.y b.back rest b.there b.second stop in
    ap (point_at total) a.regrouped ∙ point_steps total _ _ _ rest p.x p.y x sep y

pub next_again : (total at : ℕ) (n : Number) (word rest : List ℕ) → at + length (word ++ rest) ≡ total → next n at word → begins is_ascii_digit rest ≡ false → next_at total (word ++ rest) ≡ Some (n, rest)
unfolding next_at
next_again total at n word rest h w stop =
    let p = parts_of total at word rest h w in
    ap (λ s. behind is_sep s >>= integer_at total) p.regrouped ∙ rw (one_again is_sep at p.front (p.back ++ rest) p.first) (integer_again total _ n p.back rest p.there p.second stop)

pub next_point_again : (total at : ℕ) (q : Spot) (word rest : List ℕ) → at + length (word ++ rest) ≡ total → next_point q at word → begins is_ascii_digit rest ≡ false → next_point_at total (word ++ rest) ≡ Some (q, rest)
unfolding next_point_at
next_point_again total at q word rest h w stop =
    let p = parts_of total at word rest h w in
    ap (λ s. behind is_sep s >>= point_at total) p.regrouped ∙ rw (one_again is_sep at p.front (p.back ++ rest) p.first) (point_again total _ q p.back rest p.there p.second stop)
