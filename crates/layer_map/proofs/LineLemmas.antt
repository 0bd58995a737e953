-- Where lines end.
use Rattle.std.proofs.Common.{◌≡◌, ℕ, suc, ◌+◌, ◌-◌, ◌<◌, ◌≤◌, Bool, true, false, cond, if◌then◌else◌, not, ◌&&◌, List, [], ◌∷◌, ◌++◌, length, take, drop, Option, Some, None, refl, sym, ap, ◌∙◌, arith, ◌==◌}
use Rattle.std.specs.Prelude.{nat_lt, position}
use Rattle.std.specs.List.{position_or_len}
use Rattle.std.proofs.lemmas.Bool.{ltb-true, ltb-false}
use Rattle.plane_geom.specs.Texts.{begins_with}
use Rattle.layer_map.specs.Lines.{lines_of, onto_first}
use Rattle.layer_map.proofs.WordLemmas.{take_later, all_behind}
use Rattle.layer_map.specs.Readers.{without_cr, is_none_left, first_of}

-- ---- a CR at the end

none_left : (front : List ℕ) (c : ℕ) → is_none_left (front ++ (c ∷ [])) ≡ false
none_left [] c = refl
none_left (b ∷ front) c = refl

goes_on : (t u : Bool) (b : ℕ) (xs : List ℕ) → u ≡ false → (if t && u then [] else b ∷ xs) ≡ b ∷ xs
goes_on true true b xs e = absurd (cc)
goes_on true false b xs e = refl
goes_on false u b xs e = refl

onto : (t : Bool) (b : ℕ) (xs ys : List ℕ) → b ∷ (if t then xs else ys) ≡ (if t then b ∷ xs else b ∷ ys)
onto true b xs ys = refl
onto false b xs ys = refl

alone : (t : Bool) (c : ℕ) → (if t && true then [] else c ∷ []) ≡ (if t then [] else c ∷ [])
alone true c = refl
alone false c = refl

pub cr_last : (front : List ℕ) (c : ℕ) → without_cr (front ++ (c ∷ [])) ≡ (if c == 13 then front else front ++ (c ∷ []))
cr_last [] c = alone (c == 13) c
cr_last (b ∷ front) c = goes_on (b == 13) (is_none_left (front ++ (c ∷ []))) b (without_cr (front ++ (c ∷ []))) (none_left front c) ∙ ap (λ xs. b ∷ xs) (cr_last front c) ∙ onto (c == 13) b front (front ++ (c ∷ []))

pub cr_dropped : (line front : List ℕ) (c : ℕ) → line ≡ front ++ (c ∷ []) → (c == 13) ≡ true → front ≡ without_cr line
cr_dropped line front c e t = sym (ap without_cr e ∙ cr_last front c ∙ ap (λ u. if u then front else front ++ (c ∷ [])) t)

pub cr_absent : (line front : List ℕ) (c : ℕ) → line ≡ front ++ (c ∷ []) → (c == 13) ≡ false → line ≡ without_cr line
cr_absent line front c e t = sym (ap without_cr e ∙ cr_last front c ∙ ap (λ u. if u then front else front ++ (c ∷ [])) t ∙ sym e)

pub cr_none : (line : List ℕ) → length line ≡ 0 → line ≡ without_cr line
cr_none [] h = refl
cr_none (b ∷ bs) h = absurd (omega arith)

-- ---- the first LF

end_of : List ℕ → ℕ
end_of bytes = position_or_len (λ b. b == 10) bytes

behind_later : (c : ℕ) (n : ℕ) (cs : List ℕ) → drop (1 + n + 1) (c ∷ cs) ≡ drop (n + 1) cs
behind_later c n cs = let e : 1 + n + 1 ≡ suc (n + 1) = omega arith in ap (λ m. drop m (c ∷ cs)) e

-- a CR with an LF behind it
at_end : (b : ℕ) (u : Bool) (cs : List (List ℕ)) → (if u && true then [] ∷ cs else onto_first b ([] ∷ cs)) ≡ (if u && true then [] else b ∷ []) ∷ cs
at_end b true cs = refl
at_end b false cs = refl

no_end : (b : ℕ) (u : Bool) (line : List ℕ) (xs lines : List (List ℕ)) → xs ≡ line ∷ lines → (if u && false then xs else onto_first b xs) ≡ (if u && false then [] else b ∷ line) ∷ lines
no_end b true line xs lines e = ap (onto_first b) e
no_end b false line xs lines e = ap (onto_first b) e

-- the second byte is an LF, or not
second : (b c : ℕ) (cs : List ℕ) (v : Bool) → (c == 10) ≡ v → (lines_of (c ∷ cs) ≡ without_cr (take (cond (not v) (1 + position_or_len (λ b. b == 10) cs) 0) (c ∷ cs)) ∷ lines_of (drop (cond (not v) (1 + position_or_len (λ b. b == 10) cs) 0 + 1) (c ∷ cs))) →
    (if (b == 13) && v then lines_of (c ∷ cs) else onto_first b (lines_of (c ∷ cs))) ≡ (if (b == 13) && is_none_left (take (cond (not v) (1 + position_or_len (λ b. b == 10) cs) 0) (c ∷ cs)) then [] else b ∷ without_cr (take (cond (not v) (1 + position_or_len (λ b. b == 10) cs) 0) (c ∷ cs))) ∷ lines_of (drop (cond (not v) (1 + position_or_len (λ b. b == 10) cs) 0 + 1) (c ∷ cs))
second b c cs true e h = ap (λ xs. if (b == 13) && true then xs else onto_first b xs) h ∙ at_end b (b == 13) (lines_of cs)
second b c cs false e h = no_end b (b == 13) (without_cr (take (1 + position_or_len (λ b. b == 10) cs) (c ∷ cs))) (lines_of (c ∷ cs)) _ h ∙ ap (λ n. (if (b == 13) && n then [] else b ∷ without_cr (take (1 + position_or_len (λ b. b == 10) cs) (c ∷ cs))) ∷ lines_of (drop (1 + position_or_len (λ b. b == 10) cs + 1) (c ∷ cs))) (sym (ap is_none_left (take_later c (position_or_len (λ b. b == 10) cs) cs)))

IsCut : List ℕ → ℕ → Type 0
IsCut bytes n = lines_of bytes ≡ without_cr (take n bytes) ∷ lines_of (drop (n + 1) bytes)

one_on : (b : ℕ) (n : ℕ) (bs : List ℕ) → lines_of (b ∷ bs) ≡ (if (b == 13) && is_none_left (take n bs) then [] else b ∷ without_cr (take n bs)) ∷ lines_of (drop (n + 1) bs) → lines_of (b ∷ bs) ≡ without_cr (take (1 + n) (b ∷ bs)) ∷ lines_of (drop (1 + n + 1) (b ∷ bs))
one_on b n bs h = h ∙ λ i. without_cr (sym (take_later b n bs) i) ∷ lines_of (sym (behind_later b n bs) i)

first : (b : ℕ) (bs : List ℕ) (t : Bool) → (b == 10) ≡ t → cond (not t) (1 + position_or_len (λ b. b == 10) bs) 0 < suc (length bs) → (position_or_len (λ b. b == 10) bs < length bs → lines_of bs ≡ without_cr (take (position_or_len (λ b. b == 10) bs) bs) ∷ lines_of (drop (position_or_len (λ b. b == 10) bs + 1) bs)) →
    lines_of (b ∷ bs) ≡ without_cr (take (cond (not t) (1 + position_or_len (λ b. b == 10) bs) 0) (b ∷ bs)) ∷ lines_of (drop (cond (not t) (1 + position_or_len (λ b. b == 10) bs) 0 + 1) (b ∷ bs))
first b bs true e h rec = ap (λ u. if u then [] ∷ lines_of bs else if (b == 13) && begins_with 10 bs then lines_of bs else onto_first b (lines_of bs)) e
first b [] false e h rec = absurd (omega arith)
first b (c ∷ cs) false e h rec =
    let inside : position_or_len (λ b. b == 10) (c ∷ cs) < length (c ∷ cs) = omega arith in
    one_on b (position_or_len (λ b. b == 10) (c ∷ cs)) (c ∷ cs) (ap (λ u. if u then [] ∷ lines_of (c ∷ cs) else if (b == 13) && begins_with 10 (c ∷ cs) then lines_of (c ∷ cs) else onto_first b (lines_of (c ∷ cs))) e ∙ second b c cs (c == 10) refl (rec inside))

pub line_at : (bytes : List ℕ) → position_or_len (λ b. b == 10) bytes < length bytes → lines_of bytes ≡ without_cr (take (position_or_len (λ b. b == 10) bytes) bytes) ∷ lines_of (drop (position_or_len (λ b. b == 10) bytes + 1) bytes)
line_at [] h = absurd (omega arith)
line_at (b ∷ bs) h = first b bs (b == 10) refl h (line_at bs)

-- ---- a last line without an LF

last_second : (b c : ℕ) (cs : List ℕ) (v : Bool) → (c == 10) ≡ v → length (c ∷ cs) ≤ cond (not v) (1 + position_or_len (λ b. b == 10) cs) 0 → lines_of (c ∷ cs) ≡ (c ∷ cs) ∷ [] → (if (b == 13) && v then lines_of (c ∷ cs) else onto_first b (lines_of (c ∷ cs))) ≡ (b ∷ c ∷ cs) ∷ []
last_second b c cs true e h rec = absurd (omega arith)
last_second b c cs false e h rec = elim (b == 13) as (λ u. (if u && false then lines_of (c ∷ cs) else onto_first b (lines_of (c ∷ cs))) ≡ (b ∷ c ∷ cs) ∷ []) [ true ↦ ap (onto_first b) rec | false ↦ ap (onto_first b) rec ]

last_first : (b : ℕ) (bs : List ℕ) (t : Bool) → (b == 10) ≡ t → suc (length bs) ≤ cond (not t) (1 + position_or_len (λ b. b == 10) bs) 0 → (0 < length bs → length bs ≤ position_or_len (λ b. b == 10) bs → lines_of bs ≡ bs ∷ []) → lines_of (b ∷ bs) ≡ (b ∷ bs) ∷ []
last_first b bs true e h rec = absurd (omega arith)
last_first b [] false e h rec = ap (λ u. if u then [] ∷ [] else if (b == 13) && false then [] else onto_first b []) e ∙ elim (b == 13) as (λ u. (if u && false then [] else onto_first b []) ≡ (b ∷ []) ∷ []) [ true ↦ refl | false ↦ refl ]
last_first b (c ∷ cs) false e h rec =
    let whole : length (c ∷ cs) ≤ position_or_len (λ b. b == 10) (c ∷ cs) = omega arith in
    ap (λ u. if u then [] ∷ lines_of (c ∷ cs) else if (b == 13) && begins_with 10 (c ∷ cs) then lines_of (c ∷ cs) else onto_first b (lines_of (c ∷ cs))) e ∙ last_second b c cs (c == 10) refl whole (rec (omega arith) whole)

pub last_line : (bytes : List ℕ) → 0 < length bytes → length bytes ≤ position_or_len (λ b. b == 10) bytes → lines_of bytes ≡ bytes ∷ []
last_line [] some h = absurd (omega arith)
last_line (b ∷ bs) some h = last_first b bs (b == 10) refl h (last_line bs)

-- ---- what the reader of a line gives

position_case : (bytes : List ℕ) (t : Bool) (n : ℕ) → nat_lt (position_or_len (λ b. b == 10) bytes) (length bytes) ≡ t → ◌≡◌ {A = Option ℕ} (Some n) (cond t (Some (position_or_len (λ b. b == 10) bytes)) None) → (n ≡ position_or_len (λ b. b == 10) bytes) × (position_or_len (λ b. b == 10) bytes < length bytes)
position_case bytes true n e h = (cc, ltb-true _ _ e)
position_case bytes false n e h = absurd (cc)

none_case : (bytes : List ℕ) (t : Bool) → nat_lt (position_or_len (λ b. b == 10) bytes) (length bytes) ≡ t → ◌≡◌ {A = Option ℕ} None (cond t (Some (position_or_len (λ b. b == 10) bytes)) None) → length bytes ≤ position_or_len (λ b. b == 10) bytes
none_case bytes true e h = absurd (cc)
none_case bytes false e h = ltb-false _ _ e

pub read_line : (bytes line : List ℕ) (n : ℕ) → ◌≡◌ {A = Option ℕ} (Some n) (position (λ b. b == 10) bytes) → line ≡ without_cr (take n bytes) → ◌≡◌ {A = Option (List ℕ × List (List ℕ))} (Some (line, lines_of (take (length bytes - (n + 1)) (drop (n + 1) bytes)))) (first_of (lines_of bytes))
read_line bytes line n at is =
    let found = position_case bytes (nat_lt (position_or_len (λ b. b == 10) bytes) (length bytes)) n refl at in
    (λ i. Some (is i, lines_of (all_behind bytes (n + 1) i))) ∙ (λ i. Some (without_cr (take (found.0 i) bytes), lines_of (drop (found.0 i + 1) bytes))) ∙ ap first_of (sym (line_at bytes found.1))

pub read_last_line : (bytes : List ℕ) → 0 < length bytes → ◌≡◌ {A = Option ℕ} None (position (λ b. b == 10) bytes) → ◌≡◌ {A = Option (List ℕ × List (List ℕ))} (Some (bytes, lines_of (take (length bytes - length bytes) (drop (length bytes) bytes)))) (first_of (lines_of bytes))
read_last_line bytes some at =
    let nothing_behind : take (length bytes - length bytes) (drop (length bytes) bytes) ≡ [] = let e : length bytes - length bytes ≡ 0 = omega arith in ap (λ m. take m (drop (length bytes) bytes)) e in
    (λ i. Some (bytes, lines_of (nothing_behind i))) ∙ ap first_of (sym (last_line bytes some (none_case bytes (nat_lt (position_or_len (λ b. b == 10) bytes) (length bytes)) refl at)))
