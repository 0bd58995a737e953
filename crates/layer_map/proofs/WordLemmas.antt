-- Where words end.
use Rattle.std.proofs.Common.{◌≡◌, ℕ, zero, suc, ◌+◌, ◌-◌, ◌<◌, Bool, true, false, cond, if◌then◌else◌, not, ◌&&◌, ◌||◌, List, [], ◌∷◌, length, take, drop, max, Option, Some, None, refl, sym, ap, ◌∙◌, arith, ◌==◌, one-add}
use Rattle.std.specs.List.{prefix_len}
use Rattle.std.proofs.lemmas.List.{length-drop, take_all}
use Rattle.layer_map.specs.Lines.{onto_first}
use Rattle.layer_map.specs.Words.{is_blank, is_single, is_plain, begins_plain, words_of}
use Rattle.layer_map.specs.Readers.{first_of}

drop_later : (c : ℕ) (n : ℕ) (cs : List ℕ) → drop (1 + n) (c ∷ cs) ≡ drop n cs
drop_later c n cs = ap (λ m. drop m (c ∷ cs)) (one-add n)

pub take_later : (c : ℕ) (n : ℕ) (cs : List ℕ) → take (1 + n) (c ∷ cs) ≡ c ∷ take n cs
take_later c n cs = ap (λ m. take m (c ∷ cs)) (one-add n)

-- ---- blanks

skipped : (signs : Bool) (b : ℕ) (bs : List ℕ) (t : Bool) → is_blank b ≡ t → words_of signs (drop (prefix_len is_blank bs) bs) ≡ words_of signs bs → words_of signs (drop (cond t (1 + prefix_len is_blank bs) 0) (b ∷ bs)) ≡ words_of signs (b ∷ bs)
skipped signs b bs true e rec = ap (words_of signs) (drop_later b (prefix_len is_blank bs) bs) ∙ rec ∙ ap (λ u. if u then words_of signs bs else if is_plain signs b && begins_plain signs bs then onto_first b (words_of signs bs) else (b ∷ []) ∷ words_of signs bs) (sym e)
skipped signs b bs false e rec = refl

pub behind_blanks : (signs : Bool) (bytes : List ℕ) → words_of signs (drop (prefix_len is_blank bytes) bytes) ≡ words_of signs bytes
behind_blanks signs [] = refl
behind_blanks signs (b ∷ bs) = skipped signs b bs (is_blank b) refl (behind_blanks signs bs)

-- What follows the blanks begins with no blank.
abbrev pub no_blank : List ℕ → Bool
no_blank [] = true
no_blank (b ∷ bs) = not (is_blank b)

-- ---- one word

blank_is_no_part : (signs : Bool) (b : ℕ) → is_plain signs b ≡ true → is_blank b ≡ false
blank_is_no_part signs b h = elim (is_blank b) as (λ t. not (t || is_single signs b) ≡ true → t ≡ false) [ true ↦ λ k. cc | false ↦ λ k. refl ] h

-- the length of a word
len : Bool → List ℕ → ℕ
len signs bytes = max (prefix_len (is_plain signs) bytes) 1

chosen : (b : ℕ) (bs : List ℕ) (ws : List (List ℕ)) (x y : Bool) → x ≡ false → (if x then ws else if y then onto_first b ws else (b ∷ []) ∷ ws) ≡ (if y then onto_first b ws else (b ∷ []) ∷ ws)
chosen b bs ws x y e = ap (λ u. if u then ws else if y then onto_first b ws else (b ∷ []) ∷ ws) e

IsWord : Bool → List ℕ → ℕ → Type 0
IsWord signs bytes n = words_of signs bytes ≡ take n bytes ∷ words_of signs (drop n bytes)

single : (signs : Bool) (b : ℕ) (bs : List ℕ) → is_blank b ≡ false → (is_plain signs b && begins_plain signs bs) ≡ false → words_of signs (b ∷ bs) ≡ (b ∷ []) ∷ words_of signs bs
single signs b bs e f = chosen b bs (words_of signs bs) (is_blank b) (is_plain signs b && begins_plain signs bs) e ∙ ap (λ u. if u then onto_first b (words_of signs bs) else (b ∷ []) ∷ words_of signs bs) f

longer : (signs : Bool) (b : ℕ) (bs : List ℕ) (n : ℕ) → is_blank b ≡ false → (is_plain signs b && begins_plain signs bs) ≡ true → words_of signs bs ≡ take n bs ∷ words_of signs (drop n bs) → words_of signs (b ∷ bs) ≡ take (1 + n) (b ∷ bs) ∷ words_of signs (drop (1 + n) (b ∷ bs))
longer signs b bs n e f rec = chosen b bs (words_of signs bs) (is_blank b) (is_plain signs b && begins_plain signs bs) e ∙ ap (λ u. if u then onto_first b (words_of signs bs) else (b ∷ []) ∷ words_of signs bs) f ∙ ap (onto_first b) rec ∙ λ i. sym (take_later b n bs) i ∷ words_of signs (sym (drop_later b n bs) i)

one_byte : (signs : Bool) (b : ℕ) (bs : List ℕ) (n : ℕ) → n ≡ 1 → words_of signs (b ∷ bs) ≡ (b ∷ []) ∷ words_of signs bs → words_of signs (b ∷ bs) ≡ take n (b ∷ bs) ∷ words_of signs (drop n (b ∷ bs))
one_byte signs b bs n e h = h ∙ λ i. take (sym e i) (b ∷ bs) ∷ words_of signs (drop (sym e i) (b ∷ bs))

word_next : (signs : Bool) (b c : ℕ) (cs : List ℕ) (v : Bool) → is_plain signs c ≡ v → is_plain signs b ≡ true → (is_blank c ≡ false → words_of signs (c ∷ cs) ≡ take (max (cond v (1 + prefix_len (is_plain signs) cs) 0) 1) (c ∷ cs) ∷ words_of signs (drop (max (cond v (1 + prefix_len (is_plain signs) cs) 0) 1) (c ∷ cs))) → words_of signs (b ∷ c ∷ cs) ≡ take (max (1 + cond v (1 + prefix_len (is_plain signs) cs) 0) 1) (b ∷ c ∷ cs) ∷ words_of signs (drop (max (1 + cond v (1 + prefix_len (is_plain signs) cs) 0) 1) (b ∷ c ∷ cs))
word_next signs b c cs true e p rec =
    let more : max (1 + (1 + prefix_len (is_plain signs) cs)) 1 ≡ 1 + max (1 + prefix_len (is_plain signs) cs) 1 = omega arith in
    longer signs b (c ∷ cs) (max (1 + prefix_len (is_plain signs) cs) 1) (blank_is_no_part signs b p) (ap (λ u. u && is_plain signs c) p ∙ e) (rec (blank_is_no_part signs c e)) ∙ λ i. take (sym more i) (b ∷ c ∷ cs) ∷ words_of signs (drop (sym more i) (b ∷ c ∷ cs))
word_next signs b c cs false e p rec = one_byte signs b (c ∷ cs) (max (1 + 0) 1) refl (single signs b (c ∷ cs) (blank_is_no_part signs b p) (ap (λ u. u && is_plain signs c) p ∙ e))

word_first : (signs : Bool) (b : ℕ) (bs : List ℕ) (t : Bool) → is_plain signs b ≡ t → is_blank b ≡ false → (no_blank bs ≡ true → 0 < length bs → words_of signs bs ≡ take (max (prefix_len (is_plain signs) bs) 1) bs ∷ words_of signs (drop (max (prefix_len (is_plain signs) bs) 1) bs)) → words_of signs (b ∷ bs) ≡ take (max (cond t (1 + prefix_len (is_plain signs) bs) 0) 1) (b ∷ bs) ∷ words_of signs (drop (max (cond t (1 + prefix_len (is_plain signs) bs) 0) 1) (b ∷ bs))
word_first signs b bs false p e rec = one_byte signs b bs (max 0 1) refl (single signs b bs e (ap (λ u. u && begins_plain signs bs) p))
word_first signs b [] true p e rec = one_byte signs b [] (max (1 + 0) 1) refl (single signs b [] e (ap (λ u. u && false) p))
word_first signs b (c ∷ cs) true p e rec = word_next signs b c cs (is_plain signs c) refl p (λ f. rec (ap not f) (omega arith))

pub word_at : (signs : Bool) (bytes : List ℕ) → no_blank bytes ≡ true → 0 < length bytes → words_of signs bytes ≡ take (max (prefix_len (is_plain signs) bytes) 1) bytes ∷ words_of signs (drop (max (prefix_len (is_plain signs) bytes) 1) bytes)
word_at signs [] e some = absurd (omega arith)
word_at signs (b ∷ bs) e some = word_first signs b bs (is_plain signs b) refl (not_blank (is_blank b) e) (word_at signs bs)
  where
    not_blank : (t : Bool) → not t ≡ true → t ≡ false
    not_blank true h = cc
    not_blank false h = refl

-- ---- what the reader of a word gives

blanks_end : (b : ℕ) (bs : List ℕ) (t : Bool) → is_blank b ≡ t → no_blank (drop (prefix_len is_blank bs) bs) ≡ true → no_blank (drop (cond t (1 + prefix_len is_blank bs) 0) (b ∷ bs)) ≡ true
blanks_end b bs true e rec = ap no_blank (drop_later b (prefix_len is_blank bs) bs) ∙ rec
blanks_end b bs false e rec = ap not e

pub no_blank_behind : (bytes : List ℕ) → no_blank (drop (prefix_len is_blank bytes) bytes) ≡ true
no_blank_behind [] = refl
no_blank_behind (b ∷ bs) = blanks_end b bs (is_blank b) refl (no_blank_behind bs)

pub all_behind : (bytes : List ℕ) (n : ℕ) → take (length bytes - n) (drop n bytes) ≡ drop n bytes
all_behind bytes n = take_all (length bytes - n) (drop n bytes) (omega (arith, length-drop n bytes))

pub no_word : (signs : Bool) (bytes : List ℕ) (n : ℕ) → n ≡ prefix_len is_blank bytes → length (take (length bytes - n) (drop n bytes)) ≡ 0 → ◌≡◌ {A = Option (List ℕ × List (List ℕ))} None (first_of (words_of signs bytes))
no_word signs bytes n is h =
    let rest : length (drop (prefix_len is_blank bytes) bytes) ≡ 0 = ap (λ m. length (drop m bytes)) (sym is) ∙ ap length (sym (all_behind bytes n)) ∙ h in
    ap first_of (sym (nothing (drop (prefix_len is_blank bytes) bytes) rest)) ∙ ap first_of (behind_blanks signs bytes)
  where
    nothing : (xs : List ℕ) → length xs ≡ 0 → words_of signs xs ≡ []
    nothing [] k = refl
    nothing (x ∷ xs) k = absurd (omega arith)

pub one_word : (signs : Bool) (bytes rest : List ℕ) (n m : ℕ) → n ≡ prefix_len is_blank bytes → rest ≡ take (length bytes - n) (drop n bytes) → 0 < length rest → m ≡ max (prefix_len (is_plain signs) rest) 1 → ◌≡◌ {A = Option (List ℕ × List (List ℕ))} (Some (take m rest, words_of signs (take (length rest - m) (drop m rest)))) (first_of (words_of signs bytes))
one_word signs bytes rest n m is at some long =
    let here : rest ≡ drop (prefix_len is_blank bytes) bytes = at ∙ all_behind bytes n ∙ ap (λ k. drop k bytes) is in
    let clean : no_blank rest ≡ true = ap no_blank here ∙ no_blank_behind bytes in
    let word = word_at signs rest clean some in
    (λ i. Some (take (long i) rest, words_of signs (all_behind rest m i))) ∙ (λ i. Some (take (max (prefix_len (is_plain signs) rest) 1) rest, words_of signs (drop (long i) rest))) ∙ ap first_of (sym word) ∙ ap (λ xs. first_of (words_of signs xs)) here ∙ ap first_of (behind_blanks signs bytes)

pub positive : (n : ℕ) → false ≡ (n == 0) → 0 < n
positive zero h = cc
positive (suc n) h = omega arith
