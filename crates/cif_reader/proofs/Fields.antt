-- The fields of a label, one by one.
use Rattle.std.proofs.Common.{◌≡◌, ℕ, suc, zero, ◌+◌, Bool, true, false, not, cond, if◌then◌else◌, List, [], ◌∷◌, length, drop, take, refl, sym, ap, ◌∙◌, arith, eqb-true, one-add}
use Rattle.std.proofs.lemmas.Bool.Decides.{nat_tests}
use Rattle.std.specs.Prelude.{Option, Some, None, filter, ◌==◌}
use Rattle.std.specs.List.{list_all, prefix_len, slice_split, onto_first}
use Rattle.std.specs.Char.{is_ascii_digit}
use Rattle.std.specs.Str.Parse.{AllDigits}
use Rattle.plane_geom.specs.Texts.{◌>>=◌}
use Rattle.cif_grammar.proofs.Numbers.{own}
use Rattle.cif_reader.specs.Label.{Label, is_white, is_label, fields, label_of_fields, label_in}
use Rattle.cif_reader.specs.Near.{is_dark, field_at, label_on, label_tail, label_by_fields}

pub all_digits : (digits : List ℕ) (r : Bool) → r ≡ true → r ≡ list_all is_ascii_digit digits → AllDigits 10 digits
all_digits digits r all is = own.to digits (sym is ∙ all)

-- ---- what stands between white bytes

kept : List (List ℕ) → List (List ℕ)
kept parts = filter (λ part. not (length part == 0)) parts

white_first : (b : ℕ) (bs : List ℕ) (t : Bool) → is_white b ≡ t → t ≡ true → fields (b ∷ bs) ≡ fields bs
white_first b bs t h e = ap (λ u. filter (λ part. not (length part == 0)) (cond u ([] ∷ slice_split is_white bs) (onto_first b (slice_split is_white bs)))) (h ∙ e)

past_case : (b : ℕ) (bs : List ℕ) (t : Bool) → is_white b ≡ t → fields (drop (prefix_len is_white bs) bs) ≡ fields bs → fields (drop (cond t (1 + prefix_len is_white bs) 0) (b ∷ bs)) ≡ fields (b ∷ bs)
past_case b bs true h ih = ap (λ n. fields (drop n (b ∷ bs))) (one-add (prefix_len is_white bs)) ∙ ih ∙ sym (white_first b bs true h refl)
past_case b bs false h ih = refl

-- white bytes before a field
past_white : (bytes : List ℕ) → fields (drop (prefix_len is_white bytes) bytes) ≡ fields bytes
past_white [] = refl
past_white (b ∷ bs) = past_case b bs (is_white b) refl (past_white bs)

-- the first part of the bytes, and the fields behind it
record Split (bytes : List ℕ) : Type 0 where
  more : List (List ℕ)
  is : slice_split is_white bytes ≡ take (prefix_len is_dark bytes) bytes ∷ more
  rest : filter (λ part. not (length part == 0)) more ≡ fields (drop (prefix_len is_dark bytes) bytes)

split_case : (b : ℕ) (bs : List ℕ) (t : Bool) → is_white b ≡ t → Split bs → Split (b ∷ bs)
split_case b bs true h s = record {
  more = slice_split is_white bs;
  is = ap (λ u. cond u ([] ∷ slice_split is_white bs) (onto_first b (slice_split is_white bs))) h ∙ ap (λ n. take n (b ∷ bs) ∷ slice_split is_white bs) (sym (ap (λ u. cond (not u) (1 + prefix_len is_dark bs) 0) h));
  rest = sym (ap (λ n. fields (drop n (b ∷ bs))) (ap (λ u. cond (not u) (1 + prefix_len is_dark bs) 0) h) ∙ white_first b bs true h refl);
}
split_case b bs false h s =
    let n : prefix_len is_dark (b ∷ bs) ≡ suc (prefix_len is_dark bs) = ap (λ u. cond (not u) (1 + prefix_len is_dark bs) 0) h ∙ one-add (prefix_len is_dark bs) in
    record {
      more = s.more;
      is = ap (λ u. cond u ([] ∷ slice_split is_white bs) (onto_first b (slice_split is_white bs))) h ∙ ap (onto_first b) s.is ∙ ap (λ k. take k (b ∷ bs) ∷ s.more) (sym n);
      rest = s.rest ∙ ap (λ k. fields (drop k (b ∷ bs))) (sym n);
    }

splits : (bytes : List ℕ) → Split bytes
splits [] = record { more = []; is = refl; rest = refl }
splits (b ∷ bs) = split_case b bs (is_white b) refl (splits bs)

-- the first field and the others
abbrev pub fields_from : Option (List ℕ × List ℕ) → List (List ℕ)
fields_from None = []
fields_from (Some f) = f.0 ∷ fields f.1

-- no white byte stands first
record IsAtField (bytes : List ℕ) : Type 0 where
  at : prefix_len is_white bytes ≡ 0

at_case : (b : ℕ) (bs : List ℕ) (t : Bool) → is_white b ≡ t → prefix_len is_white (drop (prefix_len is_white bs) bs) ≡ 0 → prefix_len is_white (drop (cond t (1 + prefix_len is_white bs) 0) (b ∷ bs)) ≡ 0
at_case b bs true h ih = ap (λ n. prefix_len is_white (drop n (b ∷ bs))) (one-add (prefix_len is_white bs)) ∙ ih
at_case b bs false h ih = ap (λ t. cond t (1 + prefix_len is_white bs) 0) h

at_field : (bytes : List ℕ) → prefix_len is_white (drop (prefix_len is_white bytes) bytes) ≡ 0
at_field [] = refl
at_field (b ∷ bs) = at_case b bs (is_white b) refl (at_field bs)

none_case : (b : ℕ) (bs : List ℕ) (t : Bool) → is_white b ≡ t → cond t (1 + prefix_len is_white bs) 0 ≡ 0 → cond (not t) (1 + prefix_len is_dark bs) 0 ≡ 0 → fields (b ∷ bs) ≡ []
none_case b bs true h e k = absurd (omega (arith, e))
none_case b bs false h e k = absurd (omega (arith, k))

nothing_there : (bytes : List ℕ) → prefix_len is_white bytes ≡ 0 → prefix_len is_dark bytes ≡ 0 → fields bytes ≡ []
nothing_there [] h k = refl
nothing_there (b ∷ bs) h k = none_case b bs (is_white b) refl h k

clash : (n : ℕ) → n ≡ 0 → (n == 0) ≡ false → ⊥
clash n e h = grind (arith, nat_tests)

length_some : (bytes : List ℕ) (n : ℕ) → n ≡ prefix_len is_dark bytes → (n == 0) ≡ false → (length (take n bytes) == 0) ≡ false
length_some [] n e h = absurd (clash n e h)
length_some (b ∷ bs) zero e h = absurd (cc)
length_some (b ∷ bs) (suc n) e h = grind (arith, nat_tests)

field_case : (rest : List ℕ) (t : Bool) → (prefix_len is_dark rest == 0) ≡ t → prefix_len is_white rest ≡ 0 → fields rest ≡ fields_from (if t then None else Some (take (prefix_len is_dark rest) rest, drop (prefix_len is_dark rest) rest))
field_case rest true h at = nothing_there rest at (eqb-true (prefix_len is_dark rest) 0 h)
field_case rest false h at =
    let s = splits rest in
    let some = length_some rest (prefix_len is_dark rest) refl h in
    ap (filter (λ part. not (length part == 0))) s.is
    ∙ ap (λ t. cond (not t) (take (prefix_len is_dark rest) rest ∷ filter (λ part. not (length part == 0)) s.more) (filter (λ part. not (length part == 0)) s.more)) some
    ∙ ap (λ r. take (prefix_len is_dark rest) rest ∷ r) s.rest

-- The fields are the first one and those behind it.
pub fields_are : (bytes : List ℕ) → fields bytes ≡ fields_from (field_at bytes)
unfolding field_at
fields_are bytes =
    let rest : List ℕ = drop (prefix_len is_white bytes) bytes in
    sym (past_white bytes) ∙ field_case rest (prefix_len is_dark rest == 0) refl (at_field bytes)

-- ---- the label

on_case : (n name x y layer : List ℕ) (r : Option (List ℕ × List ℕ)) → label_on name x y layer r ≡ label_of_fields (n ∷ name ∷ x ∷ y ∷ layer ∷ fields_from r)
on_case n name x y layer None = refl
on_case n name x y layer (Some f) = refl

tail_case : (n name x y : List ℕ) (r : Option (List ℕ × List ℕ)) → label_tail name x y r ≡ label_of_fields (n ∷ name ∷ x ∷ y ∷ fields_from r)
tail_case n name x y None = refl
tail_case n name x y (Some f) = on_case n name x y f.0 (field_at f.1) ∙ ap (λ fs. label_of_fields (n ∷ name ∷ x ∷ y ∷ f.0 ∷ fs)) (sym (fields_are f.1))

y_case : (n name x : List ℕ) (r : Option (List ℕ × List ℕ)) → (r >>= λ y. label_tail name x y.0 (field_at y.1)) ≡ label_of_fields (n ∷ name ∷ x ∷ fields_from r)
y_case n name x None = refl
y_case n name x (Some f) = tail_case n name x f.0 (field_at f.1) ∙ ap (λ fs. label_of_fields (n ∷ name ∷ x ∷ f.0 ∷ fs)) (sym (fields_are f.1))

x_case : (n name : List ℕ) (r : Option (List ℕ × List ℕ)) → (r >>= λ x. (field_at x.1 >>= λ y. label_tail name x.0 y.0 (field_at y.1))) ≡ label_of_fields (n ∷ name ∷ fields_from r)
x_case n name None = refl
x_case n name (Some f) = y_case n name f.0 (field_at f.1) ∙ ap (λ fs. label_of_fields (n ∷ name ∷ f.0 ∷ fs)) (sym (fields_are f.1))

name_case : (n : List ℕ) (r : Option (List ℕ × List ℕ)) → (r >>= λ name. (field_at name.1 >>= λ x. (field_at x.1 >>= λ y. label_tail name.0 x.0 y.0 (field_at y.1)))) ≡ label_of_fields (n ∷ fields_from r)
name_case n None = refl
name_case n (Some f) = x_case n f.0 (field_at f.1) ∙ ap (λ fs. label_of_fields (n ∷ f.0 ∷ fs)) (sym (fields_are f.1))

first_case : (r : Option (List ℕ × List ℕ)) → (r >>= λ n. (field_at n.1 >>= λ name. (field_at name.1 >>= λ x. (field_at x.1 >>= λ y. label_tail name.0 x.0 y.0 (field_at y.1))))) ≡ label_of_fields (fields_from r)
first_case None = refl
first_case (Some f) = name_case f.0 (field_at f.1) ∙ ap (λ fs. label_of_fields (f.0 ∷ fs)) (sym (fields_are f.1))

label_is : (text : List ℕ) → label_by_fields text ≡ label_of_fields (fields text)
label_is text = first_case (field_at text) ∙ ap label_of_fields (sym (fields_are text))

pub labelled : (text : List ℕ) (made : Option Label) (r : Bool) → r ≡ true → r ≡ is_label text → made ≡ label_by_fields text → made ≡ label_in text
labelled text made r told is h = h ∙ label_is text ∙ ap (λ t. if t then label_of_fields (fields text) else None) (sym told ∙ is)
