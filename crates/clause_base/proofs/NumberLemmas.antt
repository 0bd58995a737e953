-- Words that are numbers: digits with no leading zero are decimals.
use Rattle.std.proofs.Common.{◌≡◌, ℕ, zero, suc, ◌^◌, ◌<◌, ◌≤◌, inl, inr, ℤ, pos, negsuc, Bool, true, false, not, ◌&&◌, ◌||◌, ◌==◌, nat_lt, nat_le, List, [], ◌∷◌, length, get_or, drop, Option, Some, None, Result, Ok, Err, SomeIff, OkIff, MatchResult, is_ok, refl, sym, ap, ◌∙◌, subst, arith, rules}
use Rattle.std.specs.List.{list_all}
use Rattle.std.specs.Char.{is_ascii_digit}
use Rattle.std.specs.Fmt.{decimal, signed_decimal}
use Rattle.std.specs.Str.Parse.{digits_value, ParsesUnsigned}
use Rattle.std.specs.Result.{result_ok}
use Rattle.std.specs.Str.{IsUtf8}
use Rattle.std.proofs.lemmas.Bool.{cases_lt}
use Rattle.std.proofs.lemmas.Bool.Decides.{nat_tests}
use Rattle.std.proofs.lemmas.List.{get_or_past}
use Rattle.std.proofs.lemmas.Fmt.{decimal-digits_value, decimal_digit, decimal_nonempty, first_decimal, digits_decimal, digits_value-decimal}
use Rattle.std.proofs.lemmas.Str.{IsUtf8-from_ascii}
use Rattle.std.proofs.lemmas.Str.Parse.{IsNumeralModel, numerals_by_value, digit_at, parse_digits}
use Rattle.clause_base.specs.TextWords.{has_bytes}
use Rattle.clause_base.specs.FormulaText.{most_vars, is_literal_of}
use Rattle.clause_base.specs.FormulaFaults.{is_number, IsOverMost}
use Rattle.clause_base.proofs.LiteralLemmas.{no_both}

pub own : IsNumeralModel (λ ds. list_all is_ascii_digit ds ≡ true) (digits_value 10)
own = numerals_by_value (λ ds. list_all is_ascii_digit ds ≡ true) (search rules)

-- digits are a text
pub digits_utf8 : (ds : List ℕ) → list_all is_ascii_digit ds ≡ true → IsUtf8 ds
digits_utf8 ds digits = IsUtf8-from_ascii ds low where
  low : (i : ℕ) → get_or ds i 0 < 128
  low i = elim (cases_lt i (length ds)) [
    | inl lt ↦ let digit = digit_at ds i (own.to ds digits) lt in omega (arith, digit.1)
    | inr more ↦ omega (arith, get_or_past ds i 0 more)
  ]

-- ---- numbers and decimals

no_zero : (b : ℕ) (bs : List ℕ) → (b ≡ 48 → length (b ∷ bs) ≡ 1) → (not (b == 48) || not (has_bytes bs)) ≡ true
no_zero b [] lead = grind arith
no_zero b (c ∷ cs) lead = grind (arith, nat_tests, lead)

pub is_number_by : (ds : List ℕ) → list_all is_ascii_digit ds ≡ true → 0 < length ds → (get_or ds 0 0 ≡ 48 → length ds ≡ 1) → is_number ds ≡ true
is_number_by [] digits some lead = absurd (omega (arith, some))
is_number_by (b ∷ bs) digits some lead = ap (λ t. t && (not (b == 48) || not (has_bytes bs))) digits ∙ no_zero b bs lead

pub both : (a b : Bool) → (a && b) ≡ true → (a ≡ true) × (b ≡ true)
both true true is = (refl, refl)
both true false is = cc
both false b is = cc

pub digits_of_number : (ds : List ℕ) → is_number ds ≡ true → list_all is_ascii_digit ds ≡ true
digits_of_number [] is = cc
digits_of_number (b ∷ bs) is = (both _ _ is).0

some_of_number : (ds : List ℕ) → is_number ds ≡ true → 0 < length ds
some_of_number [] is = cc
some_of_number (b ∷ bs) is = omega arith

lead_of_number : (ds : List ℕ) → is_number ds ≡ true → get_or ds 0 0 ≡ 48 → length ds ≡ 1
lead_of_number [] is at = cc
lead_of_number (b ∷ []) is at = refl
lead_of_number (b ∷ c ∷ cs) is at = let h = (both _ _ is).1 in absurd (clash b h at) where
  clash : (b : ℕ) → (not (b == 48) || false) ≡ true → b ≡ 48 → ⊥
  clash b h at = grind (arith, nat_tests, h, at)

-- a small number is the decimal of its value
pub decimal_of : (word : List ℕ) → is_number word ≡ true → digits_value 10 word < 2 ^ 64 → decimal (digits_value 10 word) ≡ word
decimal_of word is small = decimal-digits_value own word (digits_of_number word is) (some_of_number word is) (lead_of_number word is) small

lead_of_decimal : (n : ℕ) → n < 2 ^ 64 → get_or (decimal n) 0 0 ≡ 48 → length (decimal n) ≡ 1
lead_of_decimal zero small at = ap length (decimal_digit 0 (omega arith))
lead_of_decimal (suc n) small at = absurd (omega (arith, first_decimal (suc n) (omega arith) small, at))

pub is_number-decimal : (n : ℕ) → n < 2 ^ 64 → is_number (decimal n) ≡ true
is_number-decimal n small = is_number_by (decimal n) (digits_decimal own n small) (decimal_nonempty n small) (lead_of_decimal n small)

pub value-decimal : (n : ℕ) → n < 2 ^ 64 → digits_value 10 (decimal n) ≡ n
value-decimal n small = digits_value-decimal own n small

-- a word that is no number is no decimal
pub no_decimal : (word : List ℕ) (n : ℕ) → n < 2 ^ 64 → is_number word ≡ false → word ≡ decimal n → ⊥
no_decimal word n small other is = no_both (ap is_number is ∙ is_number-decimal n small) other

-- a decimal has the value of its digits
pub decimal_value : (word : List ℕ) (n : ℕ) → n < 2 ^ 64 → word ≡ decimal n → digits_value 10 word ≡ n
decimal_value word n small is = ap (digits_value 10) is ∙ value-decimal n small

-- a number that is spelled by no decimal up to this is over it
pub over_most : (word : List ℕ) (most : ℕ) → most < 2 ^ 64 → is_number word ≡ true → ((n : ℕ) → n ≤ most → word ≡ decimal n → ⊥) → IsOverMost most word
over_most word most small is none = record {
  number = is;
  over = elim (cases_lt most (digits_value 10 word)) [
    | inl over ↦ over
    | inr few ↦ absurd (none (digits_value 10 word) few (sym (decimal_of word is (omega (arith, few, small)))))
  ];
}

-- what has no error is a text
pub is_text : {S E : Type 0} (P : S → Type 0) (N : E → Type 0) (result : Result S E) → MatchResult result P N
    → ((e : E) → N e → ⊥) → is_ok result ≡ true
is_text P N (Ok s) h none = refl
is_text P N (Err e) h none = absurd (none e h)

-- what is known of it
pub text_is : {S E : Type 0} (P : S → Type 0) (N : E → Type 0) (result : Result S E) (found : Option S) (s : S) → MatchResult result P N
    → found ≡ result_ok result → found ≡ Some s → P s
text_is P N (Ok x) found s h given is = subst P (let same : Some x ≡ Some s = sym given ∙ is in cc) h
text_is {S = S} P N (Err e) found s h given is =
    let both : ⊥ = (let same : ◌≡◌ {A = Option S} None (Some s) = sym given ∙ is in cc) in absurd both

-- what the value of digits is, as it is parsed
pub parsed : {E : Type 0} (result : Result ℕ E) (found : Option ℕ) (text digits : List ℕ) → is_number digits ≡ true → text ≡ digits
    → ParsesUnsigned 64 10 text result → found ≡ result_ok result
    → SomeIff found (digits_value 10 digits < 2 ^ 64) (digits_value 10 digits)
parsed result found text digits is same parses ok =
    subst (λ o. SomeIff o (digits_value 10 digits < 2 ^ 64) (digits_value 10 digits)) (sym ok)
    (by_result result (parse_digits own 64 digits result
    (subst (λ t. ParsesUnsigned 64 10 t result) same parses) (digits_of_number digits is)))
  where
    by_result : {E : Type 0} (result : Result ℕ E)
        → OkIff result ((0 < length digits) × (digits_value 10 digits < 2 ^ 64)) (digits_value 10 digits)
        → SomeIff (result_ok result) (digits_value 10 digits < 2 ^ 64) (digits_value 10 digits)
    by_result (Ok x) h = (h.0.1, h.1)
    by_result (Err e) h = λ small. h (some_of_number digits is, small)

-- ---- literals

pub within : (vars n : ℕ) → is_literal_of vars (pos n) ≡ true → (0 < n) × (n ≤ vars)
within vars n is = let h = both (nat_lt 0 n) (nat_le n vars) is in (grind (arith, nat_tests, h.0), grind (arith, nat_tests, h.1))

pub within_negative : (vars n : ℕ) → is_literal_of vars (negsuc n) ≡ true → suc n ≤ vars
within_negative vars n is = let h = both (nat_lt 0 (suc n)) (nat_le (suc n) vars) is in grind (arith, nat_tests, h.1)

pub unsigned : (vars : ℕ) (word : List ℕ) → ((rest : List ℕ) → word ≡ 45 ∷ rest → ⊥) → ((n : ℕ) → 0 < n → n ≤ vars → word ≡ decimal n → ⊥)
    → (l : ℤ) → is_literal_of vars l ≡ true → word ≡ signed_decimal l → ⊥
unsigned vars word plain none (pos n) is spelled = let h = within vars n is in none n h.0 h.1 spelled
unsigned vars word plain none (negsuc n) is spelled = plain (decimal (suc n)) spelled

no_minus : (n : ℕ) → n ≤ most_vars → get_or (decimal n) 0 0 ≡ 45 → ⊥
no_minus n few at = let digit = digit_at (decimal n) 0 (own.to (decimal n) (digits_decimal own n (omega (arith, few)))) (decimal_nonempty n (omega (arith, few))) in omega (arith, digit.0, at)

pub signed : (vars : ℕ) (word rest : List ℕ) → vars ≤ most_vars → word ≡ 45 ∷ rest → ((n : ℕ) → 0 < n → n ≤ vars → rest ≡ decimal n → ⊥)
    → (l : ℤ) → is_literal_of vars l ≡ true → word ≡ signed_decimal l → ⊥
signed vars word rest most behind none (pos n) is spelled = no_minus n (omega (arith, (within vars n is).1, most)) (ap (λ ds. get_or ds 0 0) (sym spelled ∙ behind))
signed vars word rest most behind none (negsuc n) is spelled = none (suc n) (omega arith) (within_negative vars n is) (ap (drop 1) (sym behind ∙ spelled))
