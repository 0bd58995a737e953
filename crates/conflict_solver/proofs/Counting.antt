-- How many lines can be new to each other: fewer than 3 to the power of the number of variables.
use Rattle.std.proofs.Common.{◌≡◌, ◌≢◌, ℕ, zero, suc, ◌+◌, ◌*◌, ◌^◌, ◌<◌, inl, inr, ℤ, pos, negsuc, Bool, true, false, eqb, List, [], ◌∷◌, ◌++◌, map, length, get_or, All, Contains, refl, sym, subst, pow-suc, arith}
use Rattle.std.specs.List.{AllByRecursion, IsDistinct, list_any}
use Rattle.std.proofs.lemmas.Int.{ints}
use Rattle.std.proofs.lemmas.Bool.{cases_lt}
use Rattle.std.proofs.lemmas.Bool.Decides.{nat_tests}
use Rattle.std.proofs.lemmas.List.{length-map}
use Rattle.std.proofs.lemmas.List.Elements.{All-nil, All-cons, All-head, All-tail, All-map, All-contains, Contains-get_or, Contains-push, Contains-append_left}
use Rattle.std.proofs.lemmas.List.Folds.{Any-from_list_any}
use Rattle.std.proofs.lemmas.Map.Keys.{IsDistinct-cons}
use Rattle.std.proofs.lemmas.Map.Steps.{length-le_from_distinct_below}
use Rattle.clause_base.specs.FormulaText.{is_literal_of}
use Rattle.clause_base.specs.Literals.{is_in}
use Rattle.clause_base.specs.Novelty.{IsApart, HaveSame}
use Rattle.clause_base.specs.Plain.{IsPlain}
use Rattle.clause_base.proofs.LiteralLemmas.{by_test, in_contains, contains_in}
use Rattle.refutation_check.specs.Deriving.{AllNew}
use Rattle.conflict_solver.proofs.Derivations.{empty_plain}

-- ---- a number for each clause

-- 1 where the variable is there, 2 where its negation is, and 0 where neither is
abbrev digit_by : Bool → Bool → ℕ
digit_by true negated = 1
digit_by false true = 2
digit_by false false = 0

-- the digit of the variable after this number
abbrev digit : List ℤ → ℕ → ℕ
digit clause n = digit_by (is_in clause (pos (suc n))) (is_in clause (negsuc n))

-- the digits of the first variables, read in base 3
abbrev ternary : ℕ → List ℤ → ℕ
ternary zero clause = 0
ternary (suc n) clause = ternary n clause * 3 + digit clause n

digit-lt : (there negated : Bool) → digit_by there negated < 3
digit-lt true negated = omega arith
digit-lt false true = omega arith
digit-lt false false = omega arith

one_more : (low high power digit : ℕ) → low < power → digit < 3 → high ≡ power * 3 → low * 3 + digit < high
one_more low high power digit lt small is = omega (arith, lt, small, is)

ternary-lt : (n : ℕ) (clause : List ℤ) → ternary n clause < 3 ^ n
ternary-lt zero clause = omega arith
ternary-lt (suc n) clause = one_more (ternary n clause) (3 ^ suc n) (3 ^ n) (digit clause n) (ternary-lt n clause) (digit-lt _ _) (pow-suc 3 n)

-- ---- clauses with the same number have the same literals

same_rest : (x y d e : ℕ) → x * 3 + d ≡ y * 3 + e → d < 3 → e < 3 → x ≡ y
same_rest x y d e same small few = omega (arith, same, small, few)

same_last : (x y d e : ℕ) → x * 3 + d ≡ y * 3 + e → d < 3 → e < 3 → d ≡ e
same_last x y d e same small few = omega (arith, same, small, few)

same_digits : (n : ℕ) (a b : List ℤ) → ternary n a ≡ ternary n b → (k : ℕ) → k < n → digit a k ≡ digit b k
same_digits zero a b same k lt = let none : ⊥ = omega (arith, lt) in absurd none
same_digits (suc n) a b same k lt = elim (cases_lt k n) [
  | inl less ↦ same_digits n a b (same_rest (ternary n a) (ternary n b) (digit a n) (digit b n) same (digit-lt _ _) (digit-lt _ _)) k less
  | inr more ↦
      let last : n ≡ k = omega (arith, lt, more) in
      subst (λ j. digit a j ≡ digit b j) last (same_last (ternary n a) (ternary n b) (digit a n) (digit b n) same (digit-lt _ _) (digit-lt _ _))
]

same_there : (p q r s : Bool) → digit_by p q ≡ digit_by r s → p ≡ true → r ≡ true
same_there p q true s same is = refl
same_there true q false true same is = let none : ⊥ = omega (arith, same) in absurd none
same_there true q false false same is = let none : ⊥ = omega (arith, same) in absurd none
same_there false q false s same is = is

same_negated : (p q r s : Bool) → digit_by p q ≡ digit_by r s → (p ≡ true → q ≡ true → ⊥) → q ≡ true → s ≡ true
same_negated p q r true same apart is = refl
same_negated true q r false same apart is = absurd (apart refl is)
same_negated false true true false same apart is = let none : ⊥ = omega (arith, same) in absurd none
same_negated false true false false same apart is = let none : ⊥ = omega (arith, same) in absurd none
same_negated false false r false same apart is = is

variable_lt : (vars n : ℕ) → is_literal_of vars (pos (suc n)) ≡ true → n < vars
variable_lt vars n is = grind (arith, ints, nat_tests, is)

negation_lt : (vars n : ℕ) → is_literal_of vars (negsuc n) ≡ true → n < vars
negation_lt vars n is = grind (arith, ints, nat_tests, is)

module _ (vars : ℕ) where
  has_too : (a b : List ℤ) → IsApart a → ternary vars a ≡ ternary vars b → (l : ℤ) → is_literal_of vars l ≡ true → Contains a l → Contains b l
  has_too a b apart same (pos zero) is has = cc
  has_too a b apart same (pos (suc n)) is has =
      let digits = same_digits vars a b same n (variable_lt vars n is) in
      in_contains b (pos (suc n)) (same_there _ (is_in a (negsuc n)) _ (is_in b (negsuc n)) digits (contains_in a (pos (suc n)) has))
  has_too a b apart same (negsuc n) is has =
      let alone : is_in a (pos (suc n)) ≡ true → is_in a (negsuc n) ≡ true → ⊥ = λ there negated. apart.apart (pos (suc n)) (in_contains a (pos (suc n)) there) (in_contains a (negsuc n) negated) in
      let digits = same_digits vars a b same n (negation_lt vars n is) in
      in_contains b (negsuc n) (same_negated (is_in a (pos (suc n))) _ (is_in b (pos (suc n))) _ digits alone (contains_in a (negsuc n) has))

  all_there : (a b : List ℤ) → IsPlain vars a → ternary vars a ≡ ternary vars b → All (Contains b) a
  all_there a b plain same k d lt = has_too a b plain.once.apart same (get_or a k d) (plain.literals k d lt) (Contains-get_or a k d lt)

  have_same : (a b : List ℤ) → IsPlain vars a → IsPlain vars b → ternary vars a ≡ ternary vars b → HaveSame a b
  have_same a b p q same = record { there = all_there a b p same; back = all_there b a q (sym same) }

  differ : (a b : List ℤ) → IsPlain vars a → IsPlain vars b → (HaveSame a b → ⊥) → eqb (ternary vars a) (ternary vars b) ≡ false
  differ a b p q other = by_test (eqb (ternary vars a) (ternary vars b))
      (λ is. absurd (other (have_same a b p q (equal (ternary vars a) (ternary vars b) is))))
      (λ is. is)
    where
      equal : (m n : ℕ) → eqb m n ≡ true → m ≡ n
      equal m n is = grind (arith, nat_tests, is)

  -- ---- lines that are new to each other have different numbers

  abbrev ArePlain : List (List ℤ × List ℕ) → Type 0
  ArePlain lines = All (λ line. IsPlain vars line.0) lines

  abbrev numbers : List (List ℤ × List ℕ) → List ℕ
  numbers lines = map (λ line. ternary vars line.0) lines

  differ_all : (a : List ℤ) (lines : List (List ℤ × List ℕ)) → IsPlain vars a → ArePlain lines → All (λ line. HaveSame a line.0 → ⊥) lines
      → AllByRecursion (λ n. eqb (ternary vars a) n ≡ false) (numbers lines)
  differ_all a [] p plain others = tt
  differ_all a (line ∷ lines) p plain others = (
    differ a line.0 p (All-head (λ line. IsPlain vars line.0) line lines plain) (All-head (λ line. HaveSame a line.0 → ⊥) line lines others),
    differ_all a lines p (All-tail (λ line. IsPlain vars line.0) line lines plain) (All-tail (λ line. HaveSame a line.0 → ⊥) line lines others),
  )

  -- no line has the same literals as an earlier clause
  others : (a : List ℤ) (earlier : List (List ℤ)) (lines : List (List ℤ × List ℕ)) → Contains earlier a → AllNew earlier lines → All (λ line. HaveSame a line.0 → ⊥) lines
  others a earlier [] has new = All-nil (λ line. HaveSame a line.0 → ⊥)
  others a earlier (line ∷ lines) has new = All-cons (λ line. HaveSame a line.0 → ⊥) line lines
      (All-contains (λ other. HaveSame other line.0 → ⊥) earlier a new.0.fresh has)
      (others a (earlier ++ line.0 ∷ []) lines (Contains-append_left earlier (line.0 ∷ []) a has) new.1)

  distinct : (earlier : List (List ℤ)) (lines : List (List ℤ × List ℕ)) → AllNew earlier lines → ArePlain lines → IsDistinct eqb (numbers lines)
  unfolding IsDistinct
  distinct earlier [] new plain = tt
  distinct earlier (line ∷ lines) new plain = (
    differ_all line.0 lines (All-head (λ line. IsPlain vars line.0) line lines plain) (All-tail (λ line. IsPlain vars line.0) line lines plain)
        (others line.0 (earlier ++ line.0 ∷ []) lines (Contains-push earlier line.0) new.1),
    distinct (earlier ++ line.0 ∷ []) lines new.1 (All-tail (λ line. IsPlain vars line.0) line lines plain),
  )

  -- ---- and none has the number of the empty clause

  not_empty : (clause : List ℤ) → clause ≢ [] → HaveSame [] clause → ⊥
  not_empty [] some same = some refl
  not_empty (l ∷ clause) some same = let has = same.back 0 l (omega arith) in omega (arith, has.1)

  all_below : (bound : ℕ) (ns : List ℕ) → All (λ n. n < bound) ns → (n : ℕ) → list_any (eqb n) ns ≡ true → n < bound
  all_below bound ns below n is =
      let (k, m, lt, at, same) = Any-from_list_any (eqb n) ns is in
      smaller m (subst (λ i. i < bound) at (below k m lt)) same
    where
      smaller : (m : ℕ) → m < bound → eqb n m ≡ true → n < bound
      smaller m lt same = grind (arith, nat_tests, lt, same)

  -- the numbers of the lines, behind that of the empty clause
  abbrev all_numbers : List (List ℤ × List ℕ) → List ℕ
  all_numbers lines = ternary vars [] ∷ numbers lines

  all_distinct : (earlier : List (List ℤ)) (lines : List (List ℤ × List ℕ)) → AllNew earlier lines → All (λ line. line.0 ≢ []) lines → ArePlain lines → IsDistinct eqb (all_numbers lines)
  all_distinct earlier lines new some plain =
      let others = differ_all [] lines (empty_plain vars) plain (λ k d lt. not_empty (get_or lines k d).0 (some k d lt)) in
      IsDistinct-cons eqb (ternary vars []) (numbers lines) others (distinct earlier lines new plain)

  all_small : (lines : List (List ℤ × List ℕ)) → All (λ n. n < 3 ^ vars) (all_numbers lines)
  all_small lines =
      let rest = All-map (λ n. n < 3 ^ vars) (λ (line : List ℤ × List ℕ). ternary vars line.0) lines (λ k d lt. ternary-lt vars (get_or lines k d).0) in
      All-cons (λ n. n < 3 ^ vars) (ternary vars []) (numbers lines) (ternary-lt vars []) rest

  pub few_lines : (earlier : List (List ℤ)) (lines : List (List ℤ × List ℕ)) → AllNew earlier lines → All (λ line. line.0 ≢ []) lines → All (λ line. IsPlain vars line.0) lines → length lines < 3 ^ vars
  few_lines earlier lines new some plain =
      let count = length-le_from_distinct_below (all_numbers lines) (3 ^ vars) (all_distinct earlier lines new some plain) (all_below (3 ^ vars) (all_numbers lines) (all_small lines)) in
      omega (arith, count, length-map lines (λ (line : List ℤ × List ℕ). ternary vars line.0))
