-- Worked values of the definitions, each computed, and instances that hold or are refused.
use Rattle.std.proofs.Common.{◌≡◌, ◌≢◌, ◌⊎◌, inl, inr, ℕ, ◌≤◌, Bool, true, false, List, [], ◌∷◌, ◌++◌, length, refl, ap, arith, codes}
use Rattle.std.specs.Prelude.{ℤ, pos, negsuc, neg_ℤ}
use Rattle.std.specs.List.{Contains}
use Rattle.std.specs.Fmt.{decimal, signed_decimal, digits}
use Rattle.std.specs.Str.Parse.{digits_value}
use Rattle.std.proofs.lemmas.Int.{ints}
use Rattle.clause_base.specs.declared.faults.FormulaFault.TheVariants.{Syntax, TooLarge, NoMemory}
use Rattle.clause_base.specs.Literals.{is_literal, IsLiteral, code_of, is_in, IsRising}
use Rattle.clause_base.specs.Solving.{is_true_under, IsTrueUnder, Solves}
use Rattle.clause_base.specs.Novelty.{IsApart, IsTautology, HaveSame, IsNew}
use Rattle.clause_base.specs.Teaching.{IsConsistent, IsPropagated, IsClosed, Teaches, IsOpen}
use Rattle.clause_base.specs.Formulas.{Clauses, IsClauseWithin, IsFormula}
use Rattle.clause_base.specs.TextWords.{Word, words_of, texts_of}
use Rattle.clause_base.specs.FormulaText.{is_literal_of, clause_texts, IsEnd, SpellsFormula}
use Rattle.clause_base.specs.FormulaFaults.{is_number, IsFront, IsOverMost, IsTooLarge, IsFormulaFault}
use Rattle.clause_base.specs.Readers.{GoesOn}
use Rattle.clause_base.proofs.LiteralLemmas.{by_test, no_both, differ, in_contains, lacks}
use Rattle.clause_base.proofs.NumberLemmas.{value-decimal, within}
use Rattle.clause_base.proofs.FormulaLemmas.{head_same, begins_vars, front_none, front_cnf}
use Rattle.clause_base.proofs.FaultLemmas.{no_clause, not_both}
use Rattle.clause_base.proofs.Teachings.{is_apart, no_superset}
use Rattle.clause_base.proofs.Instances.{all, rising_by, same_by, within_by, not_true, apart_by, propagated_by_one, propagated_by_two, forced}

-- ---- literals

greatest : is_literal (pos 2147483647) ≡ true
greatest = refl

too_great : is_literal (pos 2147483648) ≡ false
too_great = refl

least : is_literal (negsuc 2147483646) ≡ true
least = refl

too_low : is_literal (negsuc 2147483647) ≡ false
too_low = refl

nought : IsLiteral (pos 0) → ⊥
nought is = no_both is refl

variable_code : code_of (pos 3) ≡ 6
variable_code = refl

negation_code : code_of (neg_ℤ (pos 3)) ≡ 7
negation_code = refl

-- ---- clauses

rises : IsRising (negsuc 4 ∷ negsuc 1 ∷ pos 3 ∷ [])
rises = rising_by (negsuc 4 ∷ negsuc 1 ∷ pos 3 ∷ []) ((refl, (refl, tt)), ((refl, tt), (tt, tt)))

none_rises : IsRising []
none_rises = rising_by [] tt

twice_listed : IsRising (pos 2 ∷ pos 2 ∷ []) → ⊥
twice_listed up = grind (arith, ints, up.rising 0 1 (pos 0) (omega arith) (omega arith))

falls : IsRising (pos 1 ∷ negsuc 0 ∷ []) → ⊥
falls up = grind (arith, ints, up.rising 0 1 (pos 0) (omega arith) (omega arith))

-- (2 -1 2) lists the literals of (-1 2), but not those of (2)
repeats : List ℤ
repeats = pos 2 ∷ negsuc 0 ∷ pos 2 ∷ []

same_literals : HaveSame repeats (negsuc 0 ∷ pos 2 ∷ [])
unfolding repeats
same_literals = same_by repeats (negsuc 0 ∷ pos 2 ∷ []) refl refl

one_more : HaveSame repeats (pos 2 ∷ []) → ⊥
unfolding repeats
one_more same = lacks (pos 2 ∷ []) (negsuc 0) refl (same.there 1 (pos 0) (omega arith))

apart : IsApart repeats
unfolding repeats
apart = apart_by repeats refl

not_apart : IsApart (pos 1 ∷ negsuc 0 ∷ []) → ⊥
not_apart apart = apart.apart (pos 1) (0, omega arith, refl) (1, omega arith, refl)

tautology : IsTautology (pos 1 ∷ negsuc 0 ∷ [])
tautology = record { lit = pos 1; there = (0, omega arith, refl); back = (1, omega arith, refl); differ = differ (pos 1) (negsuc 0) refl }

pub no_tautology : IsTautology (pos 1 ∷ pos 2 ∷ []) → ⊥
no_tautology t = (apart_by (pos 1 ∷ pos 2 ∷ []) refl).apart t.lit t.there t.back

within_three : IsClauseWithin 3 (pos 3 ∷ negsuc 2 ∷ [])
within_three = within_by 3 (pos 3 ∷ negsuc 2 ∷ []) refl

beyond_two : IsClauseWithin 2 (pos 1 ∷ negsuc 2 ∷ []) → ⊥
beyond_two within = omega (arith, within 1 (pos 0) (omega arith))

most_variables : IsFormula 2147483647 ([] ∷ [])
most_variables = record { few_vars = omega arith; few_clauses = omega arith; within = all (IsClauseWithin 2147483647) ([] ∷ []) (within_by 2147483647 [] refl, tt) }

too_many_variables : IsFormula 2147483648 [] → ⊥
too_many_variables kept = omega (arith, kept.few_vars)

-- ---- values

holds : ℤ → Bool
holds = is_true_under (true ∷ false ∷ [])

first_value : holds (pos 1) ≡ true
unfolding holds
first_value = refl

second_negated : holds (negsuc 1) ≡ true
unfolding holds
second_negated = refl

no_value : holds (pos 3) ≡ false
unfolding holds
no_value = refl

no_value_negated : holds (negsuc 2) ≡ false
unfolding holds
no_value_negated = refl

-- (1 2), (-2 -2) and (2 -2)
solved : Solves holds ((pos 1 ∷ pos 2 ∷ []) ∷ (negsuc 1 ∷ negsuc 1 ∷ []) ∷ (pos 2 ∷ negsuc 1 ∷ []) ∷ [])
unfolding holds
solved = all (IsTrueUnder holds) ((pos 1 ∷ pos 2 ∷ []) ∷ (negsuc 1 ∷ negsuc 1 ∷ []) ∷ (pos 2 ∷ negsuc 1 ∷ []) ∷ []) ((0, pos 1, omega arith, refl, refl), ((0, negsuc 1, omega arith, refl, refl), ((1, negsuc 1, omega arith, refl, refl), tt)))

no_clauses : Solves holds []
no_clauses = all (IsTrueUnder holds) [] tt

false_clause : Solves holds ((pos 1 ∷ []) ∷ (negsuc 0 ∷ pos 2 ∷ []) ∷ []) → ⊥
unfolding holds
false_clause s = not_true holds (negsuc 0 ∷ pos 2 ∷ []) refl (s 1 [] (omega arith))

empty_clause : Solves holds ([] ∷ []) → ⊥
empty_clause s = not_true holds [] refl (s 0 [] (omega arith))

-- ---- what is new, and what teaches

-- the formula of two variables that has no solution
unfoldable pub square : List (List ℤ)
square = (pos 1 ∷ pos 2 ∷ []) ∷ (pos 1 ∷ negsuc 1 ∷ []) ∷ (negsuc 0 ∷ pos 2 ∷ []) ∷ (negsuc 0 ∷ negsuc 1 ∷ []) ∷ []

nothing : ℤ → Bool
nothing l = false

nothing_is_consistent : IsConsistent nothing
unfolding nothing
nothing_is_consistent = record { apart = λ l is. refl }

one_and_two : List ℤ
one_and_two = pos 1 ∷ pos 2 ∷ []

two_are_consistent : IsConsistent (is_in one_and_two)
unfolding one_and_two
two_are_consistent = record {
  apart = λ l is. by_test (is_in one_and_two (neg_ℤ l))
      (λ back. absurd ((apart_by one_and_two refl).apart l (in_contains one_and_two l is) (in_contains one_and_two (neg_ℤ l) back)))
      (λ no. no);
}

beside_negation : IsConsistent (is_in (pos 1 ∷ negsuc 0 ∷ [])) → ⊥
beside_negation set = no_both {b = true} refl (set.apart (pos 1) refl)

-- Two literals are left of a clause: nothing is added, also where they are each other's negation.
two_left : (a b : ℤ) → a ≢ b → IsPropagated nothing (a ∷ b ∷ [])
unfolding nothing
two_left a b other = propagated_by_two nothing (a ∷ b ∷ []) a b (0, omega arith, refl) (1, omega arith, refl) other refl refl

tautology_left : IsPropagated nothing (pos 1 ∷ negsuc 0 ∷ [])
tautology_left = two_left (pos 1) (negsuc 0) (differ (pos 1) (negsuc 0) refl)

-- A clause that lists a literal twice has one literal.
one_left_twice : IsPropagated nothing (pos 1 ∷ pos 1 ∷ []) → ⊥
unfolding nothing
one_left_twice kept = no_both (forced nothing (pos 1 ∷ pos 1 ∷ []) (pos 1) kept (0, omega arith, refl) (all (λ m. (m ≡ pos 1) ⊎ (false ≡ true)) (pos 1 ∷ pos 1 ∷ []) (inl refl, (inl refl, tt)))) refl

added_already : IsPropagated (is_in one_and_two) (pos 1 ∷ pos 1 ∷ negsuc 1 ∷ [])
unfolding one_and_two
added_already = propagated_by_one (is_in one_and_two) (pos 1 ∷ pos 1 ∷ negsuc 1 ∷ []) two_are_consistent (pos 1) (0, omega arith, refl) refl

empty_conflict : (set : ℤ → Bool) → IsPropagated set [] → ⊥
empty_conflict set kept = kept.standing (all (λ m. set (neg_ℤ m) ≡ true) [] tt)

square_closed : IsClosed nothing square
unfolding square
square_closed = all (IsPropagated nothing) square (
  two_left (pos 1) (pos 2) (differ (pos 1) (pos 2) refl),
  (two_left (pos 1) (negsuc 1) (differ (pos 1) (negsuc 1) refl), (two_left (negsuc 0) (pos 2) (differ (negsuc 0) (pos 2) refl), (two_left (negsuc 0) (negsuc 1) (differ (negsuc 0) (negsuc 1) refl), tt))),
)

square_open : IsOpen square
square_open = record { set = nothing; consistent = nothing_is_consistent; closed = square_closed }

-- the first line of its refutation
pub one_teaches : Teaches square (pos 1 ∷ [])
unfolding nothing
one_teaches = record {
  lit = pos 1;
  there = (0, omega arith, refl);
  set = nothing;
  consistent = nothing_is_consistent;
  closed = square_closed;
  others = all (λ m. (m ≡ pos 1) ⊎ (false ≡ true)) (pos 1 ∷ []) (inl refl, tt);
  open_ = refl;
  open_negated = refl;
}

-- With it unit propagation refutes: 1, then 2, and the last clause is false.
pub square_and_one : IsOpen (square ++ (pos 1 ∷ []) ∷ []) → ⊥
unfolding square
square_and_one left = (left.closed 3 [] (omega arith)).standing (all (λ m. left.set (neg_ℤ m) ≡ true) (negsuc 0 ∷ negsuc 1 ∷ []) (one, (two, tt))) where
  one : left.set (pos 1) ≡ true
  one = forced left.set (pos 1 ∷ []) (pos 1) (left.closed 4 [] (omega arith)) (0, omega arith, refl) (all (λ m. (m ≡ pos 1) ⊎ (left.set (neg_ℤ m) ≡ true)) (pos 1 ∷ []) (inl refl, tt))

  two : left.set (pos 2) ≡ true
  two = forced left.set (negsuc 0 ∷ pos 2 ∷ []) (pos 2) (left.closed 2 [] (omega arith)) (1, omega arith, refl) (all (λ m. (m ≡ pos 2) ⊎ (left.set (neg_ℤ m) ≡ true)) (negsuc 0 ∷ pos 2 ∷ []) (inr one, (inl refl, tt)))

-- An earlier clause with a literal more is new, and teaches nothing.
with_three : List ℤ
with_three = pos 1 ∷ pos 2 ∷ pos 3 ∷ []

three_is_new : IsNew square with_three
unfolding square with_three
three_is_new = record {
  apart = apart_by with_three refl;
  fresh = all (λ other. HaveSame other with_three → ⊥) square (no_three _ refl, (no_three _ refl, (no_three _ refl, (no_three _ refl, tt))));
} where
  no_three : (other : List ℤ) → is_in other (pos 3) ≡ false → HaveSame other with_three → ⊥
  no_three other none same = lacks other (pos 3) none (same.back 2 (pos 0) (omega arith))

three_teaches_nothing : Teaches square with_three → ⊥
unfolding square with_three
three_teaches_nothing h = no_superset square with_three h 0 [] (omega arith) (all (Contains with_three) (pos 1 ∷ pos 2 ∷ []) ((0, omega arith, refl), ((1, omega arith, refl), tt)))

-- The same literals in another order are not new.
pub turned : IsNew square (pos 2 ∷ pos 1 ∷ pos 2 ∷ []) → ⊥
unfolding square
turned new = new.fresh 0 [] (omega arith) (same_by (pos 1 ∷ pos 2 ∷ []) (pos 2 ∷ pos 1 ∷ pos 2 ∷ []) refl refl)

empty_is_new : IsNew [] []
empty_is_new = record { apart = apart_by [] refl; fresh = all (λ other. HaveSame other [] → ⊥) [] tt }

tautology_is_not_new : (earlier : List (List ℤ)) → IsNew earlier (pos 1 ∷ negsuc 0 ∷ []) → ⊥
tautology_is_not_new earlier new = not_apart new.apart

tautology_teaches_nothing : (earlier : List (List ℤ)) → Teaches earlier (pos 1 ∷ negsuc 0 ∷ []) → ⊥
tautology_teaches_nothing earlier h = not_apart (is_apart earlier (pos 1 ∷ negsuc 0 ∷ []) h (all (λ l. l ≢ pos 0) (pos 1 ∷ negsuc 0 ∷ []) (differ (pos 1) (pos 0) refl, (differ (negsuc 0) (pos 0) refl, tt))))

empty_teaches_nothing : (earlier : List (List ℤ)) → Teaches earlier [] → ⊥
empty_teaches_nothing earlier h = lacks [] h.lit refl h.there

-- ---- words of a text

-- A word has the position of its first byte; a comment that stands between two words has none.
words : words_of (codes " p\nc 1 2\ncnf x\n 3") ≡ record { at = 1; text = codes "p" } ∷ record { at = 16; text = codes "3" } ∷ []
words = refl

-- A line is a comment only where the `c` is its first byte.
no_comment : texts_of (words_of (codes " cnf\t1\r\n2")) ≡ codes "cnf" ∷ codes "1" ∷ codes "2" ∷ []
no_comment = refl

no_words : words_of (codes "\n\n c\n\n") ≡ record { at = 3; text = codes "c" } ∷ []
no_words = refl

zero : is_number (codes "0") ≡ true
zero = refl

leading_zero : is_number (codes "01") ≡ false
leading_zero = refl

no_number : is_number [] ≡ false
no_number = refl

greatest_variable : is_literal_of 3 (negsuc 2) ≡ true
greatest_variable = refl

no_variable : is_literal_of 3 (pos 4) ≡ false
no_variable = refl

no_literal : is_literal_of 3 (pos 0) ≡ false
no_literal = refl

clause_words : clause_texts (negsuc 0 ∷ pos 20 ∷ []) ≡ codes "-1" ∷ codes "20" ∷ codes "0" ∷ []
unfolding digits
clause_words = refl

empty_clause_words : clause_texts [] ≡ codes "0" ∷ []
empty_clause_words = refl

ends : IsEnd []
ends = tt

ends_at_percent : IsEnd (codes "%rest" ∷ codes "1" ∷ [])
ends_at_percent = refl

goes_on : IsEnd (codes "1" ∷ codes "%" ∷ []) → ⊥
goes_on is = omega (arith, is)

-- ---- texts of formulas

spelled : SpellsFormula (codes "p cnf 1 1\n1 0\n%\n0\n") (record { vars = 1; clauses = (pos 1 ∷ []) ∷ [] })
unfolding digits
spelled = record { words = record { behind = codes "%" ∷ codes "0" ∷ []; whole = refl; ends = refl; few_vars = omega arith; few_clauses = omega arith; literals = refl } }

-- A comment between `p` and `cnf`, a clause that goes on in the next line, a literal twice, and a literal beside its negation.
with_comments : SpellsFormula (codes "p\nc x\n cnf 2 2\n2 -1\n 2 0 1 -1 0") (record { vars = 2; clauses = (pos 2 ∷ negsuc 0 ∷ pos 2 ∷ []) ∷ (pos 1 ∷ negsuc 0 ∷ []) ∷ [] })
unfolding digits
with_comments = record { words = record { behind = []; whole = refl; ends = tt; few_vars = omega arith; few_clauses = omega arith; literals = refl } }

over_limit : IsOverMost 1000000 (codes "1000001")
over_limit = record { number = refl; over = omega arith }

at_limit : IsOverMost 1000000 (codes "1000000") → ⊥
at_limit over = omega (arith, over.over)

over_with_zero : IsOverMost 1000000 (codes "01000001") → ⊥
over_with_zero over = no_both over.number refl

-- Nothing stands in the text, which is no formula.
fault_at_end : IsFormulaFault [] (Syntax 0)
fault_at_end = inr (record { can = front_none; cannot = λ f spells. let no : ⊥ = cc in no; here = refl })

-- The first word is not `p`.
fault_at_first : IsFormulaFault (codes " c 1 1") (Syntax 1)
fault_at_first = inl (record {
  before = [];
  word = record { at = 1; text = codes "c" };
  first = record { front = []; rest = record { at = 3; text = codes "1" } ∷ record { at = 5; text = codes "1" } ∷ []; whole = refl; texts = refl; can = front_none; cannot = λ f. other (head_same f.are.whole) };
  other = λ large. no_header large;
  here = refl;
}) where
  other : codes "c" ≡ codes "p" → ⊥
  other same = omega (arith, head_same same)

  no_header : IsTooLarge [] (codes "c") → ⊥
  no_header (inl h) = omega (arith, ap length h.0)
  no_header (inr h) = omega (arith, ap length h.1)

-- There are too many variables, whatever stands behind.
fault_at_variables : IsFormulaFault (codes "p cnf 1000001 x") (TooLarge 6)
fault_at_variables = record {
  before = codes "p" ∷ codes "cnf" ∷ [];
  word = record { at = 6; text = codes "1000001" };
  first = record { front = record { at = 0; text = codes "p" } ∷ record { at = 2; text = codes "cnf" } ∷ []; rest = record { at = 14; text = codes "x" } ∷ []; whole = refl; texts = refl; can = front_cnf; cannot = λ f. too_many f };
  large = inl (refl, over_limit);
  here = refl;
} where
  too_many : IsFront (codes "p" ∷ codes "cnf" ∷ codes "1000001" ∷ []) → ⊥
  too_many f = omega (arith, f.are.few_vars, ap (digits_value 10) (begins_vars (codes "1000001" ∷ f.more) f.formula f.are), value-decimal f.formula.vars (omega (arith, f.are.few_vars)))

-- The only variable is 1, so the word `2` can't stand in a clause.
fault_at_literal : IsFormulaFault (codes "p cnf 1 1 2 0") (Syntax 10)
unfolding digits
fault_at_literal = no_clause (codes "p cnf 1 1 2 0") 1 1 behind (Syntax 10) (omega arith) (omega arith)
    (record { taken = record { at = 0; text = codes "p" } ∷ record { at = 2; text = codes "cnf" } ∷ record { at = 6; text = codes "1" } ∷ record { at = 8; text = codes "1" } ∷ []; whole = refl; spelled = refl })
    (record { clauses = []; lits = []; new = behind; takes = record { taken = []; whole = refl; spelled = refl }; fewer = omega arith; all_literals = refl; literals = refl; stops = stops; here = refl })
    (λ e. other e)
  where
    behind : List Word
    behind = record { at = 10; text = codes "2" } ∷ record { at = 12; text = codes "0" } ∷ []

    value_two : (n : ℕ) → n ≤ 1 → codes "2" ≡ decimal n → ⊥
    value_two n small same = omega (arith, small, ap (digits_value 10) same, value-decimal n (omega (arith, small)))

    no_two : (l : ℤ) → is_literal_of 1 l ≡ true → codes "2" ≡ signed_decimal l → ⊥
    no_two (pos n) is same = value_two n (within 1 n is).1 same
    no_two (negsuc n) is same = omega (arith, head_same same)

    stops : GoesOn 1 (codes "2" ∷ codes "0" ∷ []) → ⊥
    stops (inl same) = omega (arith, head_same same)
    stops (inr (l, is, same)) = no_two l is same

    other : Syntax 10 ≡ NoMemory → ⊥
    other e = cc

-- so the text spells no formula
no_formula : (f : Clauses) → SpellsFormula (codes "p cnf 1 1 2 0") f → ⊥
no_formula f spells = not_both (codes "p cnf 1 1 2 0") f (Syntax 10) spells fault_at_literal
