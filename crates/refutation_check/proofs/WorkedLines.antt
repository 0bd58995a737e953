-- Worked values of lists of lines, each computed, and instances that hold or are refused.
use Rattle.std.proofs.Common.{◌≡◌, ◌≢◌, inl, inr, ℕ, ℤ, pos, negsuc, neg_ℤ, false, List, [], ◌∷◌, ◌++◌, refl, sym, ap, length, get_or, length-append, arith}
use Rattle.std.specs.List.{All, Contains}
use Rattle.std.specs.Ordering.{int_eq}
use Rattle.std.proofs.lemmas.List.Elements.{All-contains}
use Rattle.clause_base.specs.Literals.{is_in}
use Rattle.clause_base.specs.Formulas.{Clauses}
use Rattle.clause_base.specs.Novelty.{HaveSame, IsNew}
use Rattle.clause_base.specs.Plain.{IsPlain}
use Rattle.clause_base.specs.Teaching.{IsConsistent, IsPropagated, IsClosed}
use Rattle.clause_base.proofs.LiteralLemmas.{by_test, differ, in_contains, lacks}
use Rattle.clause_base.proofs.Instances.{all, apart_by, propagated_by_one, propagated_by_two}
use Rattle.clause_base.proofs.Worked.{square, one_teaches, square_and_one, turned}
use Rattle.clause_base.proofs.WorkedClauses.{plain_one, plain_empty}
use Rattle.refutation_check.specs.Keeping.{nothing_kept, with_derived}
use Rattle.refutation_check.specs.Deriving.{line_clauses, filled_lines, AllTeach, AllNew, AreDerived, EndsEmpty, AreExhausted, AreAccepted}
use Rattle.refutation_check.specs.LineText.{derived_text}
use Rattle.refutation_check.proofs.Worked.{refutation, derivation}
use Rattle.std.specs.Prelude.{codes, decimal}
use Rattle.std.specs.List.{concat}

-- the formula of two variables that has no solution
unfoldable pub squares : Clauses
squares = record { vars = 2; clauses = square }

-- ---- lines

derived_clauses : line_clauses refutation ≡ (pos 1 ∷ []) ∷ [] ∷ []
unfolding refutation
derived_clauses = refl

one_filled : filled_lines refutation ≡ 1
unfolding refutation
one_filled = refl

teach : AllTeach square refutation
unfolding refutation
teach = (inr one_teaches, (inl refl, tt))

-- A line that has the literals of an earlier clause is not new.
said_before : AllNew square ((pos 2 ∷ pos 1 ∷ pos 2 ∷ [], 1 ∷ []) ∷ []) → ⊥
said_before new = turned new.0

derived : AreDerived squares 1 refutation
unfolding squares refutation
derived = record { follow = derivation; teach = teach; plain = all (λ (line : List ℤ × List ℕ). IsPlain 2 line.0) refutation (plain_one, (plain_empty, tt)); few = omega arith }

over_budget : AreDerived squares 0 refutation → ⊥
unfolding refutation
over_budget d = omega (arith, d.few)

-- A line without hints is not accepted.
unhinted : AreAccepted (nothing_kept 2) ((pos 1 ∷ [], []) ∷ []) (with_derived (nothing_kept 2) (pos 1 ∷ [])) → ⊥
unhinted taken = taken.0

-- the empty clause, derived as the clause of any number
empty_derived : (n : ℕ) → derived_text n [] [] ≡ concat (codes "d " ∷ decimal n ∷ codes " 0 0\n" ∷ [])
unfolding derived_text
empty_derived n = refl

-- ---- ends

one_some : pos 1 ∷ [] ≢ []
one_some same = omega (arith, ap length same)

ends : EndsEmpty refutation
unfolding refutation
ends = record {
  front = (pos 1 ∷ [], 1 ∷ 2 ∷ []) ∷ [];
  hints = 5 ∷ 3 ∷ 4 ∷ [];
  whole = refl;
  filled = all (λ (line : List ℤ × List ℕ). line.0 ≢ []) ((pos 1 ∷ [], 1 ∷ 2 ∷ []) ∷ []) (one_some, tt);
}

no_lines : EndsEmpty [] → ⊥
no_lines e = omega (arith, ap length e.whole, length-append e.front (([], e.hints) ∷ []))

-- The empty line stands once.
empty_twice : (hints more : List ℕ) → EndsEmpty (([], hints) ∷ ([], more) ∷ []) → ⊥
empty_twice hints more e = by_front e.front e.whole e.filled where
  by_front : (front : List (List ℤ × List ℕ)) → ([], hints) ∷ ([], more) ∷ [] ≡ front ++ ([], e.hints) ∷ [] → All (λ line. line.0 ≢ []) front → ⊥
  by_front [] whole filled = omega (arith, ap length whole)
  by_front (line ∷ front) whole filled = filled 0 line (omega arith) (sym (ap (λ (lines : List (List ℤ × List ℕ)). (get_or {A = List ℤ × List ℕ} lines 0 ([], [])).0) whole))

-- (1 2) and (1 -2), and beside -1 all four clauses of 2 and 3
forked : Clauses
forked = record {
  vars = 3;
  clauses = (pos 1 ∷ pos 2 ∷ []) ∷ (pos 1 ∷ negsuc 1 ∷ []) ∷ (negsuc 0 ∷ pos 2 ∷ pos 3 ∷ []) ∷ (negsuc 0 ∷ pos 2 ∷ negsuc 2 ∷ []) ∷ (negsuc 0 ∷ negsuc 1 ∷ pos 3 ∷ []) ∷ (negsuc 0 ∷ negsuc 1 ∷ negsuc 2 ∷ []) ∷ [];
}

other_set : (clause : List ℤ) (l : ℤ) → is_in (pos 1 ∷ []) l ≡ false → Contains clause l → HaveSame clause (pos 1 ∷ []) → ⊥
other_set clause l none has same = lacks (pos 1 ∷ []) l none (All-contains (Contains (pos 1 ∷ [])) clause l same.there has)

new_one : IsNew forked.clauses (pos 1 ∷ [])
unfolding forked
new_one = record {
  apart = apart_by (pos 1 ∷ []) refl;
  fresh = all (λ other. HaveSame other (pos 1 ∷ []) → ⊥) forked.clauses (
    other_set (pos 1 ∷ pos 2 ∷ []) (pos 2) refl (1, omega arith, refl),
    (other_set (pos 1 ∷ negsuc 1 ∷ []) (negsuc 1) refl (1, omega arith, refl), (beside_negation (pos 2 ∷ pos 3 ∷ []), (beside_negation (pos 2 ∷ negsuc 2 ∷ []), (beside_negation (negsuc 1 ∷ pos 3 ∷ []), (beside_negation (negsuc 1 ∷ negsuc 2 ∷ []), tt))))),
  );
} where
  beside_negation : (lits : List ℤ) → HaveSame (negsuc 0 ∷ lits) (pos 1 ∷ []) → ⊥
  beside_negation lits = other_set (negsuc 0 ∷ lits) (negsuc 0) refl (0, omega arith, refl)

one_is_consistent : IsConsistent (is_in (pos 1 ∷ []))
one_is_consistent = record {
  apart = λ l is. by_test (is_in (pos 1 ∷ []) (neg_ℤ l))
      (λ back. absurd ((apart_by (pos 1 ∷ []) refl).apart l (in_contains (pos 1 ∷ []) l is) (in_contains (pos 1 ∷ []) (neg_ℤ l) back)))
      (λ no. no);
}

-- Unit propagation adds nothing to 1.
one_is_closed : IsClosed (is_in (pos 1 ∷ [])) (forked.clauses ++ (pos 1 ∷ []) ∷ [])
unfolding forked
one_is_closed = all (IsPropagated (is_in (pos 1 ∷ []))) (forked.clauses ++ (pos 1 ∷ []) ∷ []) (
  has_one (pos 2 ∷ []),
  (has_one (negsuc 1 ∷ []), (two_left (pos 2) (pos 3) refl refl refl, (two_left (pos 2) (negsuc 2) refl refl refl, (two_left (negsuc 1) (pos 3) refl refl refl, (two_left (negsuc 1) (negsuc 2) refl refl refl, (has_one [], tt)))))),
) where
  has_one : (lits : List ℤ) → IsPropagated (is_in (pos 1 ∷ [])) (pos 1 ∷ lits)
  has_one lits = propagated_by_one (is_in (pos 1 ∷ [])) (pos 1 ∷ lits) one_is_consistent (pos 1) (0, omega arith, refl) refl

  two_left : (a b : ℤ) → int_eq a b ≡ false → is_in (pos 1 ∷ []) (neg_ℤ a) ≡ false → is_in (pos 1 ∷ []) (neg_ℤ b) ≡ false → IsPropagated (is_in (pos 1 ∷ [])) (negsuc 0 ∷ a ∷ b ∷ [])
  two_left a b other no_a no_b = propagated_by_two (is_in (pos 1 ∷ [])) (negsuc 0 ∷ a ∷ b ∷ []) a b (1, omega arith, refl) (2, omega arith, refl) (differ a b other) no_a no_b

-- After the line (1) a budget of one line is spent.
spent : AreExhausted forked 1 ((pos 1 ∷ [], 1 ∷ 2 ∷ []) ∷ [])
spent = record {
  count = refl;
  filled = all (λ (line : List ℤ × List ℕ). line.0 ≢ []) ((pos 1 ∷ [], 1 ∷ 2 ∷ []) ∷ []) (one_some, tt);
  new = (new_one, tt);
  undecided = record { set = is_in (pos 1 ∷ []); consistent = one_is_consistent; closed = one_is_closed };
}

-- With the line (1) unit propagation refutes the clauses, so they are not undecided.
not_undecided : AreExhausted squares 1 ((pos 1 ∷ [], 1 ∷ 2 ∷ []) ∷ []) → ⊥
unfolding squares
not_undecided e = square_and_one e.undecided

one_line_short : AreExhausted squares 2 ((pos 1 ∷ [], 1 ∷ 2 ∷ []) ∷ []) → ⊥
one_line_short e = omega (arith, e.count)

empty_line : (hints : List ℕ) → AreExhausted squares 1 (([], hints) ∷ []) → ⊥
empty_line hints e = e.filled 0 ([], hints) (omega arith) refl
