-- Small texts and a small refutation, computed.
use Rattle.std.proofs.Common.{◌≡◌, ℕ, [], ◌∷◌, pos, true, false, None, Some, refl}
use Rattle.std.specs.Prelude.{codes, neg_ℤ, decimal}
use Rattle.std.specs.List.{concat}
use Rattle.clause_base.specs.ClauseText.{given_text}
use Rattle.refutation_check.specs.Keeping.{nothing_kept}
use Rattle.refutation_check.specs.LineText.{derived_text}
use Rattle.proof_sinks.specs.declared.lines.Said.TheVariants.{Axiom, Derived}
use Rattle.proof_sinks.specs.Text.{line_text, text_of, without_last}
use Rattle.proof_sinks.specs.Checking.{with_lines}
use Rattle.proof_sinks.specs.Calls.{KeepsTold}
use Rattle.proof_sinks.specs.Views.{is_open, all_faults}

-- the empty clause, given twice
empty_twice : text_of (Axiom [] ∷ Axiom [] ∷ []) ≡ codes "f 0\nf 0\n"
unfolding given_text
empty_twice = refl

-- the empty clause, derived as the clause of any number
empty_derived : (n : ℕ) → line_text n (Derived [] []) ≡ concat (codes "d " ∷ decimal n ∷ codes " 0 0\n" ∷ [])
unfolding derived_text
empty_derived n = refl

-- the formula of two variables that has no solution, and two derived lines that close the checker
closed : (with_lines (nothing_kept 2) (Axiom (pos 1 ∷ pos 2 ∷ []) ∷ Axiom (pos 1 ∷ neg_ℤ (pos 2) ∷ []) ∷ Axiom (neg_ℤ (pos 1) ∷ pos 2 ∷ []) ∷ Axiom (neg_ℤ (pos 1) ∷ neg_ℤ (pos 2) ∷ [])
    ∷ Derived (pos 1 ∷ []) (1 ∷ 2 ∷ []) ∷ Derived [] (5 ∷ 3 ∷ 4 ∷ []) ∷ [])).closed ≡ true
closed = refl

-- a sink with a chosen call: live before it, with the faults of the one inside, and then not, with one more
live_before : is_open false true ≡ true
live_before = refl

not_live_behind : is_open true true ≡ false
not_live_behind = refl

not_live_inside : is_open false false ≡ false
not_live_inside = refl

faults_before : all_faults false 3 ≡ 3
faults_before = refl

faults_behind : all_faults true 3 ≡ 4
faults_behind = refl

-- a text without its last bytes
without_two : without_last 2 (Some (7 ∷ 8 ∷ 9 ∷ [])) ≡ Some (7 ∷ [])
without_two = refl

without_none : without_last 0 (Some (7 ∷ [])) ≡ Some (7 ∷ [])
without_none = refl

without_untold : without_last 2 None ≡ None
without_untold = refl

-- a text may be told no more, but not told anew
told_no_more : KeepsTold (Some (7 ∷ [])) None
told_no_more = tt

still_told : KeepsTold (Some (7 ∷ [])) (Some (7 ∷ []))
still_told = refl
