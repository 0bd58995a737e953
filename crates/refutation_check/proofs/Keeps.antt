-- One clause more in a checker.
use Rattle.std.proofs.Common.{◌≡◌, ℕ, ◌+◌, ℤ, Bool, true, false, ◌||◌, List, [], ◌∷◌, ◌++◌, length, get_or, Result, Ok, Err, is_err, OnOk, OnErr, nat_eq, refl, sym, ap, ◌∙◌, subst, arith, length-append}
use Rattle.std.specs.List.{Contains}
use Rattle.std.proofs.lemmas.Bool.Decides.{nat_tests}
use Rattle.std.proofs.lemmas.List.Elements.{All-push, All-contains, Contains-append_left, Contains-get_or, Contains-push}
use Rattle.clause_base.specs.Formulas.{IsClauseWithin}
use Rattle.clause_base.specs.Literals.{is_in}
use Rattle.clause_base.specs.Solving.{IsTrueUnder, Solves}
use Rattle.refutation_check.specs.Following.{Runs, Follows}
use Rattle.refutation_check.specs.Keeping.{given_of, AreUnsolvable, IsCheckerState}
use Rattle.refutation_check.proofs.Soundness.{following, by_either}

no_empty : (holds : ℤ → Bool) (clauses : List (List ℤ)) → Contains clauses [] → Solves holds clauses → ⊥
no_empty holds clauses has solved =
    let (k, lt, is) = has in
    let (j, m, inside, at, true_) = subst (λ c. IsTrueUnder holds c) is (solved k [] lt) in
    omega (arith, inside)

pub unsolvable : (vars : ℕ) (clauses : List (List ℤ)) (given : List Bool) (closed : Bool) → IsCheckerState vars clauses given closed → closed ≡ true → AreUnsolvable (given_of given clauses)
unsolvable vars clauses given closed kept is holds choice solved = no_empty holds clauses (kept.empty is) (kept.sound holds choice solved)

given_of_more : (given : List Bool) (clauses : List (List ℤ)) (clause : List ℤ) → length given ≡ length clauses → given_of (given ++ true ∷ []) (clauses ++ clause ∷ []) ≡ given_of given clauses ++ clause ∷ []
given_of_more [] [] clause same = refl
given_of_more [] (c ∷ clauses) clause same = absurd (omega (arith, same))
given_of_more (g ∷ given) [] clause same = absurd (omega (arith, same))
given_of_more (true ∷ given) (c ∷ clauses) clause same = ap (λ cs. c ∷ cs) (given_of_more given clauses clause (omega (arith, same)))
given_of_more (false ∷ given) (c ∷ clauses) clause same = given_of_more given clauses clause (omega (arith, same))

given_derived : (given : List Bool) (clauses : List (List ℤ)) (clause : List ℤ) → length given ≡ length clauses → given_of (given ++ false ∷ []) (clauses ++ clause ∷ []) ≡ given_of given clauses
given_derived [] [] clause same = refl
given_derived [] (c ∷ clauses) clause same = absurd (omega (arith, same))
given_derived (g ∷ given) [] clause same = absurd (omega (arith, same))
given_derived (true ∷ given) (c ∷ clauses) clause same = ap (λ cs. c ∷ cs) (given_derived given clauses clause (omega (arith, same)))
given_derived (false ∷ given) (c ∷ clauses) clause same = given_derived given clauses clause (omega (arith, same))

paired_more : (given : List Bool) (clauses : List (List ℤ)) (is_given : Bool) (clause : List ℤ) → length given ≡ length clauses → length (given ++ is_given ∷ []) ≡ length (clauses ++ clause ∷ [])
paired_more given clauses is_given clause same = length-append given (is_given ∷ []) ∙ ap (λ n. n + 1) same ∙ sym (length-append clauses (clause ∷ []))

solves_front : (holds : ℤ → Bool) (clauses : List (List ℤ)) (clause : List ℤ) → Solves holds (clauses ++ clause ∷ []) → Solves holds clauses
solves_front holds clauses clause solved k d lt = All-contains (IsTrueUnder holds) (clauses ++ clause ∷ []) (get_or clauses k d) solved
    (Contains-append_left clauses (clause ∷ []) (get_or clauses k d) (Contains-get_or clauses k d lt))

solves_last : (holds : ℤ → Bool) (clauses : List (List ℤ)) (clause : List ℤ) → Solves holds (clauses ++ clause ∷ []) → IsTrueUnder holds clause
solves_last holds clauses clause solved = All-contains (IsTrueUnder holds) (clauses ++ clause ∷ []) clause solved (Contains-push clauses clause)

kept_axiom : (vars : ℕ) (clauses : List (List ℤ)) (given : List Bool) (closed : Bool) (clause : List ℤ) → IsCheckerState vars clauses given closed → IsClauseWithin vars clause → IsCheckerState vars (clauses ++ clause ∷ []) (given ++ true ∷ []) closed
kept_axiom vars clauses given closed clause kept within = record {
  within = All-push (IsClauseWithin vars) clauses clause kept.within within;
  paired = paired_more given clauses true clause kept.paired;
  sound = λ holds choice solved.
      let all : Solves holds (given_of given clauses ++ clause ∷ []) = subst (λ cs. Solves holds cs) (given_of_more given clauses clause kept.paired) solved in
      All-push (IsTrueUnder holds) clauses clause (kept.sound holds choice (solves_front holds (given_of given clauses) clause all)) (solves_last holds (given_of given clauses) clause all);
  empty = λ is. Contains-append_left clauses (clause ∷ []) [] (kept.empty is);
}

is_empty : (clause : List ℤ) → nat_eq (length clause) 0 ≡ true → clause ≡ []
is_empty [] is = refl
is_empty (l ∷ clause) is = let both : ⊥ = grind (arith, nat_tests, is) in absurd both

pub kept_derived : (vars : ℕ) (clauses : List (List ℤ)) (given : List Bool) (closed : Bool) (clause : List ℤ) (hints : List ℕ) → IsCheckerState vars clauses given closed → IsClauseWithin vars clause → Follows clauses clause hints
    → IsCheckerState vars (clauses ++ clause ∷ []) (given ++ false ∷ []) (closed || nat_eq (length clause) 0)
kept_derived vars clauses given closed clause hints kept within follows = record {
  within = All-push (IsClauseWithin vars) clauses clause kept.within within;
  paired = paired_more given clauses false clause kept.paired;
  sound = λ holds choice solved.
      let all : Solves holds clauses = kept.sound holds choice (subst (λ cs. Solves holds cs) (given_derived given clauses clause kept.paired) solved) in
      All-push (IsTrueUnder holds) clauses clause all (following holds choice clauses clause hints follows all);
  empty = λ is. by_either closed (nat_eq (length clause) 0) is (λ was. Contains-append_left clauses (clause ∷ []) [] (kept.empty was))
      (λ none. subst (λ c. Contains (clauses ++ clause ∷ []) c) (is_empty clause none) (Contains-push clauses clause));
}

pub kept_either : {T E : Type 0} (result : Result T E) (vars : ℕ) (clauses new : List (List ℤ)) (given marks : List Bool) (closed : Bool) (clause : List ℤ) → IsCheckerState vars clauses given closed → IsClauseWithin vars clause
    → OnOk result (new ≡ clauses ++ clause ∷ []) → OnOk result (marks ≡ given ++ true ∷ []) → OnErr result (new ≡ clauses) → OnErr result (marks ≡ given) → IsCheckerState vars new marks closed
kept_either (Ok x) vars clauses new given marks closed clause kept within grown put same stays =
    subst (λ cs. IsCheckerState vars cs marks closed) (sym grown) (subst (λ gs. IsCheckerState vars (clauses ++ clause ∷ []) gs closed) (sym put) (kept_axiom vars clauses given closed clause kept within))
kept_either (Err e) vars clauses new given marks closed clause kept within grown put same stays =
    subst (λ cs. IsCheckerState vars cs marks closed) (sym same) (subst (λ gs. IsCheckerState vars clauses gs closed) (sym stays) kept)

-- the step of a checker: the marks are those of the clause, and keeping it was no want of memory
pub kept_step : {T E : Type 0} (result : Result T E) (vars most : ℕ) (clauses new : List (List ℤ)) (given marks : List Bool) (was closed : Bool) (clause : List ℤ) (hints : List ℕ) (set : ℤ → Bool) → IsCheckerState vars clauses given was → IsClauseWithin vars clause
    → Runs clauses set hints → set ≡ is_in clause → most ≡ vars → closed ≡ (was || nat_eq (length clause) 0) → is_err result ≡ false
    → OnOk result (new ≡ clauses ++ clause ∷ []) → OnOk result (marks ≡ given ++ false ∷ []) → IsCheckerState most new marks closed
kept_step (Ok x) vars most clauses new given marks was closed clause hints set kept within runs same vars_are closes fine grown put =
    subst (λ n. IsCheckerState n new marks closed) (sym vars_are) (subst (λ b. IsCheckerState vars new marks b) (sym closes) (subst (λ cs. IsCheckerState vars cs marks (was || nat_eq (length clause) 0)) (sym grown)
    (subst (λ gs. IsCheckerState vars (clauses ++ clause ∷ []) gs (was || nat_eq (length clause) 0)) (sym put) (kept_derived vars clauses given was clause hints kept within (subst (λ s. Runs clauses s hints) same runs)))))
kept_step (Err e) vars most clauses new given marks was closed clause hints set kept within runs same vars_are closes fine grown put = let both : ⊥ = cc in absurd both
