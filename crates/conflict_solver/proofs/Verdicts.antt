-- What a verdict rests on.
use Rattle.std.proofs.Common.{◌≡◌, ℕ, zero, suc, ◌-◌, ◌<◌, ◌≤◌, ℤ, pos, negsuc, neg_ℤ, nat_abs, Bool, true, false, not, List, [], ◌++◌, length, get_or, sym, ap, ◌∙◌, subst, arith}
use Rattle.std.specs.List.{All, Any}
use Rattle.std.proofs.lemmas.List.{take_all, length-append, get_or_append_left, get_or_past, get_or_default}
use Rattle.clause_base.specs.Literals.{is_in}
use Rattle.clause_base.specs.Formulas.{Clauses}
use Rattle.clause_base.specs.Solving.{is_true_under, IsTrueUnder}
use Rattle.clause_base.specs.Teaching.{IsOpen}
use Rattle.clause_base.proofs.LiteralLemmas.{by_test, in_contains}
use Rattle.refutation_check.specs.Following.{IsNumber, numbered}
use Rattle.refutation_check.specs.Deriving.{line_clauses}
use Rattle.proof_sinks.specs.declared.lines.Said.{Said}
use Rattle.search_trail.specs.Trails.{Search, IsSearch, front, front_size}
use Rattle.search_trail.proofs.Teaches.{front_consistent}
use Rattle.clause_watches.specs.Watching.{Watched, AreWatched}
use Rattle.clause_watches.proofs.Fronts.{top_front}
use Rattle.clause_watches.proofs.Kept.{closed}
use Rattle.conflict_solver.specs.Answering.{AreSolution, IsAnswered}
use Rattle.conflict_solver.specs.declared.verdict.Verdict.{Verdict}
use Rattle.conflict_solver.specs.declared.verdict.Verdict.TheVariants.{Values, Refuted, Undecided}
use Rattle.conflict_solver.specs.Setting.{AreTrue, AreValues, IsSettled}
use Rattle.conflict_solver.specs.Running.{IsUnderWay}
use Rattle.conflict_solver.proofs.News.{all_new}

module _ (s : Search) (w : Watched) (t : IsSearch s) (k : AreWatched s w) where
  -- a level that was gone through is open
  open_at : (level : ℕ) → front_size s level ≤ w.head → IsOpen s.clauses
  open_at level low = record { set = is_in (front s level); consistent = front_consistent s t (front_size s level); closed = closed s w level t k low }

  pub open_below : (level : ℕ) → level < length s.starts → IsOpen s.clauses
  open_below level less = open_at level (omega (arith, k.levels level less, get_or_default s.starts level (length s.lits) 0 less))

  module _ (done : w.head ≡ length s.lits) where
    all_low : front_size s (length s.starts) ≤ w.head
    all_low = omega (arith, done, get_or_past s.starts (length s.starts) (length s.lits) (omega arith))

    pub open_all : IsOpen s.clauses
    open_all = open_at (length s.starts) all_low

    pub not_false : (number : ℕ) → IsNumber s.clauses number → All (λ l. is_in s.lits (neg_ℤ l) ≡ true) (numbered s.clauses number) → ⊥
    not_false number known failed = (closed s w (length s.starts) t k all_low (number - 1) [] (omega (arith, known.some, known.most))).standing
        (subst (λ ls. All (λ l. is_in ls (neg_ℤ l) ≡ true) (numbered s.clauses number)) (sym (top_front s)) failed)

module _ (s : Search) (t : IsSearch s) (values : List Bool) (v : AreValues s s.vars values) where
  within : (l : ℤ) → is_in s.lits l ≡ true → nat_abs l ≤ s.vars
  within l is = let (p, plt, at) = in_contains s.lits l is in subst (λ z. nat_abs z ≤ s.vars) at (t.small p l plt)

  apart : (l : ℤ) → is_in s.lits l ≡ true → is_in s.lits (neg_ℤ l) ≡ true → ⊥
  apart l is back = t.once.apart.apart l (in_contains s.lits l is) (in_contains s.lits (neg_ℤ l) back)

  value_of : (n : ℕ) (d : Bool) → n < s.vars → get_or values n d ≡ is_in s.lits (pos (suc n))
  value_of n d lt = v.values_are n d lt ∙ ap (λ m. is_in s.lits (pos m)) (omega arith)

  true_value : (l : ℤ) → is_in s.lits l ≡ true → is_true_under values l ≡ true
  true_value (pos zero) is = absurd (apart (pos 0) is is)
  true_value (pos (suc n)) is = value_of n false (omega (arith, within (pos (suc n)) is)) ∙ is
  true_value (negsuc n) is = ap not (value_of n true (omega (arith, within (negsuc n) is)) ∙ by_test (is_in s.lits (pos (suc n))) (λ yes'. absurd (apart (pos (suc n)) yes' is)) (λ none. none))

  true_clause : (clause : List ℤ) → Any (λ l. is_in s.lits l ≡ true) clause → IsTrueUnder (is_true_under values) clause
  true_clause clause (j, m, jlt, at, is) = (j, m, jlt, at, true_value m is)

  pub solution : (formula : Clauses) (rest : List (List ℤ)) → s.vars ≡ formula.vars → s.clauses ≡ formula.clauses ++ rest → AreTrue s (length s.clauses) → AreSolution formula values
  solution formula rest vars clauses all = record {
    each = v.each ∙ vars;
    solve = λ k d klt. subst (IsTrueUnder (is_true_under values)) (ap (λ cs. get_or cs k d) clauses ∙ get_or_append_left formula.clauses rest d k klt)
        (true_clause (get_or s.clauses k d) (subst (λ cs. All (λ clause. Any (λ l. is_in s.lits l ≡ true) clause) cs) (take_all (length s.clauses) s.clauses (omega arith)) all k d (omega (arith, klt, ap (λ cs. length cs) clauses, length-append formula.clauses rest))));
  }

pub exhausted : (formula : Clauses) (budget left : ℕ) (said : List Said) (s : Search) → IsUnderWay formula budget left said s → left ≡ 0 → IsOpen s.clauses → IsAnswered formula budget said Undecided
exhausted formula budget left said s run none open' = record {
  lines = run.lines;
  whole = run.whole;
  derived = run.derived;
  verdict_holds = record {
    count = omega (arith, run.count, none);
    filled = run.filled;
    new = all_new formula.vars formula.clauses run.lines run.derived.teach run.filled run.derived.plain;
    undecided = subst IsOpen run.clauses open';
  };
}

pub settled : (formula : Clauses) (budget left : ℕ) (said : List Said) (old s : Search) (w : Watched) (verdict : Verdict) → IsUnderWay formula budget left said old → s.vars ≡ old.vars → s.clauses ≡ old.clauses
    → IsSearch s → AreWatched s w → w.head ≡ length s.lits → IsSettled s left verdict → IsAnswered formula budget said verdict
settled formula budget left said old s w (Values values) run vars clauses t k done (all, v) = record {
  lines = run.lines;
  whole = run.whole;
  derived = run.derived;
  verdict_holds = solution s t values.items v formula (line_clauses run.lines) (vars ∙ run.vars) (clauses ∙ run.clauses) all;
}
settled formula budget left said old s w Refuted run vars clauses t k done none = absurd none
settled formula budget left said old s w Undecided run vars clauses t k done none = exhausted formula budget left said old run none (subst IsOpen clauses (open_all s w t k done))
