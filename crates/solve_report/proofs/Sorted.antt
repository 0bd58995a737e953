-- Sorted clauses, and the one sorted form of a formula.
use Rattle.std.proofs.Common.{◌≡◌, ℕ, ◌+◌, ◌^◌, ◌<◌, ◌≤◌, ℤ, Bool, List, [], ◌∷◌, ◌++◌, length, take, get_or, refl, sym, ◌∙◌, ap, subst}
use Rattle.std.specs.Prelude.{nat_abs}
use Rattle.std.specs.List.{AllZip, Contains}
use Rattle.std.proofs.lemmas.List.{take_all, take_more}
use Rattle.std.proofs.lemmas.List.Elements.{All-contains, AllZip-get_or, AllZip-push, length_all_zip}
use Rattle.clause_base.specs.Literals.{IsRising}
use Rattle.clause_base.specs.Formulas.{Clauses, IsFormula}
use Rattle.clause_base.specs.Novelty.{HaveSame}
use Rattle.clause_base.specs.Solving.{is_true_under, IsTrueUnder}
use Rattle.clause_base.proofs.OneRising.{one_rising}
use Rattle.conflict_solver.specs.Answering.{AreSolution}
use Rattle.solve_report.specs.Report.{IsSortedClause, IsSortedForm}

-- ---- one sorted form

same_both : (clause a b : List ℤ) → HaveSame clause a → HaveSame clause b → HaveSame a b
same_both clause a b first second = record {
  there = λ k d lt. All-contains (Contains b) clause (get_or a k d) second.there (first.back k d lt);
  back = λ k d lt. All-contains (Contains a) clause (get_or b k d) first.there (second.back k d lt);
}

one_list : (clauses xs ys : List (List ℤ)) → AllZip IsSortedClause clauses xs → AllZip IsSortedClause clauses ys → xs ≡ ys
one_list [] [] [] first second = refl
one_list [] (x ∷ xs) ys first second = absurd first
one_list [] [] (y ∷ ys) first second = absurd second
one_list (c ∷ cs) [] ys first second = absurd first
one_list (c ∷ cs) (x ∷ xs) [] first second = absurd second
one_list (c ∷ cs) (x ∷ xs) (y ∷ ys) first second =
    let heads = one_rising x y first.0.rising second.0.rising (same_both c x y first.0.same second.0.same) in
    let tails = one_list cs xs ys first.1 second.1 in
    λ i. heads i ∷ tails i

pub one_form : (file formula other : Clauses) → IsSortedForm file formula → IsSortedForm file other → formula ≡ other
one_form file formula other first second =
    let vars = first.vars ∙ sym second.vars in
    let clauses = one_list file.clauses formula.clauses other.clauses first.clauses second.clauses in
    λ i. record { vars = vars i; clauses = clauses i }

-- ---- what a sorted form keeps

pub sorted_is_formula : (vars : ℕ) (clauses sorted : List (List ℤ)) → IsFormula vars clauses → AllZip IsSortedClause clauses sorted → IsFormula vars sorted
sorted_is_formula vars clauses sorted formula each =
    let size = length_all_zip IsSortedClause clauses sorted each in
    record {
      few_vars = formula.few_vars;
      few_clauses = subst (λ n. n < 2 ^ 60) size formula.few_clauses;
      within = λ k d lt j e jt.
          let within : k < length clauses = subst (λ n. k < n) (sym size) lt in
          let here = AllZip-get_or IsSortedClause clauses sorted k d d each within in
          All-contains (λ l. nat_abs l ≤ vars) (get_or clauses k d) (get_or (get_or sorted k d) j e) (formula.within k d within) (here.same.back j e jt);
    }

true_in : (holds : ℤ → Bool) (clause sorted : List ℤ) → HaveSame clause sorted → IsTrueUnder holds sorted → IsTrueUnder holds clause
true_in holds clause sorted same (j, x, lt, is, holding) =
    let (k, inside, here) = All-contains (Contains clause) sorted x same.back (j, lt, is) in
    (k, x, inside, here, holding)

-- values that solve the sorted form solve the formula
pub solves_file : (file formula : Clauses) (values : List Bool) → IsSortedForm file formula → AreSolution formula values → AreSolution file values
solves_file file formula values sorted solution =
    let size = length_all_zip IsSortedClause file.clauses formula.clauses sorted.clauses in
    record {
      each = solution.each ∙ sorted.vars;
      solve = λ k d lt.
          let here = AllZip-get_or IsSortedClause file.clauses formula.clauses k d d sorted.clauses lt in
          true_in (is_true_under values) (get_or file.clauses k d) (get_or formula.clauses k d) here.same (solution.solve k d (subst (λ n. k < n) size lt));
    }

-- ---- clauses sorted one after the other

-- the loop sorted all clauses
pub sorted_all : (clauses formula sorted : List (List ℤ)) (i : ℕ) → clauses ≡ formula → length clauses ≤ i → AllZip IsSortedClause (take i clauses) sorted → AllZip IsSortedClause formula sorted
sorted_all clauses formula sorted i same end each = subst (λ cs. AllZip IsSortedClause cs sorted) (take_all i clauses end ∙ same) each

-- the loop sorted one clause more
pub sorted_more : (clauses sorted pushed : List (List ℤ)) (i : ℕ) (item slice made : List ℤ) → i < length clauses → item ≡ get_or clauses i item → slice ≡ item → AllZip IsSortedClause (take i clauses) sorted
    → HaveSame slice made → IsRising made → pushed ≡ sorted ++ made ∷ [] → AllZip IsSortedClause (take (i + 1) clauses) pushed
sorted_more clauses sorted pushed i item slice made within at is each same rising more =
    subst (λ cs. AllZip IsSortedClause cs pushed) (ap (λ c. take i clauses ++ c ∷ []) at ∙ sym (take_more clauses i item within))
    (subst (λ ps. AllZip IsSortedClause (take i clauses ++ item ∷ []) ps) (sym more)
    (AllZip-push IsSortedClause (take i clauses) sorted item made each (record { same = subst (λ c. HaveSame c made) is same; rising = rising })))
