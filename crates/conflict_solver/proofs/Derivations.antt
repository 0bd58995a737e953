-- One line more of a derivation.
use Rattle.std.proofs.Common.{◌≡◌, ◌≢◌, ℕ, ◌+◌, ◌-◌, ◌<◌, ◌≤◌, ◌⊎◌, inl, inr, ℤ, nat_lt, List, [], ◌∷◌, ◌++◌, length, refl, sym, ap, ◌∙◌, subst, arith, append_assoc}
use Rattle.std.proofs.lemmas.List.{map-append, length_push, take-append-le, get_or_push, take_all, append-nil}
use Rattle.std.proofs.lemmas.List.Elements.{All-push}
use Rattle.std.proofs.lemmas.List.Sums.{count_by-le-length, count_by_more_no}
use Rattle.clause_base.specs.Formulas.{Clauses}
use Rattle.clause_base.specs.Teaching.{Teaches}
use Rattle.clause_base.specs.Plain.{IsPlain}
use Rattle.refutation_check.specs.Following.{Follows}
use Rattle.refutation_check.specs.Deriving.{line_clauses, filled_lines, AllTeach}
use Rattle.refutation_check.proofs.Derivations.{follow_more}
use Rattle.proof_sinks.specs.declared.lines.Said.{Said}
use Rattle.proof_sinks.specs.declared.lines.Said.TheVariants.{Derived}
use Rattle.proof_sinks.specs.Lines.{given_lines, derived_lines, proof_of}
use Rattle.search_trail.specs.Trails.{Search}
use Rattle.conflict_solver.specs.Deriving.{IsProof}
use Rattle.conflict_solver.specs.Answering.{IsAnswered}
use Rattle.conflict_solver.specs.declared.verdict.Verdict.TheVariants.{Refuted}
use Rattle.conflict_solver.specs.Running.{IsUnderWay}

teach_more : (earlier : List (List ℤ)) (lines : List (List ℤ × List ℕ)) (clause : List ℤ) (hints : List ℕ)
    → AllTeach earlier lines → (clause ≡ []) ⊎ Teaches (earlier ++ line_clauses lines) clause → AllTeach earlier (lines ++ (clause, hints) ∷ [])
teach_more earlier [] clause hints t f = (subst (λ cs. (clause ≡ []) ⊎ Teaches cs clause) (append-nil earlier) f, tt)
teach_more earlier (line ∷ lines) clause hints (first, rest) f =
    (first, teach_more (earlier ++ line.0 ∷ []) lines clause hints rest (subst (λ cs. (clause ≡ []) ⊎ Teaches cs clause) (sym (append_assoc earlier (line.0 ∷ []) (line_clauses lines))) f))

clauses_more : (formula : Clauses) (lines : List (List ℤ × List ℕ)) (clause : List ℤ) (hints : List ℕ)
    → (formula.clauses ++ line_clauses lines) ++ clause ∷ [] ≡ formula.clauses ++ line_clauses (lines ++ (clause, hints) ∷ [])
clauses_more formula lines clause hints = append_assoc formula.clauses (line_clauses lines) (clause ∷ [])
    ∙ ap (λ cs. formula.clauses ++ cs) (sym (map-append (λ (line : List ℤ × List ℕ). line.0) lines ((clause, hints) ∷ [])))

said_more : (formula : Clauses) (lines : List (List ℤ × List ℕ)) (clause : List ℤ) (hints : List ℕ)
    → proof_of formula lines ++ Derived clause hints ∷ [] ≡ proof_of formula (lines ++ (clause, hints) ∷ [])
said_more formula lines clause hints = append_assoc (given_lines formula.clauses) (derived_lines lines) (Derived clause hints ∷ [])
    ∙ ap (λ said. given_lines formula.clauses ++ said) (sym (map-append (λ (line : List ℤ × List ℕ). Derived line.0 line.1) lines ((clause, hints) ∷ [])))

few_filled : (lines : List (List ℤ × List ℕ)) → filled_lines lines ≤ length lines
few_filled lines = count_by-le-length (λ line. nat_lt 0 (length line.0)) lines

empty_more : (lines : List (List ℤ × List ℕ)) (hints : List ℕ) → filled_lines (lines ++ ([], hints) ∷ []) ≡ filled_lines lines
empty_more lines hints = ap (λ ls. filled_lines ls) (sym (take_all (length lines + 1) (lines ++ ([], hints) ∷ []) (omega (arith, length_push lines ([], hints)))))
    ∙ count_by_more_no (λ (line : List ℤ × List ℕ). nat_lt 0 (length line.0)) (lines ++ ([], hints) ∷ []) (length lines) ([], hints) (omega (arith, length_push lines ([], hints)))
    (ap (λ (line : List ℤ × List ℕ). nat_lt 0 (length line.0)) (get_or_push lines ([], hints) ([], hints) (length lines) refl))
    ∙ ap (λ ls. filled_lines ls) (take-append-le (length lines) lines (([], hints) ∷ []) (omega arith) ∙ take_all (length lines) lines (omega arith))

pub empty_plain : (vars : ℕ) → IsPlain vars []
empty_plain vars = record {
  once = record { once = λ p q plt. let no' : ⊥ = omega (arith, plt) in absurd no'; apart = record { apart = λ l (j, jlt, at). omega (arith, jlt) } };
  literals = λ k d klt. let no' : ⊥ = omega (arith, klt) in absurd no';
}

-- a line that isn't empty
pub line_more : (formula : Clauses) (budget left : ℕ) (said new : List Said) (s t : Search) (clause : List ℤ) (hints : List ℕ)
    → (run : IsUnderWay formula budget left said s) → 0 < left → new ≡ said ++ Derived clause hints ∷ [] → Follows s.clauses clause hints → Teaches s.clauses clause
    → IsPlain s.vars clause → clause ≢ [] → t.vars ≡ s.vars → t.clauses ≡ s.clauses ++ clause ∷ [] → IsUnderWay formula budget (left - 1) new t
line_more formula budget left said new s t clause hints run some is follows teaches plain filled vars clauses = record {
  lines = run.lines ++ (clause, hints) ∷ [];
  whole = is ∙ ap (λ ls. ls ++ Derived clause hints ∷ []) run.whole ∙ said_more formula run.lines clause hints;
  derived = record {
    follow = follow_more formula.clauses run.lines clause hints run.derived.follow (subst (λ cs. Follows cs clause hints) run.clauses follows);
    teach = teach_more formula.clauses run.lines clause hints run.derived.teach (inr (subst (λ cs. Teaches cs clause) run.clauses teaches));
    plain = All-push (λ (line : List ℤ × List ℕ). IsPlain formula.vars line.0) run.lines (clause, hints) run.derived.plain (subst (λ n. IsPlain n clause) run.vars plain);
    few = omega (arith, few_filled (run.lines ++ (clause, hints) ∷ []), length_push run.lines (clause, hints), run.count, some);
  };
  filled = All-push (λ (line : List ℤ × List ℕ). line.0 ≢ []) run.lines (clause, hints) run.filled filled;
  count = omega (arith, length_push run.lines (clause, hints), run.count, some);
  clauses = clauses ∙ ap (λ cs. cs ++ clause ∷ []) run.clauses ∙ clauses_more formula run.lines clause hints;
  vars = vars ∙ run.vars;
}

-- the empty line
pub ends_empty : (formula : Clauses) (budget left : ℕ) (said new : List Said) (s : Search) (clause : List ℤ) (hints : List ℕ)
    → (run : IsUnderWay formula budget left said s) → new ≡ said ++ Derived clause hints ∷ [] → Follows s.clauses clause hints → clause ≡ [] → IsAnswered formula budget new Refuted
ends_empty formula budget left said new s clause hints run is follows empty = record {
  lines = run.lines ++ ([], hints) ∷ [];
  whole = is ∙ ap (λ c. said ++ Derived c hints ∷ []) empty ∙ ap (λ ls. ls ++ Derived [] hints ∷ []) run.whole ∙ said_more formula run.lines [] hints;
  derived = record {
    follow = follow_more formula.clauses run.lines [] hints run.derived.follow (subst (λ cs. Follows cs [] hints) run.clauses (subst (λ c. Follows s.clauses c hints) empty follows));
    teach = teach_more formula.clauses run.lines [] hints run.derived.teach (inl refl);
    plain = All-push (λ (line : List ℤ × List ℕ). IsPlain formula.vars line.0) run.lines ([], hints) run.derived.plain (empty_plain formula.vars);
    few = omega (arith, empty_more run.lines hints, run.derived.few);
  };
  verdict_holds = record { front = run.lines; hints = hints; whole = refl; filled = run.filled };
}

-- what was said is a proof so far
pub so_far : (formula : Clauses) (budget left : ℕ) (said : List Said) (s : Search) → IsUnderWay formula budget left said s → IsProof formula budget said
so_far formula budget left said s run = record { lines = run.lines; whole = run.whole; derived = run.derived }

pub answered : (formula : Clauses) (budget : ℕ) (said : List Said) → IsAnswered formula budget said Refuted → IsProof formula budget said
answered formula budget said a = record { lines = a.lines; whole = a.whole; derived = a.derived }
