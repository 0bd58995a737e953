-- Whatever follows is true, and a derivation with an empty line leaves no solution.
use Rattle.std.proofs.Common.{◌≡◌, ℕ, zero, suc, ◌-◌, ◌<◌, ℤ, neg_ℤ, Bool, true, false, ◌||◌, List, [], ◌∷◌, ◌++◌, length, get_or, inl, inr, refl, sym, ap, ◌∙◌, subst, arith}
use Rattle.std.specs.List.{Contains, list_any}
use Rattle.std.specs.Ordering.{int_eq}
use Rattle.std.proofs.lemmas.List.Elements.{All-push}
use Rattle.std.proofs.lemmas.List.Folds.{Any-from_list_any, list_any_at}
use Rattle.clause_base.specs.Literals.{is_in}
use Rattle.clause_base.specs.Solving.{IsTrueUnder, Solves}
use Rattle.clause_base.specs.Teaching.{IsConsistent}
use Rattle.clause_base.proofs.LiteralLemmas.{by_test, no_both, same_lit}
use Rattle.refutation_check.specs.Following.{IsNumber, numbered, IsUnit, joined, Runs, Follows, IsDerivation}

pub by_either : {P : Type 0} (a b : Bool) → (a || b) ≡ true → (a ≡ true → P) → (b ≡ true → P) → P
by_either true b is f g = f refl
by_either false b is f g = g is

module _ (holds : ℤ → Bool) (choice : IsConsistent holds) where
  abbrev AllFalse : (ℤ → Bool) → Type 0
  AllFalse fails = (l : ℤ) → fails l ≡ true → holds l ≡ false

  unit_true : (fails : ℤ → Bool) (clause : List ℤ) (lit : ℤ) → IsUnit fails clause lit → AllFalse fails → IsTrueUnder holds clause → holds lit ≡ true
  unit_true fails clause lit unit low true_ =
      let (k, m, lt, at, is) = true_ in
      elim (unit.others k m lt) [
        | inl same ↦ subst (λ z. holds z ≡ true) (sym at ∙ same) is
        | inr failed ↦ no_both is (low m (subst (λ z. fails z ≡ true) at failed))
      ]

  low_joined : (fails : ℤ → Bool) (lit : ℤ) → AllFalse fails → holds lit ≡ true → AllFalse (joined lit fails)
  low_joined fails lit low is m in_ = by_either (int_eq m (neg_ℤ lit)) (fails m) in_
      (λ same. subst (λ z. holds z ≡ false) (sym (same_lit m (neg_ℤ lit) same)) (choice.apart lit is))
      (λ old. low m old)

  true_at : (earlier : List (List ℤ)) (hint : ℕ) → Solves holds earlier → IsNumber earlier hint → IsTrueUnder holds (numbered earlier hint)
  true_at earlier hint solved number = solved (hint - 1) [] (omega (arith, number.some, number.most))

  clash : (earlier : List (List ℤ)) (fails : ℤ → Bool) (hints : List ℕ) → Solves holds earlier → AllFalse fails → Runs earlier fails hints → ⊥
  clash earlier fails [] solved low runs = runs
  clash earlier fails (hint ∷ []) solved low runs =
      let (k, m, lt, at, is) = true_at earlier hint solved runs.0 in
      no_both is (low m (subst (λ z. fails z ≡ true) at (runs.1 k m lt)))
  clash earlier fails (hint ∷ next ∷ hints) solved low runs =
      let (number, lit, unit, rest) = runs in
      clash earlier (joined lit fails) (next ∷ hints) solved (low_joined fails lit low (unit_true fails (numbered earlier hint) lit unit low (true_at earlier hint solved number))) rest

  none_true : (clause : List ℤ) → list_any holds clause ≡ false → AllFalse (is_in clause)
  none_true clause none l in_ =
      let (k, m, lt, at, same) = Any-from_list_any (λ (m : ℤ). int_eq m l) clause in_ in
      by_test (holds l) (λ is. no_both (list_any_at holds clause k m lt (subst (λ z. holds z ≡ true) (sym (at ∙ same_lit m l same)) is)) none) (λ is. is)

  pub following : (earlier : List (List ℤ)) (clause : List ℤ) (hints : List ℕ) → Follows earlier clause hints → Solves holds earlier → IsTrueUnder holds clause
  following earlier clause hints follows solved = by_test (list_any holds clause)
      (λ some. Any-from_list_any holds clause some)
      (λ none. absurd (clash earlier (is_in clause) hints solved (none_true clause none) follows))

  no_empty : (clause : List ℤ) → length clause ≡ 0 → IsTrueUnder holds clause → ⊥
  no_empty clause none true_ = let (k, m, lt, at, is) = true_ in omega (arith, lt, none)

  by_place : (line : List ℤ × List ℕ) (lines : List (List ℤ × List ℕ)) (hints : List ℕ) (k : ℕ) → k < suc (length lines) → get_or (line ∷ lines) k ([], hints) ≡ ([], hints) → IsTrueUnder holds line.0
      → ((j : ℕ) → j < length lines → get_or lines j ([], hints) ≡ ([], hints) → ⊥) → ⊥
  by_place line lines hints zero lt is true_ later = no_empty line.0 (ap (λ (p : List ℤ × List ℕ). length p.0) is) true_
  by_place line lines hints (suc k) lt is true_ later = later k (omega (arith, lt)) is

  pub refutes : (clauses : List (List ℤ)) (lines : List (List ℤ × List ℕ)) (hints : List ℕ) → IsDerivation clauses lines → Contains lines ([], hints) → Solves holds clauses → ⊥
  refutes clauses [] hints derived has solved = let (k, lt, is) = has in omega (arith, lt)
  refutes clauses (line ∷ lines) hints derived has solved =
      let (k, lt, is) = has in
      let here = following clauses line.0 line.1 derived.0 solved in
      by_place line lines hints k lt is here (λ j at found. refutes (clauses ++ line.0 ∷ []) lines hints derived.1 (j, at, found) (All-push (IsTrueUnder holds) clauses line.0 solved here))
