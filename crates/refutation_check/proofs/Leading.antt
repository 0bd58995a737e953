-- Hints that lead on: one more of them, and what the rest then runs to.
use Rattle.std.proofs.Common.{◌≡◌, ℕ, zero, suc, ◌+◌, ◌-◌, ◌<◌, ◌≤◌, ℤ, neg_ℤ, nat_abs, Bool, true, ◌||◌, ◌⊎◌, List, [], ◌∷◌, ◌++◌, length, take, drop, get_or, inl, inr, refl, sym, ap, ◌∙◌, subst, arith}
use Rattle.std.specs.List.{All}
use Rattle.std.specs.Ordering.{int_eq}
use Rattle.std.proofs.lemmas.List.{take_all, take_more}
use Rattle.std.proofs.lemmas.List.Elements.{All-contains}
use Rattle.clause_base.specs.Formulas.{IsClauseWithin}
use Rattle.clause_base.proofs.LiteralLemmas.{no_both}
use Rattle.refutation_check.specs.Following.{IsNumber, numbered, HasFailed, IsUnit, joined, Runs}
use Rattle.refutation_check.specs.Refusing.{Leads, IsLost, IsStuck, IsClashless}

pub one_unit : (fails : ℤ → Bool) (clause : List ℤ) (a b : ℤ) → IsUnit fails clause a → IsUnit fails clause b → a ≡ b
one_unit fails clause a b first second = elim (All-contains (λ m. (m ≡ b) ⊎ (fails m ≡ true)) clause a second.others first.there) [
  | inl same ↦ same
  | inr failed ↦ no_both failed first.left
]

pub unit_not_failed : (fails : ℤ → Bool) (clause : List ℤ) (lit : ℤ) → IsUnit fails clause lit → HasFailed fails clause → ⊥
unit_not_failed fails clause lit unit failed = no_both (All-contains (λ l. fails l ≡ true) clause lit failed unit.there) unit.left

pub failed_not_unit : (fails : ℤ → Bool) (clause : List ℤ) → HasFailed fails clause → (lit : ℤ) → IsUnit fails clause lit → ⊥
failed_not_unit fails clause failed lit unit = unit_not_failed fails clause lit unit failed

module _ (earlier : List (List ℤ)) where
  runs_cons : (fails : ℤ → Bool) (hint : ℕ) (hints : List ℕ) (lit : ℤ) → IsNumber earlier hint → IsUnit fails (numbered earlier hint) lit → Runs earlier (joined lit fails) hints → Runs earlier fails (hint ∷ hints)
  runs_cons fails hint [] lit number unit runs = absurd runs
  runs_cons fails hint (next ∷ hints) lit number unit runs = (number, lit, unit, runs)

  runs_number : (fails : ℤ → Bool) (hint : ℕ) (hints : List ℕ) → Runs earlier fails (hint ∷ hints) → IsNumber earlier hint
  runs_number fails hint [] runs = runs.0
  runs_number fails hint (next ∷ hints) runs = runs.0

  runs_unit : (fails : ℤ → Bool) (hint : ℕ) (hints : List ℕ) → 0 < length hints → Runs earlier fails (hint ∷ hints) → ((lit : ℤ) → IsUnit fails (numbered earlier hint) lit → ⊥) → ⊥
  runs_unit fails hint [] some runs none = omega (arith, some)
  runs_unit fails hint (next ∷ hints) some runs none = let (number, lit, unit, rest) = runs in none lit unit

  runs_tail : (fails : ℤ → Bool) (hint : ℕ) (hints : List ℕ) (lit : ℤ) → 0 < length hints → IsUnit fails (numbered earlier hint) lit → Runs earlier fails (hint ∷ hints) → Runs earlier (joined lit fails) hints
  runs_tail fails hint [] lit some unit runs = absurd (omega (arith, some))
  runs_tail fails hint (next ∷ hints) lit some unit runs =
      let (number, other, found, rest) = runs in
      subst (λ l. Runs earlier (joined l fails) (next ∷ hints)) (one_unit fails (numbered earlier hint) other lit found unit) rest

  pub leads_runs : (fails : ℤ → Bool) (front : List ℕ) (set : ℤ → Bool) (rest : List ℕ) → Leads earlier fails front set → Runs earlier set rest → Runs earlier fails (front ++ rest)
  leads_runs fails [] set rest leads runs = subst (λ s. Runs earlier s rest) leads runs
  leads_runs fails (hint ∷ front) set rest leads runs =
      let (number, lit, unit, on) = leads in
      runs_cons fails hint (front ++ rest) lit number unit (leads_runs (joined lit fails) front set rest on runs)

  longer : (front rest : List ℕ) → 0 < length rest → 0 < length (front ++ rest)
  longer [] rest some = some
  longer (hint ∷ front) rest some = omega arith

  pub runs_leads : (fails : ℤ → Bool) (front : List ℕ) (set : ℤ → Bool) (rest : List ℕ) → Leads earlier fails front set → 0 < length rest → Runs earlier fails (front ++ rest) → Runs earlier set rest
  runs_leads fails [] set rest leads some runs = subst (λ s. Runs earlier s rest) (sym leads) runs
  runs_leads fails (hint ∷ front) set rest leads some runs =
      let (number, lit, unit, on) = leads in
      runs_leads (joined lit fails) front set rest on some (runs_tail fails hint (front ++ rest) lit (longer front rest some) unit runs)

  leads_push : (fails : ℤ → Bool) (front : List ℕ) (set : ℤ → Bool) (hint : ℕ) (lit : ℤ) → Leads earlier fails front set → IsNumber earlier hint → IsUnit set (numbered earlier hint) lit → Leads earlier fails (front ++ hint ∷ []) (joined lit set)
  leads_push fails [] set hint lit leads number unit = (number, lit, subst (λ s. IsUnit s (numbered earlier hint) lit) leads unit, ap (λ s. joined lit s) leads)
  leads_push fails (first ∷ front) set hint lit leads number unit =
      let (n, l, u, on) = leads in
      (n, l, u, leads_push (joined l fails) front set hint lit on number unit)

  pub leads_more : (fails : ℤ → Bool) (hints : List ℕ) (i : ℕ) (set new : ℤ → Bool) (hint : ℕ) (clause : List ℤ) (lit negated : ℤ) → i < length hints → hint ≡ get_or hints i 0
      → Leads earlier fails (take i hints) set → IsNumber earlier hint → clause ≡ numbered earlier hint → IsUnit set clause lit → negated ≡ neg_ℤ lit
      → ((m : ℤ) → new m ≡ (int_eq m negated || set m)) → Leads earlier fails (take (i + 1) hints) new
  leads_more fails hints i set new hint clause lit negated lt at leads number is unit turned joins =
      subst (λ hs. Leads earlier fails hs new) (ap (λ h. take i hints ++ h ∷ []) at ∙ sym (take_more hints i 0 lt))
      (subst (λ s. Leads earlier fails (take i hints ++ hint ∷ []) s) (sym (λ j m. (joins m ∙ ap (λ z. int_eq m z || set m) turned) j))
      (leads_push fails (take i hints) set hint lit leads number (subst (λ c. IsUnit set c lit) is unit)))

  split_at : (hints : List ℕ) (i : ℕ) → i < length hints → take i hints ++ get_or hints i 0 ∷ drop (suc i) hints ≡ hints
  split_at [] i lt = absurd (omega (arith, lt))
  split_at (h ∷ hints) zero lt = refl
  split_at (h ∷ hints) (suc i) lt = ap (λ hs. h ∷ hs) (split_at hints i (omega (arith, lt)))

  rest_from : (fails : ℤ → Bool) (hints : List ℕ) (i : ℕ) (set : ℤ → Bool) → i < length hints → Leads earlier fails (take i hints) set → Runs earlier fails hints → Runs earlier set (get_or hints i 0 ∷ drop (suc i) hints)
  rest_from fails hints i set lt leads runs = runs_leads fails (take i hints) set (get_or hints i 0 ∷ drop (suc i) hints) leads (omega arith) (subst (λ hs. Runs earlier fails hs) (sym (split_at hints i lt)) runs)

  dropped : (hints : List ℕ) (i : ℕ) → i + 1 < length hints → 0 < length (drop (suc i) hints)
  dropped [] i lt = absurd (omega (arith, lt))
  dropped (h ∷ []) i lt = absurd (omega (arith, lt))
  dropped (h ∷ next ∷ hints) zero lt = omega arith
  dropped (h ∷ next ∷ hints) (suc i) lt = dropped (next ∷ hints) i (omega (arith, lt))

  last_alone : (hints : List ℕ) (i : ℕ) → i ≡ length hints - 1 → 0 < length hints → take i hints ++ get_or hints i 0 ∷ [] ≡ hints
  last_alone hints i is some = sym (take_more hints i 0 (omega (arith, is, some))) ∙ take_all (i + 1) hints (omega (arith, is, some))

  pub not_lost : (fails : ℤ → Bool) (hints : List ℕ) (index : ℕ) → IsLost earlier fails hints index → Runs earlier fails hints → ⊥
  not_lost fails hints index lost runs = lost.none (runs_number lost.set (get_or hints index 0) (drop (suc index) hints) (rest_from fails hints index lost.set lost.inside lost.leads runs))

  pub not_stuck : (fails : ℤ → Bool) (hints : List ℕ) (index : ℕ) → IsStuck earlier fails hints index → Runs earlier fails hints → ⊥
  not_stuck fails hints index stuck runs = runs_unit stuck.set (get_or hints index 0) (drop (suc index) hints) (dropped hints index stuck.inside)
      (rest_from fails hints index stuck.set (omega (arith, stuck.inside)) stuck.leads runs) stuck.none

  pub not_clashless : (fails : ℤ → Bool) (hints : List ℕ) → IsClashless earlier fails hints → Runs earlier fails hints → ⊥
  not_clashless fails hints off runs =
      let last : Runs earlier off.set (get_or hints (length hints - 1) 0 ∷ []) = runs_leads fails (take (length hints - 1) hints) off.set (get_or hints (length hints - 1) 0 ∷ []) off.leads (omega arith)
      (subst (λ hs. Runs earlier fails hs) (sym (last_alone hints (length hints - 1) refl off.some)) runs) in
      off.none last.1

  pub not_none : (fails : ℤ → Bool) (hints : List ℕ) → length hints ≡ 0 → Runs earlier fails hints → ⊥
  not_none fails [] none runs = runs
  not_none fails (h ∷ hints) none runs = omega (arith, none)

  pub all_run : (fails : ℤ → Bool) (hints : List ℕ) (i : ℕ) (set : ℤ → Bool) (hint : ℕ) (clause : List ℤ) → i ≡ length hints - 1 → 0 < length hints → hint ≡ get_or hints i 0
      → Leads earlier fails (take i hints) set → IsNumber earlier hint → clause ≡ numbered earlier hint → HasFailed set clause → Runs earlier fails hints
  all_run fails hints i set hint clause is some at leads number same failed =
      subst (λ hs. Runs earlier fails hs) (last_alone hints i is some)
      (subst (λ h. Runs earlier fails (take i hints ++ h ∷ [])) at
      (leads_runs fails (take i hints) set (hint ∷ []) leads (number, subst (λ c. HasFailed set c) same failed)))

  pub in_range : (vars : ℕ) (hint : ℕ) (clause : List ℤ) (set : ℤ → Bool) (lit : ℤ) → All (IsClauseWithin vars) earlier → IsNumber earlier hint → clause ≡ numbered earlier hint → IsUnit set clause lit → nat_abs lit ≤ vars
  in_range vars hint clause set lit within number is unit =
      All-contains (λ l. nat_abs l ≤ vars) clause lit (subst (IsClauseWithin vars) (sym is) (within (hint - 1) [] (omega (arith, number.some, number.most)))) unit.there
