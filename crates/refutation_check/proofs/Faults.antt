-- Hints have one fault: the first.
use Rattle.std.proofs.Common.{◌≡◌, ◌≢◌, ℕ, zero, suc, ◌-◌, ◌<◌, ◌≤◌, ℤ, Bool, List, [], ◌∷◌, length, take, get_or, inl, inr, refl, sym, ap, subst, arith}
use Rattle.std.proofs.lemmas.Bool.{cases_lt}
use Rattle.refutation_check.specs.Following.{IsNumber, numbered, IsUnit, joined}
use Rattle.refutation_check.specs.Refusing.{Leads, IsLost, IsStuck, IsClashless, IsRefused}
use Rattle.refutation_check.specs.declared.hints.StepRefusal.{StepRefusal}
use Rattle.refutation_check.specs.declared.hints.StepRefusal.TheVariants.{NoSuchClause, NotUnit, NoClash, NoMemory}
use Rattle.refutation_check.proofs.Leading.{one_unit}

module _ (earlier : List (List ℤ)) where
  -- a hint that others lead on from names a clause with one literal left
  passed : (fails : ℤ → Bool) (hints : List ℕ) (i j : ℕ) (set end : ℤ → Bool) → i < j → j ≤ length hints → Leads earlier fails (take i hints) set → Leads earlier fails (take j hints) end
      → IsNumber earlier (get_or hints i 0) × (lit : ℤ) × IsUnit set (numbered earlier (get_or hints i 0)) lit
  passed fails [] i j set end lt most here on = absurd (omega (arith, lt, most))
  passed fails (h ∷ hints) i zero set end lt most here on = absurd (omega (arith, lt))
  passed fails (h ∷ hints) zero (suc j) set end lt most here on =
      let (number, lit, unit, rest) = on in
      (number, lit, subst (λ s. IsUnit s (numbered earlier h) lit) (sym here) unit)
  passed fails (h ∷ hints) (suc i) (suc j) set end lt most here on =
      let (n, l, u, rest) = on in
      let (m, k, v, front) = here in
      passed (joined l fails) hints i j set end (omega (arith, lt)) (omega (arith, most))
      (subst (λ z. Leads earlier (joined z fails) (take i hints) set) (one_unit fails (numbered earlier h) k l v u) front) rest

  after_lost : {P : Type 0} (fails : ℤ → Bool) (hints : List ℕ) (i j : ℕ) (end : ℤ → Bool) → IsLost earlier fails hints i → i < j → j ≤ length hints → Leads earlier fails (take j hints) end → P
  after_lost fails hints i j end lost lt most on = let (number, lit, unit) = passed fails hints i j lost.set end lt most lost.leads on in absurd (lost.none number)

  after_stuck : {P : Type 0} (fails : ℤ → Bool) (hints : List ℕ) (i j : ℕ) (end : ℤ → Bool) → IsStuck earlier fails hints i → i < j → j ≤ length hints → Leads earlier fails (take j hints) end → P
  after_stuck fails hints i j end stuck lt most on = let (number, lit, unit) = passed fails hints i j stuck.set end lt most stuck.leads on in absurd (stuck.none lit unit)

  by_order : {P : Type 0} (i j : ℕ) → (i < j → P) → (j < i → P) → (i ≡ j → P) → P
  by_order i j below above same = elim (cases_lt i j) [
    | inl lt ↦ below lt
    | inr le ↦ elim (cases_lt j i) [ inl lt ↦ above lt | inr more ↦ same (omega (arith, le, more)) ]
  ]

  lost_stuck : {P : Type 0} (fails : ℤ → Bool) (hints : List ℕ) (i j : ℕ) → IsLost earlier fails hints i → IsStuck earlier fails hints j → P
  lost_stuck fails hints i j lost stuck = by_order i j
      (λ lt. after_lost fails hints i j stuck.set lost lt (omega (arith, stuck.inside)) stuck.leads)
      (λ lt. after_stuck fails hints j i lost.set stuck lt (omega (arith, lost.inside)) lost.leads)
      (λ same. absurd (lost.none (subst (λ k. IsNumber earlier (get_or hints k 0)) (sym same) stuck.number)))

  lost_off : {P : Type 0} (fails : ℤ → Bool) (hints : List ℕ) (i : ℕ) → IsLost earlier fails hints i → IsClashless earlier fails hints → P
  lost_off fails hints i lost off = by_order i (length hints - 1)
      (λ lt. after_lost fails hints i (length hints - 1) off.set lost lt (omega arith) off.leads)
      (λ lt. absurd (omega (arith, lt, lost.inside)))
      (λ same. absurd (lost.none (subst (λ k. IsNumber earlier (get_or hints k 0)) (sym same) off.number)))

  stuck_off : {P : Type 0} (fails : ℤ → Bool) (hints : List ℕ) (i : ℕ) → IsStuck earlier fails hints i → IsClashless earlier fails hints → P
  stuck_off fails hints i stuck off = after_stuck fails hints i (length hints - 1) off.set stuck (omega (arith, stuck.inside)) (omega arith) off.leads

  pub one_refusal : (fails : ℤ → Bool) (hints : List ℕ) (a b : StepRefusal) → a ≢ NoMemory → b ≢ NoMemory → IsRefused earlier fails hints a → IsRefused earlier fails hints b → a ≡ b
  one_refusal fails hints NoMemory b some other first second = absurd (some refl)
  one_refusal fails hints a NoMemory some other first second = absurd (other refl)
  one_refusal fails hints (NoSuchClause i) (NoSuchClause j) some other first second = by_order i j
      (λ lt. after_lost fails hints i j second.set first lt (omega (arith, second.inside)) second.leads)
      (λ lt. after_lost fails hints j i first.set second lt (omega (arith, first.inside)) first.leads)
      (λ same. ap NoSuchClause same)
  one_refusal fails hints (NoSuchClause i) (NotUnit j) some other first second = lost_stuck fails hints i j first second
  one_refusal fails hints (NoSuchClause i) NoClash some other first (inl none) = absurd (omega (arith, first.inside, none))
  one_refusal fails hints (NoSuchClause i) NoClash some other first (inr off) = lost_off fails hints i first off
  one_refusal fails hints (NotUnit i) (NoSuchClause j) some other first second = lost_stuck fails hints j i second first
  one_refusal fails hints (NotUnit i) (NotUnit j) some other first second = by_order i j
      (λ lt. after_stuck fails hints i j second.set first lt (omega (arith, second.inside)) second.leads)
      (λ lt. after_stuck fails hints j i first.set second lt (omega (arith, first.inside)) first.leads)
      (λ same. ap NotUnit same)
  one_refusal fails hints (NotUnit i) NoClash some other first (inl none) = absurd (omega (arith, first.inside, none))
  one_refusal fails hints (NotUnit i) NoClash some other first (inr off) = stuck_off fails hints i first off
  one_refusal fails hints NoClash (NoSuchClause j) some other (inl none) second = absurd (omega (arith, second.inside, none))
  one_refusal fails hints NoClash (NoSuchClause j) some other (inr off) second = lost_off fails hints j second off
  one_refusal fails hints NoClash (NotUnit j) some other (inl none) second = absurd (omega (arith, second.inside, none))
  one_refusal fails hints NoClash (NotUnit j) some other (inr off) second = stuck_off fails hints j second off
  one_refusal fails hints NoClash NoClash some other first second = refl
