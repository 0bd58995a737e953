-- Why a clause doesn't follow by its hints: the first hint at fault. Hints count from 0.
use Rattle.std.specs.Prelude.{◌≡◌, ◌⊎◌, ℕ, ◌+◌, ◌<◌, ◌-◌, ℤ, Bool, List, [], ◌∷◌, length, take, slice_index_or}
use Rattle.refutation_check.specs.Following.{IsNumber, numbered, HasFailed, IsUnit, StepsOn}
use Rattle.refutation_check.specs.declared.hints.StepRefusal.{StepRefusal}
use Rattle.refutation_check.specs.declared.hints.StepRefusal.TheVariants.{NoSuchClause, NotUnit, NoClash, NoMemory}

-- Each of these hints names an earlier clause with one literal outside the set as it is by then, and they lead from the
-- first set to the last.
abbrev pub Leads : List (List ℤ) → (ℤ → Bool) → List ℕ → (ℤ → Bool) → Type 0
Leads earlier fails [] set = set ≡ fails
Leads earlier fails (hint ∷ hints) set = StepsOn earlier fails hint (λ after. Leads earlier after hints set)

-- the hints before this one lead on, and this one names no earlier clause
pub record IsLost (earlier : List (List ℤ)) (fails : ℤ → Bool) (hints : List ℕ) (index : ℕ) : Type 0 where
  pub inside : index < length hints
  pub set : ℤ → Bool
  pub leads : Leads earlier fails (take index hints) set
  pub none : IsNumber earlier (slice_index_or hints index 0) → ⊥

-- The hints before this one lead on, and this one, which isn't the last, names a clause that hasn't exactly one literal
-- outside.
pub record IsStuck (earlier : List (List ℤ)) (fails : ℤ → Bool) (hints : List ℕ) (index : ℕ) : Type 0 where
  pub inside : index + 1 < length hints
  pub set : ℤ → Bool
  pub leads : Leads earlier fails (take index hints) set
  pub number : IsNumber earlier (slice_index_or hints index 0)
  pub none : (lit : ℤ) → IsUnit set (numbered earlier (slice_index_or hints index 0)) lit → ⊥

-- the hints before the last lead on, and the last names a clause with a literal outside
pub record IsClashless (earlier : List (List ℤ)) (fails : ℤ → Bool) (hints : List ℕ) : Type 0 where
  pub some : 0 < length hints
  pub set : ℤ → Bool
  pub leads : Leads earlier fails (take (length hints - 1) hints) set
  pub number : IsNumber earlier (slice_index_or hints (length hints - 1) 0)
  pub none : HasFailed set (numbered earlier (slice_index_or hints (length hints - 1) 0)) → ⊥

-- the cause of each refusal
abbrev pub IsRefused : List (List ℤ) → (ℤ → Bool) → List ℕ → StepRefusal → Type 0
IsRefused earlier fails hints (NoSuchClause index) = IsLost earlier fails hints index
IsRefused earlier fails hints (NotUnit index) = IsStuck earlier fails hints index
IsRefused earlier fails hints NoClash = (length hints ≡ 0) ⊎ IsClashless earlier fails hints
IsRefused earlier fails hints NoMemory = Unit {0}
