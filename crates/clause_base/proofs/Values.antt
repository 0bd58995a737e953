-- Values as a test of literals: of a literal and its negation one is true.
use Rattle.std.proofs.Common.{◌≡◌, ℕ, zero, suc, inl, inr, ℤ, pos, negsuc, neg_ℤ, Bool, true, false, not, List, length, get_or, refl, sym, ◌∙◌, ap, arith}
use Rattle.std.proofs.lemmas.Bool.{cases_lt}
use Rattle.std.proofs.lemmas.List.{get_or_default, get_or_past}
use Rattle.clause_base.specs.FormulaText.{is_literal_of}
use Rattle.clause_base.specs.Solving.{is_true_under}
use Rattle.clause_base.specs.Teaching.{IsConsistent}
use Rattle.clause_base.proofs.NumberLemmas.{within, within_negative}

no_value : {P : Type 0} (b : Bool) → b ≡ true → b ≡ false → P
no_value true is other = cc
no_value false is other = cc

not_twice : (b : Bool) → not (not b) ≡ b
not_twice true = refl
not_twice false = refl

-- a value is read the same whatever stands for a missing one
module _ (values : List Bool) where
  true_either : (n : ℕ) → get_or values n false ≡ true → get_or values n true ≡ true
  true_either n is = elim (cases_lt n (length values)) [
    | inl lt ↦ get_or_default values n true false lt ∙ is
    | inr more ↦ no_value (get_or values n false) is (get_or_past values n false more)
  ]

  false_either : (n : ℕ) → not (get_or values n true) ≡ true → get_or values n false ≡ false
  false_either n is = elim (cases_lt n (length values)) [
    | inl lt ↦ get_or_default values n false true lt ∙ sym (not_twice (get_or values n true)) ∙ ap not is
    | inr more ↦ get_or_past values n false more
  ]

  apart : (l : ℤ) → is_true_under values l ≡ true → is_true_under values (neg_ℤ l) ≡ false
  apart (pos zero) is = no_value false is refl
  apart (pos (suc n)) is = ap not (true_either n is)
  apart (negsuc n) is = false_either n is

  -- no literal is true together with its negation
  pub consistent : IsConsistent (is_true_under values)
  consistent = record { apart = apart }

  -- of a literal over the variables exactly one is true, it or its negation
  pub one : (l : ℤ) → is_literal_of (length values) l ≡ true → is_true_under values (neg_ℤ l) ≡ not (is_true_under values l)
  one (pos zero) is = cc
  one (pos (suc n)) is = ap not (get_or_default values n true false (omega (arith, (within (length values) (suc n) is).1)))
  one (negsuc n) is =
      get_or_default values n false true (omega (arith, within_negative (length values) n is)) ∙ sym (not_twice (get_or values n true))
