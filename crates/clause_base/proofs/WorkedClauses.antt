-- Worked values of plain clauses, of lists of new ones and of their texts.
use Rattle.std.proofs.Common.{◌≡◌, ℕ, zero, suc, ◌<◌, pos, negsuc, neg_ℤ, true, [], ◌∷◌, refl, arith, codes}
use Rattle.std.specs.List.{concat}
use Rattle.std.specs.Fmt.{decimal}
use Rattle.clause_base.specs.Literals.{lit_at}
use Rattle.clause_base.specs.FormulaText.{is_literal_of}
use Rattle.clause_base.specs.Novelty.{AreNew}
use Rattle.clause_base.specs.Plain.{IsOnce, IsPlain}
use Rattle.clause_base.specs.ClauseText.{literal_text, given_text}
use Rattle.clause_base.proofs.LiteralLemmas.{no_both, differ}
use Rattle.clause_base.proofs.Instances.{all, apart_by}
use Rattle.clause_base.proofs.Worked.{square, turned}

-- ---- plain clauses

once : IsOnce (negsuc 0 ∷ pos 2 ∷ [])
once = record { once = places; apart = apart_by (negsuc 0 ∷ pos 2 ∷ []) refl } where
  places : (p q : ℕ) → p < 2 → q < 2 → lit_at (negsuc 0 ∷ pos 2 ∷ []) p ≡ lit_at (negsuc 0 ∷ pos 2 ∷ []) q → p ≡ q
  places zero zero pl ql same = refl
  places zero (suc zero) pl ql same = absurd (differ (negsuc 0) (pos 2) refl same)
  places zero (suc (suc q)) pl ql same = absurd (omega (arith, ql))
  places (suc zero) zero pl ql same = absurd (differ (pos 2) (negsuc 0) refl same)
  places (suc zero) (suc zero) pl ql same = refl
  places (suc zero) (suc (suc q)) pl ql same = absurd (omega (arith, ql))
  places (suc (suc p)) q pl ql same = absurd (omega (arith, pl))

twice : IsOnce (pos 2 ∷ pos 2 ∷ []) → ⊥
twice o = omega (arith, o.once 0 1 (omega arith) (omega arith) refl)

beside_negation : IsOnce (pos 2 ∷ negsuc 1 ∷ []) → ⊥
beside_negation o = o.apart.apart (pos 2) (0, omega arith, refl) (1, omega arith, refl)

pub plain_one : IsPlain 2 (pos 1 ∷ [])
plain_one = record {
  once = record { once = λ p q pl ql same. omega (arith, pl, ql); apart = apart_by (pos 1 ∷ []) refl };
  literals = all (λ l. is_literal_of 2 l ≡ true) (pos 1 ∷ []) (refl, tt);
}

pub plain_empty : IsPlain 2 []
plain_empty = record { once = record { once = λ p q pl ql same. absurd (omega (arith, pl)); apart = apart_by [] refl }; literals = all (λ l. is_literal_of 2 l ≡ true) [] tt }

other_variable : IsPlain 2 (pos 3 ∷ []) → ⊥
other_variable plain = no_both (plain.literals 0 (pos 0) (omega arith)) refl

listed_twice : IsPlain 2 (pos 1 ∷ pos 1 ∷ []) → ⊥
listed_twice plain = omega (arith, plain.once.once 0 1 (omega arith) (omega arith) refl)

-- ---- new clauses

none_after_square : AreNew square []
none_after_square = tt

-- A clause that has the literals of an earlier one is not new.
said_before : AreNew square ((pos 2 ∷ pos 1 ∷ pos 2 ∷ []) ∷ []) → ⊥
said_before new = turned new.0

-- ---- texts

empty_given : given_text [] ≡ codes "f 0\n"
unfolding given_text
empty_given = refl

-- a variable and a negated one
variable : literal_text (pos 5) ≡ concat (decimal 5 ∷ codes " " ∷ [])
unfolding literal_text
variable = refl

negated : literal_text (neg_ℤ (pos 5)) ≡ concat (codes "-" ∷ decimal 5 ∷ codes " " ∷ [])
unfolding literal_text
negated = refl
