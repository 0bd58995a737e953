-- Sides and budgets, worked out.
use Rattle.std.proofs.Common.{◌≡◌, ℕ, ◌*◌, [], ◌∷◌, ◌++◌, inl, inr, refl, arith}
use Rattle.std.specs.Prelude.{codes}
use Rattle.std.specs.Fmt.{decimal}
use Rattle.defect_sweep.specs.declared.sides.SideWeight.{SideWeight}
use Rattle.defect_sweep.specs.SideTexts.{comma, entry_text, sides_text}
use Rattle.command_inputs.specs.Sides.{IsEntrySide, SpellsEntry}
use Rattle.command_inputs.specs.Words.{SpellsBudget}

-- ---- sides

abbrev side : ℕ → ℕ → SideWeight
side size weight = record { cells = 2 * size; weight = weight }

least_side : IsEntrySide (side 1 1)
least_side = record { counted = record { some = omega arith; small = omega arith; counts = omega arith; light = omega arith }; even = refl }

greatest_side : IsEntrySide (side 32768 30)
greatest_side = record { counted = record { some = omega arith; small = omega arith; counts = omega arith; light = omega arith }; even = refl }

too_great : IsEntrySide (side 32769 1) → ⊥
too_great is = omega (arith, is.counted.small)

too_heavy : IsEntrySide (side 3 31) → ⊥
too_heavy is = omega (arith, is.counted.light)

half_a_hundredth : IsEntrySide (record { cells = 3; weight = 1 }) → ⊥
half_a_hundredth is = omega (arith, is.even)

-- `3` and `3:1` spell the same side, and `3:2` one of weight 2
plain : SpellsEntry (decimal 3) (side 3 1)
plain = inl (refl, refl)

weight_1 : SpellsEntry (decimal 3 ++ (codes ":" ++ decimal 1)) (side 3 1)
weight_1 = inr refl

weight_2 : SpellsEntry (decimal 3 ++ (codes ":" ++ decimal 2)) (side 3 2)
weight_2 = inr refl

-- the weight 1 is not printed
printed_plain : entry_text (side 3 1) ≡ decimal 3 ++ []
printed_plain = refl

two_sides : sides_text (side 3 1 ∷ side 4 3 ∷ []) ≡ entry_text (side 3 1) ++ (comma ∷ entry_text (side 4 3))
two_sides = refl

-- ---- budgets

least_budget : SpellsBudget (decimal 1) 1
least_budget = record { some = omega arith; few = omega arith; spelled = refl }

greatest_budget : SpellsBudget (decimal 1000000) 1000000
greatest_budget = record { some = omega arith; few = omega arith; spelled = refl }

no_budget : SpellsBudget (decimal 0) 0 → ⊥
no_budget budget = omega (arith, budget.some)

too_great_a_budget : SpellsBudget (decimal 1000001) 1000001 → ⊥
too_great_a_budget budget = omega (arith, budget.few)
