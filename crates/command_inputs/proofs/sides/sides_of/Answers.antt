use Rattle.std.proofs.Common.{◌≡◌, List, ℕ, map, Bor, true, false, refl, sym, ◌∙◌, ap, subst, arith}
use Rattle.defect_sweep.specs.Sides.{AreSides}
use Rattle.command_inputs.proofs.SideLemmas.{not_spelled, not_sides, spelled}
use Rattle.command_inputs.proofs.sides.sides_of.Goals as goal

untrue : false ≡ true → ⊥
untrue e = grind arith

pub returns-in_default-clause-none : goal.returns-in_default-clause-none
returns-in_default-clause-none c =
    not_spelled c.args.word.now (map (λ e. e.now) c.as_slice.result.now) (ap (λ es. map (λ (e : Bor (List ℕ)). e.now) es) c.as_slice.ensures.value ∙ c.in_ok-entries.ensures) (rw c.in_default.is at c.in_ok-sides.ensures.none)

pub returns-then-are_sides-clause-found : goal.returns-then-are_sides-clause-found
returns-then-are_sides-clause-found c =
    let found = rw c.in-Some.is at c.in_ok-sides.ensures.found in
    spelled c.args.word.now (map (λ e. e.now) c.as_slice.result.now) c.in-Some.sides.items (ap (λ es. map (λ (e : Bor (List ℕ)). e.now) es) c.as_slice.ensures.value ∙ c.in_ok-entries.ensures)
    found.0 found.1 (subst AreSides c.as_slice-2.ensures.value (c.if-are_sides.ensures.0 refl))

pub returns-clause-none : goal.returns-clause-none
returns-clause-none c =
    let found = rw c.in-Some.is at c.in_ok-sides.ensures.found in
    not_sides c.args.word.now (map (λ e. e.now) c.as_slice.result.now) c.in-Some.sides.items (ap (λ es. map (λ (e : Bor (List ℕ)). e.now) es) c.as_slice.ensures.value ∙ c.in_ok-entries.ensures) found.0 found.1
    (λ are. untrue (c.if-are_sides.ensures.1 (subst AreSides (sym c.as_slice-2.ensures.value) are)))
