use Rattle.std.proofs.Common.{◌≡◌, ◌+◌, take, true, false, subst, sym, arith}
use Rattle.std.proofs.lemmas.List.{take_all}
use Rattle.cif_reader.specs.declared.file.Symbol.{Symbol}
use Rattle.cif_flatten.specs.Faults.{CallsThrough}
use Rattle.cif_flatten.specs.Reaching.{IsLeastAmong, IsLesser}
use Rattle.cif_flatten.proofs.Lookups.{here, no_end}
use Rattle.cif_flatten.proofs.Circling.{least_step}
use Rattle.cif_flatten.proofs.circles.least_circle.Goals as goal
use Rattle.cif_flatten.proofs.circles.least_circle.Goals.{in-Some+in_ok-calls_itself, in_default}

pub loop-place-preserved : goal.loop-place-preserved
loop-place-preserved c =
    let symbols = c.args.file.now.symbols in
    let place = c.loop-place.place in
    elim c.match-symbol_at.branch [
      | in-Some+in_ok-calls_itself w ↦
          let s : Symbol = w.in-Some.symbol.now in
          let at = here symbols place s w.in-Some.ensures in
          let counts = w.in_ok-calls_itself.field-0 in
          subst (IsLeastAmong symbols (take (place + 1) symbols)) (sym w.least-is)
          (least_step symbols place s c.loop-place.least w.lesser-least.result counts (omega (arith, c.loop-place-test.true, c.symbol_count-place-end.ensures)) c.loop-place.invariant
          (λ e. subst (λ (x : Symbol). CallsThrough symbols x.number x.number) at (w.in_ok-calls_itself.ensures.yes e))
          (subst (λ (x : Symbol). counts ≡ false → CallsThrough symbols x.number x.number → ⊥) at w.in_ok-calls_itself.ensures.no)
          w.lesser-least.ensures.none
          (subst (λ (x : Symbol). counts ≡ true → IsLesser c.loop-place.least x.number w.lesser-least.result) at w.lesser-least.ensures.less))
      | in_default w ↦ absurd (no_end symbols place w.in_default.ensures c.loop-place-test.true c.symbol_count-place-end.ensures)
    ]

pub returns : goal.returns
returns c = subst (λ xs. IsLeastAmong c.args.file.now.symbols xs c.loop-place.least) (take_all c.loop-place.place c.args.file.now.symbols (omega (arith, c.loop-place-test.false, c.symbol_count-place-end.ensures))) c.loop-place.invariant
