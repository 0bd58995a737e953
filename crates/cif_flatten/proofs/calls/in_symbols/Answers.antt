use Rattle.std.proofs.Common.{subst, take, ◌+◌, arith, sym}
use Rattle.cif_reader.specs.declared.file.Symbol.{Symbol}
use Rattle.cif_flatten.specs.Faults.{undefined_among, undefined_in_symbols, IsFirstIfAny}
use Rattle.cif_flatten.proofs.First.{step}
use Rattle.cif_flatten.proofs.Lookups.{here, no_end}
use Rattle.cif_flatten.proofs.calls.in_symbols.Goals as goal
use Rattle.cif_flatten.proofs.calls.in_symbols.Goals.{in-Some, in_default}

pub loop-place-preserved : goal.loop-place-preserved
loop-place-preserved c =
    let symbols = c.args.file.now.symbols in
    elim c.match-symbol_at.branch [
      | in-Some w ↦
          let at = here symbols c.loop-place.place w.in-Some.symbol.now w.in-Some.ensures in
          let items : IsFirstIfAny (undefined_among symbols w.in-Some.symbol.now.items.items) w.among.result = subst (λ items. IsFirstIfAny (undefined_among symbols items) w.among.result) w.deref.ensures.value w.among.ensures in
          subst (λ r. IsFirstIfAny (undefined_in_symbols symbols (take (c.loop-place.place + 1) symbols)) r) (sym w.first-is)
          (step (λ (s : Symbol). undefined_among symbols s.items.items) symbols c.loop-place.place w.in-Some.symbol.now c.loop-place.first w.among.result w.earlier-first.result
          (omega (arith, c.loop-place-test.true, c.symbol_count-place-end.ensures)) c.loop-place.invariant
          (subst (λ (s : Symbol). IsFirstIfAny (undefined_among symbols s.items.items) w.among.result) at items) w.earlier-first.ensures)
      | in_default w ↦ absurd (no_end symbols c.loop-place.place w.in_default.ensures c.loop-place-test.true c.symbol_count-place-end.ensures)
    ]
