use Rattle.std.proofs.Common.{arith}
use Rattle.cif_flatten.specs.Ranking.{rank_of}
use Rattle.cif_flatten.proofs.Lookups.{here, no_end}
use Rattle.cif_flatten.proofs.Ranked.{rises_step}
use Rattle.cif_flatten.proofs.circles.never_rises.Goals as goal
use Rattle.cif_flatten.proofs.circles.never_rises.Goals.{in-Some+else-height-rank, in_default}

pub loop-place-preserved : goal.loop-place-preserved
loop-place-preserved c =
    let symbols = c.args.file.now.symbols in
    let place = c.loop-place.place in
    elim c.match-symbol_at.branch [
      | in-Some+else-height-rank w ↦
          let s = w.in-Some.symbol.now in
          rises_step symbols (rank_of c.args.ranks.now) place s w.height.result w.rank.result (omega (arith, c.loop-place-test.true, c.symbol_count-place-end.ensures)) (here symbols place s w.in-Some.ensures)
          c.loop-place.invariant w.height.ensures w.rank.ensures (omega (arith, w.if-height-rank.false))
      | in_default w ↦ absurd (no_end symbols place w.in_default.ensures c.loop-place-test.true c.symbol_count-place-end.ensures)
    ]
