use Rattle.std.proofs.Common.{◌+◌, take, subst, sym, arith}
use Rattle.cif_flatten.specs.Ranking.{rank_of, FallsBefore}
use Rattle.cif_flatten.proofs.Lookups.{here, no_end}
use Rattle.cif_flatten.proofs.Ranked.{falls_step}
use Rattle.cif_flatten.proofs.circles.least_level.Goals as goal
use Rattle.cif_flatten.proofs.circles.least_level.Goals.{in-Some, in_default}

pub loop-place-preserved : goal.loop-place-preserved
loop-place-preserved c =
    let symbols = c.args.file.now.symbols in
    let place = c.loop-place.place in
    let rank = rank_of c.args.ranks.now in
    elim c.match-symbol_at.branch [
      | in-Some w ↦
          let s = w.in-Some.symbol.now in
          subst (FallsBefore symbols rank (take (place + 1) symbols)) (sym w.least-is)
          (falls_step symbols rank place s w.height.result w.rank.result c.loop-place.least w.lesser-least.result (omega (arith, c.loop-place-test.true, c.symbol_count-place-end.ensures)) (here symbols place s w.in-Some.ensures)
          c.loop-place.invariant w.height.ensures w.rank.ensures w.lesser-least.ensures.none w.lesser-least.ensures.less)
      | in_default w ↦ absurd (no_end symbols place w.in_default.ensures c.loop-place-test.true c.symbol_count-place-end.ensures)
    ]
