use Rattle.std.proofs.Common.{length, ap, arith, get_or}
use Rattle.net_trace.proofs.Tying.{all_tied, all_skipped, all_row, all_done, listed, tied_moved}
use Rattle.net_trace.proofs.ties.tie_all.Goals.{then-first-second+in_ok-tie, else-first-second}
use Rattle.net_trace.proofs.ties.tie_all.Goals as goal

pub loop-second-preserved : goal.loop-second-preserved
loop-second-preserved c =
    let at_first = listed c.wires-first-items.result.now c.args.cut.now.wires c.loop-first.first-index 0 c.wires-first-items.ensures c.loop-first-test.true in
    let at_second = listed c.wires-second-items.result.now c.args.cut.now.wires c.loop-second.second-index 0 c.wires-second-items.ensures c.loop-second-test.true in
    elim c.if-first-second.branch [
      | then-first-second+in_ok-tie w ↦ all_tied c.args.wiring.now c.args.cut.now c.loop-first.first-index c.loop-second.second-index (get_or c.wires-first-items.result.now c.loop-first.first-index 0) (get_or c.wires-second-items.result.now c.loop-second.second-index 0)
          c.args.pairs.now.items c.loop-second.pairs.items c.if-first-second.pairs.items at_first at_second c.loop-second.invariant
          (tied_moved c.args.wiring.now w.region.result.now c.args.cut.now.region _ _ c.loop-second.pairs.items w.tie.new.pairs.items c.if-first-second.pairs.items w.region.ensures (ap (λ v. v.items) w.pairs-is) w.in_ok-tie.ensures)
      | else-first-second w ↦ all_skipped c.args.wiring.now c.args.cut.now c.loop-first.first-index c.loop-second.second-index (get_or c.wires-first-items.result.now c.loop-first.first-index 0) (get_or c.wires-second-items.result.now c.loop-second.second-index 0)
          c.args.pairs.now.items c.loop-second.pairs.items c.if-first-second.pairs.items at_first at_second c.loop-second.invariant w.if-first-second.false (ap (λ v. v.items) w.pairs-is)
    ]

pub loop-first-preserved : goal.loop-first-preserved
loop-first-preserved c = all_row c.args.wiring.now c.args.cut.now c.loop-first.first-index c.loop-second.second-index c.args.pairs.now.items c.loop-second.pairs.items (omega (arith, c.loop-second-test.false, ap (λ l. length l) c.wires-second-items.ensures)) c.loop-second.invariant

pub returns : goal.returns
returns c = all_done c.args.wiring.now c.args.cut.now c.loop-first.first-index 0 c.args.pairs.now.items c.loop-first.pairs.items (omega (arith, c.loop-first-test.false, ap (λ l. length l) c.wires-first-items.ensures)) c.loop-first.invariant
