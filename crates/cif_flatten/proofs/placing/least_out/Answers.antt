use Rattle.std.proofs.Common.{◌+◌, subst, sym, take, map}
use Rattle.cif_flatten.specs.Unrolling.{placed_of, IsIn, IsLeastOut}
use Rattle.cif_flatten.proofs.Cases.{not_true}
use Rattle.cif_flatten.proofs.Ranges.{out_more, same_more, out_all}
use Rattle.cif_flatten.proofs.placing.least_out.Goals as goal
use Rattle.cif_flatten.proofs.placing.least_out.Goals.{then-not-is_in_range, else-not-is_in_range}

pub loop-command-preserved : goal.loop-command-preserved
loop-command-preserved c =
    let commands = c.args.commands.now in
    let i = c.loop-command.command-index in
    let x = c.command-item.result in
    elim c.if-not-is_in_range.branch [
      | then-not-is_in_range w ↦ subst (IsLeastOut (map placed_of (take (i + 1) commands))) (sym w.least-is)
          (out_more commands i x c.loop-command.least w.lesser.result c.loop-command-test.true c.command-item.is c.loop-command.invariant
          (not_true {A = IsIn (placed_of x)} c.is_in_range.result w.if-not-is_in_range.true c.is_in_range.ensures) w.lesser.ensures)
      | else-not-is_in_range w ↦ subst (IsLeastOut (map placed_of (take (i + 1) commands))) (sym w.least-is)
          (same_more commands i x c.loop-command.least c.loop-command-test.true c.command-item.is c.loop-command.invariant (c.is_in_range.ensures.0 w.if-not-is_in_range.false))
    ]

pub returns : goal.returns
returns c = out_all c.args.commands.now c.loop-command.command-index c.loop-command.least c.loop-command-test.false c.loop-command.invariant
