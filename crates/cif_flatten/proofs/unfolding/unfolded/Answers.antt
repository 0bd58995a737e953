use Rattle.std.proofs.Common.{◌+◌, arith}
use Rattle.cif_flatten.proofs.Walked.{walk_begin, last_near, last_few, walk_smaller, walk_step, walk_end}
use Rattle.cif_flatten.proofs.unfolding.unfolded.Goals as goal

pub loop-command-init : goal.loop-command-init
loop-command-init c = record {
  walk = walk_begin c.args.file.now c.args.size c.new-commands.result.items c.new-pending.result.items c.push_all.new.pending.items c.top.result.now c.top.ensures.kept c.requires.size c.requires.few c.requires.light
      c.new-commands.ensures.items c.new-pending.ensures.items c.top.ensures.same c.in_ok-push_all.ensures.waiting c.in_ok-push_all.ensures.shallow;
}

pub push_called-requires-clause-near : goal.push_called-requires-clause-near
push_called-requires-clause-near c = last_near _ _ _ _ c.pop.new.self.items c.in-Some.command c.loop-command.invariant.walk c.in-Some.ensures.items

pub push_called-requires-clause-few : goal.push_called-requires-clause-few
push_called-requires-clause-few c = last_few _ _ _ _ c.pop.new.self.items c.in-Some.command c.loop-command.invariant.walk c.in-Some.ensures.items

pub loop-command-smaller : goal.loop-command-smaller
loop-command-smaller c = walk_smaller c.args.file.now (c.args.size.calls + c.args.size.weight) c.loop-command.commands.items c.loop-command.pending.items c.pop.new.self.items c.push_called.new.pending.items c.in-Some.command
    c.loop-command.invariant.walk c.in-Some.ensures.items c.in_ok-push_called.ensures.opened

pub loop-command-preserved : goal.loop-command-preserved
loop-command-preserved c = record {
  walk = walk_step c.args.file.now (c.args.size.calls + c.args.size.weight) c.loop-command.commands.items c.push.new.self.items c.loop-command.pending.items c.pop.new.self.items c.push_called.new.pending.items c.in-Some.command
      c.loop-command.invariant.walk c.in-Some.ensures.items c.in_ok-push.ensures.items c.in_ok-push_called.ensures.opened c.in_ok-push_called.ensures.shallow;
}

pub returns-clause-unrolled : goal.returns-clause-unrolled
returns-clause-unrolled c = walk_end _ _ c.loop-command.commands.items c.loop-command.pending.items (omega (arith, c.in_default.ensures.cases.0, c.loop-command.pending.ok.0)) c.loop-command.invariant.walk

pub returns-clause-near : goal.returns-clause-near
returns-clause-near c = c.loop-command.invariant.walk.placeable
