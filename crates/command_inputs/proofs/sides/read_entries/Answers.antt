use Rattle.std.proofs.lemmas.List.Elements.{All-push}
use Rattle.command_inputs.specs.Sides.{IsEntrySide}
use Rattle.command_inputs.proofs.SideLemmas.{read_more, not_read}
use Rattle.command_inputs.proofs.sides.read_entries.Goals as goal

pub returns-in_default-clause-none : goal.returns-in_default-clause-none
returns-in_default-clause-none c sides are each =
    not_read c.args.entries.now sides c.loop-entry.entry-index _ c.loop-entry-test.true c.in_default.ensures.none are each

pub loop-entry-preserved : goal.loop-entry-preserved
loop-entry-preserved c =
    rw c.in_ok-push.ensures.items (record {
      sides = All-push IsEntrySide c.loop-entry.sides.items c.in-Some.side c.loop-entry.invariant.sides c.in-Some.ensures.found.0;
      each = read_more c.args.entries.now c.loop-entry.entry-index _ c.loop-entry.sides.items c.in-Some.side c.loop-entry-test.true c.loop-entry.invariant.each c.in-Some.ensures.found.1;
    })
