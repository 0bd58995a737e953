use Rattle.cif_flatten.specs.declared.unfolding.Command.{Command}
use Rattle.cif_flatten.specs.Unrolling.{placed_of, IsIn}
use Rattle.cif_flatten.proofs.Ranges.{at_item}
use Rattle.cif_flatten.proofs.placing.placed_draws.Goals as goal

pub add_draw-requires-clause-inside : goal.add_draw-requires-clause-inside
add_draw-requires-clause-inside c = at_item (λ (x : Command). IsIn (placed_of x)) c.args.commands.now c.loop-command.command-index c.command-item.result c.loop-command-test.true c.command-item.is c.requires.inside
