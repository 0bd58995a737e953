use Rattle.cif_flatten.proofs.Sizing.{nothing}
use Rattle.cif_flatten.proofs.Exploring.{start_frame}
use Rattle.cif_flatten.proofs.sizes.Frame.start.Goals as goal

pub returns-clause-frame : goal.returns-clause-frame
unfolding nothing
returns-clause-frame c = λ symbols. start_frame symbols c.args.number
