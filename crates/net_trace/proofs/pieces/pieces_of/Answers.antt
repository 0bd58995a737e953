use Rattle.std.proofs.Common.{[], ◌∙◌}
use Rattle.net_trace.proofs.pieces.pieces_of.Goals as goal

pub returns : goal.returns
returns c = λ i. record { wires = (c.in_ok-wiring.ensures ∙ c.in_ok-copies.ensures) i; cuts = []; joins = [] }

pub invariant_of-result : goal.invariant_of-result
invariant_of-result c = (c.in_ok-label.ensures.banded, c.in_ok-label.ensures.traced)
