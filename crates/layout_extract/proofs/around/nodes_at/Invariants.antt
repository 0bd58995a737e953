use Rattle.layout_extract.specs.Binding.{IsAround}
use Rattle.layout_extract.proofs.around.nodes_at.Given as goal

abbrev pub invariant-loop-cell : goal.invariant-loop-cell
invariant-loop-cell l = IsAround l.traced l.wire.0 l.cells l.cell-index l.near
