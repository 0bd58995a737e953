use Rattle.std.proofs.Common.{[], subst}
use Rattle.net_trace.specs.Touching.{Nets}
use Rattle.net_trace.specs.Nets.{IsNetNumber, node_at}
use Rattle.net_trace.proofs.TracedNets.{number_read}
use Rattle.net_trace.proofs.pieces.Pieces.piece_at.Goals as goal

pub returns : goal.returns
returns c =
    let nets : Nets = record { wires = c.self.inside.wiring; cuts = []; joins = [] } in
    subst (λ (n : Nets). IsNetNumber n (node_at c.args.region c.args.cell.x c.args.cell.y) c.index.result.now) c.self.view_is
    (number_read nets c.self.inside.label.items c.self.inside.roots.items c.self.invariant.0 c.self.invariant.1 (node_at c.args.region c.args.cell.x c.args.cell.y) c.in_ok-index.index c.index.result.now _ c.in_ok-index.ensures c.index.ensures)
