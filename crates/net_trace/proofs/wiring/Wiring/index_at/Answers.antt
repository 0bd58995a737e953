use Rattle.std.proofs.Common.{◌≡◌, ◌<◌, ◌+◌, length, ap, arith, subst}
use Rattle.std.proofs.lemmas.Option.{slice_get_within}
use Rattle.net_trace.specs.Wirings.{vertices_of, IsVertexAt}
use Rattle.net_trace.specs.Nets.{node_at}
use Rattle.net_trace.proofs.Wires.{found_index, moved_list}
use Rattle.net_trace.proofs.wiring.Wiring.index_at.Goals as goal

pub overflow_add-result : goal.overflow_add-result
overflow_add-result c =
    let here = c.in_ok-region.ensures.lookup.3 in
    let at_same = moved_list c.deref.result.now c.self.inside.wires.items c.args.wire c.in_ok-region.region.now c.deref.ensures.value here.0 (here.1 _) in
    let at = found_index c.self.inside.wires.items c.self.inside.starts.items c.args.wire c.in_ok-k.k c.index.result.now c.in_ok-region.region.now c.args.cell.x c.args.cell.y c.self.invariant.2 (at_same.0) (at_same.1) c.in_ok-k.ensures c.index.ensures in
    let lt : c.index.result.now + c.in_ok-k.k < length (vertices_of 0 c.self.inside.wires.items) = slice_get_within _ _ _ at.at in
    let all : length c.self.inside.vertices.items ≡ length (vertices_of 0 c.self.inside.wires.items) = ap (λ l. length l) c.self.invariant.1 in
    omega (arith, lt, all, c.self.inside.vertices.ok.0, c.self.inside.vertices.small)

pub returns : goal.returns
returns c =
    let here = c.in_ok-region.ensures.lookup.3 in
    let at_same = moved_list c.deref.result.now c.self.inside.wires.items c.args.wire c.in_ok-region.region.now c.deref.ensures.value here.0 (here.1 _) in
    let wires = c.self.inside.wires.items in
    subst (λ l. IsVertexAt (vertices_of 0 l) (node_at c.args.wire c.args.cell.x c.args.cell.y) (c.index.result.now + c.in_ok-k.k)) c.self.view_is
    (found_index wires c.self.inside.starts.items c.args.wire c.in_ok-k.k c.index.result.now c.in_ok-region.region.now c.args.cell.x c.args.cell.y c.self.invariant.2 (at_same.0) (at_same.1) c.in_ok-k.ensures c.index.ensures)
