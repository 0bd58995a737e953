use Rattle.std.proofs.Common.{length, sym, subst, refl}
use Rattle.std.proofs.lemmas.Option.{slice_get_read}
use Rattle.net_trace.specs.Wirings.{AreOrdered, AreBands}
use Rattle.net_trace.proofs.VertexLists.{vertices_ordered}
use Rattle.net_trace.proofs.Edging.{edges_start, edges_more, edges_done}
use Rattle.net_trace.proofs.ties.edges.Goals as goal

pub bands-requires : goal.bands-requires
bands-requires c = subst AreOrdered (sym c.vertices.ensures.same) (vertices_ordered c.args.wiring.now c.vertices.ensures.banded)

pub loop-cut-init : goal.loop-cut-init
loop-cut-init c = edges_start c.args.wiring.now c.args.cuts.now (vertices_ordered c.args.wiring.now c.vertices.ensures.banded) c.in_ok-pairs.pairs.items (subst (λ l. AreBands l c.in_ok-pairs.pairs.items) c.vertices.ensures.same c.in_ok-pairs.ensures)

pub loop-cut-preserved : goal.loop-cut-preserved
loop-cut-preserved c = edges_more c.args.wiring.now c.args.cuts.now (vertices_ordered c.args.wiring.now c.vertices.ensures.banded) c.loop-cut.cut-index c.cut-item.result c.loop-cut.pairs.items c.tie_all.new.pairs.items
    (slice_get_read c.args.cuts.now (length c.args.cuts.now) c.loop-cut.cut-index c.cut-item.result refl c.loop-cut-test.true c.cut-item.is) c.loop-cut.invariant c.in_ok-tie_all.ensures

pub returns : goal.returns
returns c = edges_done c.args.wiring.now c.args.cuts.now (vertices_ordered c.args.wiring.now c.vertices.ensures.banded) c.loop-cut.cut-index c.loop-cut.pairs.items c.loop-cut-test.false c.loop-cut.invariant
