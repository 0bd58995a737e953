use Rattle.std.proofs.Common.{◌≡◌, length, subst, arith}
use Rattle.net_trace.specs.Wirings.{AreCorners}
use Rattle.net_trace.proofs.ListReads.{corners_none, corners_more}
use Rattle.net_trace.proofs.tracing.corners.Goals as goal

pub loop-k-init : goal.loop-k-init
loop-k-init c = corners_none c.args.vertices.now c.args.indices.now c.new-nodes.result.items c.new-nodes.ensures.items

pub loop-k-preserved : goal.loop-k-preserved
loop-k-preserved c = corners_more c.args.vertices.now c.args.indices.now c.loop-k.k-index c.loop-k.nodes.items c.push.new.self.items c.corner.result _ _ c.loop-k-test.true c.corner.ensures c.in_ok-push.ensures.items c.loop-k.invariant

pub returns : goal.returns
returns c = let whole : c.loop-k.k-index ≡ length c.args.indices.now = omega (arith, c.loop-k-test.false, c.loop-k.auto.k-index-end) in subst (λ n. AreCorners c.args.vertices.now c.args.indices.now n c.loop-k.nodes.items) whole c.loop-k.invariant
