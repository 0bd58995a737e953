use Rattle.std.proofs.Common.{◌≡◌, length, subst, arith}
use Rattle.net_trace.specs.Wirings.{ArePicked}
use Rattle.net_trace.proofs.ListReads.{picked_none, picked_more}
use Rattle.net_trace.proofs.joining.picked.Goals as goal

pub loop-k-init : goal.loop-k-init
loop-k-init c = picked_none c.args.nodes.now c.args.indices.now c.new-new.result.items c.new-new.ensures.items

pub loop-k-preserved : goal.loop-k-preserved
loop-k-preserved c = picked_more c.args.nodes.now c.args.indices.now c.loop-k.k-index c.loop-k.new.items c.push.new.self.items _ _ c.loop-k-test.true (c.requires c.loop-k.k-index _ c.loop-k-test.true) c.in_ok-push.ensures.items c.loop-k.invariant

pub returns : goal.returns
returns c = let whole : c.loop-k.k-index ≡ length c.args.indices.now = omega (arith, c.loop-k-test.false, c.loop-k.auto.k-index-end) in subst (λ n. ArePicked c.args.nodes.now c.args.indices.now n c.loop-k.new.items) whole c.loop-k.invariant
