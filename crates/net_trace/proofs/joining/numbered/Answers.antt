use Rattle.std.proofs.Common.{◌≡◌, length, subst, arith}
use Rattle.net_trace.specs.Wirings.{AreRenumbered}
use Rattle.net_trace.proofs.ListReads.{numbered_none, numbered_more}
use Rattle.net_trace.proofs.joining.numbered.Goals as goal

pub loop-k-init : goal.loop-k-init
loop-k-init c = numbered_none c.args.second.now c.args.label.now c.new-new.result.items c.new-new.ensures.items

pub loop-k-preserved : goal.loop-k-preserved
loop-k-preserved c = numbered_more c.args.second.now c.args.label.now c.loop-k.k-index c.loop-k.new.items c.push.new.self.items _ _ c.loop-k-test.true (c.requires c.loop-k.k-index _ c.loop-k-test.true) c.in_ok-push.ensures.items c.loop-k.invariant

pub returns : goal.returns
returns c = let whole : c.loop-k.k-index ≡ length c.args.label.now = omega (arith, c.loop-k-test.false, c.loop-k.auto.k-index-end) in subst (λ n. AreRenumbered c.args.second.now c.args.label.now n c.loop-k.new.items) whole c.loop-k.invariant
