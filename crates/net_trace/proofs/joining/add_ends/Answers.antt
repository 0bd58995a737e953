use Rattle.std.proofs.Common.{◌≡◌, length, subst, arith}
use Rattle.net_trace.specs.Wirings.{AreEndsOf}
use Rattle.net_trace.proofs.ListReads.{ends_none, ends_more}
use Rattle.net_trace.proofs.joining.add_ends.Goals as goal

pub loop-first-init : goal.loop-first-init
loop-first-init c = ends_none c.args.roots.now c.args.pairs.now c.args.joins.now.items

pub loop-first-preserved : goal.loop-first-preserved
loop-first-preserved c = let inside = c.requires c.loop-first.first-index (0, 0) c.loop-first-test.true in
    ends_more c.args.roots.now c.args.pairs.now c.loop-first.first-index c.args.joins.now.items c.loop-first.joins.items c.push.new.self.items (0, 0) _ _ c.loop-first-test.true inside.0 inside.1 c.in_ok-push.ensures.items c.loop-first.invariant

pub returns : goal.returns
returns c = let whole : c.loop-first.first-index ≡ length c.args.pairs.now = omega (arith, c.loop-first-test.false, c.loop-first.auto.first-index-end) in subst (λ n. AreEndsOf c.args.roots.now c.args.pairs.now n c.args.joins.now.items c.loop-first.joins.items) whole c.loop-first.invariant
