use Rattle.std.proofs.Common.{◌≡◌, sym, subst, arith}
use Rattle.net_trace.specs.Wirings.{AreEmpty}
use Rattle.net_trace.proofs.Filling.{empty_none, empty_more}
use Rattle.net_trace.proofs.parts.empty_regions.Goals as goal

pub loop-init : goal.loop-init
loop-init c = subst (λ l. AreEmpty 0 l) (sym c.new-regions.ensures.items) empty_none

pub loop-preserved : goal.loop-preserved
loop-preserved c = empty_more c.loop.counter c.loop.regions.items c.push.new.self.items c.empty.result c.empty.ensures c.in_ok-push.ensures.items c.loop.invariant

pub returns : goal.returns
returns c = let whole : c.loop.counter ≡ c.args.count = omega (arith, c.loop-test.false, c.loop.auto.counter-end) in subst (λ n. AreEmpty n c.loop.regions.items) whole c.loop.invariant
