use Rattle.std.proofs.Common.{◌*◌, refl, subst, arith, length, ◌≡◌}
use Rattle.net_trace.specs.Wirings.{AreParts}
use Rattle.net_trace.proofs.Filling.{parts_none, filled_banded, filled_more}
use Rattle.net_trace.proofs.parts.parts.Goals as goal

pub loop-i-init : goal.loop-i-init
loop-i-init c = parts_none c.args.vertices.now c.args.label.now c.args.nets c.args.wires (c.args.nets * c.args.wires) c.in_ok-regions.regions.items refl c.in_ok-regions.ensures

pub loop-i-preserved : goal.loop-i-preserved
loop-i-preserved c = filled_more c.args.vertices.now c.args.label.now c.args.nets c.args.wires c.loop-i.i c.loop-i.regions.items _ _ c.index_mut.result.now c.requires.ordered c.loop-i-test.true c.requires.each c.requires.labels c.requires.of_wires c.loop-i.invariant
    c.index_mut.ensures.value c.push.new.self c.in_ok-push.ensures.pushed

pub push-requires : goal.push-requires
push-requires c = filled_banded c.args.vertices.now c.args.label.now c.args.nets c.args.wires c.loop-i.i c.loop-i.regions.items _ _ c.index_mut.result.now c.requires.ordered c.loop-i-test.true c.requires.each c.requires.labels c.requires.of_wires c.loop-i.invariant
    c.index_mut.ensures.value

pub returns : goal.returns
returns c = let whole : c.loop-i.i ≡ length c.args.vertices.now = omega (arith, c.loop-i-test.false, c.loop-i.auto.i-end) in subst (λ n. AreParts c.args.vertices.now c.args.label.now c.args.nets c.args.wires n c.loop-i.regions.items) whole c.loop-i.invariant
