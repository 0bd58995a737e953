use Rattle.std.proofs.Common.{arith, ap, length, ◌∙◌, ◌++◌, ◌∷◌, []}
use Rattle.net_trace.proofs.Wires.{laid_all, laid_more, moved_list}
use Rattle.net_trace.proofs.wiring.Wiring.new.Goals as goal

pub invariant_of-result : goal.invariant_of-result
invariant_of-result c =
    let all = laid_all c.args.wires.items c.loop-wire.vertices.items c.loop-wire.starts.items c.loop-wire.wire c.loop-wire.invariant (omega (arith, c.loop-wire-test.false, ap (λ l. length l) c.deref-region-items.ensures.value)) in
    (c.requires.few, all.0, all.1, all.2, c.requires.within)

pub loop-wire-preserved : goal.loop-wire-preserved
loop-wire-preserved c =
    let at = moved_list c.deref-region-items.result.now c.args.wires.items c.loop-wire.wire c.region-item.result c.deref-region-items.ensures.value c.loop-wire-test.true c.region-item.is in
    laid_more c.args.wires.items c.loop-wire.vertices.items c.add_strips.new.vertices.items c.loop-wire.starts.items c.push.new.self.items c.loop-wire.wire c.region-item.result c.loop-wire.invariant at.0 at.1
    c.in_ok-add_strips.ensures.banded (c.in_ok-push.ensures.items ∙ ap (λ n. c.loop-wire.starts.items ++ n ∷ []) (c.len.ensures ∙ c.loop-wire.vertices.ok.0)) c.in_ok-add_strips.ensures.added
