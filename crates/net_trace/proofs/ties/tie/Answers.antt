use Rattle.std.proofs.Common.{◌≤◌, length, ap, ◌∙◌, arith, subst, refl}
use Rattle.net_trace.proofs.VertexLists.{vertices_ordered}
use Rattle.net_trace.proofs.Tying.{untied, no_wire, IsTying, tying_more_at, tying_less_at, strip_step, common_of, tied_all}
use Rattle.net_trace.proofs.Wires.{wire_at}
use Rattle.net_trace.proofs.ties.tie.Goals.{in-Some-pair_at+in_ok-push, in_default-pair_at}
use Rattle.net_trace.proofs.ties.tie.Goals as goal

pub returns-in_default : goal.returns-in_default
returns-in_default c =
    let past : length c.args.wiring.now ≤ c.args.first = grind (arith, c.in_default.ensures.lookup.0, c.wires.ensures.same) in
    untied c.args.wiring.now c.args.cut.now c.args.first c.args.second c.args.pairs.now.items (λ x y i j at_i at_j. no_wire c.args.wiring.now c.args.first x y i past at_i)

pub returns-in_default-get : goal.returns-in_default-get
returns-in_default-get c =
    let past : length c.args.wiring.now ≤ c.args.second = grind (arith, c.in_default-get.ensures.lookup.0, c.wires-2.ensures.same) in
    untied c.args.wiring.now c.args.cut.now c.args.first c.args.second c.args.pairs.now.items (λ x y i j at_i at_j. no_wire c.args.wiring.now c.args.second x y j past at_j)

pub loop-strip-preserved : goal.loop-strip-preserved
loop-strip-preserved c =
    let lower = c.in-Some.ensures.lookup.3 in
    let upper = c.in-Some-get.ensures.lookup.3 in
    let common = common_of c.args.wiring.now c.args.cut.now c.args.first c.args.second c.in-Some.lower.now c.in-Some-get.upper.now c.in_ok-meet.field-0 c.in_ok-common.common
    (wire_at c.wires.result.now c.args.wiring.now c.args.first c.in-Some.lower.now c.wires.ensures.same lower.0 (lower.1 _))
    (wire_at c.wires-2.result.now c.args.wiring.now c.args.second c.in-Some-get.upper.now c.wires-2.ensures.same upper.0 (upper.1 _)) c.in_ok-meet.ensures c.in_ok-common.ensures in
    let ordered = vertices_ordered c.args.wiring.now c.wires.ensures.banded in
    let step = strip_step c.args.wiring.now c.args.cut.now c.args.first c.args.second c.in_ok-common.common c.strips-strip-items.result.now c.loop-strip.strip-index _ ordered c.strips-strip-items.ensures.same common c.strips-strip-items.ensures.banded c.loop-strip-test.true in
    elim c.match-pair_at.branch [
      | in-Some-pair_at+in_ok-push w ↦ tying_more_at c.args.wiring.now c.args.cut.now c.args.first c.args.second c.strips-strip-items.result.now c.loop-strip.strip-index _ c.corner_of.result.x c.corner_of.result.y w.in-Some-pair_at.pair
          c.args.pairs.now.items c.loop-strip.pairs.items c.match-pair_at.pairs.items ordered c.corner_of.ensures.x c.corner_of.ensures.y c.loop-strip.invariant step.0 step.1
          w.in-Some-pair_at.ensures.first w.in-Some-pair_at.ensures.second (ap (λ v. v.items) w.pairs-is ∙ w.in_ok-push.ensures.items)
      | in_default-pair_at w ↦ tying_less_at c.args.wiring.now c.args.cut.now c.args.first c.args.second c.strips-strip-items.result.now c.loop-strip.strip-index _ c.corner_of.result.x c.corner_of.result.y
          c.args.pairs.now.items c.loop-strip.pairs.items c.match-pair_at.pairs.items c.corner_of.ensures.x c.corner_of.ensures.y c.loop-strip.invariant step.0
          (w.in_default-pair_at.ensures.none refl) (ap (λ v. v.items) w.pairs-is)
    ]

pub returns : goal.returns
returns c =
    let lower = c.in-Some.ensures.lookup.3 in
    let upper = c.in-Some-get.ensures.lookup.3 in
    let common = common_of c.args.wiring.now c.args.cut.now c.args.first c.args.second c.in-Some.lower.now c.in-Some-get.upper.now c.in_ok-meet.field-0 c.in_ok-common.common
    (wire_at c.wires.result.now c.args.wiring.now c.args.first c.in-Some.lower.now c.wires.ensures.same lower.0 (lower.1 _))
    (wire_at c.wires-2.result.now c.args.wiring.now c.args.second c.in-Some-get.upper.now c.wires-2.ensures.same upper.0 (upper.1 _)) c.in_ok-meet.ensures c.in_ok-common.ensures in
    tied_all c.args.wiring.now (vertices_ordered c.args.wiring.now c.wires.ensures.banded) c.args.cut.now c.args.first c.args.second c.in_ok-common.common common c.loop-strip.strip-index c.args.pairs.now.items c.loop-strip.pairs.items
    (omega (arith, c.loop-strip-test.false, ap (λ l. length l) c.strips-strip-items.ensures.same)) (subst (λ l. IsTying c.args.wiring.now c.args.cut.now c.args.first c.args.second l c.loop-strip.strip-index c.args.pairs.now.items c.loop-strip.pairs.items) c.strips-strip-items.ensures.same c.loop-strip.invariant)
