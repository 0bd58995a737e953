use Rattle.std.proofs.Common.{◌<◌, [], length, ap, sym, ◌∙◌, subst, refl}
use Rattle.std.specs.List.{All}
use Rattle.net_trace.proofs.Making.{least_below, trace_made, edges_inside}
use Rattle.net_trace.proofs.tracing.labels_of.Goals as goal

pub returns-clause-traced : goal.returns-clause-traced
returns-clause-traced c =
    trace_made c.args.wiring.now c.args.cuts.now c.args.cuts.now [] c.vertices.result.now c.vertices-2.result.now c.in_ok-pairs.pairs.items c.as_slice.result.now
    c.in_ok-label.field-0.label.items c.in_ok-label.field-0.least.items c.as_slice-2.result.now c.in_ok-roots.roots.items c.vertices.ensures.banded c.vertices.ensures.same c.vertices-2.ensures.same refl c.as_slice.ensures.value c.as_slice-2.ensures.value refl
    c.in_ok-pairs.ensures c.in_ok-label.ensures c.in_ok-roots.ensures

pub corners-requires : goal.corners-requires
corners-requires c =
    subst (λ n. All (λ k. k < n) c.as_slice-2.result.now) (ap (λ l. length l) (c.vertices.ensures.same ∙ sym c.vertices-2.ensures.same))
    (subst (λ l. All (λ k. k < length c.vertices.result.now) l) (sym c.as_slice-2.ensures.value) (least_below (length c.vertices.result.now) c.as_slice.result.now c.in_ok-label.field-0.label.items c.in_ok-label.field-0.least.items c.in_ok-label.ensures))

pub classes_of-requires : goal.classes_of-requires
classes_of-requires c = edges_inside _ _ c.vertices.result.now c.in_ok-pairs.pairs.items c.as_slice.result.now c.vertices.ensures.same c.as_slice.ensures.value c.in_ok-pairs.ensures
