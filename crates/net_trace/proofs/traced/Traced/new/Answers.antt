use Rattle.std.proofs.Common.{◌<◌, ◌^◌, length, ap, sym, ◌∙◌, subst}
use Rattle.std.specs.List.{All}
use Rattle.net_trace.specs.Touching.{Nets}
use Rattle.net_trace.specs.Wirings.{AreOrdered, vertices_of, AreParts}
use Rattle.net_trace.proofs.VertexLists.{vertices_ordered}
use Rattle.net_trace.proofs.TracedNets.{labels_below, wires_below, parts_moved}
use Rattle.net_trace.proofs.Filling.{parts_within}
use Rattle.net_trace.proofs.traced.Traced.new.Goals as goal

pub invariant_of-result : goal.invariant_of-result
invariant_of-result c =
    let count = c.len-nets.ensures ∙ c.args.roots.ok.0 in
    let wires = ap (λ l. length l) c.wires-wires.ensures.same in
    let parts : AreParts (vertices_of 0 c.args.wiring) c.args.label.items (length c.args.roots.items) (length c.args.wiring) (length (vertices_of 0 c.args.wiring)) c.in_ok-regions.regions.items =
    subst (λ l. AreParts (vertices_of 0 c.args.wiring) l (length c.args.roots.items) (length c.args.wiring) (length (vertices_of 0 c.args.wiring)) c.in_ok-regions.regions.items) c.as_slice.ensures.value
    (parts_moved c.vertices.result.now (vertices_of 0 c.args.wiring) c.as_slice.result.now c.len-nets.result (length c.wires-wires.result.now) (length c.args.roots.items) (length c.args.wiring) c.in_ok-regions.regions.items c.vertices.ensures.same count wires c.in_ok-regions.ensures) in (
      c.vertices.ensures.banded,
      c.wires-wires.ensures.few,
      c.requires.few,
      c.requires.traced,
      parts,
      parts_within (2 ^ 24) c.args.wiring c.args.label.items (length c.args.roots.items) (length c.args.wiring) (length (vertices_of 0 c.args.wiring)) c.in_ok-regions.regions.items parts c.wires-wires.ensures.within,
    )

pub parts-requires-clause-ordered : goal.parts-requires-clause-ordered
parts-requires-clause-ordered c = subst AreOrdered (sym c.vertices.ensures.same) (vertices_ordered c.args.wiring c.vertices.ensures.banded)

pub parts-requires-clause-labels : goal.parts-requires-clause-labels
parts-requires-clause-labels c =
    let nets : Nets = record { wires = c.args.wiring; cuts = c.args.cuts.items; joins = c.args.joins.items } in
    subst (λ m. All (λ n. n < m) c.as_slice.result.now) (sym (c.len-nets.ensures ∙ c.args.roots.ok.0))
    (subst (λ l. All (λ n. n < length c.args.roots.items) l) (sym c.as_slice.ensures.value) (labels_below nets c.args.label.items c.args.roots.items c.requires.traced))

pub parts-requires-clause-of_wires : goal.parts-requires-clause-of_wires
parts-requires-clause-of_wires c =
    subst (λ m. All (λ v. v.wire < m) c.vertices.result.now) (sym (ap (λ l. length l) c.wires-wires.ensures.same))
    (subst (λ l. All (λ v. v.wire < length c.args.wiring) l) (sym c.vertices.ensures.same) (wires_below c.args.wiring))
