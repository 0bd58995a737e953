use Rattle.std.proofs.Common.{◌≡◌, ◌<◌, ◌≤◌, length, map, ap, sym, ◌∙◌, arith, subst}
use Rattle.std.specs.List.{All}
use Rattle.net_trace.specs.Touching.{Nets}
use Rattle.net_trace.specs.Nets.{IsNetCount, IsJoinedBy}
use Rattle.net_trace.proofs.TracedNets.{count_of, labels_below}
use Rattle.net_trace.proofs.Making.{least_below, least_few, numbers_below, joined_made, joined_by, if_ok_as, ends_moved, classes_moved, numbered_moved, picked_moved}
use Rattle.net_trace.proofs.traced.Traced.joined.Goals as goal

pub returns : goal.returns
returns c =
    let nets : Nets = record { wires = c.self.inside.wiring; cuts = c.self.inside.cuts.items; joins = c.self.inside.joins.items } in
    let ends = ends_moved c.as_slice-2.result.now c.self.inside.roots.items c.as_slice-3.result.now (map (λ p. (p.0.0, p.1.0)) c.args.pairs.now) c.self.inside.joins.items c.add_ends.new.joins.items c.as_slice-2.ensures.value (c.as_slice-3.ensures.value ∙ c.in_ok-pairs.ensures) c.in_ok-add_ends.ensures in
    if_ok_as c.new.result _ _ (λ t is. subst (λ (n : Nets). IsJoinedBy n (map (λ p. (p.0.0, p.1.0)) c.args.pairs.now) t) c.self.view_is
    (joined_by nets t c.self.inside.label.items c.self.inside.roots.items (map (λ p. (p.0.0, p.1.0)) c.args.pairs.now) c.add_ends.new.joins.items c.self.invariant.0 c.self.invariant.3 ends is)) c.new.ensures

pub classes_of-requires : goal.classes_of-requires
classes_of-requires c =
    let nets : Nets = record { wires = c.self.inside.wiring; cuts = c.self.inside.cuts.items; joins = c.self.inside.joins.items } in
    let count = count_of nets c.self.inside.label.items c.self.inside.roots.items c.self.invariant.0 c.self.invariant.3 in
    let below = numbers_below (length c.self.inside.roots.items) c.args.pairs.now (c.requires (length c.self.inside.roots.items) (subst (λ (n : Nets). IsNetCount n (length c.self.inside.roots.items)) c.self.view_is count)) in
    subst (λ n. All (λ p. (p.0 < n) × (p.1 < n)) c.as_slice.result.now) (sym (c.len.ensures ∙ c.self.inside.roots.ok.0))
    (subst (λ l. All (λ p. (p.0 < length c.self.inside.roots.items) × (p.1 < length c.self.inside.roots.items)) l) (sym (c.as_slice.ensures.value ∙ c.in_ok-pairs.ensures)) below)

pub add_ends-requires : goal.add_ends-requires
add_ends-requires c =
    let nets : Nets = record { wires = c.self.inside.wiring; cuts = c.self.inside.cuts.items; joins = c.self.inside.joins.items } in
    let count = count_of nets c.self.inside.label.items c.self.inside.roots.items c.self.invariant.0 c.self.invariant.3 in
    let below = numbers_below (length c.self.inside.roots.items) c.args.pairs.now (c.requires (length c.self.inside.roots.items) (subst (λ (n : Nets). IsNetCount n (length c.self.inside.roots.items)) c.self.view_is count)) in
    subst (λ n. All (λ p. (p.0 < n) × (p.1 < n)) c.as_slice-3.result.now) (sym (ap (λ l. length l) c.as_slice-2.ensures.value))
    (subst (λ l. All (λ p. (p.0 < length c.self.inside.roots.items) × (p.1 < length c.self.inside.roots.items)) l) (sym (c.as_slice-3.ensures.value ∙ c.in_ok-pairs.ensures)) below)

pub numbered-requires : goal.numbered-requires
numbered-requires c =
    let nets : Nets = record { wires = c.self.inside.wiring; cuts = c.self.inside.cuts.items; joins = c.self.inside.joins.items } in
    let classes = classes_moved c.len.result (length c.self.inside.roots.items) c.as_slice.result.now (map (λ p. (p.0.0, p.1.0)) c.args.pairs.now) c.in_ok-found.found.label.items c.in_ok-found.found.least.items (c.len.ensures ∙ c.self.inside.roots.ok.0) (c.as_slice.ensures.value ∙ c.in_ok-pairs.ensures) c.in_ok-found.ensures in
    subst (λ n. All (λ k. k < n) c.as_slice-4.result.now) (sym (ap (λ l. length l) c.as_slice-5.ensures.value ∙ classes.each))
    (subst (λ l. All (λ k. k < length c.self.inside.roots.items) l) (sym c.as_slice-4.ensures.value) (labels_below nets c.self.inside.label.items c.self.inside.roots.items c.self.invariant.3))

pub picked-requires : goal.picked-requires
picked-requires c =
    let classes = classes_moved c.len.result (length c.self.inside.roots.items) c.as_slice.result.now (map (λ p. (p.0.0, p.1.0)) c.args.pairs.now) c.in_ok-found.found.label.items c.in_ok-found.found.least.items (c.len.ensures ∙ c.self.inside.roots.ok.0) (c.as_slice.ensures.value ∙ c.in_ok-pairs.ensures) c.in_ok-found.ensures in
    subst (λ n. All (λ k. k < n) c.as_slice-7.result.now) (sym (ap (λ l. length l) c.as_slice-6.ensures.value))
    (subst (λ l. All (λ k. k < length c.self.inside.roots.items) l) (sym c.as_slice-7.ensures.value) (least_below (length c.self.inside.roots.items) (map (λ p. (p.0.0, p.1.0)) c.args.pairs.now) c.in_ok-found.found.label.items c.in_ok-found.found.least.items classes))

pub new-requires-clause-few : goal.new-requires-clause-few
new-requires-clause-few c =
    let classes = classes_moved c.len.result (length c.self.inside.roots.items) c.as_slice.result.now (map (λ p. (p.0.0, p.1.0)) c.args.pairs.now) c.in_ok-found.found.label.items c.in_ok-found.found.least.items (c.len.ensures ∙ c.self.inside.roots.ok.0) (c.as_slice.ensures.value ∙ c.in_ok-pairs.ensures) c.in_ok-found.ensures in
    let few = least_few (length c.self.inside.roots.items) (map (λ p. (p.0.0, p.1.0)) c.args.pairs.now) c.in_ok-found.found.label.items c.in_ok-found.found.least.items classes in
    let most : length c.self.inside.roots.items ≤ 8192 = c.self.invariant.2 in
    let each : length c.in_ok-roots.roots.items ≡ length c.in_ok-found.found.least.items = c.in_ok-roots.ensures.each ∙ ap (λ l. length l) c.as_slice-7.ensures.value in
    omega (arith, few, most, each)

pub new-requires-clause-traced : goal.new-requires-clause-traced
new-requires-clause-traced c =
    let nets : Nets = record { wires = c.self.inside.wiring; cuts = c.self.inside.cuts.items; joins = c.self.inside.joins.items } in
    let classes = classes_moved c.len.result (length c.self.inside.roots.items) c.as_slice.result.now (map (λ p. (p.0.0, p.1.0)) c.args.pairs.now) c.in_ok-found.found.label.items c.in_ok-found.found.least.items (c.len.ensures ∙ c.self.inside.roots.ok.0) (c.as_slice.ensures.value ∙ c.in_ok-pairs.ensures) c.in_ok-found.ensures in
    let ends = ends_moved c.as_slice-2.result.now c.self.inside.roots.items c.as_slice-3.result.now (map (λ p. (p.0.0, p.1.0)) c.args.pairs.now) c.self.inside.joins.items c.add_ends.new.joins.items c.as_slice-2.ensures.value (c.as_slice-3.ensures.value ∙ c.in_ok-pairs.ensures) c.in_ok-add_ends.ensures in
    joined_made nets c.self.inside.label.items c.self.inside.roots.items (map (λ p. (p.0.0, p.1.0)) c.args.pairs.now) c.add_ends.new.joins.items c.in_ok-found.found.label.items c.in_ok-found.found.least.items c.in_ok-label.label.items c.in_ok-roots.roots.items c.self.invariant.0 c.self.invariant.3 ends classes
    (numbered_moved c.as_slice-5.result.now c.in_ok-found.found.label.items c.as_slice-4.result.now c.self.inside.label.items c.in_ok-label.label.items c.as_slice-5.ensures.value c.as_slice-4.ensures.value c.in_ok-label.ensures)
    (picked_moved c.as_slice-6.result.now c.self.inside.roots.items c.as_slice-7.result.now c.in_ok-found.found.least.items c.in_ok-roots.roots.items c.as_slice-6.ensures.value c.as_slice-7.ensures.value c.in_ok-roots.ensures)
