use Rattle.std.proofs.Common.{◌^◌, length, get_or, arith, refl, sym, ap, ◌∙◌, subst}
use Rattle.std.specs.List.{AllZip}
use Rattle.std.proofs.lemmas.Slice.Zip.{AllZip-long}
use Rattle.layout_extract.specs.Binding.{IsBinding}
use Rattle.layout_extract.specs.Tags.{is_bound, is_unbound, is_deep, AreSpotsOf}
use Rattle.layout_extract.specs.Layouts.{IsNamed}
use Rattle.layout_extract.proofs.NetBridge.{same_nodes}
use Rattle.layout_extract.proofs.Bridge.{have_nodes, spot_node}
use Rattle.layout_extract.proofs.LayoutFacts.{masks_size, cast_fits, refuses_ambiguous, is_named}
use Rattle.layout_extract.proofs.naming.name_layout.Goals as goal

pub trace-requires-clause-wires : goal.trace-requires-clause-wires
trace-requires-clause-wires c = masks_size c.args.flat.now.draws (λ w. w.formula) c.args.map.now.wires c.in_ok-masks.masks.wires c.in_ok-masks.ensures.wires

pub trace-requires-clause-cuts : goal.trace-requires-clause-cuts
trace-requires-clause-cuts c = masks_size c.args.flat.now.draws (λ w. w.formula) c.args.map.now.cuts c.in_ok-masks.masks.cuts c.in_ok-masks.ensures.cuts

pub trace-requires-clause-channels : goal.trace-requires-clause-channels
trace-requires-clause-channels c = masks_size c.args.flat.now.draws (λ f. f.channel) c.args.map.now.fets c.in_ok-masks.masks.channels c.in_ok-masks.ensures.channels

pub first_ambiguous-requires : goal.first_ambiguous-requires
first_ambiguous-requires c = (sym (AllZip-long (IsBinding c.in_ok-traced.traced c.args.map.now) c.marks-marks.result.now c.as_slice-bindings.result.now (subst (λ bs. AllZip (IsBinding c.in_ok-traced.traced c.args.map.now) c.marks-marks.result.now bs) (sym c.as_slice-bindings.ensures.value) c.in_ok-bindings.ensures)))

pub returns-in-Some-clause-refused : goal.returns-in-Some-clause-refused
returns-in-Some-clause-refused c =
    refuses_ambiguous c.args.map.now c.args.flat.now c.in_ok-masks.masks (record { wires = c.in_ok-masks.ensures.wires; cuts = c.in_ok-masks.ensures.cuts; channels = c.in_ok-masks.ensures.channels })
    c.in_ok-traced.traced c.marks-marks.result.now c.as_slice-bindings.result.now c.in-Some.pos c.in_ok-traced.ensures.traced c.marks-marks.ensures.same
    (record { few = c.in_ok-traced.ensures.few; zip = (subst (λ bs. AllZip (IsBinding c.in_ok-traced.traced c.args.map.now) c.marks-marks.result.now bs) (sym c.as_slice-bindings.ensures.value) c.in_ok-bindings.ensures) }) c.in-Some.ensures

pub spots-requires : goal.spots-requires
spots-requires c = (sym (AllZip-long (IsBinding c.in_ok-traced.traced c.args.map.now) c.marks-marks.result.now c.as_slice-bindings.result.now (subst (λ bs. AllZip (IsBinding c.in_ok-traced.traced c.args.map.now) c.marks-marks.result.now bs) (sym c.as_slice-bindings.ensures.value) c.in_ok-bindings.ensures)))

pub join-requires : goal.join-requires
join-requires c = (have_nodes c.in_ok-traced.traced c.args.map.now c.marks-marks.result.now c.as_slice-bindings.result.now (subst (λ bs. AllZip (IsBinding c.in_ok-traced.traced c.args.map.now) c.marks-marks.result.now bs) (sym c.as_slice-bindings.ensures.value) c.in_ok-bindings.ensures) c.as_slice-spots.result.now (subst (λ ss. AreSpotsOf c.marks-marks.result.now c.as_slice-bindings.result.now (length c.marks-marks.result.now) ss) (sym c.as_slice-spots.ensures.value) c.in_ok-spots.ensures))

pub net_names-requires : goal.net_names-requires
net_names-requires c = λ k d lt. same_nodes c.in_ok-traced.traced c.in_ok-joined.joined c.in_ok-joined.ensures.by.wires (spot_node (get_or c.as_slice-spots.result.now k d)) ∙ (have_nodes c.in_ok-traced.traced c.args.map.now c.marks-marks.result.now c.as_slice-bindings.result.now (subst (λ bs. AllZip (IsBinding c.in_ok-traced.traced c.args.map.now) c.marks-marks.result.now bs) (sym c.as_slice-bindings.ensures.value) c.in_ok-bindings.ensures) c.as_slice-spots.result.now (subst (λ ss. AreSpotsOf c.marks-marks.result.now c.as_slice-bindings.result.now (length c.marks-marks.result.now) ss) (sym c.as_slice-spots.ensures.value) c.in_ok-spots.ensures)) k d lt

pub overflow_cast-tallies : goal.overflow_cast-tallies
overflow_cast-tallies c = let lt = cast_fits is_bound c.as_slice-bindings.result.now c.args.flat.now.marks (2 ^ 32) c.count_bound.result c.count_bound.ensures (sym (sym (AllZip-long (IsBinding c.in_ok-traced.traced c.args.map.now) c.marks-marks.result.now c.as_slice-bindings.result.now (subst (λ bs. AllZip (IsBinding c.in_ok-traced.traced c.args.map.now) c.marks-marks.result.now bs) (sym c.as_slice-bindings.ensures.value) c.in_ok-bindings.ensures))) ∙ (ap (λ ms. length ms) c.marks-marks.ensures.same)) c.requires in omega (arith, lt)

pub overflow_cast-tallies-2 : goal.overflow_cast-tallies-2
overflow_cast-tallies-2 c = let lt = cast_fits is_unbound c.as_slice-bindings.result.now c.args.flat.now.marks (2 ^ 32) c.count_unbound.result c.count_unbound.ensures (sym (sym (AllZip-long (IsBinding c.in_ok-traced.traced c.args.map.now) c.marks-marks.result.now c.as_slice-bindings.result.now (subst (λ bs. AllZip (IsBinding c.in_ok-traced.traced c.args.map.now) c.marks-marks.result.now bs) (sym c.as_slice-bindings.ensures.value) c.in_ok-bindings.ensures))) ∙ (ap (λ ms. length ms) c.marks-marks.ensures.same)) c.requires in omega (arith, lt)

pub overflow_cast-tallies-3 : goal.overflow_cast-tallies-3
overflow_cast-tallies-3 c = let lt = cast_fits is_deep c.as_slice-bindings.result.now c.args.flat.now.marks (2 ^ 32) c.count_deep.result c.count_deep.ensures (sym (sym (AllZip-long (IsBinding c.in_ok-traced.traced c.args.map.now) c.marks-marks.result.now c.as_slice-bindings.result.now (subst (λ bs. AllZip (IsBinding c.in_ok-traced.traced c.args.map.now) c.marks-marks.result.now bs) (sym c.as_slice-bindings.ensures.value) c.in_ok-bindings.ensures))) ∙ (ap (λ ms. length ms) c.marks-marks.ensures.same)) c.requires in omega (arith, lt)

pub returns-clause-named : goal.returns-clause-named
returns-clause-named c =
    subst (λ n. IsNamed c.args.map.now c.args.flat.now n) (sym c.new.ensures)
    (is_named c.args.map.now c.args.flat.now c.in_ok-masks.masks (record { wires = c.in_ok-masks.ensures.wires; cuts = c.in_ok-masks.ensures.cuts; channels = c.in_ok-masks.ensures.channels })
    c.in_ok-traced.traced c.marks-marks.result.now c.as_slice-bindings.result.now c.as_slice-spots.result.now
    (record { nets = c.in_ok-joined.joined; masks = c.in_ok-masks.masks; names = c.in_ok-names.names.names.items; bound_names = c.in_ok-names.names.bound.items; bound = c.count_bound.result; unbound = c.count_unbound.result; deep = c.count_deep.result })
    c.in_ok-traced.ensures.traced c.marks-marks.ensures.same
    (record {
      steps = (record { few = c.in_ok-traced.ensures.few; zip = (subst (λ bs. AllZip (IsBinding c.in_ok-traced.traced c.args.map.now) c.marks-marks.result.now bs) (sym c.as_slice-bindings.ensures.value) c.in_ok-bindings.ensures) });
      clear = c.in_default.ensures;
      spotted = (subst (λ ss. AreSpotsOf c.marks-marks.result.now c.as_slice-bindings.result.now (length c.marks-marks.result.now) ss) (sym c.as_slice-spots.ensures.value) c.in_ok-spots.ensures);
      joined = c.in_ok-joined.ensures;
      names = c.in_ok-names.ensures;
      masks_is = refl;
      bound = c.count_bound.ensures;
      unbound = c.count_unbound.ensures;
      deep = c.count_deep.ensures;
    }))
