use Rattle.std.proofs.Common.{sym, subst, arith, length, get_or}
use Rattle.std.proofs.lemmas.Option.{slice_get-get_or}
use Rattle.net_trace.specs.Touching.{Nets}
use Rattle.device_extract.specs.Contacts.{AreSides, AreContactsAdded}
use Rattle.device_extract.proofs.Contacting.{contacts_more, contacts_all, side_within, no_side}
use Rattle.device_extract.proofs.contacts.contacts.Goals as goal

pub touched-requires-clause-wire : goal.touched-requires-clause-wire
touched-requires-clause-wire c =
    let sides = subst (AreSides c.args.map.now.fets (length c.args.map.now.fets)) (sym c.deref-side-items.ensures.value) c.in_ok-sides.ensures.sides in
    side_within c.args.map.now c.args.masks.now _ c.sides.ensures.kept (sides.sound c.loop-side.side-index _ c.loop-side-test.true) c.requires.wires

pub loop-side-preserved : goal.loop-side-preserved
loop-side-preserved c =
    let sides = subst (AreSides c.args.map.now.fets (length c.args.map.now.fets)) (sym c.deref-side-items.ensures.value) c.in_ok-sides.ensures.sides in
    contacts_more c.args.map.now c.args.masks.now c.args.traced.now c.deref-side-items.result.now c.loop-side.side-index (get_or c.deref-side-items.result.now c.loop-side.side-index no_side) c.loop-side.contacts.items c.add_contacts.new.contacts.items
    (slice_get-get_or c.deref-side-items.result.now c.loop-side.side-index no_side c.loop-side-test.true) (sides.sound c.loop-side.side-index no_side c.loop-side-test.true) c.loop-side.invariant
    (subst (λ (plane : Nets). AreContactsAdded plane c.args.traced.now (get_or c.deref-side-items.result.now c.loop-side.side-index no_side) c.loop-side.contacts.items c.add_contacts.new.contacts.items) c.requires.pieces c.in_ok-add_contacts.ensures)

pub returns : goal.returns
returns c =
    let sides = subst (AreSides c.args.map.now.fets (length c.args.map.now.fets)) (sym c.deref-side-items.ensures.value) c.in_ok-sides.ensures.sides in
    contacts_all c.args.map.now c.args.masks.now c.args.traced.now c.deref-side-items.result.now c.loop-side.side-index (length c.args.map.now.fets) c.loop-side.contacts.items (omega arith) c.loop-side-test.false sides c.loop-side.invariant
