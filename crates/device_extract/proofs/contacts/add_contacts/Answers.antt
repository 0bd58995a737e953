use Rattle.std.proofs.Common.{ap, sym, ◌∙◌, subst, refl}
use Rattle.std.proofs.lemmas.Bool.{and_from}
use Rattle.std.proofs.lemmas.Option.{slice_get-get_or}
use Rattle.mask_region.specs.Strips.{Banded}
use Rattle.net_trace.proofs.Lists.{not_both_ways}
use Rattle.device_extract.specs.Contacts.{AreTouched}
use Rattle.device_extract.proofs.Contacting.{contacting_more, corner_nodes, contacts_added}
use Rattle.device_extract.proofs.contacts.add_contacts.Goals.{in-Some+in_ok-push, in_default}
use Rattle.device_extract.proofs.contacts.add_contacts.Goals as goal

pub loop-strip-preserved : goal.loop-strip-preserved
loop-strip-preserved c =
    let touched = subst (λ l. AreTouched c.args.pieces.now c.args.traced.now c.args.side l) (sym c.strips-strip-items.ensures.same) c.requires in
    let banded = subst Banded (sym c.strips-strip-items.ensures.same) c.strips-strip-items.ensures.banded in
    let at = slice_get-get_or c.strips-strip-items.result.now c.loop-strip.strip-index _ c.loop-strip-test.true in
    elim c.match-contact_at.branch [
      | in-Some+in_ok-push w ↦ contacting_more c.args.pieces.now c.args.traced.now c.args.side c.strips-strip-items.result.now touched banded c.loop-strip.strip-index _ at w.in-Some.contact
          c.args.contacts.now.items c.loop-strip.contacts.items c.match-contact_at.contacts.items c.loop-strip.invariant w.in-Some.ensures.some (ap (λ v. v.items) w.contacts-is ∙ w.in_ok-push.ensures.items)
      | in_default w ↦
          let nodes = corner_nodes c.args.pieces.now c.args.traced.now c.args.side c.strips-strip-items.result.now touched banded c.loop-strip.strip-index _ at in
          not_both_ways _ (and_from _ _ nodes.0 nodes.1) (w.in_default.ensures.none refl)
    ]

pub returns : goal.returns
returns c = contacts_added c.args.pieces.now c.args.traced.now c.args.side c.strips-strip-items.result.now c.loop-strip.strip-index c.args.contacts.now.items c.loop-strip.contacts.items
    (subst (λ l. AreTouched c.args.pieces.now c.args.traced.now c.args.side l) (sym c.strips-strip-items.ensures.same) c.requires) c.loop-strip-test.false c.loop-strip.invariant
