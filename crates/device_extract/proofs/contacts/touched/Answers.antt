use Rattle.std.proofs.Common.{ap, arith, length, refl}
use Rattle.net_trace.proofs.Making.{if_ok_as}
use Rattle.net_trace.proofs.Wires.{wire_at}
use Rattle.device_extract.specs.Channels.{channel_plane, wire_plane}
use Rattle.device_extract.proofs.Shifting.{within_at}
use Rattle.device_extract.proofs.SideLists.{touched_is}
use Rattle.device_extract.proofs.contacts.touched.Goals as goal

pub shifted-requires-clause-within : goal.shifted-requires-clause-within
shifted-requires-clause-within c =
    let size = ap (λ l. length l) c.channels.ensures.same in
    within_at _ c.args.masks.now.channels c.channels.result.now c.args.side.line c.index-channels-side.result c.channels.ensures.same c.channels.ensures.within (omega (arith, size, c.requires.line)) c.index-channels-side.is

pub returns : goal.returns
returns c = if_ok_as c.meet-2.result _ _ (λ r met.
    touched_is c.args.masks.now.channels c.args.masks.now.wires (channel_plane c.args.masks.now) (wire_plane c.args.masks.now) c.args.side c.index-channels-side.result c.index-wires-side.result c.in_ok-shifted.field-0 r refl refl
    (wire_at c.channels.result.now c.args.masks.now.channels c.args.side.line c.index-channels-side.result c.channels.ensures.same (let size = ap (λ l. length l) c.channels.ensures.same in omega (arith, size, c.requires.line)) c.index-channels-side.is)
    (wire_at c.wires.result.now c.args.masks.now.wires c.args.side.diff.0 c.index-wires-side.result c.wires.ensures.same (let size = ap (λ l. length l) c.wires.ensures.same in omega (arith, size, c.requires.wire)) c.index-wires-side.is)
    c.in_ok-shifted.ensures met) c.meet-2.ensures
