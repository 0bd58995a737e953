use Rattle.std.proofs.Common.{ap, arith, length, refl}
use Rattle.device_extract.proofs.Extracting.{gated_none, below_of, bare_refused, crowded_refused, many_refused, list_of, gates_of, pairs_of}
use Rattle.device_extract.proofs.extraction.extract.Goals as goal

pub pieces_of-requires-clause-few : goal.pieces_of-requires-clause-few
pieces_of-requires-clause-few c = let size = ap (λ l. length l) c.channels.ensures.same in omega (arith, size, c.requires.channels, c.first_ungated.ensures.few)

pub ends_of-requires : goal.ends_of-requires
ends_of-requires c =
    below_of c.args.map.now c.args.masks.now c.args.traced.now c.in_ok-pieces.pieces c.channels.result.now c.roots-roots.result.now c.in_ok-contacts.contacts.items c.in_ok-pieces.ensures c.channels.ensures.same c.roots-roots.ensures c.in_ok-contacts.ensures
    c.as_slice.result.now c.as_slice.ensures.value

pub returns-in-Some-first_bare-clause-refused : goal.returns-in-Some-first_bare-clause-refused
returns-in-Some-first_bare-clause-refused c =
    bare_refused c.args.map.now c.args.masks.now c.args.traced.now c.in_ok-pieces.pieces c.channels.result.now c.roots-roots.result.now c.in_ok-contacts.contacts.items c.in_ok-pieces.ensures c.channels.ensures.same c.roots-roots.ensures c.in_ok-contacts.ensures
    (gated_none c.args.map.now c.args.masks.now c.in_ok-cell.field-0 c.in_ok-cell.ensures.first c.in_default.is) (length c.roots-roots.result.now) c.as_slice.result.now c.in_ok-ends.ends.items c.as_slice-ends.result.now refl c.as_slice.ensures.value c.as_slice-ends.ensures.value c.in_ok-ends.ensures
    c.in-Some-first_bare.t _ c.cell_of.result c.first_bare.result c.first_bare.ensures c.in-Some-first_bare.is c.cell_of.ensures.x c.cell_of.ensures.y

pub returns-in-Some-first_crowded-clause-refused : goal.returns-in-Some-first_crowded-clause-refused
returns-in-Some-first_crowded-clause-refused c =
    crowded_refused c.args.map.now c.args.masks.now c.args.traced.now c.in_ok-pieces.pieces c.channels.result.now c.roots-roots.result.now c.in_ok-contacts.contacts.items c.in_ok-pieces.ensures c.channels.ensures.same c.roots-roots.ensures c.in_ok-contacts.ensures
    (gated_none c.args.map.now c.args.masks.now c.in_ok-cell.field-0 c.in_ok-cell.ensures.first c.in_default.is) (length c.roots-roots.result.now) c.as_slice.result.now c.in_ok-ends.ends.items c.as_slice-ends.result.now refl c.as_slice.ensures.value c.as_slice-ends.ensures.value c.in_ok-ends.ensures
    c.in-Some-first_crowded.t _ c.cell_of-in-Some-first_crowded.result c.first_bare.result c.first_crowded.result c.first_bare.ensures c.in_default-first_bare.is c.first_crowded.ensures c.in-Some-first_crowded.is
    c.cell_of-in-Some-first_crowded.ensures.x c.cell_of-in-Some-first_crowded.ensures.y

pub fets-requires-clause-gates : goal.fets-requires-clause-gates
fets-requires-clause-gates c =
    gates_of c.args.map.now c.args.masks.now c.args.traced.now c.in_ok-pieces.pieces c.channels.result.now c.roots-roots.result.now c.in_ok-contacts.contacts.items c.in_ok-pieces.ensures c.channels.ensures.same c.roots-roots.ensures c.in_ok-contacts.ensures
    (gated_none c.args.map.now c.args.masks.now c.in_ok-cell.field-0 c.in_ok-cell.ensures.first c.in_default.is) c.requires.channels c.requires.traced

pub fets-requires-clause-pairs : goal.fets-requires-clause-pairs
fets-requires-clause-pairs c = pairs_of c.as_slice-ends.result.now c.first_bare.result c.first_crowded.result c.first_bare.ensures c.in_default-first_bare.is c.first_crowded.ensures c.in_default-first_crowded.is

pub returns-then-len-gt-MOST_FETS-clause-refused : goal.returns-then-len-gt-MOST_FETS-clause-refused
returns-then-len-gt-MOST_FETS-clause-refused c =
    many_refused c.args.map.now c.args.masks.now c.args.traced.now c.in_ok-pieces.pieces c.channels.result.now c.roots-roots.result.now c.in_ok-contacts.contacts.items c.in_ok-pieces.ensures c.channels.ensures.same c.roots-roots.ensures c.in_ok-contacts.ensures
    (gated_none c.args.map.now c.args.masks.now c.in_ok-cell.field-0 c.in_ok-cell.ensures.first c.in_default.is) (length c.roots-roots.result.now) c.as_slice.result.now c.in_ok-ends.ends.items c.as_slice-ends.result.now refl c.as_slice.ensures.value c.as_slice-ends.ensures.value c.in_ok-ends.ensures
    c.in_ok-fets.fets.items c.in_ok-fets.ensures (omega (arith, c.if-len-gt-MOST_FETS.true, c.len.ensures, c.in_ok-fets.fets.ok.0))

pub returns-clause-fets : goal.returns-clause-fets
returns-clause-fets c =
    list_of c.args.map.now c.args.masks.now c.args.traced.now c.in_ok-pieces.pieces c.channels.result.now c.roots-roots.result.now c.in_ok-contacts.contacts.items c.in_ok-pieces.ensures c.channels.ensures.same c.roots-roots.ensures c.in_ok-contacts.ensures
    (gated_none c.args.map.now c.args.masks.now c.in_ok-cell.field-0 c.in_ok-cell.ensures.first c.in_default.is) (length c.roots-roots.result.now) c.as_slice.result.now c.in_ok-ends.ends.items c.as_slice-ends.result.now refl c.as_slice.ensures.value c.as_slice-ends.ensures.value c.in_ok-ends.ensures
    c.in_ok-fets.fets.items c.in_ok-fets.ensures
