use Rattle.std.proofs.Common.{rules, refl, arith, ◌∙◌, ap, map, false, FitsSigned, w64, to_z, of_z}
use Rattle.std.specs.Int.{w128}
use Rattle.std.proofs.lemmas.Int.{ints, to_z-of_z}
use Rattle.cif_grammar.specs.Words.{limit}
use Rattle.cif_grammar.specs.Seen.{transform_of}
use Rattle.cif_reader.specs.Measure.{scaled}
use Rattle.cif_reader.proofs.Placing.{call_place}
use Rattle.cif_reader.proofs.calls.place_of.Goals as goal

pub then-requires-clause-second : goal.then-requires-clause-second
unfolding limit
then-requires-clause-second c = record {
  dx = record { low = omega (arith, ints, c.scaled.ensures.within.low); high = omega (arith, ints, c.scaled.ensures.within.high) };
  dy = record { low = omega (arith, ints, c.scaled-2.ensures.within.low); high = omega (arith, ints, c.scaled-2.ensures.within.high) };
}

pub returns-clause-place : goal.returns-clause-place
returns-clause-place c =
    let x : FitsSigned w128 c.shift_of-x.result.0 = search rules in
    let y : FitsSigned w128 c.shift_of-x.result.1 = search rules in
    let dx : FitsSigned w64 c.scaled.result = search rules in
    let dy : FitsSigned w64 c.scaled-2.result = search rules in
    let ts = map transform_of c.args.transformations.now in
    let dx_is = simp to_z-of_z at c.scaled.ensures.value in
    let dy_is = simp to_z-of_z at c.scaled-2.ensures.value in
    call_place c.args.scale ts c.turned.result c.then.result (record { turn = record { swap = false; neg_x = false; neg_y = false }; dx = to_z w64 (of_z w64 c.scaled.result); dy = to_z w64 (of_z w64 c.scaled-2.result) }) c.requires.some c.requires.whole c.turned.ensures.place (λ p. refl)
    (to_z-of_z w64 c.scaled.result dx ∙ dx_is ∙ ap (scaled c.args.scale) c.shift_of-x.ensures.x)
    (to_z-of_z w64 c.scaled-2.result dy ∙ dy_is ∙ ap (scaled c.args.scale) c.shift_of-x.ensures.y)
    c.then.ensures.moves

pub returns-clause-within : goal.returns-clause-within
unfolding limit
returns-clause-within c =
    c.then.ensures.near 0 limit c.turned.ensures.still (record {
      dx = record { low = omega (arith, ints, c.scaled.ensures.within.low); high = omega (arith, ints, c.scaled.ensures.within.high) };
      dy = record { low = omega (arith, ints, c.scaled-2.ensures.within.low); high = omega (arith, ints, c.scaled-2.ensures.within.high) };
    })
