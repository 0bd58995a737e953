use Rattle.std.proofs.Common.{◌∙◌, sym}
use Rattle.cif_reader.specs.Faults.{is_large, of_spot}
use Rattle.cif_reader.proofs.Finding.{found_here, not_here, found_nowhere}
use Rattle.cif_reader.proofs.judge.large_in_spots.Goals as goal

pub returns-in-Some : goal.returns-in-Some
returns-in-Some c = found_here is_large of_spot c.args.spots.now c.loop-spot.spot-index _ c.in-Some.number _ c.loop-spot-test.true c.loop-spot.invariant (sym c.in-Some.ensures)

pub loop-spot-preserved : goal.loop-spot-preserved
loop-spot-preserved c = not_here is_large of_spot c.args.spots.now c.loop-spot.spot-index _ _ c.loop-spot-test.true c.loop-spot.invariant (sym c.large_in_spot.ensures ∙ c.in_default.is)

pub returns : goal.returns
returns c = found_nowhere is_large of_spot c.args.spots.now c.loop-spot.spot-index _ c.loop-spot-test.false c.loop-spot.invariant
