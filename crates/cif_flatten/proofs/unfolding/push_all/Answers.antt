use Rattle.std.proofs.Common.{◌-◌, arith}
use Rattle.plane_geom.specs.Placement.{steps_of}
use Rattle.cif_flatten.specs.Unrolling.{IsShallow}
use Rattle.cif_flatten.proofs.Ranges.{pushed}
use Rattle.cif_flatten.proofs.Unrolled.{one_pushed}
use Rattle.cif_flatten.proofs.Walked.{kept_at}
use Rattle.cif_flatten.proofs.unfolding.push_all.Goals as goal

pub loop-index-preserved : goal.loop-index-preserved
loop-index-preserved c =
    let items = c.args.items.now in
    let n = c.loop-index.index in
    let x = c.index-items-index.result in
    record {
      within = omega (arith, c.loop-index.invariant.within);
      waiting = one_pushed (steps_of c.args.place) c.args.depth items n (n - 1) x _ _ c.args.pending.now.items _ (omega (arith, c.loop-index-test.true)) c.loop-index.invariant.within
          (λ j. record { item = c.index-items-index.is j; steps = steps_of c.args.place; depth = c.args.depth }) c.loop-index.invariant.waiting c.in_ok-push.ensures.items;
      shallow = λ left few old. pushed (IsShallow left) _ _ _ c.in_ok-push.ensures.items
          (record { near = record { kept = kept_at items (n - 1) x (omega (arith, c.loop-index-test.true, c.loop-index.invariant.within)) c.index-items-index.is c.requires.kept; shift = c.requires.shift }; few = few })
          (c.loop-index.invariant.shallow left few old);
    }
