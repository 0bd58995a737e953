use Rattle.std.proofs.Common.{◌≡◌, ℕ, ◌+◌, ◌≤◌, ◌++◌, length, drop}
use Rattle.plane_geom.specs.Placement.{steps_of}
use Rattle.cif_flatten.specs.Unfolding.{in_place}
use Rattle.cif_flatten.specs.Faults.{most_calls}
use Rattle.cif_flatten.specs.Unrolling.{waiting, AreShallow}
use Rattle.cif_flatten.proofs.unfolding.push_all.Given as goal

abbrev pub invariant-loop-index : goal.invariant-loop-index
invariant-loop-index l = record {
  within : l.index ≤ length l.items;
  waiting : waiting l.pending.items ≡ in_place (steps_of l.place) l.depth (drop l.index l.items) ++ waiting l.fn.pending.items;
  shallow : (left : ℕ) → l.depth + left ≤ most_calls → AreShallow left l.fn.pending.items → AreShallow left l.pending.items;
}

abbrev pub decreases-loop-index : goal.decreases-loop-index
decreases-loop-index l = l.index
