use Rattle.std.proofs.Common.{◌≡◌, ◌≤◌, length}
use Rattle.defect_sweep.specs.Reaching.{pair_count}
use Rattle.defect_sweep.proofs.Listing.{rows}
use Rattle.defect_sweep.proofs.sweep.count_regions.Given as goal

abbrev pub invariant-loop-a : goal.invariant-loop-a
invariant-loop-a l = record {
  so_far : l.found.items ≡ rows (λ pair. pair_count l.sides l.wires l.reaches.items pair) (length l.reaches.items) l.a;
  few : length l.found.items ≤ 65536;
}
