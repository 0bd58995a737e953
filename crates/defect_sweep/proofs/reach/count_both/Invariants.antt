use Rattle.std.proofs.Common.{◌≡◌, ◌*◌, ◌≤◌, ◌^◌}
use Rattle.defect_sweep.specs.Reaching.{first_meets}
use Rattle.defect_sweep.proofs.reach.count_both.Given as goal

abbrev pub invariant-loop-k : goal.invariant-loop-k
invariant-loop-k l = record {
  so_far : l.total ≡ first_meets l.k l.sides l.first l.second;
  small : l.total ≤ l.k * (30 * 2 ^ 51);
}
