use Rattle.std.proofs.Common.{◌≡◌, ◌+◌, ◌-◌, ◌≤◌, ◌++◌, length}
use Rattle.defect_sweep.specs.Reaching.{pair_count}
use Rattle.defect_sweep.proofs.Listing.{row}
use Rattle.defect_sweep.proofs.sweep.push_row.Given as goal

abbrev pub invariant-loop-b : goal.invariant-loop-b
invariant-loop-b l = record {
  so_far : l.found.items ≡ l.fn.found.items ++ row (λ pair. pair_count l.sides l.wires l.nets pair) l.a (l.b - (l.a + 1));
  few : length l.found.items ≤ 65536;
}
