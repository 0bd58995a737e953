use Rattle.std.proofs.Common.{ℕ, ◌+◌, ◌<◌}
use Rattle.defect_sweep.specs.Sides.{side_at}
use Rattle.defect_sweep.proofs.sides.do_rise.Given as goal

abbrev pub invariant-loop-k : goal.invariant-loop-k
invariant-loop-k l = (j : ℕ) → j + 1 < l.k → (side_at l.sides j).cells < (side_at l.sides (j + 1)).cells
