use Rattle.std.proofs.Common.{◌≡◌, false, length, take, replicate}
use Rattle.switch_net.proofs.spreading.clear.Given as goal

abbrev pub invariant-loop-i : goal.invariant-loop-i
invariant-loop-i l = record {
  each : length l.marks.items ≡ length l.fn.marks.items;
  cleared : take l.i l.marks.items ≡ replicate l.i false;
}
