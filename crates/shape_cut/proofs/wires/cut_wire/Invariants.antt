use Rattle.shape_cut.proofs.Segments.{AreWidened}
use Rattle.shape_cut.proofs.wires.cut_wire.Given as goal

abbrev pub invariant-loop-k : goal.invariant-loop-k
invariant-loop-k l = AreWidened l.half l.path l.k l.from l.rects.items
