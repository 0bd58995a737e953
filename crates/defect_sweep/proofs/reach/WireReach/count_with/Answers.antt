use Rattle.defect_sweep.proofs.Meeting.{reaches_apart}
use Rattle.defect_sweep.proofs.reach.WireReach.count_with.Goals as goal

pub returns-then-are_apart-clause-counts : goal.returns-then-are_apart-clause-counts
returns-then-are_apart-clause-counts c =
    reaches_apart c.args.sides.now _ _ c.args.self.now c.args.other.now c.self.view_is c.other.view_is (c.are_apart.ensures c.if-are_apart.true) c.self.invariant c.other.invariant
