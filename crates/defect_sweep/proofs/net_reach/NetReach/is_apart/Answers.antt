use Rattle.defect_sweep.proofs.Meeting.{nets_apart}
use Rattle.defect_sweep.proofs.net_reach.NetReach.is_apart.Goals as goal

pub returns : goal.returns
returns c apart sides wire =
    nets_apart sides _ _ c.args.self.now c.args.other.now wire c.self.view_is c.other.view_is (c.are_apart.ensures apart) c.self.invariant c.other.invariant
