use Rattle.std.proofs.Common.{length}
use Rattle.search_trail.proofs.Walks.{decision_stays}
use Rattle.search_trail.proofs.walk.resolvent.Goals as goal

pub returns-in_default-clause-none : goal.returns-in_default-clause-none
returns-in_default-clause-none c = decision_stays c.args.trail.now.starts (length c.args.trail.now.lits) c.args.seen.now c.args.place c.starts-starts.ensures.levels c.in_default.ensures.decided
