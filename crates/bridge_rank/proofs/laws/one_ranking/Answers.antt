use Rattle.bridge_rank.proofs.Ranks.{one_ranking}
use Rattle.bridge_rank.proofs.laws.one_ranking.Goals as goal

pub returns : goal.returns
returns c nets sides counts ranked others are here there = one_ranking nets sides counts ranked others are here there
