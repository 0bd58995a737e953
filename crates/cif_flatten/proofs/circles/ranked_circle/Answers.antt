use Rattle.std.proofs.Common.{subst}
use Rattle.cif_flatten.specs.Ranking.{rank_of, FallsBefore}
use Rattle.cif_flatten.proofs.Ranked.{ranked_recursive}
use Rattle.cif_flatten.proofs.circles.ranked_circle.Goals as goal

pub returns : goal.returns
returns c =
    let file = c.args.file.now in
    let rank = rank_of c.in_ok-ranks.ranks in
    ranked_recursive file rank c.in-Some.number (c.never_rises.ensures c.if-not-never_rises.false) (subst (FallsBefore file.symbols rank file.symbols) c.in-Some.is c.least_level.ensures)
    (c.in_ok-calls_itself.ensures.yes c.if-not-branch.false)
