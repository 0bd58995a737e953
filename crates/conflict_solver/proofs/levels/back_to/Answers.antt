use Rattle.std.proofs.Common.{sym, ap, ◌∙◌, subst}
use Rattle.search_trail.specs.Trails.{back_at}
use Rattle.clause_watches.specs.Watching.{AreWatched, gone_back}
use Rattle.clause_watches.proofs.Kept.{back_kept}
use Rattle.conflict_solver.proofs.levels.back_to.Goals as goal

pub returns-clause-kept : goal.returns-clause-kept
returns-clause-kept c = subst (AreWatched (back_at c.args.trail.now c.args.level)) (sym (c.back-2.ensures ∙ ap (λ n. gone_back c.args.watches.now n) c.size_up_to-size.ensures.same))
    (back_kept c.args.trail.now c.args.watches.now c.args.level c.size_up_to-size.ensures.search c.requires)
