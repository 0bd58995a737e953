use Rattle.search_trail.proofs.Walks.{marked_here, marked_never}
use Rattle.search_trail.proofs.walk.mark_lit.Goals as goal

pub returns-then-place-end-clause-marked : goal.returns-then-place-end-clause-marked
returns-then-place-end-clause-marked c = λ q less lt at. marked_here c.args.trail.now.lits c.args.seen.now.items c.args.lit c.negated.result c.in-Some.place q
    c.in-Some.ensures.once c.in-Some.ensures.inside c.in-Some.ensures.found c.negated.ensures c.requires.size lt at

pub returns-else-place-end-clause-marked : goal.returns-else-place-end-clause-marked
returns-else-place-end-clause-marked c = λ q less lt at. marked_never c.args.trail.now.lits c.args.lit c.negated.result c.in-Some.place c.args.end q
    c.in-Some.ensures.once c.in-Some.ensures.inside c.in-Some.ensures.found c.negated.ensures c.if-place-end.false less lt at
