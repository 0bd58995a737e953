use Rattle.std.proofs.lemmas.Result.{IfOk-weaker}
use Rattle.defect_sweep.proofs.TracedCounts.{whole, are_counts, are_many}
use Rattle.defect_sweep.proofs.counting.counts.Goals as goal

pub count_regions-requires-clause-whole : goal.count_regions-requires-clause-whole
count_regions-requires-clause-whole c =
    whole c.args.traced.now c.regions.result.now c.count.result c.wires.result c.regions.ensures.of c.count.ensures.is c.wires.ensures.is

pub returns-clause-counts : goal.returns-clause-counts
returns-clause-counts c =
    IfOk-weaker c.count_regions.result _ _ (λ list is. are_counts c.args.traced.now c.args.sides.now c.regions.result.now c.count.result c.wires.result list c.regions.ensures.of c.count.ensures.is c.wires.ensures.is is) c.count_regions.ensures.counts

pub returns-clause-many : goal.returns-clause-many
returns-clause-many c is =
    are_many c.args.traced.now c.args.sides.now c.regions.result.now c.count.result c.wires.result c.regions.ensures.of c.count.ensures.is c.wires.ensures.is (c.count_regions.ensures.many is)
