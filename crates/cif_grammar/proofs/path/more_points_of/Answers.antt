use Rattle.std.proofs.Common.{sym}
use Rattle.cif_grammar.specs.Readers.{next_point_at, more_points_at}
use Rattle.cif_grammar.proofs.Shorter.{next_point_shorter}
use Rattle.cif_grammar.proofs.Repeats.{one_further, none_further}
use Rattle.cif_grammar.proofs.path.more_points_of.Goals as goal

pub loop-point-smaller : goal.loop-point-smaller
loop-point-smaller c = next_point_shorter _ _ _ _ (sym c.in-Some.ensures)

pub loop-point-preserved : goal.loop-point-preserved
unfolding more_points_at
loop-point-preserved c = one_further (next_point_at c.args.total) (next_point_shorter c.args.total) _ _ _ _ _ _ c.loop-point.invariant (sym c.in-Some.ensures) c.in_ok-push.ensures.items

pub returns : goal.returns
unfolding more_points_at
returns c = none_further (next_point_at c.args.total) _ _ _ c.loop-point.invariant (sym c.in_default.ensures)
