use Rattle.std.proofs.Common.{sym}
use Rattle.layer_map.proofs.Parsing.{found_here, stuck_here, whole_here, cut_off_here}
use Rattle.layer_map.proofs.expressions.expression_of.Goals as goal

pub returns-then-is_done-clause-read : goal.returns-then-is_done-clause-read
returns-then-is_done-clause-read c = (found_here _ _ _ _ _ _ _ c.loop-word.invariant c.in-Some.ensures.word (sym c.if-is_done.ensures)).parsed

pub returns-then-is_done-clause-layers : goal.returns-then-is_done-clause-layers
returns-then-is_done-clause-layers c = (found_here _ _ _ _ _ _ _ c.loop-word.invariant c.in-Some.ensures.word (sym c.if-is_done.ensures)).layers

pub returns-in_default-step-clause-read : goal.returns-in_default-step-clause-read
returns-in_default-step-clause-read c = stuck_here _ _ _ _ _ _ _ c.loop-word.invariant c.in-Some.ensures.word (sym c.if-is_done.ensures) (sym c.in_default-step.ensures)

pub returns-then-is_whole-clause-read : goal.returns-then-is_whole-clause-read
returns-then-is_whole-clause-read c = (whole_here _ _ _ _ _ c.loop-word.invariant c.in_default.ensures.word (sym c.if-is_whole.ensures)).parsed

pub returns-then-is_whole-clause-layers : goal.returns-then-is_whole-clause-layers
returns-then-is_whole-clause-layers c = (whole_here _ _ _ _ _ c.loop-word.invariant c.in_default.ensures.word (sym c.if-is_whole.ensures)).layers

pub returns-else-is_whole-clause-read : goal.returns-else-is_whole-clause-read
returns-else-is_whole-clause-read c = cut_off_here _ _ _ _ _ c.loop-word.invariant c.in_default.ensures.word (sym c.if-is_whole.ensures)
