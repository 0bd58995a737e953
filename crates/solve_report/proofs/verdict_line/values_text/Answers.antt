use Rattle.solve_report.proofs.Literals.{line_more, line_whole}
use Rattle.solve_report.proofs.verdict_line.values_text.Goals as goal

pub loop-i-preserved : goal.loop-i-preserved
loop-i-preserved c = line_more c.args.values.now c.loop-i.i _ c.loop-i-test.true c.loop-i.invariant c.in_ok-push_literal.ensures

pub returns : goal.returns
returns c = line_whole c.args.values.now c.loop-i.i c.loop-i-test.false c.loop-i.invariant c.in_ok-push_str.ensures.bytes
