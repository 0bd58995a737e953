use Rattle.std.proofs.Common.{length, ◌∙◌}
use Rattle.std.proofs.lemmas.Result.{IfOk-weaker}
use Rattle.solve_report.specs.Report.{numbers_text}
use Rattle.solve_report.proofs.header.header_text.Goals as goal

pub returns : goal.returns
returns c = IfOk-weaker c.numbers.result _ _
    (λ text is. is ∙ (λ i. numbers_text c.args.budget (c.vars.ensures i) (length (c.clauses.ensures.same i)))) c.numbers.ensures
