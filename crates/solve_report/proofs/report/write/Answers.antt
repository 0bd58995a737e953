use Rattle.std.proofs.Common.{rules, inr, ◌∙◌}
use Rattle.probe_io.proofs.Texts.{Front-is, Whole-is}
use Rattle.solve_report.proofs.Reported.{reported, cut_header, cut_proof, cut_verdict, stopped, unended}
use Rattle.solve_report.proofs.report.write.Goals as goal

pub returns-in_err-put_all-clause-front : goal.returns-in_err-put_all-clause-front
returns-in_err-put_all-clause-front g c = λ is. cut_header c.args.formula.now c.in_ok-sorted.sorted c.args.budget c.in_ok-sorted.ensures
    (Front-is (c.as_bytes.ensures.value ∙ c.in_ok-header.ensures) c.in_err-put_all.ensures.front)

pub returns-in_err-verdict-clause-front : goal.returns-in_err-verdict-clause-front
returns-in_err-verdict-clause-front g c = λ is. cut_proof c.args.formula.now c.in_ok-sorted.sorted c.args.budget c.in_ok-sorted.ensures
    (Whole-is (c.as_bytes.ensures.value ∙ c.in_ok-header.ensures) c.in_ok-put_all.ensures.ok) c.in_err-verdict.ensures.front

pub returns-in_err-verdict-clause-so_far : goal.returns-in_err-verdict-clause-so_far
returns-in_err-verdict-clause-so_far g c = λ is. inr (stopped c.args.formula.now c.in_ok-sorted.sorted c.args.budget c.in_ok-sorted.ensures
    (Whole-is (c.as_bytes.ensures.value ∙ c.in_ok-header.ensures) c.in_ok-put_all.ensures.ok) (search (rules, is)))

pub returns-in_err-last-clause-so_far : goal.returns-in_err-last-clause-so_far
returns-in_err-last-clause-so_far g c = λ is. inr (unended c.args.formula.now c.in_ok-sorted.sorted c.args.budget c.in_ok-sorted.ensures
    c.in_ok-verdict.verdict (Whole-is (c.as_bytes.ensures.value ∙ c.in_ok-header.ensures) c.in_ok-put_all.ensures.ok)
    c.in_ok-verdict.ensures.proof)

pub returns-in_err-put_all-2-clause-front : goal.returns-in_err-put_all-2-clause-front
returns-in_err-put_all-2-clause-front g c = λ is. cut_verdict c.args.formula.now c.in_ok-sorted.sorted c.args.budget c.in_ok-sorted.ensures
    c.in_ok-verdict.verdict (Whole-is (c.as_bytes.ensures.value ∙ c.in_ok-header.ensures) c.in_ok-put_all.ensures.ok)
    c.in_ok-verdict.ensures.proof (Front-is (c.as_bytes-2.ensures.value ∙ c.in_ok-last.ensures) c.in_err-put_all-2.ensures.front)

pub returns-clause-report : goal.returns-clause-report
returns-clause-report g c = reported c.args.formula.now c.in_ok-sorted.sorted c.args.budget c.in_ok-sorted.ensures
    c.in_ok-verdict.verdict c.ending_with.result (Whole-is (c.as_bytes.ensures.value ∙ c.in_ok-header.ensures) c.in_ok-put_all.ensures.ok)
    c.in_ok-verdict.ensures.proof (Whole-is (c.as_bytes-2.ensures.value ∙ c.in_ok-last.ensures) c.in_ok-put_all-2.ensures.ok) c.ending_with.ensures
