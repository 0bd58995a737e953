use Rattle.solve_report.proofs.Sorted.{one_form}
use Rattle.solve_report.proofs.laws.one_sorted_form.Goals as goal

pub returns : goal.returns
returns c = λ file formula other first second. one_form file formula other first second
