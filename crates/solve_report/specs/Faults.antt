-- The fault of a report, where a search gives no verdict.
use Rattle.conflict_solver.specs.declared.verdict.SolveFault.{SolveFault}
use Rattle.conflict_solver.specs.declared.verdict.SolveFault.TheVariants.{Sink, NoMemory}
use Rattle.solve_report.specs.declared.ending.ReportFault.{ReportFault}
use Rattle.solve_report.specs.declared.ending.ReportFault.TheVariants.{Write, NoMemory as OutOfMemory}

abbrev pub fault_of : SolveFault → ReportFault
fault_of Sink = Write
fault_of NoMemory = OutOfMemory
