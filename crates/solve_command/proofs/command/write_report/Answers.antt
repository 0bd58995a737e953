use Rattle.std.proofs.Common.{Err, ap}
use Rattle.solve_command.proofs.SoFar.{so_far}
use Rattle.solve_command.proofs.command.write_report.Goals as goal

pub returns-in-Err-NoMemory : goal.returns-in-Err-NoMemory
returns-in-Err-NoMemory g c =
    so_far (c.in-Err-NoMemory.ensures.so_far (ap (λ f. Err f) c.in-Err-NoMemory.field-0-is)) c.in-Err-NoMemory.ensures.later
    (λ strict. c.in-Err-NoMemory.ensures.quiet strict (λ is. let same = c.in-Err-NoMemory.field-0-is in cc))
