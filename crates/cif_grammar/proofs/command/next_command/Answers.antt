use Rattle.std.proofs.Common.{sym}
use Rattle.cif_grammar.proofs.Exact.{found, no_body, no_end, end_gaps}
use Rattle.cif_grammar.proofs.command.next_command.Goals as goal

pub returns-in_default-clause-none : goal.returns-in_default-clause-none
returns-in_default-clause-none c = λ _. no_body _ _ _ c.max-total.ensures (sym (rw c.in_default.is at c.in_ok-command.ensures))

pub returns-in-Some-after_end-clause-found : goal.returns-in-Some-after_end-clause-found
returns-in-Some-after_end-clause-found c = found _ _ _ _ _ _ c.max-total.ensures (sym (rw c.in-Some.is at c.in_ok-command.ensures)) (sym c.in-Some-after_end.ensures)

pub returns-in-Some-after_end-clause-gaps : goal.returns-in-Some-after_end-clause-gaps
returns-in-Some-after_end-clause-gaps c = end_gaps _ _ _ (sym c.in-Some-after_end.ensures)

pub returns-clause-none : goal.returns-clause-none
returns-clause-none c = λ _. no_end _ _ _ _ _ c.max-total.ensures (sym (rw c.in-Some.is at c.in_ok-command.ensures)) (sym c.in-None.ensures)
