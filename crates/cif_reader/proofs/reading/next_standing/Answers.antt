use Rattle.std.proofs.Common.{sym, ◌∙◌}
use Rattle.cif_reader.proofs.Standing.{none_stands, stands, barred}
use Rattle.cif_reader.proofs.reading.next_standing.Goals as goal

pub returns-in_default : goal.returns-in_default
returns-in_default c = λ within. none_stands _ _ _ within (c.in_ok-command.ensures.none c.in_default.is)

pub returns-then-may_stand : goal.returns-then-may_stand
returns-then-may_stand c =
    stands _ _ _ _ _ (rw c.in-Some.is at c.in_ok-command.ensures.found) (rw c.in-Some.is at c.in_ok-command.ensures.gaps) (sym c.may_stand.ensures ∙ c.if-may_stand.true)

pub returns : goal.returns
returns c = barred _ _ _ _ _ (rw c.in-Some.is at c.in_ok-command.ensures.found) (rw c.in-Some.is at c.in_ok-command.ensures.gaps) (sym c.may_stand.ensures ∙ c.if-may_stand.false)
