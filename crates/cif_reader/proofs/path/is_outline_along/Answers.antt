use Rattle.std.proofs.Common.{◌∙◌, sym, ap}
use Rattle.cif_reader.proofs.Paths.{ends_along, closing_along}
use Rattle.cif_reader.proofs.path.is_outline_along.Goals as goal

pub returns-in-Some : goal.returns-in-Some
returns-in-Some c =
    c.is_along.ensures ∙ ap (ends_along c.args.path.now.first) (rw c.deref.ensures.value at (sym c.in-Some.is ∙ c.end_along_axes.ensures)) ∙ sym (closing_along c.args.path.now.first c.args.path.now.first c.args.path.now.others.items)

pub returns-in-None : goal.returns-in-None
returns-in-None c =
    ap (ends_along c.args.path.now.first) (rw c.deref.ensures.value at (sym c.in-None.is ∙ c.end_along_axes.ensures)) ∙ sym (closing_along c.args.path.now.first c.args.path.now.first c.args.path.now.others.items)
