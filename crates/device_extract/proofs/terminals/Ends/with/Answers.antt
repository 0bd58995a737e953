use Rattle.std.proofs.Common.{sym, ◌∙◌, subst}
use Rattle.device_extract.specs.Contacts.{AreEnds}
use Rattle.device_extract.proofs.EndLists.{ends_other}
use Rattle.device_extract.proofs.terminals.Ends.with.Goals as goal

pub returns-else-is_either : goal.returns-else-is_either
returns-else-is_either c has h = ends_other has c.args.net.0 c.in-Two.a.0 c.in-Two.b.0 (sym c.is_either.ensures ∙ c.if-is_either.false) (subst (AreEnds has) c.in-Two.is h)
