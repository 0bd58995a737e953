use Rattle.cif_reader.proofs.Paths.{segments_along}
use Rattle.cif_reader.proofs.path.is_line_along.Goals as goal

pub returns : goal.returns
returns c = rw (c.is_some.ensures, c.end_along_axes.ensures, c.deref.ensures.value) (segments_along c.args.path.now.first c.args.path.now.others.items)
