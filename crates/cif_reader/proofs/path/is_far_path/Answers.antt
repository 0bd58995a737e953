use Rattle.cif_reader.proofs.Paths.{far_path}
use Rattle.cif_reader.proofs.path.is_far_path.Goals as goal

pub returns-else-is_far_point : goal.returns-else-is_far_point
returns-else-is_far_point c = far_path c.args.scale c.args.path.now.first c.args.path.now.others.items _ _ c.if-is_far_point.false c.is_far_point.ensures (rw c.deref.ensures.value at c.is_any_far.ensures)
