use Rattle.cif_reader.proofs.Paths.{whole_path}
use Rattle.cif_reader.proofs.path.is_whole_path.Goals as goal

pub returns-then-is_whole_point : goal.returns-then-is_whole_point
returns-then-is_whole_point c = whole_path c.args.scale c.args.path.now.first c.args.path.now.others.items _ _ c.if-is_whole_point.true c.is_whole_point.ensures (rw c.deref.ensures.value at c.are_all_whole.ensures)
