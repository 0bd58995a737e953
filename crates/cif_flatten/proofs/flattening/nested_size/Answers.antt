use Rattle.cif_flatten.proofs.Judged.{some_size}
use Rattle.cif_flatten.proofs.flattening.nested_size.Goals as goal

pub unwrap-requires : goal.unwrap-requires
unwrap-requires c = some_size c.args.file.now.symbols c.in_ok-unfolded_size.field-0 c.in_ok-unfolded_size.ensures.recurses c.requires
