use Rattle.cif_flatten.specs.Sizes.{HasSizes}
use Rattle.cif_flatten.proofs.Lookups.{of_some}
use Rattle.cif_flatten.proofs.Exploring.{all_nested, file_size}
use Rattle.cif_flatten.proofs.sizes.unfolded_size.Goals as goal

pub returns-clause-size : goal.returns-clause-size
returns-clause-size c = file_size c.args.file.now c.top_size.result c.top_size.ensures

pub returns-clause-nested : goal.returns-clause-nested
returns-clause-nested c =
    let symbols = c.args.file.now.symbols in
    all_nested symbols c.in-Some.sizes (of_some (HasSizes symbols) c.in_ok-sizes.field-0 c.in-Some.sizes c.in-Some.is c.in_ok-sizes.ensures.sizes)
