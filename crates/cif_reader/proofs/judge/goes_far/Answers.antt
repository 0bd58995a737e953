use Rattle.std.proofs.Common.{map}
use Rattle.std.specs.Prelude.{flat_map}
use Rattle.cif_grammar.specs.Seen.{transform_of}
use Rattle.cif_reader.proofs.Finding.{rest_none}
use Rattle.cif_reader.specs.Faults.{is_large, of_transform}
use Rattle.cif_reader.proofs.judge.goes_far.Goals as goal

pub is_far_call-requires : goal.is_far_call-requires
is_far_call-requires c =
    rw c.deref.ensures.value (rest_none is_large c.in-Call.symbol (flat_map of_transform (map transform_of c.in-Call.transformations.items)) (rw c.in-Call.is at c.requires))
