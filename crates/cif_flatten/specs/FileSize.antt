-- How much a file unfolds to.
use Rattle.std.specs.Prelude.{◌≡◌, List}
use Rattle.cif_reader.specs.File.{Contents}
use Rattle.cif_flatten.specs.declared.sizes.Size.{Size}
use Rattle.cif_flatten.specs.Unfolding.{Placed, IsUnfolding, calls_among, weight_among, capped}

-- The file unfolds, and the unfolding has so many calls and that weight.
pub record IsFileSize (file : Contents) (size : Size) : Type 0 where
  pub placed : List Placed
  pub unfolded : IsUnfolding file placed
  pub calls : size.calls ≡ capped (calls_among placed)
  pub weight : size.weight ≡ capped (weight_among placed)
