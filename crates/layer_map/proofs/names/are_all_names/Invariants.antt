use Rattle.std.proofs.Common.{◌≡◌, false, length}
use Rattle.std.specs.List.{list_all}
use Rattle.plane_geom.specs.Names.{is_name}
use Rattle.layer_map.specs.Words.{words_of}
use Rattle.layer_map.proofs.names.are_all_names.Given as goal

abbrev pub invariant-loop-word : goal.invariant-loop-word
invariant-loop-word l = list_all is_name (words_of false l.bytes) ≡ list_all is_name (words_of false l.rest)

abbrev pub decreases-loop-word : goal.decreases-loop-word
decreases-loop-word l = length l.rest
