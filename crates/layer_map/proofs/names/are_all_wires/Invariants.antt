use Rattle.std.proofs.Common.{◌≡◌, true, length}
use Rattle.std.specs.List.{list_all}
use Rattle.layer_map.specs.Names.{is_wire_name}
use Rattle.layer_map.specs.Words.{words_of}
use Rattle.layer_map.proofs.names.are_all_wires.Given as goal

abbrev pub invariant-loop-word : goal.invariant-loop-word
invariant-loop-word l = list_all is_wire_name (words_of true l.bytes) ≡ list_all is_wire_name (words_of true l.rest)

abbrev pub decreases-loop-word : goal.decreases-loop-word
decreases-loop-word l = length l.rest
