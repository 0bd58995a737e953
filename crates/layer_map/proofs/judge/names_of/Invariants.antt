use Rattle.std.proofs.Common.{◌≡◌, ◌++◌, false, length}
use Rattle.layer_map.specs.Words.{words_of}
use Rattle.layer_map.proofs.judge.names_of.Given as goal

abbrev pub invariant-loop-name : goal.invariant-loop-name
invariant-loop-name l = words_of false l.bytes ≡ l.names.items ++ words_of false l.rest

abbrev pub decreases-loop-name : goal.decreases-loop-name
decreases-loop-name l = length l.rest
