use Rattle.std.proofs.Common.{true, length}
use Rattle.layer_map.specs.Words.{words_of}
use Rattle.layer_map.specs.Views.{numbers_seen}
use Rattle.layer_map.proofs.AddingLemmas.{IsNumbered}
use Rattle.layer_map.proofs.judge.numbers_of.Given as goal

abbrev pub invariant-loop-name : goal.invariant-loop-name
invariant-loop-name l = IsNumbered l.wires (words_of true l.names) (words_of true l.rest) (numbers_seen l.numbers.items)

abbrev pub decreases-loop-name : goal.decreases-loop-name
decreases-loop-name l = length l.rest
