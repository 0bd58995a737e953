use Rattle.std.proofs.Common.{length}
use Rattle.layer_map.specs.Words.{words_of}
use Rattle.layer_map.proofs.AddingLemmas.{IsCounted}
use Rattle.layer_map.proofs.judge.count_words.Given as goal

abbrev pub invariant-loop-behind : goal.invariant-loop-behind
invariant-loop-behind l = IsCounted (words_of l.signs l.bytes) (words_of l.signs l.rest) l.count (length l.bytes) (length l.rest)

abbrev pub decreases-loop-behind : goal.decreases-loop-behind
decreases-loop-behind l = length l.rest
