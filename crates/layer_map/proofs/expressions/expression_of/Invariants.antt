use Rattle.std.proofs.Common.{true, length}
use Rattle.layer_map.specs.Words.{words_of}
use Rattle.layer_map.proofs.Parsing.{IsScanned}
use Rattle.layer_map.proofs.expressions.expression_of.Given as goal

abbrev pub invariant-loop-word : goal.invariant-loop-word
invariant-loop-word l = IsScanned (words_of true l.bytes) (words_of true l.rest) l.scan (length l.bytes) (length l.rest)

abbrev pub decreases-loop-word : goal.decreases-loop-word
decreases-loop-word l = length l.rest
