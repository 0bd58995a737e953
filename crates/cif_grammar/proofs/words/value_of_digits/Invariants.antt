use Rattle.std.proofs.Common.{◌≡◌, ◌+◌, take, min}
use Rattle.std.specs.Str.Parse.{digits_value}
use Rattle.cif_grammar.specs.Words.{limit}
use Rattle.cif_grammar.proofs.words.value_of_digits.Given as goal

abbrev pub invariant-loop-digit : goal.invariant-loop-digit
invariant-loop-digit l = l.value ≡ min (digits_value 10 (take l.digit-index l.digits)) (limit + 1)
