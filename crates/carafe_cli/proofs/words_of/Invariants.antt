use Rattle.std.proofs.Common.{◌≡◌, ◌++◌, map, length}
use Rattle.std.specs.Prelude.{string_bytes}
use Rattle.std.specs.Vec.Iter.{into_iter_items, into_iter_len}
use Rattle.carafe_cli.proofs.words_of.Given as goal

-- the words so far are the arguments so far, after which the others are to come
abbrev pub invariant-loop-argument : goal.invariant-loop-argument
invariant-loop-argument l = record {
  all : l.yielded ++ into_iter_items l.argument-iterator ≡ into_iter_items l.initial.argument-iterator;
  words : l.words.items ≡ map string_bytes l.yielded;
  left : into_iter_len l.argument-iterator ≡ length (into_iter_items l.argument-iterator);
}
