use Rattle.cif_grammar.proofs.Numbers.{first_digits}
use Rattle.cif_grammar.proofs.words.digits_of.Goals as goal

pub value_of_digits-requires : goal.value_of_digits-requires
value_of_digits-requires c = rw c.digits-count.ensures.value (first_digits c.args.bytes.now)
