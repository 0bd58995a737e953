use Rattle.cif_reader.proofs.Fields.{all_digits}
use Rattle.cif_reader.proofs.label.size_of.Goals as goal

pub value_of_digits-value-requires : goal.value_of_digits-value-requires
value_of_digits-value-requires c = all_digits c.args.digits.now c.are_digits.result c.if-not-are_digits.false c.are_digits.ensures
