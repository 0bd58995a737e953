use Rattle.cif_reader.proofs.Fields.{labelled}
use Rattle.cif_reader.proofs.label.label_in.Goals as goal

pub returns-then-is_label : goal.returns-then-is_label
returns-then-is_label c = labelled c.args.text.now _ c.is_label.result c.if-is_label.true c.is_label.ensures c.label_of_fields.ensures
