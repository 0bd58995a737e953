use Rattle.layout_extract.proofs.MarkCounts.{few_marks, refuses_from}
use Rattle.layout_extract.proofs.naming.name_nets.Goals as goal

pub name_layout-requires : goal.name_layout-requires
name_layout-requires c = few_marks c.args.file.now c.in_ok-flat.flat c.in_ok-flat.ensures.flat

pub returns-clause-refused : goal.returns-clause-refused
returns-clause-refused c = λ refusal e. refuses_from c.args.file.now c.args.map.now c.in_ok-flat.flat c.in_ok-flat.ensures.flat refusal (c.name_layout.ensures.refused refusal e)
