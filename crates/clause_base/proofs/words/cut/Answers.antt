use Rattle.clause_base.proofs.PartLemmas.{last_part, first_part}
use Rattle.clause_base.proofs.words.cut.Goals as goal

pub returns-then-len-part-clause-parts : goal.returns-then-len-part-clause-parts
returns-then-len-part-clause-parts c cuts is = last_part cuts c.args.part.at c.args.len c.args.part.text.now c.if-len-part.true is

pub returns-clause-parts : goal.returns-clause-parts
returns-clause-parts c cuts is = first_part cuts c.args.part.at c.args.len c.args.part.text.now c.requires c.if-len-part.false is
