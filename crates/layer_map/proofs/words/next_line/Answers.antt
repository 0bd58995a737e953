use Rattle.layer_map.proofs.LineLemmas.{read_line, read_last_line}
use Rattle.layer_map.proofs.WordLemmas.{positive}
use Rattle.layer_map.proofs.words.next_line.Goals as goal

pub returns-in-None-clause-line : goal.returns-in-None-clause-line
returns-in-None-clause-line c = read_last_line c.args.bytes.now (positive _ c.if-is_empty.ensures) (c.in-None.ensures)

pub returns-in-Some-clause-line : goal.returns-in-Some-clause-line
returns-in-Some-clause-line c = read_line c.args.bytes.now _ _ c.in-Some.ensures c.without_return.ensures
