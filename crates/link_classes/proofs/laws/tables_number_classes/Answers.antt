use Rattle.link_classes.proofs.TableNumbers.{table_number, table_one, table_linked, table_count}
use Rattle.link_classes.proofs.laws.tables_number_classes.Goals as goal

pub returns-clause-number : goal.returns-clause-number
returns-clause-number c = λ size touch label least a h lt. table_number size touch label least h a lt

pub returns-clause-same : goal.returns-clause-same
returns-clause-same c = λ size touch label least a b h linked. table_one size touch label least h a b linked

pub returns-clause-linked : goal.returns-clause-linked
returns-clause-linked c = λ size touch label least a b h a_lt b_lt same. table_linked size touch label least h a b a_lt b_lt same

pub returns-clause-count : goal.returns-clause-count
returns-clause-count c = λ size touch label least h. table_count size touch label least h
