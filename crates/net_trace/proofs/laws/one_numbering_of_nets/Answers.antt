use Rattle.net_trace.proofs.NetNumbers.{net_one, net_links, net_roots, net_count, net_region}
use Rattle.net_trace.proofs.laws.one_numbering_of_nets.Goals as goal

pub returns-clause-number : goal.returns-clause-number
returns-clause-number c = net_one

pub returns-clause-linked : goal.returns-clause-linked
returns-clause-linked c = net_links

pub returns-clause-roots : goal.returns-clause-roots
returns-clause-roots c = net_roots

pub returns-clause-count : goal.returns-clause-count
returns-clause-count c = net_count

pub returns-clause-region : goal.returns-clause-region
returns-clause-region c = λ nets net wire p q first second x y. λ i. net_region nets net wire p q first second i x y
