use Rattle.switch_net.proofs.Paths.{reached_from, path_from}
use Rattle.switch_net.proofs.laws.paths_are_chains.Goals as goal

pub returns-clause-chain : goal.returns-clause-chain
returns-clause-chain c = λ circuit fets v a b. reached_from circuit fets v a b

pub returns-clause-path : goal.returns-clause-path
returns-clause-path c = λ circuit fets v a b. path_from circuit fets v a b
