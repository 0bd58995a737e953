use Rattle.std.proofs.Common.{true}
use Rattle.layer_map.specs.Words.{words_of}
use Rattle.layer_map.proofs.AddingLemmas.{all_found}
use Rattle.layer_map.proofs.judge.wires_of.Goals as goal

pub returns : goal.returns
returns c = all_found c.numbers_of.result c.args.wires.now (words_of true c.args.names.now) c.numbers_of.ensures
