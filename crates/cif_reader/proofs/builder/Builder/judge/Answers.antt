use Rattle.std.proofs.Common.{◌∙◌}
use Rattle.cif_grammar.specs.Seen.{seen}
use Rattle.cif_reader.proofs.Building.{judged}
use Rattle.cif_reader.proofs.builder.Builder.judge.Goals as goal

pub returns : goal.returns
returns c = λ before h. c.judge.ensures ∙ judged before c.args.self.now c.args.pos (seen c.args.command.now) c.scale.result c.is_twice.result h c.scale.ensures (λ none. c.is_twice.ensures before h none)
