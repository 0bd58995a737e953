use Rattle.std.proofs.Common.{refl}
use Rattle.cif_grammar.specs.Seen.{seen}
use Rattle.cif_reader.proofs.Building.{nothing_built, item_built, on_ok4}
use Rattle.cif_reader.proofs.builder.Builder.say.Goals as goal

pub returns-in-None : goal.returns-in-None
returns-in-None c = λ before h bare. nothing_built before c.args.self.now c.args.pos (seen c.args.command.now) c.in_ok-what_of.field-0 c.scale-scale.result h bare c.scale-scale.ensures c.in-None.is c.in_ok-what_of.ensures.said

pub returns-in-Some : goal.returns-in-Some
returns-in-Some c = λ before h bare.
    on_ok4 c.push.result
    (λ opening inside symbols top. item_built before c.args.self.now _ c.args.pos (seen c.args.command.now) c.in-Some.what _ c.scale-scale.result h bare c.scale-scale.ensures (rw c.in-Some.is at c.in_ok-what_of.ensures.said) refl refl (rw c.in-Some.is at c.in_ok-what_of.ensures.kept) c.push.ensures.layer c.push.ensures.outer opening inside symbols top)
    c.push.ensures.opening c.push.ensures.inside c.push.ensures.symbols c.push.ensures.top
