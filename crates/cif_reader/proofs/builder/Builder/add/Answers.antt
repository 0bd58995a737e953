use Rattle.std.proofs.Common.{arith}
use Rattle.cif_grammar.specs.Words.{limit}
use Rattle.cif_reader.proofs.Starting.{start_small, none_in}
use Rattle.cif_reader.proofs.Building.{start_built, finish_built, on_ok5}
use Rattle.cif_reader.proofs.builder.Builder.add.Goals as goal

pub overflow_cast-symbol : goal.overflow_cast-symbol
unfolding limit
overflow_cast-symbol c = omega (arith, start_small c.in-Start.symbol c.in-Start.scale (rw c.in-Start.is at c.requires.fine.small))

pub returns-in-Start : goal.returns-in-Start
returns-in-Start c =
    rw c.in-Start.is (λ before h may fine.
    start_built before c.args.self.now _ c.args.pos c.in-Start.symbol c.in-Start.scale h may fine c.start.ensures.layer c.start.ensures.outer (rw c.scale_of.ensures at c.start.ensures.opening) c.start.ensures.items c.start.ensures.file)

pub returns-in-Finish : goal.returns-in-Finish
returns-in-Finish c =
    rw c.in-Finish.is (λ before h may fine.
    on_ok5 c.finish.result
    (λ same_layer same_outer none top closed. finish_built before c.args.self.now _ c.args.pos h same_layer same_outer none top closed (none_in _ none))
    c.finish.ensures.layer c.finish.ensures.outer c.finish.ensures.opening c.finish.ensures.top c.finish.ensures.symbols)
