use Rattle.std.proofs.Common.{sym, subst}
use Rattle.std.specs.List.{All}
use Rattle.std.proofs.lemmas.List.Elements.{All-push}
use Rattle.clause_arena.specs.Arenas.{IsNormal}
use Rattle.clause_arena.proofs.arena.Arena.add.Goals as goal

pub invariant_of-self-2 : goal.invariant_of-self-2
invariant_of-self-2 c = subst (All IsNormal) (sym c.in_ok-add.ensures.clauses) (All-push IsNormal _ c.args.lits.now c.self.invariant c.requires)
