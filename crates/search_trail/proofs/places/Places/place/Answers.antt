use Rattle.std.proofs.Common.{sym, ap, ◌≡◌, ◌∙◌, subst, false}
use Rattle.clause_base.specs.Literals.{is_in}
use Rattle.search_trail.specs.Placing.{rank}
use Rattle.search_trail.proofs.Table.{not_ranked}
use Rattle.search_trail.proofs.places.Places.place.Goals as goal

pub returns-then-rank-eq0-clause-none : goal.returns-then-rank-eq0-clause-none
returns-then-rank-eq0-clause-none c =
    let none : rank c.self.inside.ranks.items c.args.lit ≡ 0 = ap (λ rs. rank rs c.args.lit) (sym c.as_slice.ensures.value) ∙ sym c.rank_of-rank.ensures ∙ c.if-rank-eq0.true in
    subst (λ placed. is_in placed.lits c.args.lit ≡ false) c.self.view_is (not_ranked c.self.inside.vars c.self.inside.ranks.items c.self.inside.lits.items c.args.lit c.self.invariant none)
