use Rattle.std.proofs.Common.{◌≡◌, ◌+◌, ◌<◌, ◌≤◌, nat_abs, length, sym, ap, ◌∙◌, subst, false}
use Rattle.std.proofs.lemmas.List.{length_push}
use Rattle.clause_base.specs.Literals.{is_in}
use Rattle.clause_base.specs.Literals.{code_of}
use Rattle.clause_base.proofs.LiteralLemmas.{coded}
use Rattle.search_trail.proofs.Table.{pushed}
use Rattle.search_trail.proofs.places.Places.push.Goals as goal

pub invariant_of-self-2 : goal.invariant_of-self-2
invariant_of-self-2 c =
    let fresh : is_in c.self.inside.lits.items c.args.lit ≡ false = subst (λ placed. is_in placed.lits c.args.lit ≡ false) (sym c.self.view_is) c.requires.fresh in
    let room : code_of c.args.lit < length c.self.inside.ranks.items = subst (λ n. code_of c.args.lit < n) (sym c.self.invariant.size)
    (coded c.self.inside.vars c.args.lit (subst (λ placed. nat_abs c.args.lit ≤ placed.vars) (sym c.self.view_is) c.requires.within)) in
    let made = c.in_ok-push.ensures.items in
    let size : c.len.result ≡ length c.self.inside.lits.items + 1 = c.len.ensures ∙ c.push.new.self.ok.0 ∙ ap length made ∙ length_push c.self.inside.lits.items c.args.lit in
    pushed c.self.inside.vars c.self.inside.ranks.items c.set_rank.new.ranks.items c.self.inside.lits.items c.push.new.self.items c.args.lit c.self.invariant c.len.result
    fresh room made size c.set_rank.ensures.list c.set_rank.ensures.ranks
