use Rattle.std.proofs.Common.{◌≡◌, ◌+◌, ◌∷◌, [], ◌++◌, length, sym, ap, ◌∙◌, subst, arith}
use Rattle.clause_watches.specs.Listing.{AreListed}
use Rattle.clause_watches.proofs.Listings.{joined, added}
use Rattle.clause_watches.proofs.lists.Lists.add.Goals as goal

pub invariant_of-self-in_err-join_both : goal.invariant_of-self-in_err-join_both
invariant_of-self-in_err-join_both c =
    let number : c.len-number.result ≡ length c.self.inside.pairs.items = c.len-number.ensures ∙ c.self.inside.pairs.ok.0 in (
      c.join_both.ensures.size ∙ c.self.invariant.0,
      subst (λ ps. AreListed ps c.join_both.new.lists.items) (sym c.in_ok-reserve.ensures.items)
          (joined c.self.inside.pairs.items c.self.inside.lists.items c.join_both.new.lists.items c.self.invariant.1 (c.len-number.result + 1) (omega arith) c.join_both.ensures.kept c.join_both.ensures.only),
    )

pub invariant_of-self-2 : goal.invariant_of-self-2
invariant_of-self-2 c =
    let number : c.len-number.result + 1 ≡ length c.self.inside.pairs.items + 1 = ap (λ n. n + 1) (c.len-number.ensures ∙ c.self.inside.pairs.ok.0) in
    let made : c.push.new.self.items ≡ c.self.inside.pairs.items ++ c.args.pair ∷ [] = c.in-Ok.ensures.items ∙ ap (λ ps. ps ++ c.args.pair ∷ []) c.in_ok-reserve.ensures.items in (
      c.join_both.ensures.size ∙ c.self.invariant.0,
      added c.self.inside.pairs.items c.self.inside.lists.items c.join_both.new.lists.items c.self.invariant.1 (c.len-number.result + 1) c.args.pair c.push.new.self.items number made
          c.join_both.ensures.kept c.join_both.ensures.only c.in_ok-join_both.ensures.first c.in_ok-join_both.ensures.second,
    )
