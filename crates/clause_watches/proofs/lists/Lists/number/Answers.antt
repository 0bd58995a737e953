use Rattle.std.proofs.Common.{◌<◌, length, slice_index_or, sym, ap, ◌∙◌, subst}
use Rattle.clause_watches.specs.Listing.{list_of}
use Rattle.clause_watches.proofs.Listings.{number_some}
use Rattle.clause_watches.proofs.lists.Lists.number.Goals as goal

pub returns-clause-some : goal.returns-clause-some
returns-clause-some c = subst (λ n. 0 < n) (sym (c.number_in.ensures ∙ ap (λ ls. slice_index_or (list_of ls c.args.lit) c.args.index 0) c.as_slice.ensures.value))
    (number_some c.self.inside.pairs.items c.self.inside.lists.items c.args.lit c.args.index c.self.invariant.1 (subst (λ s. c.args.index < length (list_of s.lists c.args.lit)) (sym c.self.view_is) c.requires))
