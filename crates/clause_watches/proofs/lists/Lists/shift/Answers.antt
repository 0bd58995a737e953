use Rattle.std.proofs.Common.{◌≡◌, ◌<◌, length, slice_index_or, sym, ap, ◌∙◌, subst, arith}
use Rattle.clause_watches.specs.Listing.{list_of, pair_of, IsOther}
use Rattle.clause_watches.proofs.Listings.{number_some, joined, shifted}
use Rattle.clause_watches.proofs.lists.Lists.shift.Goals as goal

pub invariant_of-self : goal.invariant_of-self
invariant_of-self c =
    let lists = c.self.inside.lists.items in
    let at : c.number_in-number.result ≡ slice_index_or (list_of lists c.args.gone) c.args.index 0 = c.number_in-number.ensures ∙ ap (λ ls. slice_index_or (list_of ls c.args.gone) c.args.index 0) c.as_slice.ensures.value in
    let inside : c.args.index < length (list_of lists c.args.gone) = subst (λ s. c.args.index < length (list_of s.lists c.args.gone)) (sym c.self.view_is) c.requires.inside in
    let some : 0 < c.number_in-number.result = subst (λ n. 0 < n) (sym at) (number_some c.self.inside.pairs.items lists c.args.gone c.args.index c.self.invariant.1 inside) in
    (c.join.ensures.size ∙ c.self.invariant.0, joined c.self.inside.pairs.items lists c.join.new.lists.items c.self.invariant.1 c.number_in-number.result some c.join.ensures.kept c.join.ensures.only)

pub overflow_sub-number : goal.overflow_sub-number
overflow_sub-number c =
    let lists = c.self.inside.lists.items in
    let at : c.number_in-number.result ≡ slice_index_or (list_of lists c.args.gone) c.args.index 0 = c.number_in-number.ensures ∙ ap (λ ls. slice_index_or (list_of ls c.args.gone) c.args.index 0) c.as_slice.ensures.value in
    let inside : c.args.index < length (list_of lists c.args.gone) = subst (λ s. c.args.index < length (list_of s.lists c.args.gone)) (sym c.self.view_is) c.requires.inside in
    let some = number_some c.self.inside.pairs.items lists c.args.gone c.args.index c.self.invariant.1 inside in
    omega (arith, at, some)

pub invariant_of-self-2 : goal.invariant_of-self-2
invariant_of-self-2 c =
    let lists = c.self.inside.lists.items in
    let number = c.number_in-number.result in
    let at : number ≡ slice_index_or (list_of lists c.args.gone) c.args.index 0 = c.number_in-number.ensures ∙ ap (λ ls. slice_index_or (list_of ls c.args.gone) c.args.index 0) c.as_slice.ensures.value in
    let inside : c.args.index < length (list_of lists c.args.gone) = subst (λ s. c.args.index < length (list_of s.lists c.args.gone)) (sym c.self.view_is) c.requires.inside in
    let watched : IsOther (pair_of c.self.inside.pairs.items number) c.args.gone c.args.other = subst (λ n. IsOther (pair_of c.self.inside.pairs.items n) c.args.gone c.args.other) (sym at)
    (subst (λ s. IsOther (pair_of s.pairs (slice_index_or (list_of s.lists c.args.gone) c.args.index 0)) c.args.gone c.args.other) (sym c.self.view_is) c.requires.watched) in (
      c.leave.ensures.size ∙ c.join.ensures.size ∙ c.self.invariant.0,
      shifted c.self.inside.pairs.items lists c.join.new.lists.items c.leave.new.lists.items c.self.invariant.1 c.args.gone c.args.to c.args.other c.args.index number at inside
          c.requires.apart c.requires.differ watched c.join.ensures.kept c.join.ensures.only (c.join.ensures.others c.args.gone (λ same. c.requires.apart (sym same))) c.in_ok-join.ensures.joined
          c.leave.ensures.stay c.leave.ensures.none c.leave.ensures.others,
    )
