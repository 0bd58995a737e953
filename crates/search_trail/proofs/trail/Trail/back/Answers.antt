use Rattle.std.proofs.Common.{◌≡◌, length, slice_index_or, ◌∙◌, ap}
use Rattle.search_trail.proofs.Growing.{back_by}
use Rattle.search_trail.proofs.trail.Trail.back.Goals as goal

pub invariant_of-self : goal.invariant_of-self
invariant_of-self c =
    let starts = c.self.inside.starts.items in
    let lits = c.self.inside.places.lits in
    let size : c.front_size-size.result ≡ slice_index_or starts c.args.level (length lits) =
    c.front_size-size.ensures ∙ ap (λ s. slice_index_or s c.args.level c.len.result) c.as_slice.ensures.value ∙ ap (λ n. slice_index_or starts c.args.level n) c.len.ensures in
    back_by c.self.inside.places.vars c.truncate.new.self.vars c.self.inside.clauses lits c.truncate.new.self.lits c.self.inside.reasons.items c.truncate-2.new.self.items starts c.truncate-3.new.self.items
    c.truncate.ensures.vars c.self.invariant c.args.level c.front_size-size.result size c.truncate.ensures.lits c.truncate-2.ensures.items c.truncate-3.ensures.items
