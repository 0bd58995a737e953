use Rattle.std.proofs.Common.{ℕ, ◌<◌, ◌≡◌, slice_index_or, length, None}
use Rattle.std.specs.Option.{option_copied}
use Rattle.layout_extract.specs.Tags.{IsLeast}
use Rattle.layout_extract.proofs.names.least_names.Given as goal

abbrev pub invariant-loop-tag : goal.invariant-loop-tag
invariant-loop-tag l = (length l.least.items ≡ l.count) × ((net : ℕ) → net < l.count → IsLeast l.tags l.tag-index net (option_copied (slice_index_or l.least.items net None)))
