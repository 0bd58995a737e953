use Rattle.std.proofs.Common.{ℕ, ◌≡◌, List, length, slice_get, Some}
use Rattle.layout_extract.specs.Tags.{IsNameBy}
use Rattle.layout_extract.proofs.names.named.Given as goal

abbrev pub invariant-loop-number : goal.invariant-loop-number
invariant-loop-number l = (length l.names.items ≡ l.number) × ((net : ℕ) (name : List ℕ) → slice_get l.names.items net ≡ Some name → IsNameBy l.tags net name)
