-- The bytes get fewer, or they stay and the call is of an inner form.
use Rattle.std.proofs.Common.{◌+◌, ◌*◌, length}
use Rattle.layer_map.proofs.building.+expressions.Given as goal

abbrev pub decreases-factor : goal.decreases-factor
decreases-factor l = 4 * length l.bytes.now

abbrev pub decreases-group : goal.decreases-group
decreases-group l = 4 * length l.bytes.now + 3

abbrev pub decreases-more_factors : goal.decreases-more_factors
decreases-more_factors l = 4 * length l.bytes.now

abbrev pub decreases-more_products : goal.decreases-more_products
decreases-more_products l = 4 * length l.bytes.now

abbrev pub decreases-product : goal.decreases-product
decreases-product l = 4 * length l.bytes.now + 1

abbrev pub decreases-sum : goal.decreases-sum
decreases-sum l = 4 * length l.bytes.now + 2
