-- Numbers of mask units in a scale.
use Rattle.std.proofs.Common.{◌≡◌, ℕ, ◌*◌, ◌/◌, ◌≤◌, Bool, false, ◌||◌, nat_lt, arith}
use Rattle.std.proofs.Math.Nat.{div-le_of_le-mul}
use Rattle.std.proofs.lemmas.Bool.Decides.{nat_tests}
use Rattle.std.proofs.lemmas.Bool.{or_parts}
use Rattle.cif_grammar.specs.Words.{limit}

not_below : (m n : ℕ) → nat_lt m n ≡ false → n ≤ m
not_below m n h = grind (arith, nat_tests)

turned_round : (m n k : ℕ) → k ≤ m * n → k ≤ n * m
turned_round m n k h = omega arith

-- What is not far is small.
pub quotient_small : (most b m : ℕ) → nat_lt (most * b) m ≡ false → m / b ≤ most
quotient_small most b m h = div-le_of_le-mul b (turned_round most b m (not_below (most * b) m h))

-- the first number of a list where none is large
pub number_small : (n : ℕ) (rest : Bool) → (nat_lt limit n || rest) ≡ false → n ≤ limit
number_small n rest h = not_below limit n (or_parts (nat_lt limit n) rest h).0
