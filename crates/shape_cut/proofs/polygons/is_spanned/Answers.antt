use Rattle.std.proofs.Common.{arith}
use Rattle.std.proofs.lemmas.Int.{ints, by_lt_z}
use Rattle.shape_cut.proofs.polygons.is_spanned.Goals as goal

pub returns : goal.returns
returns c =
    by_lt_z c.args.y c.args.a
    (λ p. by_lt_z c.args.y c.args.b (λ q. grind (arith, ints)) (λ q. grind (arith, ints)))
    (λ p. by_lt_z c.args.y c.args.b (λ q. grind (arith, ints)) (λ q. grind (arith, ints)))
