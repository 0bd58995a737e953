use Rattle.std.proofs.Common.{arith, refl, subst, w32, FitsSigned}
use Rattle.std.specs.Prelude.{ℤ, ◌<ℤ◌, Option, IfSome}
use Rattle.std.proofs.lemmas.Int.{ints, to_z-of_z}
use Rattle.mask_region.proofs.Rows.{odd_same, all_on}
use Rattle.mask_region.proofs.ends.is_all.Goals as goal

pub returns-in-Some : goal.returns-in-Some
returns-in-Some c whole z low right =
    let f : FitsSigned w32 c.args.left = c.ranges.left in
    let P : Option ℤ → Type 0 = λ o. IfSome o (λ r. z <ℤ r) in
    let up : z <ℤ c.in-Some.limit = subst P c.in-Some.is right in
    let last = simp to_z-of_z at c.if-not-is_up_to.ensures in
    all_on c.args.ends.now c.first_from-k.result c.args.left z c.args.on c.requires.rising c.first_from-k.ensures.in_range
    (odd_same c.first_from-k.result c.first_from-k.result c.args.on refl c.if-k-on.false) (last refl) low
    (λ lt. let far = c.is_from.ensures whole lt in omega (arith, ints, far, up))

pub returns-in-None : goal.returns-in-None
returns-in-None c whole z low right =
    let f : FitsSigned w32 c.args.left = c.ranges.left in
    let last = simp to_z-of_z at c.if-not-is_up_to.ensures in
    all_on c.args.ends.now c.first_from-k.result c.args.left z c.args.on c.requires.rising c.first_from-k.ensures.in_range
    (odd_same c.first_from-k.result c.first_from-k.result c.args.on refl c.if-k-on.false) (last refl) low
    (λ lt. absurd (grind (arith, whole, lt)))
