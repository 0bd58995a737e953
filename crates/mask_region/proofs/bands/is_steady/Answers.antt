use Rattle.std.proofs.Common.{ap, arith, ◌∙◌, ◌≡◌, ℕ, true, not, nat_eq, w32, of_z}
use Rattle.mask_region.proofs.Banding.{no_strip, steady_at}
use Rattle.mask_region.proofs.bands.is_steady.Goals as goal

apart_bits : (x y : ℕ) → not (nat_eq x y) ≡ true → x ≡ y → ⊥
apart_bits x y h e = grind (arith, h, e)

pub returns-in-Some : goal.returns-in-Some
returns-in-Some c apart =
    let here = c.in-Some.ensures.lookup.3 in (
      c.if-k-i.false,
      steady_at c.args.strips.now c.args.k c.args.y here.0 c.requires.banded c.requires.ahead
          (λ same. apart_bits _ _ apart (ap (λ s. of_z w32 s.y0) (here.1 no_strip) ∙ ap (of_z w32) same)),
    )
