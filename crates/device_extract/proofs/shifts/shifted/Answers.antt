use Rattle.std.proofs.Common.{◌++◌, ◌∷◌, [], ap, sym, ◌∙◌, subst, List}
use Rattle.std.specs.Prelude.{◌-ℤ◌}
use Rattle.mask_region.specs.declared.strips.Strip.{Strip}
use Rattle.mask_region.specs.Strips.{is_in, Banded, AreStripsWithin}
use Rattle.device_extract.proofs.Shifting.{strip_is, shifted_banded, shifted_more, shifted_all}
use Rattle.device_extract.proofs.shifts.shifted.Goals as goal

pub push-requires : goal.push-requires
push-requires c =
    let is = strip_is c.args.side.right c.args.side.up _ c.strip_shifted.result c.strip_shifted.ensures.y0 c.strip_shifted.ensures.y1 c.strip_shifted.ensures.x0 c.strip_shifted.ensures.x1 in
    subst (λ (s : Strip). Banded (c.loop-strip.shifted ++ s ∷ [])) (sym is)
    (shifted_banded c.args.side.right c.args.side.up c.strips-strip-items.result.now c.loop-strip.shifted c.loop-strip.strip-index _ c.requires.step
    (subst Banded (sym c.strips-strip-items.ensures.same) c.strips-strip-items.ensures.banded) (subst (AreStripsWithin _) (sym c.strips-strip-items.ensures.same) c.requires.within) c.loop-strip-test.true c.loop-strip.invariant)

pub loop-strip-preserved : goal.loop-strip-preserved
loop-strip-preserved c =
    let is = strip_is c.args.side.right c.args.side.up _ c.strip_shifted.result c.strip_shifted.ensures.y0 c.strip_shifted.ensures.y1 c.strip_shifted.ensures.x0 c.strip_shifted.ensures.x1 in
    shifted_more c.args.side.right c.args.side.up c.strips-strip-items.result.now c.loop-strip.shifted c.push.new.self c.loop-strip.strip-index _ c.loop-strip-test.true c.loop-strip.invariant
    (c.in_ok-push.ensures.pushed ∙ ap (λ (s : Strip). c.loop-strip.shifted ++ s ∷ []) is)

pub returns : goal.returns
returns c x y =
    shifted_all c.args.side.right c.args.side.up c.strips-strip-items.result.now c.loop-strip.shifted c.loop-strip.strip-index c.loop-strip-test.false c.loop-strip.invariant x y
    ∙ ap (λ (l : List Strip). is_in l (x -ℤ c.args.side.right) (y -ℤ c.args.side.up)) c.strips-strip-items.ensures.same
