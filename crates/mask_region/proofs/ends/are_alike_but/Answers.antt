use Rattle.std.proofs.Common.{rules, ap, refl, inl, inr, nat_eq, w32, FitsSigned}
use Rattle.std.proofs.lemmas.Int.{to_z-of_z}
use Rattle.mask_region.proofs.Rows.{alike_start, alike_more, before_next}
use Rattle.mask_region.proofs.ends.are_alike_but.Goals as goal

pub loop-x-init : goal.loop-x-init
loop-x-init c = alike_start c.args.old.now c.args.new.now c.args.other.now c.args.settling _ c.requires.old c.requires.new c.common_ends-same.ensures

pub loop-x-preserved-then-i-j : goal.loop-x-preserved-then-i-j
loop-x-preserved-then-i-j c =
    let f : FitsSigned w32 c.in-Some.x = search rules in
    alike_more c.args.old.now c.args.new.now c.args.other.now c.args.settling c.loop-x.i c.loop-x.j c.in-Some.x c.past-i.result c.past-j.result c.loop-x.invariant c.in-Some.ensures.some
    (simp to_z-of_z at c.past-i.ensures) (simp to_z-of_z at c.past-j.ensures) (λ z le below_old below_new. inl (ap (λ r. nat_eq r 1) c.if-i-j.true))

pub loop-x-preserved : goal.loop-x-preserved
loop-x-preserved c =
    let f : FitsSigned w32 c.in-Some.x = search rules in
    let settled = simp to_z-of_z at c.if-not-is_all.ensures in
    alike_more c.args.old.now c.args.new.now c.args.other.now c.args.settling c.loop-x.i c.loop-x.j c.in-Some.x c.past-i.result c.past-j.result c.loop-x.invariant c.in-Some.ensures.some
    (simp to_z-of_z at c.past-i.ensures) (simp to_z-of_z at c.past-j.ensures)
    (λ z le below_old below_new.
    inr (settled refl z le (before_next _ c.args.old.now c.past-i.result c.args.new.now c.past-j.result z c.next_end-in-Some.ensures.some below_old below_new)))
