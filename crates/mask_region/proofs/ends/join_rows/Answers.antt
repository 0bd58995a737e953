use Rattle.std.proofs.Common.{rules, w32, FitsSigned}
use Rattle.std.proofs.lemmas.Int.{to_z-of_z}
use Rattle.mask_region.proofs.Rows.{joined_more, skip_first, skip_second}
use Rattle.mask_region.proofs.ends.join_rows.Goals as goal

pub loop-x-preserved-then-len-count : goal.loop-x-preserved-then-len-count
loop-x-preserved-then-len-count c =
    let f : FitsSigned w32 c.in-Some.x = search rules in
    joined_more c.args.op c.args.a.now c.args.b.now c.loop-x.i c.loop-x.j c.loop-x.out.items c.in-Some.x c.past-i.result c.past-j.result _ c.loop-x.invariant
    (simp to_z-of_z at c.past-i.ensures) (simp to_z-of_z at c.past-j.ensures) (rw (← c.of.ensures) (simp to_z-of_z at c.in_ok-turn.ensures))

pub loop-x-preserved : goal.loop-x-preserved
loop-x-preserved c =
    let f : FitsSigned w32 c.in-Some.x = search rules in
    let a = c.args.a.now in
    let b = c.args.b.now in
    let op = c.args.op in
    let here =
    joined_more op a b c.loop-x.i c.loop-x.j c.loop-x.out.items c.in-Some.x c.past-i.result c.past-j.result _ c.loop-x.invariant
    (simp to_z-of_z at c.past-i.ensures) (simp to_z-of_z at c.past-j.ensures) (rw (← c.of.ensures) (simp to_z-of_z at c.in_ok-turn.ensures))
    in
    let second = skip_second op a b c.past-i.result c.past-j.result _ c.skip_second-j.result here c.skip_second-j.ensures.skipped c.skip_second-j.ensures.settled in
    skip_first op a b c.past-i.result c.skip_second-j.result _ c.skip_first-i.result second c.skip_first-i.ensures.skipped c.skip_first-i.ensures.settled
