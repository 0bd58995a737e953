use Rattle.std.proofs.Common.{◌-◌, ◌<◌, length, arith}
use Rattle.std.proofs.lemmas.Option.{slice_get-get_or}
use Rattle.layout_extract.proofs.PairLists.{chained_more, chained_whole}
use Rattle.layout_extract.proofs.joins.chained.Goals as goal

pub loop-k-preserved : goal.loop-k-preserved
loop-k-preserved c =
    let lt = c.loop-k-test.true in
    let some = c.loop-k.auto.k in
    let low : c.loop-k.k - 1 < length c.args.nets.now = omega (arith, lt, some) in
    rw c.in_ok-push.ensures.items
    (chained_more c.args.nets.now c.loop-k.pairs.items c.loop-k.k _ _ some (slice_get-get_or c.args.nets.now (c.loop-k.k - 1) _ low) (slice_get-get_or c.args.nets.now c.loop-k.k _ lt) c.loop-k.invariant)

pub returns : goal.returns
returns c = chained_whole c.args.nets.now c.loop-k.pairs.items c.loop-k.k c.loop-k-test.false c.loop-k.invariant
