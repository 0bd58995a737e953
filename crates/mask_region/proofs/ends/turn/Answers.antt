use Rattle.std.proofs.Common.{◌∙◌, w32, FitsSigned}
use Rattle.std.proofs.lemmas.Int.{to_z-of_z}
use Rattle.mask_region.proofs.Rows.{turned_more, turned_none, odd_other, odd_same}
use Rattle.mask_region.proofs.ends.turn.Goals as goal

pub returns-in_ok-push : goal.returns-in_ok-push
returns-in_ok-push c =
    let f : FitsSigned w32 c.args.x = c.ranges.x in
    turned_more c.args.ends.now.items _ c.args.x c.args.on (simp to_z-of_z at c.in_ok-push.ensures.items)
    (odd_other c.len.result _ c.args.on (c.len.ensures ∙ c.args.ends.now.ok.0) c.if-len-on.true) c.requires.rising c.requires.near c.requires.before

pub returns-else-len-on : goal.returns-else-len-on
returns-else-len-on c = turned_none c.args.ends.now.items c.args.x c.args.on (odd_same c.len.result _ c.args.on (c.len.ensures ∙ c.args.ends.now.ok.0) c.if-len-on.false) c.requires.rising c.requires.before
