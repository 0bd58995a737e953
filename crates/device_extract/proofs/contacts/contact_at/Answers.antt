use Rattle.device_extract.proofs.Contacting.{none_left, none_right, contact_here}
use Rattle.device_extract.proofs.contacts.contact_at.Goals as goal

pub returns-in_err-fet-clause-none : goal.returns-in_err-fet-clause-none
returns-in_err-fet-clause-none c is = none_left c.args.pieces.now c.args.traced.now c.args.side.line c.args.side.diff.0 _ _ _ _ c.channel_at.result.x c.channel_at.result.y c.channel_at.ensures.x c.channel_at.ensures.y c.in_err-fet.ensures

pub returns-in_err-net-clause-none : goal.returns-in_err-net-clause-none
returns-in_err-net-clause-none c is = none_right c.args.pieces.now c.args.traced.now c.args.side.line c.args.side.diff.0 _ _ _ _ c.corner_of-cell.result.x c.corner_of-cell.result.y c.corner_of-cell.ensures.x c.corner_of-cell.ensures.y c.in_err-net.ensures

pub returns-clause-some : goal.returns-clause-some
returns-clause-some c =
    contact_here c.args.pieces.now c.args.traced.now c.args.side c.args.strip.now (c.in_ok-fet.fet, c.in_ok-net.net) c.channel_at.result.x c.channel_at.result.y c.corner_of-cell.result.x c.corner_of-cell.result.y
    c.channel_at.ensures.x c.channel_at.ensures.y c.corner_of-cell.ensures.x c.corner_of-cell.ensures.y c.in_ok-fet.ensures c.in_ok-net.ensures
