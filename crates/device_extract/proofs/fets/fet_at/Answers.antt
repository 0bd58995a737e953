use Rattle.std.proofs.Common.{sym, ◌∙◌}
use Rattle.layer_map.specs.Views.{fet_seen}
use Rattle.device_extract.proofs.FetLists.{line_at, line_in, some_of, fet_here, some_net}
use Rattle.device_extract.proofs.fets.fet_at.Goals as goal

pub unwrap-requires : goal.unwrap-requires
unwrap-requires c = some_of c.pair.result (c.requires.pair.a, c.requires.pair.b) (c.pair.ensures c.requires.pair.a c.requires.pair.b c.requires.pair.is)

pub returns : goal.returns
returns c =
    let at = line_at c.fets.result.now c.args.map.now.fets c.args.root.now.wire c.index-fets-root.result c.index-fets-root.result c.fets.ensures.same (line_in c.fets.result.now c.args.map.now.fets c.args.root.now.wire c.requires.gate.fet c.fets.ensures.same c.requires.gate.at) c.index-fets-root.is in
    fet_here c.args.map.now c.args.traced.now c.args.root.now c.args.ends (fet_seen c.index-fets-root.result) c.cell_of.result c.unwrap-gate.result c.requires.pair.a c.requires.pair.b c.unwrap.result at c.cell_of.ensures.x c.cell_of.ensures.y (some_net c.net_at.result c.unwrap-gate.result _ _ c.net_at.ensures c.unwrap-gate.ensures) c.requires.pair.is (sym (c.pair.ensures c.requires.pair.a c.requires.pair.b c.requires.pair.is) ∙ c.unwrap.ensures)
