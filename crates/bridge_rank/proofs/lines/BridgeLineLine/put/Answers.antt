use Rattle.std.proofs.Common.{ℕ, List, ◌++◌, refl, ap}
use Rattle.std.specs.Prelude.{flat_map}
use Rattle.layer_map.specs.declared.map.WireId.{WireId}
use Rattle.probe_io.proofs.Putting.{puts_cut, puts_then, puts_is, puts_of, cut_is, cut_after, cut_more}
use Rattle.bridge_rank.specs.Lines.{bridge_start, wire_count, line_names}
use Rattle.bridge_rank.proofs.lines.BridgeLineLine.put.Goals as goal

pub returns-in_err-put_counts : goal.returns-in_err-put_counts
returns-in_err-put_counts g c =
    let line = c.args.self.now in
    puts_cut c.from_residual-in_err-put_counts.ensures.0
    (cut_is (ap (λ (on : List (WireId × ℕ)). bridge_start line.names.now line.place line.bridge.now ++ (flat_map (wire_count (line_names line.wires.now)) on ++ line.end.now)) c.on.ensures)
    (cut_after c.in_ok-put_start.ensures.whole (cut_more _ c.in_err-put_counts.ensures.cut)))

pub returns : goal.returns
returns g c =
    let line = c.args.self.now in
    puts_is (ap (λ (on : List (WireId × ℕ)). bridge_start line.names.now line.place line.bridge.now ++ (flat_map (wire_count (line_names line.wires.now)) on ++ line.end.now)) c.on.ensures)
    (puts_then refl c.in_ok-put_start.ensures (puts_then refl c.in_ok-put_counts.ensures (puts_of c.put_all.ensures.ok c.put_all.ensures.front c.put_all.ensures.cause)))
