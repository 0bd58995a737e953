use Rattle.std.proofs.Common.{◌+◌, refl, ap}
use Rattle.probe_io.proofs.Putting.{puts_cut, cut_is}
use Rattle.defect_sweep.specs.Counting.{BridgeCount}
use Rattle.bridge_rank.specs.Lines.{line_names}
use Rattle.bridges_command.proofs.LineLemmas.{line_at, put_is, put_line, cut_line}
use Rattle.bridges_command.proofs.report.put_bridges.Goals as goal

pub returns-in_err-put : goal.returns-in_err-put
returns-in_err-put g c =
    let wires = line_names c.args.listed.now.wires.now in
    let names = c.args.listed.now.names.now in
    puts_cut c.from_residual.ensures.0
    (cut_line wires names c.args.listed.now.ranked.now c.loop-index.index c.bridge-item.result c.loop-index-test.true c.loop-index.invariant.written
    (cut_is (ap (λ (b : BridgeCount). line_at wires names (c.loop-index.index + 1) b) c.bridge-item.is) c.in_err-put.ensures.cut))

pub loop-index-preserved : goal.loop-index-preserved
loop-index-preserved g c =
    let wires = line_names c.args.listed.now.wires.now in
    let names = c.args.listed.now.names.now in
    record {
      written = put_line wires names c.args.listed.now.ranked.now c.loop-index.index c.bridge-item.result c.loop-index-test.true refl c.loop-index.invariant.written
          (put_is (ap (λ (b : BridgeCount). line_at wires names (c.loop-index.index + 1) b) c.bridge-item.is) c.in_ok-put.ensures.whole);
    }
