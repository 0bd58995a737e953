use Rattle.std.proofs.Common.{ap, sym, arith, length}
use Rattle.std.proofs.lemmas.List.{length-map}
use Rattle.layer_map.specs.Views.{fet_seen}
use Rattle.net_trace.proofs.Wires.{wire_at}
use Rattle.device_extract.proofs.FetLists.{line_at, kept_at}
use Rattle.device_extract.proofs.Gating.{gated_all, gated_more, first_bare}
use Rattle.device_extract.proofs.gates.first_ungated.Goals as goal

pub bounds-wires-line : goal.bounds-wires-line
bounds-wires-line c =
    let at = line_at c.fets-line-items.result.now c.args.map.now.fets c.loop-k.k c.line-item.result c.line-item.result c.fets-line-items.ensures.same c.loop-k-test.true c.line-item.is in
    let gate = (kept_at c.args.map.now c.loop-k.k (fet_seen c.line-item.result) c.fets-line-items.ensures.kept at).gate in
    let size = ap (λ l. length l) c.wires.ensures.same in
    omega (arith, gate, size, c.requires.wires)

pub returns-in-Some-clause-first : goal.returns-in-Some-clause-first
returns-in-Some-clause-first c =
    let at = line_at c.fets-line-items.result.now c.args.map.now.fets c.loop-k.k c.line-item.result c.line-item.result c.fets-line-items.ensures.same c.loop-k-test.true c.line-item.is in
    first_bare c.args.map.now c.args.masks.now c.loop-k.k (fet_seen c.line-item.result) c.index-channels-k.result c.index-wires-line.result c.in_ok-bare.bare at
    (wire_at c.channels.result.now c.args.masks.now.channels c.loop-k.k c.index-channels-k.result c.channels.ensures.same (let size = ap (λ l. length l) c.channels.ensures.same in let lines = ap (λ l. length l) c.fets-line-items.ensures.same in let seen = length-map c.fets-line-items.result.now fet_seen in omega (arith, size, lines, seen, c.loop-k-test.true, c.requires.channels)) c.index-channels-k.is)
    (wire_at c.wires.result.now c.args.masks.now.wires c.line-item.result.gate.0 c.index-wires-line.result c.wires.ensures.same (let gate = (kept_at c.args.map.now c.loop-k.k (fet_seen c.line-item.result) c.fets-line-items.ensures.kept at).gate in let size = ap (λ l. length l) c.wires.ensures.same in omega (arith, gate, size, c.requires.wires)) c.index-wires-line.is)
    c.in_ok-bare.ensures c.loop-k.invariant c.in-Some.cell c.in-Some.ensures

pub loop-k-preserved : goal.loop-k-preserved
loop-k-preserved c =
    let at = line_at c.fets-line-items.result.now c.args.map.now.fets c.loop-k.k c.line-item.result c.line-item.result c.fets-line-items.ensures.same c.loop-k-test.true c.line-item.is in
    gated_more c.args.map.now c.args.masks.now c.loop-k.k (fet_seen c.line-item.result) c.index-channels-k.result c.index-wires-line.result c.in_ok-bare.bare at
    (wire_at c.channels.result.now c.args.masks.now.channels c.loop-k.k c.index-channels-k.result c.channels.ensures.same (let size = ap (λ l. length l) c.channels.ensures.same in let lines = ap (λ l. length l) c.fets-line-items.ensures.same in let seen = length-map c.fets-line-items.result.now fet_seen in omega (arith, size, lines, seen, c.loop-k-test.true, c.requires.channels)) c.index-channels-k.is)
    (wire_at c.wires.result.now c.args.masks.now.wires c.line-item.result.gate.0 c.index-wires-line.result c.wires.ensures.same (let gate = (kept_at c.args.map.now c.loop-k.k (fet_seen c.line-item.result) c.fets-line-items.ensures.kept at).gate in let size = ap (λ l. length l) c.wires.ensures.same in omega (arith, gate, size, c.requires.wires)) c.index-wires-line.is)
    c.in_ok-bare.ensures c.loop-k.invariant c.in_default.ensures

pub returns-clause-first : goal.returns-clause-first
returns-clause-first c =
    let size = ap (λ l. length l) (sym c.fets-line-items.ensures.same) in
    let seen = length-map c.fets-line-items.result.now fet_seen in
    gated_all c.args.map.now c.args.masks.now c.loop-k.k (omega (arith, size, seen, c.loop-k-test.false)) c.loop-k.invariant
