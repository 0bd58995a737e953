use Rattle.std.proofs.Common.{◌≡◌, ◌+◌, length, sym, subst, arith}
use Rattle.std.proofs.lemmas.Option.{slice_get-get_or}
use Rattle.layout_extract.specs.Binding.{IsAround}
use Rattle.layout_extract.proofs.NearNodes.{around_more}
use Rattle.layout_extract.proofs.around.nodes_at.Goals as goal

pub loop-cell-preserved : goal.loop-cell-preserved
loop-cell-preserved c =
    let lt = c.loop-cell-test.true in
    subst (λ n. IsAround c.args.traced.now c.args.wire.0 c.args.cells.now (c.loop-cell.cell-index + 1) n) (sym c.and-near.ensures)
    (around_more c.args.traced.now c.args.wire.0 c.args.cells.now c.loop-cell.cell-index _ (slice_get-get_or c.args.cells.now c.loop-cell.cell-index _ lt) c.loop-cell.near c.net_at.result c.net_at.ensures c.loop-cell.invariant)

pub returns : goal.returns
returns c =
    let low = c.loop-cell.auto.cell-index-end in
    let high = c.loop-cell-test.false in
    let end : c.loop-cell.cell-index ≡ length c.args.cells.now = omega (arith, low, high) in
    subst (λ n. IsAround c.args.traced.now c.args.wire.0 c.args.cells.now n c.loop-cell.near) end c.loop-cell.invariant
