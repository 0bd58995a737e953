use Rattle.std.proofs.Common.{◌∙◌, refl}
use Rattle.defect_sweep.proofs.Refused.{same_error}
use Rattle.defect_sweep.proofs.Spreading.{for_slice, row_slice, rows_step, counts_end, counts_many}
use Rattle.defect_sweep.proofs.sweep.count_regions.Goals as goal

pub push_row-requires-clause-for_sides : goal.push_row-requires-clause-for_sides
push_row-requires-clause-for_sides c =
    for_slice c.args.sides.now c.args.wires c.args.regions.now c.in_ok-reaches.reaches.items _ c.in_ok-reaches.ensures.spread c.as_slice-nets.ensures.value

pub loop-a-preserved : goal.loop-a-preserved
loop-a-preserved c = record {
  so_far = rows_step c.args.sides.now c.args.wires c.in_ok-reaches.reaches.items c.loop-a.found.items c.push_row.new.found.items c.loop-a.a c.loop-a.invariant.so_far
      (row_slice c.args.sides.now c.args.wires c.in_ok-reaches.reaches.items c.as_slice-nets.result.now c.loop-a.a c.loop-a.found.items c.push_row.new.found.items c.as_slice-nets.ensures.value c.in_default.ensures.row);
  few = c.in_default.ensures.few;
}

pub returns-clause-counts : goal.returns-clause-counts
returns-clause-counts c =
    c.new.ensures
    ∙ counts_end c.args.sides.now c.args.wires c.args.regions.now c.in_ok-reaches.reaches.items c.loop-a.found.items c.args.nets c.loop-a.a c.in_ok-reaches.ensures.spread c.in_ok-reaches.ensures.each
    c.loop-a-test.false c.loop-a.auto.a-end c.loop-a.invariant.so_far

pub returns-in-Err-clause-many : goal.returns-in-Err-clause-many
returns-in-Err-clause-many c refused =
    counts_many c.args.sides.now c.args.wires c.args.regions.now c.in_ok-reaches.reaches.items c.as_slice-nets.result.now c.loop-a.found.items c.args.nets c.loop-a.a c.in_ok-reaches.ensures.spread
    c.in_ok-reaches.ensures.each c.loop-a-test.true c.as_slice-nets.ensures.value c.loop-a.invariant.so_far (c.in-Err.ensures.many (same_error _ _ _ _ _ _ refl refl refl refl refused))
