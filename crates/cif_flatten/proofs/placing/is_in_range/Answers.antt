use Rattle.std.specs.Prelude.{is_some}
use Rattle.cif_flatten.specs.Unrolling.{placed_of}
use Rattle.cif_flatten.proofs.Ranges.{drawable, markable, draw_in, mark_in, some_iff}
use Rattle.cif_flatten.proofs.placing.is_in_range.Goals as goal

pub is_shape_in_range-requires-clause-drawn : goal.is_shape_in_range-requires-clause-drawn
is_shape_in_range-requires-clause-drawn c = drawable _ _ _ c.in-Draw.is c.requires.kept

pub apply-requires-clause-point : goal.apply-requires-clause-point
apply-requires-clause-point c = markable _ _ _ _ c.in-Mark.is c.requires.kept

pub returns-in-Draw : goal.returns-in-Draw
returns-in-Draw c = draw_in (placed_of c.args.command.now) _ _ c.in-Draw.is c.is_shape_in_range.ensures

pub returns-in-Mark : goal.returns-in-Mark
returns-in-Mark c = mark_in (placed_of c.args.command.now) _ _ _ c.in-Mark.is (some_iff c.is_some.result (is_some c.apply.result) c.is_some.ensures c.apply.ensures.within)
