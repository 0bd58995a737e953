use Rattle.std.proofs.Common.{subst, sym, ◌^◌}
use Rattle.plane_geom.specs.Bounds.{IsPointWithin}
use Rattle.cif_flatten.specs.declared.flat.Mark.{Mark}
use Rattle.cif_flatten.specs.Unrolling.{placed_of}
use Rattle.cif_flatten.proofs.Ranges.{markable, mark_within, pushed}
use Rattle.cif_flatten.proofs.placing.add_mark.Goals as goal

pub placed_point-requires-clause-point : goal.placed_point-requires-clause-point
placed_point-requires-clause-point c = markable _ _ _ _ c.in-Mark.is c.requires.placeable.kept

pub returns-in_ok-push-clause-within : goal.returns-in_ok-push-clause-within
returns-in_ok-push-clause-within c = pushed (λ (m : Mark). IsPointWithin (2 ^ 24) m.at) _ _ _ c.in_ok-push.ensures.items
    (subst (IsPointWithin (2 ^ 24)) (sym c.placed_point.ensures) (mark_within (placed_of c.args.command.now) _ _ _ c.in-Mark.is c.requires.inside))
