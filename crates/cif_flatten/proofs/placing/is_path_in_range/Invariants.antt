use Rattle.std.proofs.Common.{take}
use Rattle.std.specs.List.{All}
use Rattle.plane_geom.specs.declared.shapes.Point.{Point}
use Rattle.plane_geom.specs.Placement.{placed}
use Rattle.cif_flatten.specs.Unrolling.{IsWideIn}
use Rattle.cif_flatten.proofs.placing.is_path_in_range.Given as goal

abbrev pub invariant-loop-p : goal.invariant-loop-p
invariant-loop-p l = All (λ (p : Point). IsWideIn l.half (placed l.place p)) (take l.p-index l.path)
