use Rattle.std.proofs.Common.{rules, w64, FitsSigned}
use Rattle.std.proofs.lemmas.Int.{to_z-of_z}
use Rattle.defect_sweep.proofs.Holding.{apart_across, apart_up}
use Rattle.defect_sweep.proofs.bounds.are_apart.Goals as goal

pub returns-then-have_gap : goal.returns-then-have_gap
returns-then-have_gap c =
    let a0 : FitsSigned w64 c.args.a.now.x0 = search rules in
    let a1 : FitsSigned w64 c.args.a.now.x1 = search rules in
    let b0 : FitsSigned w64 c.args.b.now.x0 = search rules in
    let b1 : FitsSigned w64 c.args.b.now.x1 = search rules in
    let gap = simp to_z-of_z at c.have_gap.ensures in
    λ yes. apart_across c.args.a.now c.args.b.now (gap yes)

pub returns-else-have_gap : goal.returns-else-have_gap
returns-else-have_gap c =
    let a0 : FitsSigned w64 c.args.a.now.y0 = search rules in
    let a1 : FitsSigned w64 c.args.a.now.y1 = search rules in
    let b0 : FitsSigned w64 c.args.b.now.y0 = search rules in
    let b1 : FitsSigned w64 c.args.b.now.y1 = search rules in
    let gap = simp to_z-of_z at c.have_gap-else-have_gap.ensures in
    λ yes. apart_up c.args.a.now c.args.b.now (gap yes)
