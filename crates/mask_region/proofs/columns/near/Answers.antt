use Rattle.std.proofs.Common.{rules, w32, FitsSigned}
use Rattle.std.proofs.lemmas.Int.{to_z-of_z}
use Rattle.std.proofs.lemmas.Result.{IfOk-weaker}
use Rattle.mask_region.proofs.Clipping.{kept_banded, kept_cells}
use Rattle.mask_region.proofs.columns.near.Goals as goal

pub returns-clause-banded : goal.returns-clause-banded
returns-clause-banded c = IfOk-weaker c.reaching.result _ _ (λ v e. kept_banded _ c.args.strips.now v.items e c.requires) c.reaching.ensures

pub returns-clause-cells : goal.returns-clause-cells
returns-clause-cells c =
    let left : FitsSigned w32 c.columns_of-left.result.0 = search rules in
    let right : FitsSigned w32 c.columns_of-left.result.1 = search rules in
    let kept = simp to_z-of_z at c.reaching.ensures in
    IfOk-weaker c.reaching.result _ _
    (λ v e. kept_cells c.columns_of-left.result.0 c.columns_of-left.result.1 c.args.strips.now c.args.others.now v.items e c.columns_of-left.ensures) kept
