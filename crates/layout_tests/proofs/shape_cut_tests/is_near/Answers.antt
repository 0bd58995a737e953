use Rattle.std.proofs.Common.{◌≡◌, Bool, true, false, not, rules, refl, w64, FitsSigned}
use Rattle.std.proofs.lemmas.Int.{to_z-of_z}
use Rattle.layout_tests.proofs.shape_cut_tests.is_near.Goals as goal

is_not : (b : Bool) → not b ≡ true → b ≡ false
is_not true h = cc
is_not false h = refl

pub returns : goal.returns
returns c e =
    let x0 : FitsSigned w64 c.args.r.now.x0 = search rules in
    let y0 : FitsSigned w64 c.args.r.now.y0 = search rules in
    let x1 : FitsSigned w64 c.args.r.now.x1 = search rules in
    let y1 : FitsSigned w64 c.args.r.now.y1 = search rules in
    record {
      x0 = simp to_z-of_z at (c.is_far.ensures c.if-is_far.false);
      y0 = simp to_z-of_z at (c.is_far-2.ensures c.if-is_far-2.false);
      x1 = simp to_z-of_z at (c.is_far-3.ensures c.if-is_far-3.false);
      y1 = simp to_z-of_z at (c.is_far-4.ensures (is_not c.is_far-4.result e));
    }
