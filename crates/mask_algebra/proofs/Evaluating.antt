-- The masks of expressions lie within the square.
use Rattle.std.proofs.Common.{◌≡◌, ◌^◌, true, List, sym, ◌∙◌, arith}
use Rattle.std.specs.Prelude.{ℤ}
use Rattle.std.proofs.lemmas.Int.{ints}
use Rattle.plane_geom.specs.Cells.{is_in_rect}
use Rattle.cif_flatten.specs.declared.flat.Draw.{Draw}
use Rattle.layer_map.specs.Truth.{Formula}
use Rattle.mask_region.specs.declared.strips.Strip.{Strip}
use Rattle.mask_region.specs.Strips.{Banded, IsCellWithin, AreStripsWithin}
use Rattle.mask_region.proofs.Within.{within-cells}
use Rattle.mask_algebra.specs.Masks.{is_true_at}
use Rattle.mask_algebra.specs.Layers.{IsValue, square}
use Rattle.std.proofs.lemmas.Bool.{and_parts}

cell_near : (x y : ℤ) → is_in_rect square x y ≡ true → IsCellWithin (2 ^ 24) x y
cell_near x y h =
    record {
      left = grind (arith, ints);
      right = grind (arith, ints);
      below = grind (arith, ints);
      above = grind (arith, ints);
    }

pub mask_near : (draws : List Draw) (f : Formula) (region : List Strip) → Banded region → IsValue draws f region → AreStripsWithin (2 ^ 24) region
mask_near draws f region banded h =
    within-cells (2 ^ 24) region banded (λ x y e. cell_near x y (and_parts (is_in_rect square x y) (is_true_at draws f x y) (sym (h.inside x y) ∙ e)).0)
