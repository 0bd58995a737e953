-- The regions of layers.
use Rattle.std.proofs.Common.{◌≡◌, ℕ, ◌+◌, ◌<◌, ◌^◌, Bool, true, false, ◌||◌, ◌&&◌, List, length, take, get_or, sym, ◌∙◌}
use Rattle.std.specs.Prelude.{ℤ}
use Rattle.std.specs.List.{All, list_any}
use Rattle.std.specs.Str.{bytes_eq}
use Rattle.std.proofs.Math.Bool.{or-false}
use Rattle.std.proofs.lemmas.List.Folds.{list_any_more}
use Rattle.plane_geom.specs.declared.shapes.Rect.{Rect}
use Rattle.plane_geom.specs.Bounds.{IsRectWithin}
use Rattle.plane_geom.specs.Cells.{is_in_rects}
use Rattle.plane_geom.specs.Covering.{figure_of, covers}
use Rattle.cif_flatten.specs.declared.flat.Draw.{Draw}
use Rattle.mask_region.specs.declared.strips.Strip.{Strip}
use Rattle.mask_region.specs.Strips.{is_in}
use Rattle.mask_region.proofs.Within.{rects_cell}
use Rattle.mask_algebra.specs.Masks.{layer_covers}
use Rattle.mask_algebra.specs.Layers.{IsLayer, AreCut}

-- ---- the rectangles of a layer

pub cut_same : (draws : List Draw) (name : List ℕ) (k : ℕ) (d : Draw) (before after : List Rect) → k < length draws → d ≡ get_or draws k d → bytes_eq d.layer name ≡ true
    → ((x y : ℤ) → is_in_rects after x y ≡ (is_in_rects before x y || covers (figure_of d.shape) x y)) → All (IsRectWithin (2 ^ 24)) after → AreCut draws name k before → AreCut draws name (k + 1) after
cut_same draws name k d before after lt is same cells within h =
    record {
      cells = λ x y.
          let p : Draw → Bool = λ e. bytes_eq e.layer name && covers (figure_of e.shape) x y in
          cells x y ∙ (λ i. h.cells x y i || (sym same i && covers (figure_of d.shape) x y)) ∙ (λ i. list_any p (take k draws) || p (is i)) ∙ sym (list_any_more p draws k d lt);
      within = within;
    }

pub cut_other : (draws : List Draw) (name : List ℕ) (k : ℕ) (d : Draw) (rects : List Rect) → k < length draws → d ≡ get_or draws k d → bytes_eq d.layer name ≡ false → AreCut draws name k rects → AreCut draws name (k + 1) rects
cut_other draws name k d rects lt is other h =
    record {
      cells = λ x y.
          let p : Draw → Bool = λ e. bytes_eq e.layer name && covers (figure_of e.shape) x y in
          h.cells x y ∙ sym (or-false (list_any p (take k draws))) ∙ (λ i. list_any p (take k draws) || (sym other i && covers (figure_of d.shape) x y)) ∙ (λ i. list_any p (take k draws) || p (is i))
          ∙ sym (list_any_more p draws k d lt);
      within = h.within;
    }

-- ---- the region of a layer

pub layer_is : (draws : List Draw) (name : List ℕ) (rects : List Rect) (region : List Strip) → ((x y : ℤ) → is_in_rects rects x y ≡ layer_covers draws name x y) → All (IsRectWithin (2 ^ 24)) rects
    → ((x y : ℤ) → is_in region x y ≡ is_in_rects rects x y) → IsLayer draws name region
layer_is draws name rects region cut within cells =
    record {
      cells = λ x y. cells x y ∙ cut x y;
      near = λ x y covered. rects_cell (2 ^ 24) rects x y within (cut x y ∙ covered);
    }
