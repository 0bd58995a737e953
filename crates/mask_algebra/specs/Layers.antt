-- The regions that expressions are evaluated on.
use Rattle.std.specs.Prelude.{◌≡◌, ℕ, ◌<◌, ◌^◌, ℤ, pos, neg_ℤ, true, false, ◌&&◌, List, [], take, length, slice_index_or}
use Rattle.std.specs.List.{All}
use Rattle.plane_geom.specs.declared.shapes.Rect.{Rect}
use Rattle.plane_geom.specs.Bounds.{IsRectWithin}
use Rattle.plane_geom.specs.Cells.{is_in_rect, is_in_rects}
use Rattle.cif_flatten.specs.declared.flat.Draw.{Draw}
use Rattle.cif_flatten.specs.Flat.{IsShapeWithin}
use Rattle.layer_map.specs.Truth.{Formula, is_unbounded}
use Rattle.mask_region.specs.declared.strips.Strip.{Strip}
use Rattle.mask_region.specs.Strips.{is_in, IsCellWithin, AreRegionsWithin}
use Rattle.mask_algebra.specs.declared.layers.Layer.{Layer}
use Rattle.mask_algebra.specs.Masks.{layer_covers, is_true_at, AreMasks}

-- ---- layers

-- The region has the cells that the layer's shapes cover, and these are not far from 0.
pub record IsLayer (draws : List Draw) (name : List ℕ) (region : List Strip) : Type 0 where
  pub cells : (x y : ℤ) → is_in region x y ≡ layer_covers draws name x y
  pub near : (x y : ℤ) → layer_covers draws name x y ≡ true → IsCellWithin (2 ^ 24) x y

pub record AreLayers (draws : List Draw) (layers : List Layer) : Type 0 where
  pub each : All (λ l. IsLayer draws l.name l.region) layers

abbrev pub no_layer : Layer
no_layer = record { name = []; region = [] }

-- the layer with this index
abbrev pub layer_at : List Layer → ℕ → Layer
layer_at layers k = slice_index_or layers k no_layer

-- The layer with this index has this name.
pub record IsNamedAt (name : List ℕ) (layers : List Layer) (k : ℕ) : Type 0 where
  pub in_range : k < length layers
  pub named : (layer_at layers k).name ≡ name

-- The region with this index is the layer's.
pub record IsLayerAt (draws : List Draw) (name : List ℕ) (layers : List Layer) (k : ℕ) : Type 0 where
  pub in_range : k < length layers
  pub layer : IsLayer draws name (layer_at layers k).region

-- The rectangles cover what the layer's shapes cover among the first so many.
pub record AreCut (draws : List Draw) (name : List ℕ) (k : ℕ) (rects : List Rect) : Type 0 where
  pub cells : (x y : ℤ) → is_in_rects rects x y ≡ layer_covers (take k draws) name x y
  pub within : All (IsRectWithin (2 ^ 24)) rects

-- ---- values

-- the square whose cells any layout may cover
abbrev pub square : Rect
square = record { x0 = neg_ℤ (pos (2 ^ 24)); y0 = neg_ℤ (pos (2 ^ 24)); x1 = pos (2 ^ 24); y1 = pos (2 ^ 24) }

pub record IsFrame (region : List Strip) : Type 0 where
  pub cells : (x y : ℤ) → is_in region x y ≡ is_in_rect square x y

-- The shapes lie in the square, and the regions are the square's and those of layers.
pub record IsCanvas (draws : List Draw) (frame : List Strip) (layers : List Layer) : Type 0 where
  pub within : All (λ (d : Draw). IsShapeWithin (2 ^ 24) d.shape) draws
  pub framed : IsFrame frame
  pub made : AreLayers draws layers

-- In the square, the region has the cells where the expression is true. Outside of it, it has none, and there the
-- expression is as it is where no layer is present.
pub record IsValue (draws : List Draw) (formula : Formula) (region : List Strip) : Type 0 where
  pub inside : (x y : ℤ) → is_in region x y ≡ (is_in_rect square x y && is_true_at draws formula x y)
  pub outside : (x y : ℤ) → is_in_rect square x y ≡ false → is_true_at draws formula x y ≡ is_unbounded formula

-- The canvas is the layout's still, and the masks are those of these expressions.
pub record AreMade (canvas draws : List Draw) (formulas : List Formula) (regions : List (List Strip)) : Type 0 where
  pub same : canvas ≡ draws
  pub masks : AreMasks draws formulas regions
  pub near : AreRegionsWithin (2 ^ 24) regions
