-- Where the expressions of a layer map are true.
use Rattle.std.specs.Prelude.{◌≡◌, ℕ, ℤ, Bool, ◌&&◌, List, map}
use Rattle.std.specs.List.{list_any, AllZip}
use Rattle.std.specs.Str.{bytes_eq}
use Rattle.plane_geom.specs.Covering.{figure_of, covers}
use Rattle.cif_flatten.specs.declared.flat.Draw.{Draw}
use Rattle.layer_map.specs.Truth.{Formula, holds}
use Rattle.layer_map.specs.Plan.{Plan}
use Rattle.mask_region.specs.declared.strips.Strip.{Strip}
use Rattle.mask_region.specs.Strips.{is_in}

-- whether a placed shape on the layer with this name covers the cell
abbrev pub layer_covers : List Draw → List ℕ → ℤ → ℤ → Bool
layer_covers draws name x y = list_any (λ d. bytes_eq d.layer name && covers (figure_of d.shape) x y) draws

-- whether the expression is true at the cell
abbrev pub is_true_at : List Draw → Formula → ℤ → ℤ → Bool
is_true_at draws formula x y = holds formula (λ name. layer_covers draws name x y)

-- the expressions of a map's wires, of its cuts and of its channels, in the map's order
abbrev pub wire_formulas : Plan → List Formula
wire_formulas plan = map (λ w. w.formula) plan.wires

abbrev pub cut_formulas : Plan → List Formula
cut_formulas plan = map (λ c. c.formula) plan.cuts

abbrev pub channel_formulas : Plan → List Formula
channel_formulas plan = map (λ f. f.channel) plan.fets

-- The region has exactly the cells where the expression is true.
pub record IsMask (draws : List Draw) (formula : Formula) (region : List Strip) : Type 0 where
  pub cells : (x y : ℤ) → is_in region x y ≡ is_true_at draws formula x y

-- One region for each of the expressions, in their order.
pub record AreMasks (draws : List Draw) (formulas : List Formula) (regions : List (List Strip)) : Type 0 where
  pub each : AllZip (IsMask draws) formulas regions

-- The expressions have masks on the layout.
pub record HaveMasks (draws : List Draw) (formulas : List Formula) : Type 0 where
  pub regions : List (List Strip)
  pub are : AreMasks draws formulas regions
