-- Worked values of the definitions: each is computed, or an instance that holds beside one that is refused.
use Rattle.std.proofs.Common.{◌≡◌, true, false, List, [], ◌∷◌, refl}
use Rattle.std.specs.Prelude.{ℕ, ℤ, pos, codes}
use Rattle.std.proofs.lemmas.Bool.{false≢true}
use Rattle.plane_geom.specs.declared.shapes.Shape.TheVariants.{Block}
use Rattle.cif_flatten.specs.declared.flat.Draw.{Draw}
use Rattle.layer_map.specs.Truth.{Formula, on, neither, both, either}
use Rattle.layer_map.specs.Plan.{Plan, Fet}
use Rattle.mask_region.specs.declared.strips.Strip.{Strip}
use Rattle.mask_algebra.specs.Masks.{layer_covers, is_true_at, wire_formulas, cut_formulas, channel_formulas, IsMask, AreMasks}

square : List ℕ → ℤ → ℤ → Draw
square layer low high = record { layer = layer; shape = Block (record { x0 = low; y0 = low; x1 = high; y1 = high }); pos = 0 }

-- active from 0 to 4, and polysilicon from 2 to 6 on both axes
drawn : List Draw
drawn = square (codes "CAA") (pos 0) (pos 4) ∷ square (codes "CPG") (pos 2) (pos 6) ∷ []

active : Formula
active = on (codes "CAA")

-- active that is not under polysilicon
diffusion : Formula
diffusion = both active (neither (on (codes "CPG")))

-- ---- layers

in_both : layer_covers drawn (codes "CPG") (pos 3) (pos 3) ≡ true
unfolding drawn square
in_both = refl

other_layer : layer_covers drawn (codes "CPG") (pos 1) (pos 1) ≡ false
unfolding drawn square
other_layer = refl

no_shape : layer_covers drawn (codes "CMF") (pos 3) (pos 3) ≡ false
unfolding drawn square
no_shape = refl

nothing_drawn : layer_covers [] (codes "CPG") (pos 3) (pos 3) ≡ false
nothing_drawn = refl

-- ---- expressions

outside_gate : is_true_at drawn diffusion (pos 1) (pos 3) ≡ true
unfolding drawn square diffusion active
outside_gate = refl

under_gate : is_true_at drawn diffusion (pos 2) (pos 3) ≡ false
unfolding drawn square diffusion active
under_gate = refl

beside_all : is_true_at drawn diffusion (pos 7) (pos 7) ≡ false
unfolding drawn square diffusion active
beside_all = refl

in_one_of_two : is_true_at drawn (either active (on (codes "CPG"))) (pos 5) (pos 5) ≡ true
unfolding drawn square active
in_one_of_two = refl

-- ---- the lines of a map

plan : List Fet → Plan
plan fets =
    record {
      wires = record { name = codes "diff"; formula = diffusion } ∷ record { name = codes "poly"; formula = on (codes "CPG") } ∷ [];
      cuts = record { formula = on (codes "CCA"); wires = 0 ∷ 1 ∷ [] } ∷ [];
      fets = fets;
      labels = [];
      high = codes "Vdd" ∷ [];
      low = codes "GND" ∷ [];
    }

plan_wires : wire_formulas (plan []) ≡ diffusion ∷ on (codes "CPG") ∷ []
unfolding plan
plan_wires = refl

plan_cuts : cut_formulas (plan []) ≡ on (codes "CCA") ∷ []
unfolding plan
plan_cuts = refl

no_channels : channel_formulas (plan []) ≡ []
unfolding plan
no_channels = refl

plan_channels : (first second : Fet) → channel_formulas (plan (first ∷ second ∷ [])) ≡ first.channel ∷ second.channel ∷ []
unfolding plan
plan_channels first second = refl

-- ---- masks

active_strip : Strip
active_strip = record { y0 = pos 0; y1 = pos 4; x0 = pos 0; x1 = pos 4 }

active_mask : IsMask drawn active (active_strip ∷ [])
unfolding drawn square active active_strip
active_mask = record { cells = λ x y. refl }

no_mask : IsMask drawn active [] → ⊥
unfolding drawn square active
no_mask h = false≢true (h.cells (pos 0) (pos 0))

metal_mask : IsMask drawn (on (codes "CMF")) []
unfolding drawn square
metal_mask = record { cells = λ x y. refl }

both_masks : AreMasks drawn (active ∷ on (codes "CMF") ∷ []) ((active_strip ∷ []) ∷ [] ∷ [])
both_masks = record { each = (active_mask, (metal_mask, tt)) }

-- The order of the lines is kept, and none is left out.
other_order : AreMasks drawn (on (codes "CMF") ∷ active ∷ []) ((active_strip ∷ []) ∷ [] ∷ []) → ⊥
other_order h = no_mask h.each.1.0

one_left_out : AreMasks drawn (active ∷ on (codes "CMF") ∷ []) ((active_strip ∷ []) ∷ []) → ⊥
one_left_out h = h.each.1
