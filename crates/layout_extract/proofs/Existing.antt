-- A flattened file has masks under each map.
use Rattle.std.proofs.Common.{◌≡◌, false, List, [], ◌∷◌, length, map}
use Rattle.std.specs.List.{AllByRecursion}
use Rattle.plane_geom.proofs.Lists.{all_weaker}
use Rattle.cif_reader.specs.File.{Contents, IsFile}
use Rattle.cif_flatten.specs.Flat.{Lists}
use Rattle.cif_flatten.specs.Flattening.{IsFlattened}
use Rattle.cif_flatten.proofs.Flattened.{flattened_within}
use Rattle.layer_map.specs.Truth.{Formula, is_unbounded}
use Rattle.layer_map.specs.Plan.{Plan, Cut, Fet, IsKeptCut, IsKeptFet, IsKeptMap}
use Rattle.mask_algebra.specs.Masks.{wire_formulas, cut_formulas, channel_formulas}
use Rattle.mask_algebra.proofs.Existing.{some_masks}
use Rattle.layout_extract.specs.Layouts.{HasLayoutMasks}

all_bounded : {A : Type 0} (formula : A → Formula) (lines : List A) → AllByRecursion (λ l. is_unbounded (formula l) ≡ false) lines → AllByRecursion (λ f. is_unbounded f ≡ false) (map formula lines)
all_bounded formula [] h = tt
all_bounded formula (l ∷ lines) h = (h.0, all_bounded formula lines h.1)

pub some_layout_masks : (file : Contents) (plan : Plan) (lists : Lists) → IsFile file → IsKeptMap plan → IsFlattened file lists → HasLayoutMasks plan lists.draws
some_layout_masks file plan lists kept map_kept flat =
    let within = (flattened_within file lists kept flat).draws in
    let wires = some_masks lists.draws (wire_formulas plan) within (all_bounded (λ w. w.formula) plan.wires map_kept.wires) in
    let cuts = some_masks lists.draws (cut_formulas plan) within
    (all_bounded (λ c. c.formula) plan.cuts (all_weaker (IsKeptCut (length plan.wires)) (λ (c : Cut). is_unbounded c.formula ≡ false) plan.cuts (λ c h. h.bounded) map_kept.cuts)) in
    let channels = some_masks lists.draws (channel_formulas plan) within
    (all_bounded (λ f. f.channel) plan.fets (all_weaker (IsKeptFet (length plan.wires)) (λ (f : Fet). is_unbounded f.channel ≡ false) plan.fets (λ f h. h.bounded) map_kept.fets)) in
    record {
      masks = record { wires = wires.regions; cuts = cuts.regions; channels = channels.regions };
      are = record { wires = wires.are; cuts = cuts.are; channels = channels.are };
    }
