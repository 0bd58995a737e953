-- The steps of naming give what the definitions say.
use Rattle.std.proofs.Common.{◌≡◌, ℕ, ◌<◌, Bool, List, length, map, Result, Ok, Err, refl, sym, ap, ◌∙◌, subst, arith}
use Rattle.std.specs.Prelude.{count_by}
use Rattle.std.specs.List.{AllZip}
use Rattle.std.proofs.lemmas.List.{length-map}
use Rattle.std.proofs.lemmas.Slice.Zip.{AllZip-long}
use Rattle.cif_flatten.specs.declared.flat.Draw.{Draw}
use Rattle.cif_flatten.specs.declared.flat.Mark.{Mark}
use Rattle.cif_flatten.specs.Flat.{Lists}
use Rattle.layer_map.specs.Plan.{Plan}
use Rattle.layer_map.specs.Truth.{Formula}
use Rattle.mask_region.specs.declared.strips.Strip.{Strip}
use Rattle.mask_region.specs.Strips.{MaskLists}
use Rattle.mask_algebra.specs.Masks.{AreMasks, IsMask}
use Rattle.net_trace.specs.Touching.{Nets, traced_nets}
use Rattle.net_trace.specs.Nets.{HasMoreNets}
use Rattle.layout_extract.specs.declared.bindings.Binding.{Binding}
use Rattle.layout_extract.specs.declared.refusal.LayoutRefusal.{LayoutRefusal}
use Rattle.layout_extract.specs.declared.refusal.LayoutRefusal.TheVariants.{LabelAmbiguous}
use Rattle.layout_extract.specs.declared.tags.Spot.{Spot}
use Rattle.layout_extract.specs.Binding.{IsBinding}
use Rattle.layout_extract.specs.Layouts.{NamedNets, AreLayoutMasks, AreJoinedAs, labelled_by, IsNamed, HasAmbiguous, RefusesNaming}
use Rattle.layout_extract.specs.Tags.{is_bound, is_unbound, is_deep, HasNoAmbiguous, HasAmbiguousAt, AreSpotsOf, AreJoinedAt, AreNamesAt}
use Rattle.layout_extract.proofs.Bridge.{are_clear, first_is, spot_bound, bound_spot}
use Rattle.layout_extract.proofs.CountLists.{bound_counted, unbound_counted, deep_counted}
use Rattle.layout_extract.proofs.NetBridge.{AreSpotted, joined_as, names_are, bound_names_are}
use Rattle.mask_region.proofs.Areas.{count_by_length}

-- one mask for each line
pub masks_size : {A : Type 0} (draws : List Draw) (formula : A → Formula) (lines : List A) (regions : List (List Strip)) → AreMasks draws (map formula lines) regions → length regions ≡ length lines
masks_size draws formula lines regions h = AllZip-long (IsMask draws) (map formula lines) regions h.each ∙ length-map lines formula

pub cast_fits : {A : Type 0} (test : A → Bool) (xs : List A) (marks : List Mark) (most n : ℕ) → n ≡ count_by test xs → length xs ≡ length marks → length marks < most → n < most
cast_fits test xs marks most n is size few = let within = count_by_length test xs in omega (arith, is, size, few, within)

-- what the steps know
pub record AreSteps (plan : Plan) (nets : Nets) (marks : List Mark) (bindings : List Binding) : Type 0 where
  pub few : HasMoreNets nets 8192 → ⊥
  pub zip : AllZip (IsBinding nets plan) marks bindings

err_one : {A : Type 0} (a b : LayoutRefusal) → ◌≡◌ {A = Result A LayoutRefusal} (Err a) (Err b) → a ≡ b
err_one a b e = ap (λ r. elim r [ Ok x ↦ a | Err x ↦ x ]) e

module _ (plan : Plan) (lists : Lists) (masks : MaskLists) (are : AreLayoutMasks plan lists.draws masks) where
  ambiguous_here : (bindings : List Binding) (place : ℕ) → AreSteps plan (traced_nets plan masks) lists.marks bindings → HasAmbiguousAt lists.marks bindings (length lists.marks) place → HasAmbiguous plan lists place
  ambiguous_here bindings place steps h = record { masks = masks; are = are; few = steps.few; first = first_is (traced_nets plan masks) plan lists.marks bindings steps.zip refl place h }

  pub refuses_ambiguous : {A : Type 0} (nets : Nets) (marks : List Mark) (bindings : List Binding) (place : ℕ) → nets ≡ traced_nets plan masks → marks ≡ lists.marks → AreSteps plan nets marks bindings → HasAmbiguousAt marks bindings (length marks) place
      → (refusal : LayoutRefusal) → ◌≡◌ {A = Result A LayoutRefusal} (Err (LabelAmbiguous place)) (Err refusal) → RefusesNaming plan lists refusal
  refuses_ambiguous nets marks bindings place nets_is marks_is steps h refusal e =
      subst (λ r. RefusesNaming plan lists r) (err_one (LabelAmbiguous place) refusal e)
      (ambiguous_here bindings place (subst (λ n. AreSteps plan n lists.marks bindings) nets_is (subst (λ ms. AreSteps plan nets ms bindings) marks_is steps)) (subst (λ ms. HasAmbiguousAt ms bindings (length ms) place) marks_is h))

  -- what the further steps know
  pub record AreNamedSteps (nets : Nets) (marks : List Mark) (bindings : List Binding) (spots : List Spot) (named : NamedNets) : Type 0 where
    pub steps : AreSteps plan nets marks bindings
    pub clear : HasNoAmbiguous bindings (length marks)
    pub spotted : AreSpotsOf marks bindings (length marks) spots
    pub joined : AreJoinedAt plan spots nets named.nets
    pub names : AreNamesAt spots named.nets named.names named.bound_names
    pub masks_is : named.masks ≡ masks
    pub bound : named.bound ≡ count_by is_bound bindings
    pub unbound : named.unbound ≡ count_by is_unbound bindings
    pub deep : named.deep ≡ count_by is_deep bindings

  module _ (bindings : List Binding) (spots : List Spot) (named : NamedNets) (h : AreNamedSteps (traced_nets plan masks) lists.marks bindings spots named) where
    spotted_so : AreSpotted (traced_nets plan masks) plan lists.marks spots
    spotted_so = record {
      each = spot_bound (traced_nets plan masks) plan lists.marks bindings h.steps.zip spots h.spotted;
      all = bound_spot (traced_nets plan masks) plan lists.marks bindings h.steps.zip spots h.spotted h.clear;
    }

    joined_so : AreJoinedAs (labelled_by plan masks lists.marks) named.nets
    joined_so = joined_as (traced_nets plan masks) refl plan lists.marks spots spotted_so h.joined.tags h.joined.are h.joined.pairs h.joined.joins named.nets h.joined.by

    by_masks : IsNamed plan lists (record { nets = named.nets; masks = masks; names = named.names; bound_names = named.bound_names; bound = named.bound; unbound = named.unbound; deep = named.deep })
    by_masks = record {
      masks = are;
      few = h.steps.few;
      clear = are_clear (traced_nets plan masks) plan lists.marks bindings h.steps.zip refl h.clear;
      nets = joined_so;
      names = names_are (traced_nets plan masks) refl plan lists.marks spots spotted_so named.nets joined_so h.names.tags h.names.are named.names h.names.count h.names.each;
      bound_names = bound_names_are (traced_nets plan masks) refl plan lists.marks spots spotted_so named.nets joined_so h.names.tags h.names.are named.bound_names h.names.kept;
      bound = h.bound ∙ bound_counted (traced_nets plan masks) plan lists.marks bindings h.steps.zip;
      unbound = h.unbound ∙ unbound_counted (traced_nets plan masks) plan lists.marks bindings h.steps.zip;
      deep = h.deep ∙ deep_counted (traced_nets plan masks) plan lists.marks bindings h.steps.zip;
    }

    named_here : IsNamed plan lists named
    named_here = subst (λ m. IsNamed plan lists (record { nets = named.nets; masks = m; names = named.names; bound_names = named.bound_names; bound = named.bound; unbound = named.unbound; deep = named.deep })) (sym h.masks_is) by_masks

  pub is_named : (nets : Nets) (marks : List Mark) (bindings : List Binding) (spots : List Spot) (named : NamedNets) → nets ≡ traced_nets plan masks → marks ≡ lists.marks → AreNamedSteps nets marks bindings spots named → IsNamed plan lists named
  is_named nets marks bindings spots named nets_is marks_is h =
      named_here bindings spots named (subst (λ n. AreNamedSteps n lists.marks bindings spots named) nets_is (subst (λ ms. AreNamedSteps nets ms bindings spots named) marks_is h))
