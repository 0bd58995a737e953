-- The inputs have one refusal at most, and none beside what they give, where the files are told.
use Rattle.std.proofs.Common.{◌≡◌, ℕ, List, Some, sym, ◌∙◌, ap, subst}
use Rattle.probe_io.specs.Files.{File}
use Rattle.layer_map.specs.Plan.{Plan}
use Rattle.layer_map.specs.Faults.{Accepts as AcceptsMap}
use Rattle.layer_map.proofs.Walk.{one_map, one_fault, not_both}
use Rattle.cif_reader.specs.File.{Contents}
use Rattle.cif_reader.specs.Reading.{Accepts as AcceptsCif}
use Rattle.cif_reader.specs.Same.{IsSameFile}
use Rattle.cif_reader.proofs.Answering.{one_refusal, never_both, one_file as one_contents}
use Rattle.cif_flatten.proofs.Positions.{calls_apart}
use Rattle.layout_extract.specs.declared.refusal.LayoutRefusal.{LayoutRefusal}
use Rattle.layout_extract.specs.declared.refusal.LayoutRefusal.TheVariants.{NoMemory}
use Rattle.layout_extract.specs.Layouts.{NamedNets, IsNamedFrom}
use Rattle.layout_extract.specs.Same.{AreSameNamed}
use Rattle.layout_extract.proofs.SameLayouts.{one_reason, never_both_named, one_naming}
use Rattle.clause_base.proofs.FaultLemmas.{one_fault as one_formula_fault, not_both as not_both_formula}
use Rattle.command_refusals.specs.declared.refusal.Refusal.{Refusal}
use Rattle.command_refusals.specs.Carried.{layout_carried}
use Rattle.command_base.specs.Exact.{AreAlike}
use Rattle.command_base.proofs.Alike.{file_alike, one_file, layer_alike, layers_alike, just_alike, then_alike, then_exact}
use Rattle.command_inputs.specs.Stages.{MappedNets, map_stage, cif_stage, nets_stage, layout_stage, formula_stage}

-- ---- the map

pub map_alike : (map : List ℕ) (files : List File) → AreAlike (map_stage map) (map_stage map) files
map_alike map files = then_exact file_alike (one_file files map) (λ bytes given. layer_alike (one_fault bytes) (not_both bytes))

-- a name has one map
pub one_plan : (map : List ℕ) (files : List File) (p q : Plan) → (map_stage map).gives (Some files) p → (map_stage map).gives (Some files) q → p ≡ q
one_plan map files p q here there =
    one_map there.value p q (subst (λ bytes. AcceptsMap bytes p) (one_file files map here.value there.value here.given there.given) here.holds) there.holds

-- ---- the layout

pub cif_alike : (cif : List ℕ) (files : List File) → AreAlike (cif_stage cif) (cif_stage cif) files
cif_alike cif files = then_exact file_alike (one_file files cif) (λ bytes given. layer_alike (one_refusal bytes) (never_both bytes))

-- a name has one layout
pub one_layout : (cif : List ℕ) (files : List File) (f g : Contents) → (cif_stage cif).gives (Some files) f → (cif_stage cif).gives (Some files) g → IsSameFile f g
one_layout cif files f g here there =
    one_contents there.value f g (subst (λ bytes. AcceptsCif bytes f) (one_file files cif here.value there.value here.given there.given) here.holds) there.holds

-- a refusal that is carried is not that of running out of memory
carried_some : (l : LayoutRefusal) (r : Refusal) → layout_carried l ≡ Some r → l ≡ NoMemory → ⊥
carried_some l r is same = let none : layout_carried NoMemory ≡ Some r = ap layout_carried (sym same) ∙ is in cc

-- the nets of a layout that is spelled twice
nets_alike : (cif : List ℕ) (files : List File) (plan : Plan) (f g : Contents) → (cif_stage cif).gives (Some files) f → (cif_stage cif).gives (Some files) g
    → AreAlike (nets_stage f plan) (nets_stage g plan) files
nets_alike cif files plan f g here there = layers_alike
    (λ l m r q is is'. one_reason f g plan l m (calls_apart there.value g there.holds) (carried_some l r is) (carried_some m q is') (one_layout cif files f g here there))
    (λ named l r is accepts faults. never_both_named g f plan named l (carried_some l r is) (one_layout cif files g f there here) faults accepts)
    (λ named l r is accepts faults. never_both_named f g plan named l (carried_some l r is) (one_layout cif files f g here there) faults accepts)

pub layout_alike : (map cif : List ℕ) (files : List File) → AreAlike (layout_stage map cif) (layout_stage map cif) files
layout_alike map cif files = then_exact (map_alike map files) (one_plan map files) (λ plan given. then_alike (cif_alike cif files)
    (λ f g here there. then_alike (nets_alike cif files plan f g here there) (λ n m named others. just_alike)))

-- a map and the nets that two names have are the same
pub record AreSameMapped (a b : MappedNets) : Type 0 where
  pub plan : a.plan ≡ b.plan
  pub named : AreSameNamed a.named b.named

pub one_mapped : (map cif : List ℕ) (files : List File) (a b : MappedNets) → (layout_stage map cif).gives (Some files) a → (layout_stage map cif).gives (Some files) b → AreSameMapped a b
one_mapped map cif files a b here there =
    let plans = one_plan map files here.value there.value here.given there.given in
    let spelled = here.holds in
    let spelled' = there.holds in
    let named = spelled.holds in
    let named' = spelled'.holds in
    let same = one_naming spelled.value spelled'.value there.value named.value named'.value (one_layout cif files spelled.value spelled'.value spelled.given spelled'.given)
    (subst (λ plan. IsNamedFrom spelled.value plan named.value) plans named.given) named'.given in
    record {
      plan = ap (λ (m : MappedNets). m.plan) named.holds ∙ plans ∙ sym (ap (λ (m : MappedNets). m.plan) named'.holds);
      named = subst (λ (ns : NamedNets × NamedNets). AreSameNamed ns.0 ns.1)
          (λ i. (sym (ap (λ (m : MappedNets). m.named) named.holds) i, sym (ap (λ (m : MappedNets). m.named) named'.holds) i)) same;
    }

-- ---- the formula

pub formula_alike : (name : List ℕ) (files : List File) → AreAlike (formula_stage name) (formula_stage name) files
formula_alike name files = then_exact file_alike (one_file files name) (λ bytes given. layer_alike (one_formula_fault bytes) (not_both_formula bytes))
