-- The inputs of commands as stages: words that spell sides and budgets, the layer map, the layout with its named nets, and
-- the formula. Which file has which bytes is said here alone.
use Rattle.std.specs.Prelude.{ℕ, List}
use Rattle.layer_map.specs.declared.refusal.MapRefusal.TheVariants.{MapTooLong}
use Rattle.layer_map.specs.Plan.{Plan}
use Rattle.layer_map.specs.Faults.{Accepts as AcceptsMap, Refuses as RefusesMap}
use Rattle.cif_reader.specs.declared.refusal.CifRefusal.TheVariants.{CifTooLong}
use Rattle.cif_reader.specs.Faults.{Refuses as RefusesCif}
use Rattle.cif_reader.specs.File.{Contents}
use Rattle.cif_reader.specs.Reading.{Accepts as AcceptsCif}
use Rattle.defect_sweep.specs.declared.sides.SideWeight.{SideWeight}
use Rattle.layout_extract.specs.Layouts.{NamedNets, IsNamedFrom, RefusesLayout}
use Rattle.clause_base.specs.declared.faults.FormulaFault.TheVariants.{TooLong}
use Rattle.clause_base.specs.Formulas.{Clauses}
use Rattle.clause_base.specs.FormulaText.{SpellsFormula}
use Rattle.clause_base.specs.FormulaFaults.{IsFormulaFault}
use Rattle.command_base.specs.declared.endings.Which.TheVariants.{Map, Cif, Formula}
use Rattle.command_base.specs.Stages.{Stage, then, just, file, layer, spelled}
use Rattle.command_refusals.specs.declared.refusal.Refusal.{Refusal}
use Rattle.command_refusals.specs.declared.refusal.WordRefusal.TheVariants.{BadSide, BadBudget}
use Rattle.command_refusals.specs.declared.refusal.Refusal.TheVariants.{Words, Map as OfMap, Cif as OfCif, Formula as OfFormula}
use Rattle.command_refusals.specs.Carried.{map_carried, cif_carried, layout_carried, formula_carried}
use Rattle.command_inputs.specs.Sides.{SpellsSides}
use Rattle.command_inputs.specs.Words.{SpellsBudget}

-- the sides that the word SIDES spells
abbrev pub sides_stage : List ℕ → Stage Refusal (List SideWeight)
sides_stage word = spelled (SpellsSides word) (Words BadSide)

-- the budget that the word BUDGET spells
abbrev pub budget_stage : List ℕ → Stage Refusal ℕ
budget_stage word = spelled (SpellsBudget word) (Words BadBudget)

-- the most bytes of a file of each kind
unfoldable pub longest_map : ℕ
longest_map = 65536

unfoldable pub longest_cif : ℕ
longest_cif = 16777216

unfoldable pub longest_formula : ℕ
longest_formula = 16777216

-- the map of this name: what it says, or its first fault
abbrev pub map_stage : List ℕ → Stage Refusal Plan
map_stage name = then (file Map name longest_map (OfMap MapTooLong)) (λ bytes. layer map_carried (AcceptsMap bytes) (RefusesMap bytes))

-- the layout of this name: what it spells, or its first fault
abbrev pub cif_stage : List ℕ → Stage Refusal Contents
cif_stage name = then (file Cif name longest_cif (OfCif CifTooLong)) (λ bytes. layer cif_carried (AcceptsCif bytes) (RefusesCif bytes))

-- the layout's nets under the map, with their names, or why they have none
abbrev pub nets_stage : Contents → Plan → Stage Refusal NamedNets
nets_stage contents plan = layer layout_carried (IsNamedFrom contents plan) (RefusesLayout contents plan)

-- a map, and the named nets of a layout under it
pub record MappedNets : Type 0 where
  pub plan : Plan
  pub named : NamedNets

-- The map is judged first, then the layout's text, then its nets.
abbrev pub layout_stage : List ℕ → List ℕ → Stage Refusal MappedNets
layout_stage map cif =
    then (map_stage map) (λ plan. then (cif_stage cif) (λ contents. then (nets_stage contents plan) (λ named. just (record { plan = plan; named = named }))))

-- the formula of this name: what it spells, or its first fault
abbrev pub formula_stage : List ℕ → Stage Refusal Clauses
formula_stage name = then (file Formula name longest_formula (OfFormula TooLong)) (λ bytes. layer formula_carried (SpellsFormula bytes) (IsFormulaFault bytes))
