-- Each layer's refusal as one of the call. Running out of memory is none.
use Rattle.std.specs.Prelude.{Option, Some, None}
use Rattle.layer_map.specs.declared.refusal.MapRefusal.{MapRefusal}
use Rattle.layer_map.specs.declared.refusal.MapRefusal.TheVariants.{NoMemory as NoMapMemory}
use Rattle.cif_reader.specs.declared.refusal.CifRefusal.{CifRefusal}
use Rattle.cif_reader.specs.declared.refusal.CifRefusal.TheVariants.{NoMemory as NoCifMemory}
use Rattle.layout_extract.specs.declared.refusal.LayoutRefusal.{LayoutRefusal}
use Rattle.layout_extract.specs.declared.refusal.LayoutRefusal.TheVariants.{NoMemory as NoLayoutMemory}
use Rattle.defect_sweep.specs.declared.refusal.SweepRefusal.{SweepRefusal}
use Rattle.defect_sweep.specs.declared.refusal.SweepRefusal.TheVariants.{NoMemory as NoSweepMemory}
use Rattle.clause_base.specs.declared.faults.FormulaFault.{FormulaFault}
use Rattle.clause_base.specs.declared.faults.FormulaFault.TheVariants.{NoMemory as NoFormulaMemory}
use Rattle.command_refusals.specs.declared.refusal.Refusal.{Refusal}
use Rattle.command_refusals.specs.declared.refusal.Refusal.TheVariants.{Map, Cif, Layout, Sweep, Formula}

abbrev pub map_carried : MapRefusal → Option Refusal
map_carried NoMapMemory = None
map_carried refusal = Some (Map refusal)

abbrev pub cif_carried : CifRefusal → Option Refusal
cif_carried NoCifMemory = None
cif_carried refusal = Some (Cif refusal)

abbrev pub layout_carried : LayoutRefusal → Option Refusal
layout_carried NoLayoutMemory = None
layout_carried refusal = Some (Layout refusal)

abbrev pub sweep_carried : SweepRefusal → Option Refusal
sweep_carried NoSweepMemory = None
sweep_carried refusal = Some (Sweep refusal)

abbrev pub formula_carried : FormulaFault → Option Refusal
formula_carried NoFormulaMemory = None
formula_carried refusal = Some (Formula refusal)
