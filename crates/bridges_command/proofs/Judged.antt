-- Bridges that are ranked for the same sides.
use Rattle.std.proofs.Common.{◌≡◌, List, Result, subst}
use Rattle.defect_sweep.specs.declared.sides.SideWeight.{SideWeight}
use Rattle.defect_sweep.specs.Counting.{BridgeCount}
use Rattle.probe_io.specs.Devices.{ShelfState}
use Rattle.command_base.specs.declared.endings.Stop.{Stop}
use Rattle.command_base.specs.Stages.{JudgesAs}
use Rattle.command_refusals.specs.declared.refusal.Refusal.{Refusal}
use Rattle.command_inputs.specs.Stages.{MappedNets}
use Rattle.bridges_command.specs.Command.{ranked_stage}

pub ranked_of : {B : Type 0} {view : B → List BridgeCount} (mapped : MappedNets) {sides others : List SideWeight} {shelf : ShelfState} {r : Result B (Stop Refusal)}
    → sides ≡ others → JudgesAs view (ranked_stage mapped sides) shelf shelf r → JudgesAs view (ranked_stage mapped others) shelf shelf r
ranked_of {view = view} mapped {shelf = shelf} {r = r} same judges = subst (λ list. JudgesAs view (ranked_stage mapped list) shelf shelf r) same judges
