-- The command `bridges MAP CIF SIDES`.
use Rattle.std.specs.Prelude.{◌≡◌, ℕ, List, [], ◌∷◌}
use Rattle.layer_map.specs.Plan.{wire_names}
use Rattle.net_trace.specs.Touching.{Nets}
use Rattle.layout_extract.specs.Layouts.{NamedNets}
use Rattle.defect_sweep.specs.declared.sides.SideWeight.{SideWeight}
use Rattle.defect_sweep.specs.declared.refusal.SweepRefusal.{SweepRefusal}
use Rattle.defect_sweep.specs.declared.refusal.SweepRefusal.TheVariants.{TooManyBridges}
use Rattle.defect_sweep.specs.Counting.{BridgeCount}
use Rattle.defect_sweep.specs.Bridges.{HasManyBridges}
use Rattle.bridge_rank.specs.Ranking.{IsRanking}
use Rattle.command_base.specs.declared.endings.Ending.TheVariants.{Whole}
use Rattle.command_base.specs.Stages.{Stage, then, just, refused, layer}
use Rattle.command_base.specs.Jobs.{Texts, Job, job, fixed}
use Rattle.command_refusals.specs.declared.refusal.WordRefusal.TheVariants.{Usage}
use Rattle.command_refusals.specs.declared.refusal.Refusal.{Refusal}
use Rattle.command_refusals.specs.declared.refusal.Refusal.TheVariants.{Words}
use Rattle.command_refusals.specs.Carried.{sweep_carried}
use Rattle.command_inputs.specs.Stages.{MappedNets, sides_stage, layout_stage}
use Rattle.bridges_command.specs.Report.{Tallies, report_text}

-- what a report is made on: the sides of the defects, the map with the named nets, and their ranked bridges
pub record Subject : Type 0 where
  pub sides : List SideWeight
  pub mapped : MappedNets
  pub ranked : List BridgeCount

-- the counts are refused where too many pairs are met
pub record RefusesSweep (nets : Nets) (sides : List SideWeight) (refusal : SweepRefusal) : Type 0 where
  pub is : refusal ≡ TooManyBridges
  pub many : HasManyBridges nets sides

-- the nets' bridges in the order of their ranks
abbrev pub ranked_stage : MappedNets → List SideWeight → Stage Refusal (List BridgeCount)
ranked_stage mapped sides = layer sweep_carried (IsRanking mapped.named.nets sides) (RefusesSweep mapped.named.nets sides)

-- the word SIDES is judged first, then the map and the layout, and last the number of bridges
abbrev pub subject_stage : List ℕ → List ℕ → List ℕ → Stage Refusal Subject
subject_stage map cif word =
    then (sides_stage word) (λ sides. then (layout_stage map cif) (λ mapped. then (ranked_stage mapped sides) (λ ranked.
    just (record { sides = sides; mapped = mapped; ranked = ranked }))))

-- the words after `bridges` are MAP, CIF and SIDES
abbrev pub bridges_stage : List (List ℕ) → Stage Refusal Subject
bridges_stage (map ∷ cif ∷ word ∷ []) = subject_stage map cif word
bridges_stage _ = refused (Words Usage)

abbrev pub tallies_of : NamedNets → Tallies
tallies_of named = record { bound = named.bound; unbound = named.unbound; deep = named.deep }

-- the report on a subject
abbrev pub text_on : Subject → List ℕ
text_on subject = report_text subject.sides (wire_names subject.mapped.plan) subject.mapped.named.names (tallies_of subject.mapped.named) subject.ranked

-- the one report of a subject; nothing is written where no memory is found
abbrev pub bridges_texts : Texts Subject
bridges_texts = fixed (λ subject. Whole) text_on

-- the job of the words after `bridges`
abbrev pub bridges_job : List (List ℕ) → Job Refusal
bridges_job words = job (bridges_stage words) bridges_texts
