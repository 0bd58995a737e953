-- One line more of a map.
use Rattle.std.specs.Prelude.{◌≡◌, ℕ, ◌++◌, None}
use Rattle.layer_map.specs.declared.refusal.Side.TheVariants.{High, Low}
use Rattle.layer_map.specs.Grammar.{Statement}
use Rattle.layer_map.specs.Plan.{Plan, wire_in, cut_in, fet_in, label_in, supplies_in}
use Rattle.layer_map.specs.Faults.{fault_in}

-- the map with a line more
abbrev pub with_line : Plan → Statement → Plan
with_line known s = record { wires = known.wires ++ wire_in s; cuts = known.cuts ++ cut_in known.wires s; fets = known.fets ++ fet_in known.wires s; labels = known.labels ++ label_in known.wires s; high = known.high ++ supplies_in High s; low = known.low ++ supplies_in Low s }

-- The line is not at fault, and the map has it.
pub record Adds (number : ℕ) (known : Plan) (s : Statement) (next : Plan) : Type 0 where
  pub faultless : fault_in number known s ≡ None
  pub plan : next ≡ with_line known s
