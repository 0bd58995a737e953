-- The plain values that the lines of a map are.
use Rattle.std.specs.Prelude.{ℕ, List, map}
use Rattle.layer_map.specs.declared.map.WireId.{WireId}
use Rattle.layer_map.specs.declared.map.WireLine.{WireLine}
use Rattle.layer_map.specs.declared.map.CutLine.{CutLine}
use Rattle.layer_map.specs.declared.map.FetLine.{FetLine}
use Rattle.layer_map.specs.declared.map.LabelLine.{LabelLine}
use Rattle.layer_map.specs.Truth.{formula_of}
use Rattle.layer_map.specs.Plan.{Wire, Cut, Fet, LabelWires}

abbrev pub wire_seen : WireLine → Wire
wire_seen w = record { name = w.name; formula = formula_of w.expr }

abbrev pub numbers_seen : List WireId → List ℕ
numbers_seen wires = map (λ w. w.0) wires

abbrev pub cut_seen : CutLine → Cut
cut_seen c = record { formula = formula_of c.expr; wires = numbers_seen c.wires.items }

abbrev pub fet_seen : FetLine → Fet
fet_seen f = record { kind = f.kind; channel = formula_of f.channel; gate = f.gate.0; diff = f.diff.0 }

abbrev pub label_seen : LabelLine → LabelWires
label_seen l = record { layer = l.layer; wires = numbers_seen l.wires.items }
