-- The faults of a map, and which of them is the first.
use Rattle.std.specs.Prelude.{◌≡◌, ℕ, ◌+◌, ◌⊎◌, Bool, true, false, List, [], ◌∷◌, ◌++◌, length, Option, Some, None, nat_lt, not, ◌&&◌, ◌||◌, if◌then◌else◌, map}
use Rattle.std.specs.List.{list_any, list_all}
use Rattle.std.specs.Option.{option_or}
use Rattle.layer_map.specs.declared.refusal.Side.{Side}
use Rattle.layer_map.specs.declared.refusal.Side.TheVariants.{High, Low}
use Rattle.layer_map.specs.declared.refusal.MapRefusal.{MapRefusal}
use Rattle.layer_map.specs.declared.refusal.MapRefusal.TheVariants.{BadLine, UnknownWire, Unbounded, TwiceNamed, NoSupplyLine, TooMany}
use Rattle.layer_map.specs.Lines.{lines_of}
use Rattle.layer_map.specs.Names.{is_among, are_distinct}
use Rattle.layer_map.specs.Grammar.{Sum, layers_in, depth_of, Statement, nothing, wire, cut, fet, label, supply, SpellsLine, Spells}
use Rattle.layer_map.specs.Truth.{is_unbounded, means}
use Rattle.layer_map.specs.Plan.{Plan, map_of, wire_names}

-- ---- the limits

-- over 64 names of layers, or over 32 open `(` and `!` round one place
abbrev pub is_large : Sum → Bool
is_large e = nat_lt 64 (layers_in e) || nat_lt 32 (depth_of e)

abbrev pub is_long : List (List ℕ) → Bool
is_long wires = nat_lt 16 (length wires)

-- the names of one side's supplies
abbrev pub supplies : Side → Plan → List (List ℕ)
supplies High known = known.high
supplies Low known = known.low

-- With this line there are over 16 wires, 32 cuts, 8 transistors, 64 labels or 32 names of one supply, or its own
-- expression or list is too large. `known` is the map that the lines before it say.
abbrev pub passes_limit : Plan → Statement → Bool
passes_limit known nothing = false
passes_limit known (wire name e) = nat_lt 16 (length known.wires + 1) || is_large e
passes_limit known (cut e wires) = nat_lt 32 (length known.cuts + 1) || is_large e || is_long wires
passes_limit known (fet kind e gate diff) = nat_lt 8 (length known.fets + 1) || is_large e
passes_limit known (label layer wires) = nat_lt 64 (length known.labels + 1) || is_long wires
passes_limit known (supply side names) = nat_lt 32 (length (supplies side known) + length names)

-- ---- the other faults of a line

-- It uses a wire that no line before it names.
abbrev pub uses_unknown : Plan → Statement → Bool
uses_unknown known (cut e wires) = not (list_all (λ w. is_among w (wire_names known)) wires)
uses_unknown known (fet kind e gate diff) = not (is_among gate (wire_names known) && is_among diff (wire_names known))
uses_unknown known (label layer wires) = not (list_all (λ w. is_among w (wire_names known)) wires)
uses_unknown known _ = false

-- It names a wire, a label's layer or a supply that was named before, or a supply twice. Both supplies share their names.
abbrev pub is_twice : Plan → Statement → Bool
is_twice known (wire name e) = is_among name (wire_names known)
is_twice known (label layer wires) = is_among layer (map (λ l. l.layer) known.labels)
is_twice known (supply side names) = list_any (λ n. is_among n known.high || is_among n known.low) names || not (are_distinct names)
is_twice known _ = false

-- Its expression is true where no layer is present.
abbrev pub has_unbounded : Statement → Bool
has_unbounded (wire name e) = is_unbounded (means e)
has_unbounded (cut e wires) = is_unbounded (means e)
has_unbounded (fet kind e gate diff) = is_unbounded (means e)
has_unbounded _ = false

-- ---- which one is the first

-- the first fault of what the line with this number says
abbrev pub fault_in : ℕ → Plan → Statement → Option MapRefusal
fault_in number known s = if passes_limit known s then Some (TooMany number) else if uses_unknown known s then Some (UnknownWire number) else if is_twice known s then Some (TwiceNamed number) else if has_unbounded s then Some (Unbounded number) else None

-- the first fault of lines that say this, the last one first
abbrev pub first_fault : List Statement → Option MapRefusal
first_fault [] = None
first_fault (s ∷ before) = option_or (first_fault before) (fault_in (length before + 1) (map_of before) s)

abbrev pub names_side : Side → Statement → Bool
names_side High (supply High names) = true
names_side Low (supply Low names) = true
names_side side _ = false

-- No line is one of this supply.
abbrev pub lacks : Side → List Statement → Bool
lacks side said = not (list_any (names_side side) said)

abbrev pub supply_fault : List Statement → Option MapRefusal
supply_fault said = if lacks High said then Some (NoSupplyLine High) else if lacks Low said then Some (NoSupplyLine Low) else None

-- The line with this number is at fault: it spells nothing, or what it says is at fault.
abbrev pub IsLineFault : ℕ → Plan → List ℕ → MapRefusal → Type 0
IsLineFault number known line fault =
    (((s : Statement) → SpellsLine line s → ⊥) × (fault ≡ BadLine number)) ⊎ ((s : Statement) × SpellsLine line s × (fault_in number known s ≡ Some fault))

-- A line is at fault, and none before it.
pub record FaultAt (text : List ℕ) (fault : MapRefusal) : Type 0 where
  pub before : List Statement
  pub front : List (List ℕ)
  pub line : List ℕ
  pub rest : List (List ℕ)
  pub split : lines_of text ≡ front ++ (line ∷ rest)
  pub spelled : Spells front before
  pub none_before : first_fault before ≡ None
  pub is : IsLineFault (length before + 1) (map_of before) line fault

-- No line is at fault, and a supply has no line.
pub record FaultBehind (text : List ℕ) (fault : MapRefusal) : Type 0 where
  pub said : List Statement
  pub spelled : Spells (lines_of text) said
  pub none_at_fault : first_fault said ≡ None
  pub is : supply_fault said ≡ Some fault

-- The fault is the first of the text.
abbrev pub Refuses : List ℕ → MapRefusal → Type 0
Refuses text fault = FaultAt text fault ⊎ FaultBehind text fault

-- The text is without fault, and this is its map.
pub record Accepts (text : List ℕ) (plan : Plan) : Type 0 where
  pub said : List Statement
  pub spelled : Spells (lines_of text) said
  pub none_at_fault : first_fault said ≡ None
  pub supplied : supply_fault said ≡ None
  pub is : plan ≡ map_of said
