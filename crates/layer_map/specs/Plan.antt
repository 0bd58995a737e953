-- The map that lines say, in plain lists. A wire is known by its number, its place among the wires from 0.
use Rattle.std.specs.Prelude.{◌≡◌, ℕ, ◌<◌, ◌≤◌, true, false, List, [], ◌∷◌, ◌++◌, length, map}
use Rattle.std.specs.List.{AllByRecursion, position_or_len}
use Rattle.std.specs.Str.{bytes_eq}
use Rattle.switch_net.specs.declared.Kind.{Kind}
use Rattle.layer_map.specs.declared.refusal.Side.{Side}
use Rattle.layer_map.specs.declared.refusal.Side.TheVariants.{High, Low}
use Rattle.layer_map.specs.Names.{are_distinct}
use Rattle.layer_map.specs.Grammar.{Statement, wire, cut, fet, label, supply}
use Rattle.layer_map.specs.Truth.{Formula, is_unbounded, means}

pub record Wire : Type 0 where
  pub name : List ℕ
  pub formula : Formula

pub record Cut : Type 0 where
  pub formula : Formula
  pub wires : List ℕ

pub record Fet : Type 0 where
  pub kind : Kind
  pub channel : Formula
  pub gate : ℕ
  pub diff : ℕ

pub record LabelWires : Type 0 where
  pub layer : List ℕ
  pub wires : List ℕ

pub record Plan : Type 0 where
  pub wires : List Wire
  pub cuts : List Cut
  pub fets : List Fet
  pub labels : List LabelWires
  pub high : List (List ℕ)
  pub low : List (List ℕ)

-- the number of the wire with this name
abbrev pub number_of : List Wire → List ℕ → ℕ
number_of wires name = position_or_len (λ w. bytes_eq w.name name) wires

-- ---- what one line adds, by the wires that the lines before it name

abbrev pub wire_in : Statement → List Wire
wire_in (wire name e) = record { name = name; formula = means e } ∷ []
wire_in _ = []

abbrev pub cut_in : List Wire → Statement → List Cut
cut_in wires (cut e names) = record { formula = means e; wires = map (number_of wires) names } ∷ []
cut_in wires _ = []

abbrev pub fet_in : List Wire → Statement → List Fet
fet_in wires (fet kind e gate diff) = record { kind = kind; channel = means e; gate = number_of wires gate; diff = number_of wires diff } ∷ []
fet_in wires _ = []

abbrev pub label_in : List Wire → Statement → List LabelWires
label_in wires (label layer names) = record { layer = layer; wires = map (number_of wires) names } ∷ []
label_in wires _ = []

abbrev pub supplies_in : Side → Statement → List (List ℕ)
supplies_in High (supply High names) = names
supplies_in Low (supply Low names) = names
supplies_in side _ = []

-- ---- what lines say together, the last one first; the lists are in the order of the lines

abbrev pub wires_of : List Statement → List Wire
wires_of [] = []
wires_of (s ∷ before) = wires_of before ++ wire_in s

-- what each line adds, by the wires before it
abbrev pub gathered : {A : Type 0} → (List Wire → Statement → List A) → List Statement → List A
gathered adds [] = []
gathered adds (s ∷ before) = gathered adds before ++ adds (wires_of before) s

-- the map
abbrev pub map_of : List Statement → Plan
map_of said = record {
  wires = wires_of said;
  cuts = gathered cut_in said;
  fets = gathered fet_in said;
  labels = gathered label_in said;
  high = gathered (λ wires. supplies_in High) said;
  low = gathered (λ wires. supplies_in Low) said;
}

-- the names of a map's wires, in their order
abbrev pub wire_names : Plan → List (List ℕ)
wire_names plan = map (λ w. w.name) plan.wires

-- ---- what every map keeps

-- a list of one or more wires, each below this number
pub record AreNumbers (count : ℕ) (wires : List ℕ) : Type 0 where
  pub some : 0 < length wires
  pub known : AllByRecursion (λ w. w < count) wires

pub record IsKeptCut (count : ℕ) (c : Cut) : Type 0 where
  pub bounded : is_unbounded c.formula ≡ false
  pub wires : AreNumbers count c.wires

pub record IsKeptFet (count : ℕ) (f : Fet) : Type 0 where
  pub bounded : is_unbounded f.channel ≡ false
  pub gate : f.gate < count
  pub diff : f.diff < count

-- At most 16 wires and 8 kinds of transistors; the numbers of wires are in range and their lists not empty; no two label
-- lines are of one layer; no expression is true where no layer is present.
pub record IsKeptMap (p : Plan) : Type 0 where
  pub few : length p.wires ≤ 16
  pub few_fets : length p.fets ≤ 8
  pub wires : AllByRecursion (λ w. is_unbounded w.formula ≡ false) p.wires
  pub cuts : AllByRecursion (IsKeptCut (length p.wires)) p.cuts
  pub fets : AllByRecursion (IsKeptFet (length p.wires)) p.fets
  pub labels : AllByRecursion (λ l. AreNumbers (length p.wires) l.wires) p.labels
  pub once : are_distinct (map (λ l. l.layer) p.labels) ≡ true
