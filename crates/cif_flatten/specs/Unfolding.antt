-- How the calls of a layout unfold.
use Rattle.std.specs.Prelude.{◌≡◌, ℕ, ◌+◌, ◌-◌, ◌^◌, min, List, [], ◌∷◌, ◌++◌, length, map, flat_map, find, Option, Some, None, sum_by}
use Rattle.plane_geom.specs.declared.shapes.Point.{Point}
use Rattle.plane_geom.specs.Covering.{Figure, block, polygon, wire, figure_of, moved_figure}
use Rattle.plane_geom.specs.Placement.{Step, moved, steps_of}
use Rattle.cif_reader.specs.declared.file.Item.{Item}
use Rattle.cif_reader.specs.declared.file.Symbol.{Symbol}
use Rattle.cif_reader.specs.declared.file.What.{What}
use Rattle.cif_reader.specs.declared.file.What.TheVariants.{Draw, Call, Mark}
use Rattle.cif_reader.specs.File.{Contents, has_number}

-- A command in its place: the steps that move it, the first one first, and how many calls it stands in.
pub record Placed : Type 0 where
  pub item : Item
  pub steps : List Step
  pub depth : ℕ

-- the items, all in one place
abbrev pub in_place : List Step → ℕ → List Item → List Placed
in_place steps depth items = map (λ item. record { item = item; steps = steps; depth = depth }) items

abbrev pub items_in : Option Symbol → List Item
items_in None = []
items_in (Some symbol) = symbol.items.items

-- the items of the symbol of that number: none where it is not defined
abbrev pub items_of : List Symbol → ℕ → List Item
items_of symbols number = items_in (find (has_number number) symbols)

-- What a command opens. A call opens the items of its symbol, one call deeper: they are moved by the steps of the call
-- first, and then by those that move the call itself.
abbrev pub opened_by : List Symbol → List Step → ℕ → What → List Placed
opened_by symbols steps depth (Call number place) = in_place (steps_of place ++ steps) (depth + 1) (items_of symbols number)
opened_by symbols steps depth _ = []

abbrev pub opened : List Symbol → Placed → List Placed
opened symbols c = opened_by symbols c.steps c.depth c.item.what

-- Commands unfold to a list: each command, behind it what it opens, unfolded, and behind that the commands that follow.
abbrev pub Unfolds : List Symbol → List Placed → List Placed → Type 0
Unfolds symbols commands [] = commands ≡ []
Unfolds symbols [] (c ∷ placed) = ⊥
Unfolds symbols (d ∷ commands) (c ∷ placed) = (c ≡ d) × Unfolds symbols (opened symbols d ++ commands) placed

-- The file unfolds to these commands, from its top.
abbrev pub IsUnfolding : Contents → List Placed → Type 0
IsUnfolding file placed = Unfolds file.symbols (in_place [] 0 file.top) placed

-- The file unfolds to some list of commands.
pub record HasUnfolding (file : Contents) : Type 0 where
  pub placed : List Placed
  pub unfolded : IsUnfolding file placed

-- ---- how much there is

abbrev pub call_count : What → ℕ
call_count (Call number place) = 1
call_count _ = 0

abbrev pub figure_weight : Figure → ℕ
figure_weight (block r) = 1
figure_weight (polygon points) = length points
figure_weight (wire half path) = length path

-- a box or a label weighs 1, a polygon or wire 1 a point, and a call nothing
abbrev pub weight : What → ℕ
weight (Draw layer shape) = figure_weight (figure_of shape)
weight (Call number place) = 0
weight (Mark name at layer) = 1

abbrev pub calls_among : List Placed → ℕ
calls_among placed = sum_by (λ (c : Placed). call_count c.item.what) placed

abbrev pub weight_among : List Placed → ℕ
weight_among placed = sum_by (λ (c : Placed). weight c.item.what) placed

-- the number, or 18,446,744,073,709,551,615 where it is greater
abbrev pub capped : ℕ → ℕ
capped n = min n (2 ^ 64 - 1)

-- ---- what is left without the calls

-- a placed shape, its layer, and the position of its command
pub record Drawn : Type 0 where
  pub layer : List ℕ
  pub figure : Figure
  pub pos : ℕ

-- a placed label, the layer that it names, if it names one, its depth, and the position of its command
pub record Marked : Type 0 where
  pub name : List ℕ
  pub at : Point
  pub layer : Option (List ℕ)
  pub depth : ℕ
  pub pos : ℕ

abbrev pub drawn_by : List Step → ℕ → What → List Drawn
drawn_by steps pos (Draw layer shape) = record { layer = layer; figure = moved_figure steps (figure_of shape); pos = pos } ∷ []
drawn_by steps pos _ = []

abbrev pub marked_by : List Step → ℕ → ℕ → What → List Marked
marked_by steps depth pos (Mark name at layer) = record { name = name; at = moved steps at; layer = layer; depth = depth; pos = pos } ∷ []
marked_by steps depth pos _ = []

-- the placed shapes, and the placed labels, of unfolded commands
abbrev pub drawn : List Placed → List Drawn
drawn placed = flat_map (λ (c : Placed). drawn_by c.steps c.item.pos c.item.what) placed

abbrev pub marked : List Placed → List Marked
marked placed = flat_map (λ (c : Placed). marked_by c.steps c.depth c.item.pos c.item.what) placed
