-- The file that commands without fault say, in mask units.
use Rattle.std.specs.Prelude.{◌≡◌, ℕ, pos, List, [], ◌∷◌, ◌++◌, map, Option, Some, None, if◌then◌else◌}
use Rattle.plane_geom.specs.declared.shapes.Point.{Point}
use Rattle.plane_geom.specs.Covering.{Figure, block, polygon as outlined, wire as drawn_along, figure_of}
use Rattle.plane_geom.specs.Placement.{Step, IsPlaceOf}
use Rattle.cif_grammar.specs.Grammar.{Command, box, polygon, wire, call, user, start, finish, Placed, Spells, is_inside}
use Rattle.cif_reader.specs.declared.measure.Scale.{Scale}
use Rattle.cif_reader.specs.declared.file.Item.{Item}
use Rattle.cif_reader.specs.declared.file.Symbol.{Symbol}
use Rattle.cif_reader.specs.declared.file.What.{What}
use Rattle.cif_reader.specs.declared.file.What.TheVariants.{Draw, Call, Mark}
use Rattle.cif_reader.specs.Scope.{Opening, layer_behind, open_behind, scale_behind}
use Rattle.cif_reader.specs.Label.{Label, label_in}
use Rattle.cif_reader.specs.Measure.{scaled, scaled_point, scaled_rect, points_along, box_corners, steps_of}
use Rattle.cif_reader.specs.Faults.{first_fault}
use Rattle.cif_reader.specs.File.{Contents}

-- ---- what a command says

-- A figure on a layer, a call of a symbol at the place that steps make, or a name at a point and perhaps on a layer.
pub data Saying : Type 0 where
  drawn : List ℕ → Figure → Saying
  called : ℕ → List Step → Saying
  marked : List ℕ → Point → Option (List ℕ) → Saying

-- a figure on the current layer
abbrev pub on_layer : Option (List ℕ) → Figure → List Saying
on_layer None figure = []
on_layer (Some name) figure = drawn name figure ∷ []

abbrev pub labelled : Scale → Option Label → List Saying
labelled s None = []
labelled s (Some l) = marked l.name (scaled_point s l.at) l.layer ∷ []

-- What a command says on the current layer and in a scale, if anything.
abbrev pub said : Option (List ℕ) → Scale → Command → List Saying
said current s (box l w c d) = on_layer current (block (scaled_rect s (box_corners l.value w.value c d)))
said current s (polygon p) = on_layer current (outlined (map (scaled_point s) (points_along p)))
said current s (wire w p) = on_layer current (drawn_along (scaled s (pos w.value)) (map (scaled_point s) (points_along p)))
said current s (call n ts) = called n.value (steps_of (scaled s) ts) ∷ []
said current s (user text) = labelled s (label_in text)
said current s _ = []

-- what a command says, and its position
pub record Remark : Type 0 where
  pub at : ℕ
  pub what : Saying

abbrev pub remarks : List Placed → Placed → List Remark
remarks before c = map (λ what. record { at = c.at; what = what }) (said (layer_behind before) (scale_behind before) c.what)

-- ---- symbols and the top

-- what was said since the last start or finish
abbrev pub said_since : List Placed → List Remark
said_since [] = []
said_since (c ∷ before) = elim c.what [ start n s ↦ [] | finish ↦ [] | _ ↦ said_since before ++ remarks before c ]

-- what was said outside of definitions
abbrev pub said_outside : List Placed → List Remark
said_outside [] = []
said_outside (c ∷ before) = if is_inside before then said_outside before else said_outside before ++ remarks before c

-- a symbol's number, the position of its start, and what was said inside
pub record Definition : Type 0 where
  pub number : ℕ
  pub at : ℕ
  pub remarks : List Remark

abbrev pub definition_of : Option Opening → List Remark → List Definition
definition_of None inside = []
definition_of (Some o) inside = record { number = o.symbol; at = o.at; remarks = inside } ∷ []

-- the definitions in order: each finish ends one
abbrev pub definitions : List Placed → List Definition
definitions [] = []
definitions (c ∷ before) = elim c.what [ finish ↦ definitions before ++ definition_of (open_behind before) (said_since before) | _ ↦ definitions before ]

-- ---- the file

-- The item is what was said, in mask units.
abbrev pub IsSaid : What → Saying → Type 0
IsSaid (Draw on shape) (drawn named figure) = (on ≡ named) × (figure_of shape ≡ figure)
IsSaid (Call symbol place) (called number steps) = (symbol ≡ number) × IsPlaceOf steps place
IsSaid (Mark name at on) (marked text point named) = (name ≡ text) × (at ≡ point) × (on ≡ named)
IsSaid _ _ = ⊥

abbrev pub AreSaid : List Item → List Remark → Type 0
AreSaid [] [] = Unit {0}
AreSaid (item ∷ items) (remark ∷ remarks) = (item.pos ≡ remark.at) × IsSaid item.what remark.what × AreSaid items remarks
AreSaid _ _ = ⊥

abbrev pub AreDefined : List Symbol → List Definition → Type 0
AreDefined [] [] = Unit {0}
AreDefined (symbol ∷ symbols) (made ∷ others) = (symbol.number ≡ made.number) × (symbol.pos ≡ made.at) × AreSaid symbol.items.items made.remarks × AreDefined symbols others
AreDefined _ _ = ⊥

-- The text spells commands without fault, and the file holds what they say.
pub record Accepts (text : List ℕ) (file : Contents) : Type 0 where
  pub commands : List Placed
  pub spelled : Spells text commands
  pub none_at_fault : first_fault commands ≡ None
  pub symbols : AreDefined file.symbols (definitions commands)
  pub top : AreSaid file.top (said_outside commands)
