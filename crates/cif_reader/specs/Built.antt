-- The state of the reader behind the commands that it has read.
use Rattle.std.specs.Prelude.{◌≡◌, ℕ, ◌<◌, ◌≤◌, ◌==◌, ◌++◌, pos, Bool, true, false, not, ◌||◌, is_some, List, [], ◌∷◌, map, Option, Some, None, if◌then◌else◌}
use Rattle.std.specs.Option.{option_and_then}
use Rattle.cif_grammar.specs.Readers.{command_at}
use Rattle.std.specs.List.{list_any, list_all}
use Rattle.plane_geom.specs.Covering.{Figure, block, polygon as outlined, wire as drawn_along}
use Rattle.cif_grammar.specs.Grammar.{Command, box, polygon, wire, layer, start, finish, Placed}
use Rattle.cif_reader.specs.declared.measure.Scale.{Scale}
use Rattle.cif_reader.specs.declared.file.Item.{Item}
use Rattle.cif_reader.specs.declared.file.What.{What}
use Rattle.cif_reader.specs.Measure.{is_whole, scaled, scaled_point, scaled_rect, box_corners, points_along, gridded}
use Rattle.cif_reader.specs.Faults.{is_large, numbers, goes_far, is_manhattan, starts}
use Rattle.cif_reader.specs.Reading.{Saying, IsSaid, on_layer, AreSaid, AreDefined, definitions, said_since, said_outside}
use Rattle.cif_reader.specs.Scope.{Opening, layer_behind, layer_around, open_behind, scale_in}
use Rattle.cif_reader.specs.File.{AreKeptItems, has_number}
use Rattle.cif_reader.specs.declared.file.Symbol.{Symbol}
use Rattle.cif_reader.specs.declared.builder.Open.{Open}
use Rattle.cif_reader.specs.declared.builder.Builder.{Builder}
use Rattle.cif_grammar.specs.declared.spelled.Number.{Number}
use Rattle.cif_grammar.specs.Words.{limit}

-- The command has none of the faults of its numbers.
pub record IsFine (s : Scale) (c : Command) : Type 0 where
  pub small : list_any is_large (numbers c) ≡ false
  pub near : goes_far s c ≡ false
  pub straight : is_manhattan c ≡ true
  pub whole : list_all (is_whole s) (gridded c) ≡ true

-- what is said, if anything
abbrev pub IsSaidBy : Option What → List Saying → Type 0
IsSaidBy None [] = Unit {0}
IsSaidBy (Some what) (saying ∷ []) = IsSaid what saying
IsSaidBy _ _ = ⊥

-- the figure of a box, a polygon or a wire
abbrev pub figure_said : Scale → Command → Option Figure
figure_said s (box l w c d) = Some (block (scaled_rect s (box_corners l.value w.value c d)))
figure_said s (polygon p) = Some (outlined (map (scaled_point s) (points_along p)))
figure_said s (wire w p) = Some (drawn_along (scaled s (pos w.value)) (map (scaled_point s) (points_along p)))
figure_said s _ = None

-- what a box, a polygon or a wire says on a layer
abbrev pub said_on : Option (List ℕ) → Option Figure → List Saying
said_on current None = []
said_on current (Some figure) = on_layer current figure

abbrev pub said_drawn : Option (List ℕ) → Scale → Command → List Saying
said_drawn current s c = said_on current (figure_said s c)

-- ---- the state, as the definitions speak of it

abbrev pub IsScaleSmall : Option (Number × Number) → Type 0
IsScaleSmall None = Unit {0}
IsScaleSmall (Some s) = (s.0.value ≤ limit) × (s.1.value ≤ limit)

abbrev pub opening_of : Option Open → Option Opening
opening_of None = None
opening_of (Some o) = Some (record { at = o.pos; symbol = o.number; scale = o.scale })

abbrev pub items_in : Option Open → List Item
items_in None = []
items_in (Some o) = o.items.items

abbrev pub grown_in : Option Open → Item → List Item
grown_in None item = []
grown_in (Some o) item = o.items.items ++ item ∷ []

abbrev pub grown_outside : Option Open → List Item → Item → List Item
grown_outside None top item = top ++ item ∷ []
grown_outside (Some o) top item = top

abbrev pub opens : ℕ → Option Opening → Bool
opens number None = false
opens number (Some o) = number == o.symbol

abbrev pub may_stand_in : Bool → Command → Bool
may_stand_in inside (start n s) = not inside
may_stand_in inside finish = inside
may_stand_in inside _ = true

-- the symbols, with the one that was open behind them
abbrev pub IsClosed : Option Opening → List Item → List Symbol → List Symbol → Type 0
IsClosed None items before after = after ≡ before
IsClosed (Some o) items before after = (symbol : Symbol) × (symbol.number ≡ o.symbol) × (symbol.pos ≡ o.at) × (symbol.items.items ≡ items) × (after ≡ before ++ symbol ∷ [])

-- What the state keeps by itself.
pub record IsSound (b : Builder) : Type 0 where
  pub positive : 0 < (scale_in (opening_of b.definition)).b
  pub another : (o : Opening) → opening_of b.definition ≡ Some o → list_any (has_number o.symbol) b.file.symbols ≡ false
  pub kept : AreKeptItems (items_in b.definition)

-- The state is that behind these commands, the latest first.
pub record IsBuilt (before : List Placed) (b : Builder) : Type 0 where
  pub layer : b.layer ≡ layer_behind before
  pub outer : b.outer ≡ layer_around before
  pub opening : opening_of b.definition ≡ open_behind before
  pub inside : is_some (opening_of b.definition) ≡ true → AreSaid (items_in b.definition) (said_since before)
  pub symbols : AreDefined b.file.symbols (definitions before)
  pub top : AreSaid b.file.top (said_outside before)
  pub starts : (n : ℕ) → list_any (starts n) before ≡ (list_any (has_number n) b.file.symbols || opens n (opening_of b.definition))
  pub sound : IsSound b

-- It is no `L`, no `DS` and no `DF`.
abbrev pub is_bare : Command → Bool
is_bare (layer name) = false
is_bare (start n s) = false
is_bare finish = false
is_bare _ = true

-- the next command, if it may stand
abbrev pub if_standing : Bool → Command × List ℕ → Option (Command × List ℕ)
if_standing inside c = if may_stand_in inside c.0 then Some c else None

unfoldable pub standing_at : Bool → ℕ → List ℕ → Option (Command × List ℕ)
standing_at inside total bytes = option_and_then (if_standing inside) (command_at total bytes)
