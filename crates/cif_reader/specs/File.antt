-- What every CIF file keeps.
use Rattle.std.specs.Prelude.{◌≡◌, ℕ, Bool, false, ◌==◌, List, [], ◌∷◌}
use Rattle.std.specs.List.{list_any, AllByRecursion}
use Rattle.plane_geom.specs.declared.shapes.Shape.{Shape}
use Rattle.plane_geom.specs.Bounds.{IsPointWithin}
use Rattle.plane_geom.specs.Placement.{IsShiftWithin}
use Rattle.plane_geom.specs.Covering.{figure_of, IsWellFormed, IsFigureWithin}
use Rattle.cif_grammar.specs.Words.{limit}
use Rattle.cif_reader.specs.declared.file.Item.{Item}
use Rattle.cif_reader.specs.declared.file.Symbol.{Symbol}
use Rattle.cif_reader.specs.declared.file.What.{What}
use Rattle.cif_reader.specs.declared.file.What.TheVariants.{Draw, Call, Mark}

-- The symbols in order of definition, and the items outside of symbols.
pub record Contents : Type 0 where
  pub symbols : List Symbol
  pub top : List Item

-- The shape is well formed, and its coordinates and half width are within the limit.
pub record IsDrawn (shape : Shape) : Type 0 where
  pub formed : IsWellFormed (figure_of shape)
  pub within : IsFigureWithin limit (figure_of shape)

abbrev pub IsKeptWhat : What → Type 0
IsKeptWhat (Draw on shape) = IsDrawn shape
IsKeptWhat (Call symbol place) = IsShiftWithin limit place
IsKeptWhat (Mark name at on) = IsPointWithin limit at

abbrev pub AreKeptItems : List Item → Type 0
AreKeptItems items = AllByRecursion (λ (item : Item). IsKeptWhat item.what) items

abbrev pub AreKeptSymbols : List Symbol → Type 0
AreKeptSymbols symbols = AllByRecursion (λ (symbol : Symbol). AreKeptItems symbol.items.items) symbols

abbrev pub has_number : ℕ → Symbol → Bool
has_number number symbol = number == symbol.number

-- No two symbols have one number.
abbrev pub AreApart : List Symbol → Type 0
AreApart [] = Unit {0}
AreApart (symbol ∷ symbols) = (list_any (has_number symbol.number) symbols ≡ false) × AreApart symbols

-- What a file keeps.
pub record IsFile (file : Contents) : Type 0 where
  pub symbols : AreKeptSymbols file.symbols
  pub top : AreKeptItems file.top
  pub apart : AreApart file.symbols

-- each symbol under its number
abbrev pub AreUnderNumbers : List (ℕ × Symbol) → Type 0
AreUnderNumbers entries = AllByRecursion (λ (e : ℕ × Symbol). e.0 ≡ e.1.number) entries
