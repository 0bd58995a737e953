-- Files that hold the same.
use Rattle.std.specs.Prelude.{◌≡◌, List, [], ◌∷◌}
use Rattle.plane_geom.specs.Covering.{figure_of}
use Rattle.cif_reader.specs.declared.file.Item.{Item}
use Rattle.cif_reader.specs.declared.file.Symbol.{Symbol}
use Rattle.cif_reader.specs.declared.file.What.{What}
use Rattle.cif_reader.specs.declared.file.What.TheVariants.{Draw, Call, Mark}
use Rattle.cif_reader.specs.File.{Contents}

abbrev pub IsSame : What → What → Type 0
IsSame (Draw on shape) (Draw layer other) = (on ≡ layer) × (figure_of shape ≡ figure_of other)
IsSame (Call symbol place) (Call number there) = (symbol ≡ number) × (place ≡ there)
IsSame (Mark name at on) (Mark text point layer) = (name ≡ text) × (at ≡ point) × (on ≡ layer)
IsSame _ _ = ⊥

abbrev pub AreSame : List Item → List Item → Type 0
AreSame [] [] = Unit {0}
AreSame (item ∷ items) (other ∷ others) = (item.pos ≡ other.pos) × IsSame item.what other.what × AreSame items others
AreSame _ _ = ⊥

abbrev pub AreSameSymbols : List Symbol → List Symbol → Type 0
AreSameSymbols [] [] = Unit {0}
AreSameSymbols (symbol ∷ symbols) (other ∷ others) = (symbol.number ≡ other.number) × (symbol.pos ≡ other.pos) × AreSame symbol.items.items other.items.items × AreSameSymbols symbols others
AreSameSymbols _ _ = ⊥

-- The files have the same symbols and the same top, item by item: the same positions, layers, figures, places and names.
pub record IsSameFile (f g : Contents) : Type 0 where
  pub symbols : AreSameSymbols f.symbols g.symbols
  pub top : AreSame f.top g.top
