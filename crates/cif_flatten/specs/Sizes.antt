-- What is known of the sizes of symbols while they are found. No promise to users cites these words.
use Rattle.std.specs.Prelude.{◌≡◌, ℕ, ◌≤◌, ◌⊎◌, Bool, true, not, is_some, List, [], ◌∷◌, take, length, Option, Some, None, nat_eq, count_by}
use Rattle.std.specs.List.{list_any}
use Rattle.plane_geom.specs.Placement.{Step}
use Rattle.indexmap.specs.IndexMap.{IndexMap, get}
use Rattle.cif_reader.specs.declared.file.Item.{Item}
use Rattle.cif_reader.specs.declared.file.Symbol.{Symbol}
use Rattle.cif_reader.specs.declared.file.What.{What}
use Rattle.cif_reader.specs.declared.file.What.TheVariants.{Call}
use Rattle.cif_reader.specs.File.{has_number}
use Rattle.cif_flatten.specs.declared.sizes.Size.{Size}
use Rattle.cif_flatten.specs.declared.sizes.Frame.{Frame}
use Rattle.cif_flatten.specs.Unfolding.{Placed, in_place, items_of, Unfolds, calls_among, weight_among, capped}
use Rattle.cif_flatten.specs.Faults.{calls}

-- Wherever the items are placed, they unfold, and have so many calls and that weight.
pub record HasSize (symbols : List Symbol) (items : List Item) (size : Size) : Type 0 where
  pub placed : List Step → ℕ → List Placed
  pub unfolds : (steps : List Step) (depth : ℕ) → Unfolds symbols (in_place steps depth items) (placed steps depth)
  pub calls : (steps : List Step) (depth : ℕ) → size.calls ≡ capped (calls_among (placed steps depth))
  pub weight : (steps : List Step) (depth : ℕ) → size.weight ≡ capped (weight_among (placed steps depth))

abbrev pub called_by : What → Option ℕ
called_by (Call number place) = Some number
called_by _ = None

-- The table gives symbols their sizes, or none as yet to those that were begun.
module _ {S : Type 0} where
  abbrev pub AreSizes : List Symbol → IndexMap ℕ (Option Size) S → Type 0
  AreSizes symbols table = (number : ℕ) (size : Size) → get nat_eq table number ≡ Some (Some size) → HasSize symbols (items_of symbols number) size

  -- No symbol is begun and not done.
  abbrev pub AreSettled : IndexMap ℕ (Option Size) S → Type 0
  AreSettled table = (number : ℕ) → get nat_eq table number ≡ Some None → ⊥

  -- The symbol is begun, or is defined and not begun.
  abbrev pub IsWaiting : List Symbol → IndexMap ℕ (Option Size) S → ℕ → Type 0
  IsWaiting symbols table number = (get nat_eq table number ≡ Some None) ⊎ ((get nat_eq table number ≡ None) × (list_any (has_number number) symbols ≡ true))

  abbrev pub is_new : IndexMap ℕ (Option Size) S → Symbol → Bool
  is_new table symbol = not (is_some (get nat_eq table symbol.number))

  -- how many symbols are not begun
  unfoldable pub count_new : List Symbol → IndexMap ℕ (Option Size) S → ℕ
  count_new symbols table = count_by (is_new table) symbols

-- The size is that of the first items of the frame's symbol.
pub record IsFrame (symbols : List Symbol) (frame : Frame) : Type 0 where
  pub within : frame.next ≤ length (items_of symbols frame.number)
  pub size : HasSize symbols (take frame.next (items_of symbols frame.number)) frame.size

-- the first number of the frames, or that of the top
abbrev pub first_number : List Frame → ℕ → ℕ
first_number [] top = top
first_number (frame ∷ frames) top = frame.number

-- Each symbol of the frames calls the next, and the last of them the top.
abbrev pub IsPath : List Symbol → List Frame → ℕ → Type 0
IsPath symbols [] top = Unit {0}
IsPath symbols (frame ∷ frames) top = (calls symbols frame.number (first_number frames top) ≡ true) × IsFrame symbols frame × IsPath symbols frames top

abbrev pub IsOn : ℕ → List Frame → ℕ → Type 0
IsOn number [] top = number ≡ top
IsOn number (frame ∷ frames) top = (number ≡ frame.number) ⊎ IsOn number frames top

module _ {S : Type 0} where
  -- The state of the search: a path of begun symbols, and the table.
  pub record Exploring (symbols : List Symbol) (before now : IndexMap ℕ (Option Size) S) (start : ℕ) (below : List Frame) (top : Frame) : Type 0 where
    pub sizes : AreSizes symbols now
    pub frame : IsFrame symbols top
    pub path : IsPath symbols below top.number
    pub begun_on : (number : ℕ) → get nat_eq now number ≡ Some None → IsOn number below top.number
    pub kept : (number : ℕ) → is_some (get nat_eq before number) ≡ true → is_some (get nat_eq now number) ≡ true
    pub begun : is_some (get nat_eq now start) ≡ true

  -- The symbol is in the table, and all that was; no symbol is begun and not done.
  pub record Explored (symbols : List Symbol) (before now : IndexMap ℕ (Option Size) S) (start : ℕ) : Type 0 where
    pub sizes : AreSizes symbols now
    pub settled : AreSettled now
    pub kept : (number : ℕ) → is_some (get nat_eq before number) ≡ true → is_some (get nat_eq now number) ≡ true
    pub begun : is_some (get nat_eq now start) ≡ true

  -- Symbols with these numbers are all in the table.
  abbrev pub AreBegun : List Symbol → IndexMap ℕ (Option Size) S → Type 0
  AreBegun symbols table = (number : ℕ) → list_any (has_number number) symbols ≡ true → is_some (get nat_eq table number) ≡ true

  -- The table has the size of each symbol.
  pub record HasSizes (symbols : List Symbol) (table : IndexMap ℕ (Option Size) S) : Type 0 where
    pub sizes : AreSizes symbols table
    pub settled : AreSettled table
    pub begun : AreBegun symbols table
