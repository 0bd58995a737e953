-- The word SIDES: 1 to 8 entries joined by `,`. An entry is `S` or `S:W`, where S is the side of a square defect in
-- hundredths of a micron, from 1 to 32,768, and W is its weight, from 1 to 30. `S` alone has the weight 1.
use Rattle.std.specs.Prelude.{◌≡◌, ℕ, ◌%◌, ◌⊎◌, List, ◌++◌, codes, All}
use Rattle.std.specs.List.{AllZip, join_with_byte}
use Rattle.std.specs.Fmt.{decimal}
use Rattle.defect_sweep.specs.declared.sides.SideWeight.{SideWeight}
use Rattle.defect_sweep.specs.Sides.{IsSide, AreSides}
use Rattle.defect_sweep.specs.SideTexts.{comma, size_of}

-- the side is a whole number of hundredths of a micron, each of which is two cells
abbrev pub IsEven : SideWeight → Type 0
IsEven side = side.cells % 2 ≡ 0

-- an entry can spell this side: it can be counted, and is even
pub record IsEntrySide (side : SideWeight) : Type 0 where
  pub counted : IsSide side
  pub even : IsEven side

-- The entry is `S`, with the weight 1, or `S:W`, in plain decimals.
abbrev pub SpellsEntry : List ℕ → SideWeight → Type 0
SpellsEntry entry side = ((entry ≡ decimal (size_of side)) × (side.weight ≡ 1)) ⊎ (entry ≡ decimal (size_of side) ++ (codes ":" ++ decimal side.weight))

-- The word's entries, with a `,` between each two, spell these sides, one each: 1 to 8, each greater than the one before it.
pub record SpellsSides (word : List ℕ) (sides : List SideWeight) : Type 0 where
  pub entries : List (List ℕ)
  pub joined : word ≡ join_with_byte comma entries
  pub each : AllZip SpellsEntry entries sides
  pub are : AreSides sides
  pub even : All IsEven sides
