-- How sides are printed: as a word with a `,` between each two entries. An entry is `S`, the side in hundredths of a
-- micron, or `S:W`, with a weight other than 1.
use Rattle.std.specs.Prelude.{ℕ, ◌/◌, List, [], ◌∷◌, ◌++◌, map, codes, nat_eq, if◌then◌else◌}
use Rattle.std.specs.List.{concat, join_with_byte}
use Rattle.std.specs.Fmt.{decimal}
use Rattle.defect_sweep.specs.declared.sides.SideWeight.{SideWeight}

-- the side in hundredths of a micron, each of which is two cells
abbrev pub size_of : SideWeight → ℕ
size_of side = side.cells / 2

-- the byte `,`
abbrev pub comma : ℕ
comma = 44

-- the entry of a side: `S` where its weight is 1, else `S:W`
abbrev pub entry_text : SideWeight → List ℕ
entry_text side = concat (decimal (size_of side) ∷ (if nat_eq side.weight 1 then [] else codes ":" ∷ decimal side.weight ∷ []))

-- an entry with the `,` before it
abbrev pub next_text : SideWeight → List ℕ
next_text side = codes "," ++ entry_text side

-- the word of the sides
abbrev pub sides_text : List SideWeight → List ℕ
sides_text sides = join_with_byte comma (map entry_text sides)
