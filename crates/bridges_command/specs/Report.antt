-- The text of a `bridges` report.
use Rattle.std.specs.Prelude.{ℕ, suc, List, [], ◌∷◌, ◌++◌, length, codes}
use Rattle.std.specs.List.{concat}
use Rattle.std.specs.Fmt.{decimal}
use Rattle.defect_sweep.specs.declared.sides.SideWeight.{SideWeight}
use Rattle.defect_sweep.specs.Counting.{BridgeCount}
use Rattle.defect_sweep.specs.SideTexts.{sides_text}
use Rattle.bridge_rank.specs.Lines.{bridge_line}

-- how many of the layout's labels are bound, lie on no wire, and lie too deep to be bound
pub record Tallies : Type 0 where
  pub bound : ℕ
  pub unbound : ℕ
  pub deep : ℕ

-- the numbers of nets, of labels and of bridges, after the sides
unfoldable pub numbers_text : ℕ → Tallies → ℕ → List ℕ
numbers_text nets tallies bridges =
    concat (codes "\nnets " ∷ decimal nets ∷ codes "\nlabels " ∷ decimal tallies.bound ∷ codes " " ∷ decimal tallies.unbound ∷ codes " " ∷ decimal tallies.deep ∷ codes "\nbridges " ∷ decimal bridges ∷ codes "\n" ∷ [])

-- what stands before the sides
unfoldable pub opening : List ℕ
opening = codes "carafe bridges 1\nside "

-- the lines before the bridges
abbrev pub header : List SideWeight → ℕ → Tallies → ℕ → List ℕ
header sides nets tallies bridges = opening ++ (sides_text sides ++ numbers_text nets tallies bridges)

-- the lines of the bridges, from this place in the list on
abbrev pub bridge_lines : List (List ℕ) → List (List ℕ) → ℕ → List BridgeCount → List ℕ
bridge_lines wires names place [] = []
bridge_lines wires names place (bridge ∷ bridges) = bridge_line wires names place bridge (codes "\n") ++ bridge_lines wires names (suc place) bridges

unfoldable pub tally : ℕ → List ℕ
tally bridges = concat (codes "tally bridges " ∷ decimal bridges ∷ codes "\n" ∷ [])

-- the whole text, given the sides, the names of the wires and of the nets, the labels' tallies and the ranked list
abbrev pub report_text : List SideWeight → List (List ℕ) → List (List ℕ) → Tallies → List BridgeCount → List ℕ
report_text sides wires names tallies ranked = header sides (length names) tallies (length ranked) ++ (bridge_lines wires names 1 ranked ++ tally (length ranked))
