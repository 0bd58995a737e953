-- The word of sides, entry by entry.
use Rattle.std.proofs.Common.{◌≡◌, List, [], ◌∷◌, ◌++◌, flat_map, ap}
use Rattle.std.proofs.lemmas.List.{append-nil}
use Rattle.defect_sweep.specs.declared.sides.SideWeight.{SideWeight}
use Rattle.defect_sweep.specs.SideTexts.{comma, entry_text, next_text, sides_text}

-- the first entry, and each other one with a `,` before it
pub sides_in_row : (side : SideWeight) (sides : List SideWeight) → entry_text side ++ flat_map next_text sides ≡ sides_text (side ∷ sides)
sides_in_row side [] = append-nil (entry_text side)
sides_in_row side (next ∷ sides) = ap (λ t. entry_text side ++ (comma ∷ t)) (sides_in_row next sides)
