-- The lines of a ranked list.
use Rattle.std.specs.Prelude.{ℕ, List, [], ◌∷◌, ◌++◌, map, flat_map, codes, slice_index_or}
use Rattle.std.specs.List.{concat}
use Rattle.std.specs.Fmt.{decimal}
use Rattle.layer_map.specs.declared.map.WireId.{WireId}
use Rattle.layer_map.specs.declared.map.WireLine.{WireLine}
use Rattle.defect_sweep.specs.Counting.{BridgeCount}

-- the names of a map's lines of wires
abbrev pub line_names : List WireLine → List (List ℕ)
line_names lines = map (λ (w : WireLine). w.name) lines

-- the name at this number
abbrev pub name_at : List (List ℕ) → ℕ → List ℕ
name_at names number = slice_index_or names number []

-- the count on one wire
unfoldable pub wire_count : List (List ℕ) → WireId × ℕ → List ℕ
wire_count wires c = concat (codes " " ∷ name_at wires c.0.0 ∷ codes "=" ∷ decimal c.1 ∷ [])

-- the place in the list, from 1, the two nets and the count in all
unfoldable pub bridge_start : List (List ℕ) → ℕ → BridgeCount → List ℕ
bridge_start names place bridge =
    concat (codes "bridge " ∷ decimal place ∷ codes " " ∷ name_at names bridge.pair.a.0 ∷ codes " " ∷ name_at names bridge.pair.b.0 ∷ codes " " ∷ decimal bridge.total ∷ [])

-- the line of the bridge at this place in the list, and what follows its counts
abbrev pub bridge_line : List (List ℕ) → List (List ℕ) → ℕ → BridgeCount → List ℕ → List ℕ
bridge_line wires names place bridge end = bridge_start names place bridge ++ (flat_map (wire_count wires) bridge.on ++ end)
