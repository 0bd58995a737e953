-- What the helpers that add a line give.
use Rattle.std.specs.Prelude.{ℕ, List, Option, Some, None, map, if◌then◌else◌}
use Rattle.std.specs.List.{list_all, list_any, position_or_len}
use Rattle.std.specs.Str.{bytes_eq}
use Rattle.layer_map.specs.declared.map.WireLine.{WireLine}

-- the numbers of the wires with these names, if all of them have one
abbrev pub numbers_at : List WireLine → List (List ℕ) → Option (List ℕ)
numbers_at wires names = if list_all (λ n. list_any (λ w. bytes_eq w.name n) wires) names then Some (map (λ n. position_or_len (λ w. bytes_eq w.name n) wires) names) else None
