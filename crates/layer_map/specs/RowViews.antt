-- What a row of the code says.
use Rattle.std.specs.Prelude.{◌≡◌, ℕ, List, true, false}
use Rattle.std.specs.Prelude.{is_some}
use Rattle.plane_geom.specs.Names.{is_short}
use Rattle.layer_map.specs.declared.rows.Row.{Row}
use Rattle.layer_map.specs.declared.rows.Row.TheVariants.{Nothing, Wire, Cut, Fet, Label, Supply}
use Rattle.layer_map.specs.Words.{words_of}
use Rattle.layer_map.specs.Grammar.{Statement, nothing, wire, cut, fet, label, supply}
use Rattle.layer_map.specs.Readers.{parse, tree_of, is_nothing}

abbrev pub row_seen : Row → Statement
row_seen Nothing = nothing
row_seen (Wire name expr) = wire name.now (tree_of (words_of true expr.now))
row_seen (Cut expr wires) = cut (tree_of (words_of true expr.now)) (words_of true wires.now)
row_seen (Fet kind expr gate diff) = fet kind (tree_of (words_of true expr.now)) gate.now diff.now
row_seen (Label layer wires) = label layer.now (words_of true wires.now)
row_seen (Supply side names) = supply side (words_of false names.now)

-- The bytes begin with an expression.
pub record HasTree (bytes : List ℕ) : Type 0 where
  pub parsed : is_some (parse (words_of true bytes)) ≡ true

-- The bytes hold a word.
pub record HasList (bytes : List ℕ) : Type 0 where
  pub some : is_nothing (words_of true bytes) ≡ false

abbrev pub IsFormed : Row → Type 0
IsFormed (Wire name expr) = HasTree expr.now
IsFormed (Cut expr wires) = HasTree expr.now × HasList wires.now
IsFormed (Fet kind expr gate diff) = HasTree expr.now
IsFormed (Label layer wires) = HasList wires.now × (is_short layer.now ≡ true)
IsFormed _ = Unit {0}
