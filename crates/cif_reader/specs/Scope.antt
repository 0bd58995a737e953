-- Where a command stands: what the commands before it, the latest first, say of its layer, its definition and its scale.
use Rattle.std.specs.Prelude.{ℕ, List, [], ◌∷◌, Option, Some, None}
use Rattle.cif_grammar.specs.declared.spelled.Number.{Number}
use Rattle.cif_grammar.specs.Grammar.{layer, start, finish, Placed}
use Rattle.cif_reader.specs.declared.measure.Scale.{Scale}

-- The layer is that of the last `L`. It is none behind a start. Behind a finish it is the one from before the start.
abbrev mutual
  pub layer_behind : List Placed → Option (List ℕ)
  layer_behind [] = None
  layer_behind (c ∷ before) = elim c.what [ layer name ↦ Some name | start n s ↦ None | finish ↦ layer_around before | _ ↦ layer_behind before ]

  -- the layer from before the last start
  pub layer_around : List Placed → Option (List ℕ)
  layer_around [] = None
  layer_around (c ∷ before) = elim c.what [ start n s ↦ layer_behind before | _ ↦ layer_around before ]

-- the scale a/b that a start gives: 1/1 where it gives none
abbrev pub scale_of : Option (Number × Number) → Scale
scale_of None = record { a = 1; b = 1 }
scale_of (Some s) = record { a = s.0.value; b = s.1.value }

-- a definition that was started: its position, its symbol and its scale
pub record Opening : Type 0 where
  pub at : ℕ
  pub symbol : ℕ
  pub scale : Scale

-- the definition that is open behind the commands
abbrev pub open_behind : List Placed → Option Opening
open_behind [] = None
open_behind (c ∷ before) = elim c.what [ start n s ↦ Some (record { at = c.at; symbol = n.value; scale = scale_of s }) | finish ↦ None | _ ↦ open_behind before ]

-- the scale of the open definition: 1/1 outside of definitions
abbrev pub scale_in : Option Opening → Scale
scale_in None = scale_of None
scale_in (Some o) = o.scale

abbrev pub scale_behind : List Placed → Scale
scale_behind before = scale_in (open_behind before)
