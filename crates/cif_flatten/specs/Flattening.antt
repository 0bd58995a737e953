-- What is left of a file when its calls are unfolded, and why one is refused.
use Rattle.std.specs.Prelude.{◌≡◌, ℕ, ◌<◌, List, map}
use Rattle.std.specs.List.{Contains}
use Rattle.plane_geom.specs.Covering.{figure_of}
use Rattle.cif_reader.specs.File.{Contents}
use Rattle.cif_flatten.specs.declared.calls.UndefinedCall.{UndefinedCall}
use Rattle.cif_flatten.specs.declared.flat.Draw.{Draw}
use Rattle.cif_flatten.specs.declared.flat.Mark.{Mark}
use Rattle.cif_flatten.specs.declared.refusal.FlattenRefusal.{FlattenRefusal}
use Rattle.cif_flatten.specs.declared.refusal.FlattenRefusal.TheVariants.{Undefined, Recursive, TooManyCalls, TooManyEdges, OutOfRange, TooFine, NoMemory}
use Rattle.cif_flatten.specs.Flat.{Lists}
use Rattle.cif_flatten.specs.Unfolding.{Placed, Drawn, Marked, IsUnfolding, drawn, marked}
use Rattle.cif_flatten.specs.Faults.{undefined_calls, IsUndefined, IsRecursive, HasManyCalls, HasMuchWeight, IsOutOfRange, IsTooFine}

-- ---- faults

-- The file has the fault that the refusal names.
abbrev pub HasFault : Contents → FlattenRefusal → Type 0
HasFault file (Undefined pos symbol) = IsUndefined file (record { pos = pos; symbol = symbol })
HasFault file (Recursive symbol) = IsRecursive file symbol
HasFault file TooManyCalls = HasManyCalls file
HasFault file TooManyEdges = HasMuchWeight file
HasFault file (OutOfRange pos) = IsOutOfRange file pos
HasFault file TooFine = IsTooFine file
HasFault file NoMemory = ⊥

-- the order in which faults are told
abbrev pub row : FlattenRefusal → ℕ
row (Undefined pos symbol) = 1
row (Recursive symbol) = 2
row TooManyCalls = 3
row TooManyEdges = 4
row (OutOfRange pos) = 5
row TooFine = 6
row NoMemory = 7

-- The file has that fault, and none of an earlier row.
pub record IsFirstFault (file : Contents) (refusal : FlattenRefusal) : Type 0 where
  pub fault : HasFault file refusal
  pub first : (other : FlattenRefusal) → row other < row refusal → HasFault file other → ⊥

-- The file has no fault.
pub record IsSound (file : Contents) : Type 0 where
  pub none : (refusal : FlattenRefusal) → HasFault file refusal → ⊥

-- Calls of symbols that are not defined name one symbol, where they stand at one position. In a file that was read, each
-- command has its own position.
pub record AreCallsApart (file : Contents) : Type 0 where
  pub apart : (a b : UndefinedCall) → Contains (undefined_calls file) a → Contains (undefined_calls file) b → a.pos ≡ b.pos → a.symbol ≡ b.symbol

-- ---- the layout without calls

abbrev pub drawn_of : Draw → Drawn
drawn_of d = record { layer = d.layer; figure = figure_of d.shape; pos = d.pos }

abbrev pub marked_of : Mark → Marked
marked_of m = record { name = m.name; at = m.at; layer = m.layer; depth = m.depth; pos = m.pos }

-- The file has no fault, and the lists are the placed shapes and the placed labels of its unfolding, in its order.
pub record IsFlattened (file : Contents) (lists : Lists) : Type 0 where
  pub sound : IsSound file
  pub placed : List Placed
  pub unfolded : IsUnfolding file placed
  pub draws : map drawn_of lists.draws ≡ drawn placed
  pub marks : map marked_of lists.marks ≡ marked placed

-- The file is flattened to some lists.
pub record HasFlattening (file : Contents) : Type 0 where
  pub lists : Lists
  pub flat : IsFlattened file lists
