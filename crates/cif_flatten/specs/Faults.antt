-- Why a file is not unfolded.
use Rattle.std.specs.Prelude.{◌≡◌, ℕ, ◌<◌, ◌≤◌, ◌+◌, ◌*◌, ◌^◌, ◌==◌, Bool, true, false, ℤ, List, [], ◌∷◌, ◌++◌, map, flat_map, Option, Some, None, if◌then◌else◌}
use Rattle.std.specs.List.{list_any, All, Contains}
use Rattle.std.specs.Ordering.{int_eq}
use Rattle.plane_geom.specs.declared.shapes.Point.{Point}
use Rattle.plane_geom.specs.declared.shapes.Rect.{Rect}
use Rattle.plane_geom.specs.Bounds.{IsPointWithin}
use Rattle.plane_geom.specs.Covering.{Figure, block, polygon, wire, segments, widened}
use Rattle.cif_reader.specs.declared.file.Item.{Item}
use Rattle.cif_reader.specs.declared.file.Symbol.{Symbol}
use Rattle.cif_reader.specs.declared.file.What.{What}
use Rattle.cif_reader.specs.declared.file.What.TheVariants.{Call}
use Rattle.cif_reader.specs.File.{Contents, has_number}
use Rattle.cif_flatten.specs.declared.calls.UndefinedCall.{UndefinedCall}
use Rattle.cif_flatten.specs.Unfolding.{items_of, Placed, Drawn, Marked, IsUnfolding, calls_among, weight_among, drawn, marked}

-- ---- calls of symbols that are not defined

abbrev pub undefined_by : List Symbol → ℕ → What → List UndefinedCall
undefined_by symbols pos (Call number place) = if list_any (has_number number) symbols then [] else record { pos = pos; symbol = number } ∷ []
undefined_by symbols pos _ = []

-- the calls among the items that name no symbol
abbrev pub undefined_among : List Symbol → List Item → List UndefinedCall
undefined_among symbols items = flat_map (λ (item : Item). undefined_by symbols item.pos item.what) items

abbrev pub undefined_in_symbols : List Symbol → List Symbol → List UndefinedCall
undefined_in_symbols symbols some = flat_map (λ (s : Symbol). undefined_among symbols s.items.items) some

-- those of the whole file, in symbols, called or not, and at the top
abbrev pub undefined_calls : Contents → List UndefinedCall
undefined_calls file = undefined_in_symbols file.symbols file.symbols ++ undefined_among file.symbols file.top

abbrev pub list_of : Option UndefinedCall → List UndefinedCall
list_of None = []
list_of (Some call) = call ∷ []

-- It is one of the calls, and none stands before it.
pub record IsFirst (calls : List UndefinedCall) (call : UndefinedCall) : Type 0 where
  pub one : Contains calls call
  pub first : All (λ (c : UndefinedCall). call.pos ≤ c.pos) calls

-- The call is the first of the file that names no defined symbol.
abbrev pub IsUndefined : Contents → UndefinedCall → Type 0
IsUndefined file call = IsFirst (undefined_calls file) call

-- The first of the calls, or none where there is none.
abbrev pub IsFirstIfAny : List UndefinedCall → Option UndefinedCall → Type 0
IsFirstIfAny calls None = calls ≡ []
IsFirstIfAny calls (Some call) = IsFirst calls call

-- ---- symbols that call themselves

abbrev pub is_call_of : ℕ → What → Bool
is_call_of number (Call called place) = number == called
is_call_of number _ = false

-- Whether one of the items is a call of that symbol.
abbrev pub has_call : ℕ → List Item → Bool
has_call number items = list_any (λ (item : Item). is_call_of number item.what) items

-- Whether the first symbol calls the second one.
abbrev pub calls : List Symbol → ℕ → ℕ → Bool
calls symbols caller called = has_call called (items_of symbols caller)

-- The first symbol calls the first of the list, each of the list the next one, and the last of it the second symbol.
abbrev pub CallsAlong : List Symbol → ℕ → List ℕ → ℕ → Type 0
CallsAlong symbols a [] b = calls symbols a b ≡ true
CallsAlong symbols a (c ∷ cs) b = (calls symbols a c ≡ true) × CallsAlong symbols c cs b

-- The first symbol calls the second one, perhaps through others.
pub record CallsThrough (symbols : List Symbol) (a b : ℕ) : Type 0 where
  pub through : List ℕ
  pub along : CallsAlong symbols a through b

-- The symbol calls itself, perhaps through others, and none with a lesser number does. None of them has to be called.
pub record IsRecursive (file : Contents) (number : ℕ) : Type 0 where
  pub itself : CallsThrough file.symbols number number
  pub least : (other : ℕ) → CallsThrough file.symbols other other → number ≤ other

-- No symbol calls itself.
pub record IsNested (symbols : List Symbol) : Type 0 where
  pub none : (number : ℕ) → CallsThrough symbols number number → ⊥

-- Some symbol calls itself.
pub record Recurses (symbols : List Symbol) : Type 0 where
  pub number : ℕ
  pub itself : CallsThrough symbols number number

-- ---- how much is unfolded

-- The most calls, and the most that shapes and labels weigh.
unfoldable pub most_calls : ℕ
most_calls = 65536

unfoldable pub most_weight : ℕ
most_weight = 32768

pub record HasManyCalls (file : Contents) : Type 0 where
  pub placed : List Placed
  pub unfolded : IsUnfolding file placed
  pub many : most_calls < calls_among placed

pub record HasMuchWeight (file : Contents) : Type 0 where
  pub placed : List Placed
  pub unfolded : IsUnfolding file placed
  pub much : most_weight < weight_among placed

-- ---- how far it reaches

-- two opposite corners of a rectangle
abbrev pub rect_corners : Rect → List Point
rect_corners r = record { x = r.x0; y = r.y0 } ∷ record { x = r.x1; y = r.y1 } ∷ []

-- the corners of a block, the points of a polygon, and the corners of the widened segments of a wire
abbrev pub corners : Figure → List Point
corners (block r) = rect_corners r
corners (polygon points) = points
corners (wire half path) = flat_map (λ s. rect_corners (widened half s)) (segments path)

-- a position, and the points that stand there
pub record PlacedPoints : Type 0 where
  pub pos : ℕ
  pub points : List Point

-- the corners of all placed shapes, and the points of all placed labels
abbrev pub reaching : List Placed → List PlacedPoints
reaching placed =
    map (λ (d : Drawn). record { pos = d.pos; points = corners d.figure }) (drawn placed)
    ++ map (λ (m : Marked). record { pos = m.pos; points = m.at ∷ [] }) (marked placed)

-- All points are within 2^24.
abbrev pub IsInRange : PlacedPoints → Type 0
IsInRange r = All (IsPointWithin (2 ^ 24)) r.points

-- A placed shape or label of that position reaches out of the range, and none with a lesser position does.
pub record IsOutOfRange (file : Contents) (pos : ℕ) : Type 0 where
  pub placed : List Placed
  pub unfolded : IsUnfolding file placed
  pub reach : PlacedPoints
  pub one : Contains (reaching placed) reach
  pub at : reach.pos ≡ pos
  pub out : IsInRange reach → ⊥
  pub least : All (λ (r : PlacedPoints). (IsInRange r → ⊥) → pos ≤ r.pos) (reaching placed)

-- ---- how fine it is

-- how many different numbers there are
abbrev pub count_distinct : List ℤ → ℕ
count_distinct [] = 0
count_distinct (z ∷ zs) = if list_any (int_eq z) zs then count_distinct zs else count_distinct zs + 1

-- the corners of all placed shapes
abbrev pub all_corners : List Placed → List Point
all_corners placed = flat_map (λ (d : Drawn). corners d.figure) (drawn placed)

-- the number of different x times the number of different y
abbrev pub fineness : List Point → ℕ
fineness points = count_distinct (map (λ (p : Point). p.x) points) * count_distinct (map (λ (p : Point). p.y) points)

unfoldable pub most_fineness : ℕ
most_fineness = 4194304

pub record IsTooFine (file : Contents) : Type 0 where
  pub placed : List Placed
  pub unfolded : IsUnfolding file placed
  pub fine : most_fineness < fineness (all_corners placed)
