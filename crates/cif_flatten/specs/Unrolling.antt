-- The unfolding of calls as it goes on. No promise to users cites these words.
use Rattle.std.specs.Prelude.{◌≡◌, ℕ, zero, suc, min, ◌+◌, ◌*◌, ◌^◌, ◌≤◌, ℤ, pos, neg_ℤ, ◌+ℤ◌, ◌-ℤ◌, ◌≤ℤ◌, List, [], ◌∷◌, ◌++◌, length, map, flat_map, Option, Some, None}
use Rattle.std.specs.List.{All, Contains}
use Rattle.plane_geom.specs.declared.shapes.Point.{Point}
use Rattle.plane_geom.specs.Bounds.{IsPointWithin}
use Rattle.plane_geom.specs.Covering.{Figure, figure_of, moved_figure, IsWellFormed, IsFigureWithin}
use Rattle.plane_geom.specs.Placement.{Step, moved, steps_of, IsShiftWithin}
use Rattle.cif_grammar.specs.Words.{limit}
use Rattle.cif_reader.specs.declared.file.Symbol.{Symbol}
use Rattle.cif_reader.specs.declared.file.What.{What}
use Rattle.cif_reader.specs.declared.file.What.TheVariants.{Draw, Call, Mark}
use Rattle.cif_reader.specs.File.{Contents, IsKeptWhat}
use Rattle.cif_flatten.specs.declared.unfolding.Command.{Command}
use Rattle.cif_flatten.specs.declared.flat.Draw.{Draw as Draw'}
use Rattle.cif_flatten.specs.Unfolding.{Placed, opened, Unfolds, IsUnfolding, calls_among}
use Rattle.cif_flatten.specs.Faults.{corners, most_calls}

-- a command, moved by the steps of its place alone
abbrev pub placed_of : Command → Placed
placed_of c = record { item = c.item.now; steps = steps_of c.place; depth = c.depth }

-- the commands of a stack, the topmost one, which is the last, first
abbrev pub waiting : List Command → List Placed
waiting [] = []
waiting (c ∷ commands) = waiting commands ++ placed_of c ∷ []

-- The commands are one, and lie in one place.
pub record IsAlike (a b : Placed) : Type 0 where
  pub item : a.item ≡ b.item
  pub depth : a.depth ≡ b.depth
  pub moves : moved a.steps ≡ moved b.steps

abbrev pub AreAlike : List Placed → List Placed → Type 0
AreAlike [] [] = Unit {0}
AreAlike (a ∷ more) (b ∷ others) = IsAlike a b × AreAlike more others
AreAlike _ _ = ⊥

-- The file unfolds to these commands, up to how their steps are written.
pub record IsUnrolled (file : Contents) (commands : List Placed) : Type 0 where
  pub placed : List Placed
  pub unfolded : IsUnfolding file placed
  pub alike : AreAlike placed commands

-- Some commands were unfolded, others wait.
pub record Unrolling (file : Contents) (done pending : List Placed) : Type 0 where
  pub placed : List Placed
  pub unfolded : IsUnfolding file placed
  pub rest : List Placed
  pub unfolds : Unfolds file.symbols pending rest
  pub alike : AreAlike placed (done ++ rest)

-- How many commands others unfold to, if it is not over the first number.
abbrev pub count_within : ℕ → List Symbol → List Placed → ℕ
count_within zero symbols commands = 0
count_within (suc n) symbols [] = 0
count_within (suc n) symbols (c ∷ commands) = count_within n symbols (opened symbols c ++ commands) + 1

-- The command is one of a file, and its shift is that of so many calls as it stands in.
pub record IsNear (command : Command) : Type 0 where
  pub kept : IsKeptWhat command.item.now.what
  pub shift : IsShiftWithin (limit * command.depth) command.place

-- It stands in so few calls that so many may follow.
pub record IsShallow (left : ℕ) (command : Command) : Type 0 where
  pub near : IsNear command
  pub few : command.depth + left ≤ most_calls

abbrev pub AreShallow : ℕ → List Command → Type 0
AreShallow left commands = All (IsShallow left) commands

-- It can be placed.
pub record IsPlaceable (command : Command) : Type 0 where
  pub kept : IsKeptWhat command.item.now.what
  pub shift : IsShiftWithin (2 ^ 60) command.place

-- Some commands were unfolded, and those that wait stand in so few calls that all that they unfold to may follow.
pub record Walking (file : Contents) (fuel : ℕ) (commands pending : List Command) : Type 0 where
  pub unrolling : Unrolling file (map placed_of commands) (waiting pending)
  pub shallow : AreShallow (calls_among unrolling.rest) pending
  pub fuel_left : length unrolling.rest ≤ fuel
  pub placeable : All IsPlaceable commands

-- ---- how far commands reach

abbrev pub reach_by : List Step → What → List Point
reach_by steps (Draw layer shape) = corners (moved_figure steps (figure_of shape))
reach_by steps (Call number place) = []
reach_by steps (Mark name at layer) = moved steps at ∷ []

-- the corners of a placed shape, or the point of a placed label
abbrev pub reach : Placed → List Point
reach c = reach_by c.steps c.item.what

-- The command does not reach out of the range.
pub record IsIn (c : Placed) : Type 0 where
  pub all : All (IsPointWithin (2 ^ 24)) (reach c)

-- A command of that position reaches out, and none with a lesser position does.
pub record IsOutAt (commands : List Placed) (pos : ℕ) : Type 0 where
  pub command : Placed
  pub one : Contains commands command
  pub at : command.item.pos ≡ pos
  pub out : IsIn command → ⊥
  pub least : All (λ (c : Placed). (IsIn c → ⊥) → pos ≤ c.item.pos) commands

abbrev pub IsLeastOut : List Placed → Option ℕ → Type 0
IsLeastOut commands None = All IsIn commands
IsLeastOut commands (Some place) = IsOutAt commands place

-- the lesser of the positions
abbrev pub lesser_of : Option ℕ → ℕ → ℕ
lesser_of None place = place
lesser_of (Some other) place = min other place

-- Half a width is not negative, and not too great.
pub record IsHalf (half : ℤ) : Type 0 where
  pub low : pos 0 ≤ℤ half
  pub high : half ≤ℤ pos (2 ^ 60)

pub record IsPairIn (p q : Point) : Type 0 where
  pub first : IsPointWithin (2 ^ 24) p
  pub second : IsPointWithin (2 ^ 24) q

-- The coordinate is within the range, with half a width to each side.
pub record IsWideAt (half z : ℤ) : Type 0 where
  pub low : neg_ℤ (pos (2 ^ 24)) ≤ℤ (z -ℤ half)
  pub high : (z +ℤ half) ≤ℤ pos (2 ^ 24)

pub record IsWideIn (half : ℤ) (p : Point) : Type 0 where
  pub x : IsWideAt half p.x
  pub y : IsWideAt half p.y

-- The figure can be placed.
pub record IsDrawable (figure : Figure) : Type 0 where
  pub formed : IsWellFormed figure
  pub within : IsFigureWithin (2 ^ 60) figure

-- There is room for the corners of widened segments.
abbrev pub AreRoomy : List Draw' → Type 0
AreRoomy draws = All (λ (d : Draw'). IsFigureWithin (2 ^ 60) (figure_of d.shape)) draws

-- the corners of the shapes
abbrev pub corners_of : List Draw' → List Point
corners_of draws = flat_map (λ (d : Draw'). corners (figure_of d.shape)) draws
