-- What is seen of the devices in memory.
use Rattle.std.specs.Prelude.{◌≡◌, ℕ, ◌<◌, ◌≤◌, List, [], length, Option, slice_index_or, find, bytes_eq, Some}
use Rattle.std.specs.Global.{Global}
use Rattle.std.specs.declared.vec.Vec.{Vec}
use Rattle.probe_io.specs.Files.{File, Place}
use Rattle.probe_io.specs.Plan.{FaultPlanView}

-- a name and a vector as a file
abbrev pub told_file : List ℕ × Vec ℕ Global → File
told_file f = (f.0, f.1.items)

-- a shelf that never fails: its files, and what is started
pub record SureShelfView : Type 0 where
  pub files : List File
  pub at : Option Place

-- a shelf that fails by a plan
pub record MemShelfView : Type 0 where
  pub files : List File
  pub at : Option Place
  pub plan : FaultPlanView
  pub start_faults : ℕ
  pub read_faults : ℕ

-- a sink that fails by a plan: all that was written to it
pub record MemSinkView : Type 0 where
  pub written : List ℕ
  pub plan : FaultPlanView
  pub faults : ℕ

-- a sink that never fails: all that was written to it, as long as that fitted the room, and the bytes that it holds
pub record SureSinkView : Type 0 where
  pub written : Option (List ℕ)
  pub held : List ℕ
  pub room : ℕ

-- the file at this index
abbrev pub file_at : List File → ℕ → File
file_at files index = slice_index_or files index ([], [])

-- the place lies in the file at this index, which is the first of its name
pub record StandsIn (files : List File) (index place : ℕ) : Type 0 where
  pub in_range : index < length files
  pub in_file : place ≤ length (file_at files index).1
  pub first : find (λ f. bytes_eq f.0 (file_at files index).0) files ≡ Some (file_at files index)
