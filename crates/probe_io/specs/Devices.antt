-- What the devices of a call show before it and after it, and what a call does that writes a text.
use Rattle.std.specs.Prelude.{◌≡◌, ℕ, ◌≤◌, ◌⊎◌, Bool, true, List, Option, Result, OnOk, OnErr}
use Rattle.probe_io.specs.Causes.{Rose}
use Rattle.probe_io.specs.Files.{File, Lacks}
use Rattle.probe_io.specs.Written.{Appends, AppendsFront}
use Rattle.probe_io.specs.declared.outside.Shelf.{Ghosts as ShelfGhosts}
use Rattle.probe_io.specs.declared.outside.Sink.{Ghosts as SinkGhosts}

-- the files of a shelf, where it tells them
abbrev pub Files : Type 0
Files = Option (List File)

-- what a shelf shows: whether each call that fails is told as one, its files, and its counts of faults
pub record ShelfState : Type 0 where
  pub strict : Bool
  pub files : Files
  pub start_faults : ℕ
  pub read_faults : ℕ

-- what a sink shows: whether each call that fails is told as one, what was written, and its count of faults
pub record SinkState : Type 0 where
  pub strict : Bool
  pub written : Option (List ℕ)
  pub faults : ℕ

abbrev pub shelf_at : {S : Type 0} → ShelfGhosts S → S → ShelfState
shelf_at shelf s = record { strict = shelf.strict; files = shelf.files s; start_faults = shelf.start_faults s; read_faults = shelf.read_faults s }

abbrev pub sink_at : {S : Type 0} → SinkGhosts S → S → SinkState
sink_at sink s = record { strict = sink.strict; written = sink.written s; faults = sink.faults s }

-- A count of faults never falls, and that of a strict device is what it was: no call on it failed.
pub record IsQuiet (strict : Bool) (before after : ℕ) : Type 0 where
  pub later : before ≤ after
  pub quiet : strict ≡ true → after ≡ before

-- ---- shelves

-- no file failed to be started, and no read failed
pub record IsShelfQuiet (before after : ShelfState) : Type 0 where
  pub starts : IsQuiet before.strict before.start_faults after.start_faults
  pub reads : IsQuiet before.strict before.read_faults after.read_faults

-- a file of this name could not be started: the shelf failed in this call, or tells that it has no such file
pub record IsUnopened (name : List ℕ) (before after : ShelfState) : Type 0 where
  pub failed : Lacks before.files name ⊎ Rose before.start_faults after.start_faults
  pub later : before.start_faults ≤ after.start_faults
  pub reads : IsQuiet before.strict before.read_faults after.read_faults

-- a file could not be read: the shelf failed in this call
pub record IsUnread (before after : ShelfState) : Type 0 where
  pub failed : Rose before.read_faults after.read_faults
  pub later : before.read_faults ≤ after.read_faults
  pub starts : IsQuiet before.strict before.start_faults after.start_faults

-- ---- sinks

-- no call on the sink was made
pub record IsUntouched (before after : SinkState) : Type 0 where
  pub written : after.written ≡ before.written
  pub faults : after.faults ≡ before.faults

-- nothing was written, and no call on the sink failed
pub record IsUnwritten (before after : SinkState) : Type 0 where
  pub written : after.written ≡ before.written
  pub quiet : IsQuiet before.strict before.faults after.faults

-- the whole text was written, and no write failed
pub record IsPut (text : List ℕ) (before after : SinkState) : Type 0 where
  pub written : Appends before.written after.written text
  pub quiet : IsQuiet before.strict before.faults after.faults

-- the sink failed in this call, and a prefix of the text was written
pub record IsCut (text : List ℕ) (before after : SinkState) : Type 0 where
  pub written : AppendsFront before.written after.written text
  pub failed : Rose before.faults after.faults

-- what a call does that writes a text: all of it, or, where the sink fails, a prefix
pub record Puts {T E : Type 0} (text : List ℕ) (before after : SinkState) (result : Result T E) : Type 0 where
  pub whole : OnOk result (IsPut text before after)
  pub cut : OnErr result (IsCut text before after)
