-- What the status of a call says, for every command: of its input, its report, its line of diagnostics and its devices.
use Rattle.std.specs.Prelude.{◌≡◌, ℕ, ◌⊎◌, Bool, true, false, List, ◌++◌, codes, Some, Result, Ok, Err}
use Rattle.probe_io.specs.Causes.{Rose}
use Rattle.probe_io.specs.Files.{File, Lacks}
use Rattle.command_base.specs.declared.endings.Which.{Which}
use Rattle.command_base.specs.declared.endings.Which.TheVariants.{Map, Cif, Formula, Report, Log, Equations}
use Rattle.command_base.specs.declared.endings.Stream.TheVariants.{Out, Diag}
use Rattle.command_base.specs.declared.endings.Ending.{Ending}
use Rattle.command_base.specs.declared.endings.Ending.TheVariants.{Whole, Undecided, No}
use Rattle.command_base.specs.declared.endings.Stop.{Stop}
use Rattle.command_base.specs.declared.endings.Stop.TheVariants.{Refused, OpenFault, ReadFault, WriteFault, NoMemory}
use Rattle.command_base.specs.declared.endings.AnyStatus.{AnyStatus}
use Rattle.command_base.specs.declared.endings.AnyStatus.TheVariants.{Done, DoneUndecided, DoneNo, Refused as IsRefusedFor, OpenFault as NotOpened, ReadFault as NotRead, WriteFault as NotWritten, NoMemory as OutOfMemory}
use Rattle.probe_io.specs.Devices.{Files, SinkState, IsQuiet, IsUntouched, IsPut, IsCut}
use Rattle.command_base.specs.Desks.{Desk}
use Rattle.command_base.specs.Jobs.{Job, Ends}

-- ---- the lines of faults

-- the word for a kind of file
abbrev pub which_word : Which → List ℕ
which_word Map = codes "map"
which_word Cif = codes "cif"
which_word Formula = codes "formula"
which_word Report = codes "report"
which_word Log = codes "log"
which_word Equations = codes "equations"

abbrev pub open_fault_line : Which → List ℕ
open_fault_line which = codes "carafe: OpenFault " ++ (which_word which ++ codes "\n")

abbrev pub read_fault_line : Which → List ℕ
read_fault_line which = codes "carafe: ReadFault " ++ (which_word which ++ codes "\n")

abbrev pub write_fault_line : List ℕ
write_fault_line = codes "carafe: WriteFault out\n"

abbrev pub no_memory_line : List ℕ
no_memory_line = codes "carafe: NoMemory\n"

-- ---- the status

-- the status of a report that ends so
abbrev pub done_of : {R : Type 0} → Ending → AnyStatus R
done_of Whole = Done
done_of Undecided = DoneUndecided
done_of No = DoneNo

-- the exit status of the program, given that of a refusal
abbrev pub exit_of : {R : Type 0} → (R → ℕ) → AnyStatus R → ℕ
exit_of exit Done = 0
exit_of exit DoneUndecided = 1
exit_of exit DoneNo = 1
exit_of exit (IsRefusedFor refusal) = exit refusal
exit_of exit (NotOpened which) = 4
exit_of exit (NotRead which) = 4
exit_of exit (NotWritten stream) = 5
exit_of exit OutOfMemory = 6

-- ---- the line of diagnostics

-- the line was tried: it was written whole, or the sink failed and a prefix of it was written
abbrev pub IsTried : List ℕ → SinkState → SinkState → Type 0
IsTried line before after = IsPut line before after ⊎ IsCut line before after

-- the refusal is the status, with its line written; or its line could not be written whole, since the sink failed
abbrev pub IsToldRefusal : {R : Type 0} → (R → List ℕ) → R → SinkState → SinkState → AnyStatus R → Type 0
IsToldRefusal line refusal before after status =
    ((status ≡ IsRefusedFor refusal) × IsPut (line refusal) before after) ⊎ ((status ≡ NotWritten Diag) × IsCut (line refusal) before after)

-- which status stands for this end, and what was written to the diagnostics sink
abbrev pub IsToldAs : {R : Type 0} → (R → List ℕ) → Result Ending (Stop R) → SinkState → SinkState → AnyStatus R → Type 0
IsToldAs line (Ok ending) before after status = (status ≡ done_of ending) × IsUntouched before after
IsToldAs line (Err (Refused refusal)) before after status = IsToldRefusal line refusal before after status
IsToldAs line (Err (OpenFault which)) before after status = (status ≡ NotOpened which) × IsTried (open_fault_line which) before after
IsToldAs line (Err (ReadFault which)) before after status = (status ≡ NotRead which) × IsTried (read_fault_line which) before after
IsToldAs line (Err WriteFault) before after status = (status ≡ NotWritten Out) × IsTried write_fault_line before after
IsToldAs line (Err NoMemory) before after status = (status ≡ OutOfMemory) × IsTried no_memory_line before after

pub record Tells {R : Type 0} (line : R → List ℕ) (end : Result Ending (Stop R)) (before after : SinkState) (status : AnyStatus R) : Type 0 where
  pub how : IsToldAs line end before after status

-- The call ends as the job may end, and the status tells that end; the line of a refusal is that of its text.
pub record IsAnswer {R : Type 0} (line : R → List ℕ) (job : Job R) (before after : Desk) (diag diag' : SinkState) (status : AnyStatus R) : Type 0 where
  pub end : Result Ending (Stop R)
  pub ends : Ends job before after end
  pub tells : Tells line end diag diag' status

-- ---- refusals where they are due

-- a device failed, or no memory was found, before there was an answer on the input
abbrev pub IsInterrupted : {R : Type 0} → AnyStatus R → Type 0
IsInterrupted Done = ⊥
IsInterrupted DoneUndecided = ⊥
IsInterrupted DoneNo = ⊥
IsInterrupted (IsRefusedFor refusal) = ⊥
IsInterrupted (NotOpened which) = Unit {0}
IsInterrupted (NotRead which) = Unit {0}
IsInterrupted (NotWritten Out) = ⊥
IsInterrupted (NotWritten Diag) = Unit {0}
IsInterrupted OutOfMemory = Unit {0}

-- Where the files are told and the cause of a refusal stands in words and files, that refusal is answered, unless a
-- device failed or no memory was found.
abbrev pub RefusesWhere : {R : Type 0} → Job R → Files → AnyStatus R → Type 0
RefusesWhere {R} job told status = (refusal : R) (files : List File) → told ≡ Some files
    → job.cause (Some files) refusal → (status ≡ IsRefusedFor refusal) ⊎ IsInterrupted status

-- ---- completeness

-- the files that the job reads are there, and no cause of a refusal stands
pub record IsInOrder {R : Type 0} (job : Job R) (files : List File) : Type 0 where
  pub there : (which : Which) (name : List ℕ) → job.reads (Some files) which name → Lacks (Some files) name → ⊥
  pub no_cause : (refusal : R) → job.cause (Some files) refusal → ⊥

-- no count of faults rose in the call
pub record IsFaultless (before after : Desk) (diag diag' : SinkState) : Type 0 where
  pub starts : Rose before.shelf.start_faults after.shelf.start_faults → ⊥
  pub reads : Rose before.shelf.read_faults after.shelf.read_faults → ⊥
  pub out : Rose before.out.faults after.out.faults → ⊥
  pub told : Rose diag.faults diag'.faults → ⊥

-- the job may end so on these files
pub record MayEnd {R : Type 0} (job : Job R) (files : Files) (ending : Ending) : Type 0 where
  pub text : List ℕ
  pub report : job.report files ending text

-- a whole report is written, whose ending the input allows; or no memory was found
abbrev pub IsComplete : {R : Type 0} → Job R → Files → AnyStatus R → Type 0
IsComplete job files Done = MayEnd job files Whole
IsComplete job files DoneUndecided = MayEnd job files Undecided
IsComplete job files DoneNo = MayEnd job files No
IsComplete job files (IsRefusedFor refusal) = ⊥
IsComplete job files (NotOpened which) = ⊥
IsComplete job files (NotRead which) = ⊥
IsComplete job files (NotWritten stream) = ⊥
IsComplete job files OutOfMemory = Unit {0}

-- where input and devices are in order, the report is written, unless no memory was found
abbrev pub ReportsWhere : {R : Type 0} → Job R → Desk → Desk → SinkState → SinkState → AnyStatus R → Type 0
ReportsWhere job before after diag diag' status = (files : List File) → before.shelf.files ≡ Some files
    → IsInOrder job files → IsFaultless before after diag diag' → IsComplete job (Some files) status

-- ---- no failed call is passed over

-- the statuses that tell of a failed start, of a failed read, and of a report that is cut off
abbrev pub is_open_fault : {R : Type 0} → AnyStatus R → Bool
is_open_fault (NotOpened which) = true
is_open_fault _ = false

abbrev pub is_read_fault : {R : Type 0} → AnyStatus R → Bool
is_read_fault (NotRead which) = true
is_read_fault _ = false

abbrev pub is_cut_off : {R : Type 0} → AnyStatus R → Bool
is_cut_off (NotWritten Out) = true
is_cut_off _ = false

-- the statuses that stand whatever becomes of their line, or tell that the line could not be written
abbrev pub may_be_untold : {R : Type 0} → AnyStatus R → Bool
may_be_untold Done = false
may_be_untold DoneUndecided = false
may_be_untold DoneNo = false
may_be_untold (IsRefusedFor refusal) = false
may_be_untold _ = true

-- No failed call on a strict device goes unreported: the status tells of a failed start, of a failed read, and of a failed
-- write of the report, and where no line was owed, or that of a refusal was told, no write of one failed.
pub record TellsFaults {R : Type 0} (before after : Desk) (diag diag' : SinkState) (status : AnyStatus R) : Type 0 where
  pub starts : is_open_fault status ≡ false → IsQuiet before.shelf.strict before.shelf.start_faults after.shelf.start_faults
  pub reads : is_read_fault status ≡ false → IsQuiet before.shelf.strict before.shelf.read_faults after.shelf.read_faults
  pub cut_off : is_cut_off status ≡ false → IsQuiet before.out.strict before.out.faults after.out.faults
  pub line : may_be_untold status ≡ false → IsQuiet diag.strict diag.faults diag'.faults
