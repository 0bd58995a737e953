-- A command as one value: the stages in which its input is judged, and the texts that it may write.
use Rattle.std.specs.Prelude.{◌≡◌, ℕ, ◌⊎◌, Bool, true, false, List, [], Result, Ok, Err}
use Rattle.command_base.specs.declared.endings.Which.{Which}
use Rattle.command_base.specs.declared.endings.Ending.{Ending}
use Rattle.command_base.specs.declared.endings.Ending.TheVariants.{Whole}
use Rattle.command_base.specs.declared.endings.Stop.{Stop}
use Rattle.command_base.specs.declared.endings.Stop.TheVariants.{Refused, OpenFault, ReadFault, WriteFault, NoMemory}
use Rattle.probe_io.specs.Devices.{Files, SinkState, IsShelfQuiet, IsUntouched, IsUnwritten, IsPut, IsCut}
use Rattle.command_base.specs.Desks.{Desk}
use Rattle.command_base.specs.Stages.{Stage, Through, refused, HasNoFile, HasLostFile}

-- The texts that may be written on a subject: whole ones with their endings, those of which a prefix may stand where a
-- write failed, and those that may stand where memory ended in mid-text.
pub record Texts (S : Type 0) : Type 1 where
  pub whole : S → Ending → List ℕ → Type 0
  pub begun : S → List ℕ → Type 0
  pub halted : S → List ℕ → Type 0

-- one text and one ending for each subject; nothing is written where no memory is found
abbrev pub fixed : {S : Type 0} → (S → Ending) → (S → List ℕ) → Texts S
fixed ending text = record {
  whole = λ s e t. (e ≡ ending s) × (t ≡ text s);
  begun = λ s t. t ≡ text s;
  halted = λ s t. ⊥;
}

-- What a command does with files, where they are told: why it refuses them, which files of which names it reads, which
-- texts it may end with, begin, and halt at.
pub record Job (R : Type 0) : Type 1 where
  pub cause : Files → R → Type 0
  pub reads : Files → Which → List ℕ → Type 0
  pub report : Files → Ending → List ℕ → Type 0
  pub begun : Files → List ℕ → Type 0
  pub halted : Files → List ℕ → Type 0

-- the job that judges its input by the stage and writes on what that gives
abbrev pub job : {R S : Type 0} → Stage R S → Texts S → Job R
job stage texts = record {
  cause = stage.refuses;
  reads = stage.reads;
  report = λ files ending text. Through (stage.gives files) (λ s. texts.whole s ending text);
  begun = λ files text. Through (stage.gives files) (λ s. texts.begun s text);
  halted = λ files text. Through (stage.gives files) (λ s. texts.halted s text);
}

-- one of two jobs
abbrev pub choose : {R : Type 0} → Bool → Job R → Job R → Job R
choose true chosen other = chosen
choose false chosen other = other

-- the job that refuses whatever files there are
abbrev pub refusing : {R : Type 0} → R → Job R
refusing refusal = job (refused {A = Unit {0}} refusal) (fixed (λ subject. Whole) (λ subject. []))

-- ---- how a job ends

-- the whole report of this ending was written, and no call on a device failed
pub record IsReported {R : Type 0} (job : Job R) (ending : Ending) (before after : Desk) : Type 0 where
  pub text : List ℕ
  pub report : job.report before.shelf.files ending text
  pub out : IsPut text before.out after.out
  pub shelf : IsShelfQuiet before.shelf after.shelf

-- the input is refused for this reason, nothing was written, and no call on a device failed
pub record IsRefused {R : Type 0} (job : Job R) (refusal : R) (before after : Desk) : Type 0 where
  pub cause : job.cause before.shelf.files refusal
  pub shelf : IsShelfQuiet before.shelf after.shelf
  pub out : IsUntouched before.out after.out

-- a file that the job reads could not be started, and nothing was written
pub record IsUnstarted {R : Type 0} (job : Job R) (which : Which) (before after : Desk) : Type 0 where
  pub shelf : HasNoFile (job.reads before.shelf.files) which before.shelf after.shelf
  pub out : IsUntouched before.out after.out

-- a file that the job reads could not be read to its end, and nothing was written
pub record IsLost {R : Type 0} (job : Job R) (which : Which) (before after : Desk) : Type 0 where
  pub shelf : HasLostFile (job.reads before.shelf.files) which before.shelf after.shelf
  pub out : IsUntouched before.out after.out

-- the sink of the report failed, and a prefix of a report that was begun was written
pub record IsCutOff {R : Type 0} (job : Job R) (before after : Desk) : Type 0 where
  pub text : List ℕ
  pub begun : job.begun before.shelf.files text
  pub out : IsCut text before.out after.out
  pub shelf : IsShelfQuiet before.shelf after.shelf

-- a text at which the job may halt was written, and no write failed
pub record IsHalted (halted : List ℕ → Type 0) (before after : SinkState) : Type 0 where
  pub text : List ℕ
  pub so_far : halted text
  pub out : IsPut text before after

-- No memory was found, and no call on a device failed. Nothing was written, or a text at which the job may halt.
pub record IsOutOfMemory {R : Type 0} (job : Job R) (before after : Desk) : Type 0 where
  pub out : IsUnwritten before.out after.out ⊎ IsHalted (job.halted before.shelf.files) before.out after.out
  pub shelf : IsShelfQuiet before.shelf after.shelf

abbrev pub IsSuchEnd : {R : Type 0} → Job R → Desk → Desk → Result Ending (Stop R) → Type 0
IsSuchEnd job before after (Ok ending) = IsReported job ending before after
IsSuchEnd job before after (Err (Refused refusal)) = IsRefused job refusal before after
IsSuchEnd job before after (Err (OpenFault which)) = IsUnstarted job which before after
IsSuchEnd job before after (Err (ReadFault which)) = IsLost job which before after
IsSuchEnd job before after (Err WriteFault) = IsCutOff job before after
IsSuchEnd job before after (Err NoMemory) = IsOutOfMemory job before after

-- what the end of a job says of the files and of the report
pub record Ends {R : Type 0} (job : Job R) (before after : Desk) (result : Result Ending (Stop R)) : Type 0 where
  pub how : IsSuchEnd job before after result

-- ---- what a call does that writes on a subject

-- a whole text of this ending was written
pub record WritesWhole {S : Type 0} (texts : Texts S) (subject : S) (ending : Ending) (before after : SinkState) : Type 0 where
  pub text : List ℕ
  pub whole : texts.whole subject ending text
  pub out : IsPut text before after

-- the sink failed, and a prefix of a text that was begun was written
pub record WritesCut {S : Type 0} (texts : Texts S) (subject : S) (before after : SinkState) : Type 0 where
  pub text : List ℕ
  pub begun : texts.begun subject text
  pub out : IsCut text before after

-- No memory was found, and no write failed. Nothing was written, or a text at which the call may halt.
pub record WritesSoFar {S : Type 0} (texts : Texts S) (subject : S) (before after : SinkState) : Type 0 where
  pub out : IsUnwritten before after ⊎ IsHalted (texts.halted subject) before after

abbrev pub AreWritten : {R S : Type 0} → Texts S → S → SinkState → SinkState → Result Ending (Stop R) → Type 0
AreWritten texts subject before after (Ok ending) = WritesWhole texts subject ending before after
AreWritten texts subject before after (Err (Refused refusal)) = ⊥
AreWritten texts subject before after (Err (OpenFault which)) = ⊥
AreWritten texts subject before after (Err (ReadFault which)) = ⊥
AreWritten texts subject before after (Err WriteFault) = WritesCut texts subject before after
AreWritten texts subject before after (Err NoMemory) = WritesSoFar texts subject before after

-- The call writes a whole text on the subject and gives its ending, or a prefix of one that was begun where the sink fails,
-- or stops out of memory.
pub record Writes {R S : Type 0} (texts : Texts S) (subject : S) (before after : SinkState) (result : Result Ending (Stop R)) : Type 0 where
  pub how : AreWritten texts subject before after result
