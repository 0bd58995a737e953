-- How input is judged: by stages, each of which gives a value, or refuses the input, on files that it reads.
use Rattle.std.specs.Prelude.{◌≡◌, ℕ, ◌≤◌, ◌⊎◌, List, length, Option, Some, Result, Ok, Err}
use Rattle.probe_io.specs.Files.{IsFile, IsFileOver}
use Rattle.command_base.specs.declared.endings.Which.{Which}
use Rattle.command_base.specs.declared.endings.Stop.{Stop}
use Rattle.command_base.specs.declared.endings.Stop.TheVariants.{Refused, OpenFault, ReadFault, WriteFault, NoMemory}
use Rattle.probe_io.specs.Devices.{Files, ShelfState, IsShelfQuiet, IsUnopened, IsUnread}

-- A stage, on the files where they are told: which value it gives, which refusal it has for them, and which files of
-- which names it reads.
pub record Stage (R A : Type 0) : Type 1 where
  pub gives : Files → A → Type 0
  pub refuses : Files → R → Type 0
  pub reads : Files → Which → List ℕ → Type 0

-- the first holds of some value, and the second as well
pub record Through {A : Type 0} (first second : A → Type 0) : Type 0 where
  pub value : A
  pub given : first value
  pub holds : second value

-- one stage, and on its value another: the first refusal in this order counts
abbrev pub then : {R A B : Type 0} → Stage R A → (A → Stage R B) → Stage R B
then first next = record {
  gives = λ files b. Through (first.gives files) (λ a. (next a).gives files b);
  refuses = λ files r. first.refuses files r ⊎ Through (first.gives files) (λ a. (next a).refuses files r);
  reads = λ files which name. first.reads files which name ⊎ Through (first.gives files) (λ a. (next a).reads files which name);
}

-- gives this value, whatever the files
abbrev pub just : {R A : Type 0} → A → Stage R A
just value = record { gives = λ files a. a ≡ value; refuses = λ files r. ⊥; reads = λ files which name. ⊥ }

-- refuses for this reason, whatever the files
abbrev pub refused : {R A : Type 0} → R → Stage R A
refused refusal = record { gives = λ files a. ⊥; refuses = λ files r. r ≡ refusal; reads = λ files which name. ⊥ }

-- gives the bytes of the file of this kind and name, and refuses one that has over `limit` bytes
abbrev pub file : {R : Type 0} → Which → List ℕ → ℕ → R → Stage R (List ℕ)
file kind called limit too_long = record {
  gives = λ files bytes. IsFile files called bytes × (length bytes ≤ limit);
  refuses = λ files r. (r ≡ too_long) × IsFileOver files called limit;
  reads = λ files which name. (which ≡ kind) × (name ≡ called);
}

-- gives what a layer accepts, and refuses for a fault of that layer, as it is carried to a refusal of the call
abbrev pub layer : {R L A : Type 0} → (L → Option R) → (A → Type 0) → (L → Type 0) → Stage R A
layer carry accepts faults = record {
  gives = λ files a. accepts a;
  refuses = λ files r. Through faults (λ l. carry l ≡ Some r);
  reads = λ files which name. ⊥;
}

-- gives what a word spells, and refuses one that spells nothing
abbrev pub spelled : {R A : Type 0} → (A → Type 0) → R → Stage R A
spelled spells bad = record {
  gives = λ files a. spells a;
  refuses = λ files r. (r ≡ bad) × ((a : _) → spells a → ⊥);
  reads = λ files which name. ⊥;
}

-- ---- what a call does that judges by a stage

-- the stage gives this value, and no call on the shelf failed
pub record IsGiven {R A : Type 0} (stage : Stage R A) (value : A) (before after : ShelfState) : Type 0 where
  pub gives : stage.gives before.files value
  pub shelf : IsShelfQuiet before after

-- the stage refuses for this reason, and no call on the shelf failed
pub record IsTurnedDown {R A : Type 0} (stage : Stage R A) (refusal : R) (before after : ShelfState) : Type 0 where
  pub refuses : stage.refuses before.files refusal
  pub shelf : IsShelfQuiet before after

-- a file of this kind that is read could not be started
pub record HasNoFile (reads : Which → List ℕ → Type 0) (which : Which) (before after : ShelfState) : Type 0 where
  pub name : List ℕ
  pub asked : reads which name
  pub shelf : IsUnopened name before after

-- a file of this kind that is read could not be read to its end
pub record HasLostFile (reads : Which → List ℕ → Type 0) (which : Which) (before after : ShelfState) : Type 0 where
  pub name : List ℕ
  pub asked : reads which name
  pub shelf : IsUnread before after

abbrev pub IsJudged : {R A B : Type 0} → (B → A) → Stage R A → ShelfState → ShelfState → Result B (Stop R) → Type 0
IsJudged view stage before after (Ok value) = IsGiven stage (view value) before after
IsJudged view stage before after (Err (Refused refusal)) = IsTurnedDown stage refusal before after
IsJudged view stage before after (Err (OpenFault which)) = HasNoFile (stage.reads before.files) which before after
IsJudged view stage before after (Err (ReadFault which)) = HasLostFile (stage.reads before.files) which before after
IsJudged view stage before after (Err WriteFault) = ⊥
IsJudged view stage before after (Err NoMemory) = IsShelfQuiet before after

-- The call gives a value that is seen as one that the stage gives, or stops for its refusal, or since a file that the stage
-- reads could not be started or read, or out of memory. The shelf and its files stay what they are.
pub record JudgesAs {R A B : Type 0} (view : B → A) (stage : Stage R A) (before after : ShelfState) (result : Result B (Stop R)) : Type 0 where
  pub judged : IsJudged view stage before after result
  pub strict : after.strict ≡ before.strict
  pub files : after.files ≡ before.files

abbrev pub Judges : {R A : Type 0} → Stage R A → ShelfState → ShelfState → Result A (Stop R) → Type 0
Judges stage = JudgesAs (λ x. x) stage
