-- Which answers exclude each other, where the files are told.
use Rattle.std.specs.Prelude.{◌≡◌, ℕ, List, Some}
use Rattle.probe_io.specs.Files.{File}
use Rattle.command_base.specs.declared.endings.Ending.{Ending}
use Rattle.command_base.specs.Stages.{Stage}
use Rattle.command_base.specs.Jobs.{Job}

-- Two stages have one refusal between them, and where one gives a value the other refuses nothing.
pub record AreAlike {R A B : Type 0} (s : Stage R A) (t : Stage R B) (files : List File) : Type 0 where
  pub one : (r q : R) → s.refuses (Some files) r → t.refuses (Some files) q → r ≡ q
  pub apart : (a : A) (r : R) → s.gives (Some files) a → t.refuses (Some files) r → ⊥
  pub apart' : (b : B) (r : R) → t.gives (Some files) b → s.refuses (Some files) r → ⊥

-- The input has one refusal at most, and none beside a report, or beside one that is begun.
pub record IsExact {R : Type 0} (job : Job R) (files : List File) : Type 0 where
  pub one : (r q : R) → job.cause (Some files) r → job.cause (Some files) q → r ≡ q
  pub apart : (r : R) (ending : Ending) (text : List ℕ) → job.cause (Some files) r → job.report (Some files) ending text → ⊥
  pub begun_apart : (r : R) (text : List ℕ) → job.cause (Some files) r → job.begun (Some files) text → ⊥
