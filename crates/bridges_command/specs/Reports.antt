-- Two reports of the same words and files are one.
use Rattle.std.specs.Prelude.{◌≡◌, ℕ, List, Some}
use Rattle.probe_io.specs.Files.{File}
use Rattle.command_base.specs.declared.endings.Ending.{Ending}
use Rattle.bridges_command.specs.Command.{bridges_job}

abbrev pub AreOneReport : List (List ℕ) → List File → Ending → Ending → List ℕ → List ℕ → Type 0
AreOneReport words files ending ending' text other =
    (bridges_job words).report (Some files) ending text → (bridges_job words).report (Some files) ending' other → (ending ≡ ending') × (text ≡ other)
