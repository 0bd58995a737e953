-- The words of a call have one refusal at most, and none beside a report.
use Rattle.std.proofs.Common.{ℕ, List, [], ◌∷◌, length}
use Rattle.std.specs.Prelude.{codes, bytes_eq, nat_lt}
use Rattle.probe_io.specs.Files.{File}
use Rattle.command_base.specs.Exact.{IsExact}
use Rattle.command_base.proofs.Alike.{chosen_exact, refusing_exact}
use Rattle.bridges_command.proofs.BridgesExact.{bridges_exact}
use Rattle.solve_command.proofs.SolveExact.{solve_exact}
use Rattle.carafe_core.specs.Commands.{most_words, job_named, job_after, job_of}

named_exact : (name : List ℕ) (words : List (List ℕ)) (files : List File) → IsExact (job_named name words) files
named_exact name words files =
    chosen_exact (bytes_eq name (codes "bridges")) _ _ files (bridges_exact words files)
    (chosen_exact (bytes_eq name (codes "solve")) _ _ files (solve_exact words files) refusing_exact)

after_exact : (words : List (List ℕ)) (files : List File) → IsExact (job_after words) files
after_exact [] files = refusing_exact
after_exact (name ∷ words) files = named_exact name words files

pub job_exact : (words : List (List ℕ)) (files : List File) → IsExact (job_of words) files
job_exact words files = chosen_exact (nat_lt most_words (length words)) _ _ files refusing_exact (after_exact words files)
