-- Which job words ask for.
use Rattle.std.specs.Prelude.{ℕ, List, [], ◌∷◌, length, codes, bytes_eq, nat_lt}
use Rattle.command_base.specs.Jobs.{Job, choose, refusing}
use Rattle.command_refusals.specs.declared.refusal.WordRefusal.TheVariants.{Usage}
use Rattle.command_refusals.specs.declared.refusal.Refusal.{Refusal}
use Rattle.command_refusals.specs.declared.refusal.Refusal.TheVariants.{Words}
use Rattle.bridges_command.specs.Command.{bridges_job}
use Rattle.solve_command.specs.Search.{solve_job}

-- the words are no command
abbrev pub usage : Job Refusal
usage = refusing (Words Usage)

-- the most words of a call
abbrev pub most_words : ℕ
most_words = 4096

-- the job of the command of this name, on the words after it
abbrev pub job_named : List ℕ → List (List ℕ) → Job Refusal
job_named name words =
    choose (bytes_eq name (codes "bridges")) (bridges_job words)
    (choose (bytes_eq name (codes "solve")) (solve_job words) usage)

-- the first word names the command
abbrev pub job_after : List (List ℕ) → Job Refusal
job_after [] = usage
job_after (name ∷ words) = job_named name words

-- the job that the words of a call ask for
abbrev pub job_of : List (List ℕ) → Job Refusal
job_of words = choose (nat_lt most_words (length words)) usage (job_after words)
