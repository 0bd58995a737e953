-- Jobs of words, worked out.
use Rattle.std.proofs.Common.{◌≡◌, [], ◌∷◌, refl}
use Rattle.std.specs.Prelude.{codes}
use Rattle.bridges_command.specs.Command.{bridges_job}
use Rattle.solve_command.specs.Search.{solve_job}
use Rattle.carafe_core.specs.Commands.{usage, job_after, job_of}

no_words : job_of [] ≡ usage
no_words = refl

-- the words after the name are the command's
bridges_words : job_of (codes "bridges" ∷ codes "m.map" ∷ codes "a.cif" ∷ codes "3" ∷ []) ≡ bridges_job (codes "m.map" ∷ codes "a.cif" ∷ codes "3" ∷ [])
bridges_words = refl

solve_words : job_of (codes "solve" ∷ codes "a.cnf" ∷ codes "7" ∷ []) ≡ solve_job (codes "a.cnf" ∷ codes "7" ∷ [])
solve_words = refl

-- a name is compared byte for byte
longer_name : job_after (codes "solves" ∷ codes "a.cnf" ∷ codes "7" ∷ []) ≡ usage
longer_name = refl

capital : job_after (codes "Solve" ∷ codes "a.cnf" ∷ codes "7" ∷ []) ≡ usage
capital = refl
