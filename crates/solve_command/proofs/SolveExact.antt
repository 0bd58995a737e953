-- The words of `solve` have one refusal at most, and none beside a report.
use Rattle.std.proofs.Common.{ℕ, List, [], ◌∷◌}
use Rattle.probe_io.specs.Files.{File}
use Rattle.command_base.specs.Exact.{AreAlike, IsExact}
use Rattle.command_base.proofs.Alike.{exact_job, spelled_alike, refused_alike, just_alike, then_alike}
use Rattle.command_inputs.proofs.StageLemmas.{formula_alike}
use Rattle.solve_command.specs.Search.{search_stage, solve_job}

search_alike : (formula word : List ℕ) (files : List File) → AreAlike (search_stage formula word) (search_stage formula word) files
search_alike formula word files = then_alike spelled_alike (λ b b' spells spells'. then_alike (formula_alike formula files) (λ f g here there. just_alike))

pub solve_exact : (words : List (List ℕ)) (files : List File) → IsExact (solve_job words) files
solve_exact [] files = exact_job refused_alike
solve_exact (a ∷ []) files = exact_job refused_alike
solve_exact (formula ∷ word ∷ []) files = exact_job (search_alike formula word files)
solve_exact (a ∷ b ∷ c ∷ more) files = exact_job refused_alike
