-- The text of a proof: a line `f` for each clause that is given, and a line `d` for each derived one.
use Rattle.std.specs.Prelude.{◌≡◌, ℕ, ◌+◌, ◌*◌, ◌-◌, ◌^◌, ◌≤◌, Bool, true, List, [], ◌∷◌, ◌++◌, length, take, Option, option_map}
use Rattle.probe_io.specs.Written.{Appends, AppendsFront}
use Rattle.clause_base.specs.ClauseText.{given_text}
use Rattle.refutation_check.specs.LineText.{derived_text}
use Rattle.proof_sinks.specs.declared.lines.Said.{Said}
use Rattle.proof_sinks.specs.declared.lines.Said.TheVariants.{Axiom, Derived}

-- the line of this number
abbrev pub line_text : ℕ → Said → List ℕ
line_text number (Axiom clause) = given_text clause
line_text number (Derived clause hints) = derived_text number clause hints

-- the lines, of which the first has this number
abbrev pub lines_text : ℕ → List Said → List ℕ
lines_text number [] = []
lines_text number (line ∷ said) = line_text number line ++ lines_text (number + 1) said

-- the whole text, whose lines count from 1
abbrev pub text_of : List Said → List ℕ
text_of said = lines_text 1 said

-- the text without this many last bytes, where it is told
abbrev pub without_last : ℕ → Option (List ℕ) → Option (List ℕ)
without_last count written = option_map (λ text. take (length text - count) text) written

-- What was written is what stood there before and then the text of the lines, or after a failed call a front of it.
pub record IsPrinted (written : Option (List ℕ)) (sent : ℕ) (said : List Said) (whole : Bool) : Type 0 where
  pub few : sent ≤ length said * 2 ^ 64
  pub size : whole ≡ true → sent ≡ length (text_of said)
  pub text : whole ≡ true → Appends (without_last sent written) written (text_of said)
  pub front : AppendsFront (without_last sent written) written (text_of said)
