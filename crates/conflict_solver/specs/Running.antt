-- A search under way.
use Rattle.std.specs.Prelude.{◌≡◌, ◌≢◌, ℕ, ◌+◌, ◌*◌, ◌-◌, ◌≤◌, ℤ, Bool, true, Option, Result, Err, IfSome, IfNone, List, [], ◌++◌, length, take, All}
use Rattle.probe_io.specs.Causes.{Rose}
use Rattle.clause_base.specs.Formulas.{Clauses}
use Rattle.refutation_check.specs.Deriving.{AreDerived, line_clauses}
use Rattle.proof_sinks.specs.Calls.{KeepsTold}
use Rattle.proof_sinks.specs.declared.lines.Said.{Said}
use Rattle.proof_sinks.specs.Lines.{given_lines, proof_of}
use Rattle.search_trail.specs.Trails.{Search}
use Rattle.clause_watches.specs.Watching.{Watched, AreWatched, IsConflict}
use Rattle.conflict_solver.specs.declared.verdict.SolveFault.{SolveFault}
use Rattle.conflict_solver.specs.declared.verdict.SolveFault.TheVariants.{Sink}

-- What a call keeps of its sink: its count of faults never falls, rose where the answer is its fault, and is as it was
-- where it is another one of a strict sink. Only its fault changes whether the text is whole, and nothing through which
-- references it is written.
pub record KeepsSink {T : Type 0} (strict : Bool) (old_faults new_faults : ℕ) (old_whole new_whole : Bool)
    (old_lender new_lender : List ℕ) (old_before new_before : Option (List ℕ)) (result : Result T SolveFault) : Type 0 where
  pub later : old_faults ≤ new_faults
  pub cause : result ≡ Err Sink → Rose old_faults new_faults
  pub quiet : strict ≡ true → result ≢ Err Sink → new_faults ≡ old_faults
  pub whole : result ≢ Err Sink → new_whole ≡ old_whole
  pub lender : new_lender ≡ old_lender
  pub before : KeepsTold old_before new_before

-- So many clauses were given, before a level began: each is watched, or one of them is false.
pub record IsGiving (formula : Clauses) (count : ℕ) (said : List Said) (s : Search) (w : Watched) (conflict : Option ℕ) : Type 0 where
  pub given : said ≡ given_lines (take count formula.clauses)
  pub clauses : s.clauses ≡ take count formula.clauses
  pub vars : s.vars ≡ formula.vars
  pub ground : s.starts ≡ []
  pub head : w.head ≡ 0
  pub kept : IfNone conflict (AreWatched s w)
  pub failed : IfSome conflict (IsConflict s)

-- All clauses were given, and lines were derived, none of them empty; `left` more may be said.
pub record IsUnderWay (formula : Clauses) (budget left : ℕ) (said : List Said) (s : Search) : Type 0 where
  pub lines : List (List ℤ × List ℕ)
  pub whole : said ≡ proof_of formula lines
  pub derived : AreDerived formula budget lines
  pub filled : All (λ line. line.0 ≢ []) lines
  pub count : length lines + left ≡ budget
  pub clauses : s.clauses ≡ formula.clauses ++ line_clauses lines
  pub vars : s.vars ≡ formula.vars

-- how many literals there are of the variables, and two more
abbrev pub room : Search → ℕ
room s = s.vars * 2 + 2

-- What is left of a search: it falls with each line, and with each literal that joins the trail between two lines.
abbrev pub work_left : ℕ → Search → ℕ
work_left left s = left * (room s + 2) + (room s + 1 - length s.lits)
