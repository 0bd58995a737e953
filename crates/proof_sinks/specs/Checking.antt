-- Lines that a checker accepted.
use Rattle.std.specs.Prelude.{◌≡◌, ℤ, List, [], ◌∷◌, ◌++◌, All}
use Rattle.clause_base.specs.Formulas.{IsClauseWithin}
use Rattle.refutation_check.specs.Following.{Follows}
use Rattle.refutation_check.specs.Keeping.{Kept, nothing_kept, with_axiom, with_derived}
use Rattle.proof_sinks.specs.declared.lines.Said.{Said}
use Rattle.proof_sinks.specs.declared.lines.Said.TheVariants.{Axiom, Derived}
use Rattle.proof_sinks.specs.Lines.{clause_of}

-- the checker after this line
abbrev pub with_line : Kept → Said → Kept
with_line kept (Axiom clause) = with_axiom kept clause
with_line kept (Derived clause hints) = with_derived kept clause

-- the checker after these lines
abbrev pub with_lines : Kept → List Said → Kept
with_lines kept [] = kept
with_lines kept (line ∷ said) = with_lines (with_line kept line) said

-- a derived line follows by its hints from the earlier clauses
abbrev pub LineFollows : List (List ℤ) → Said → Type 0
LineFollows earlier (Axiom clause) = Unit {0}
LineFollows earlier (Derived clause hints) = Follows earlier clause hints

-- each derived line follows from these clauses and the lines before it
abbrev pub AllFollow : List (List ℤ) → List Said → Type 0
AllFollow earlier [] = Unit {0}
AllFollow earlier (line ∷ said) = LineFollows earlier line × AllFollow (earlier ++ clause_of line ∷ []) said

-- a checker of this many variables was given exactly these lines, and accepted them
pub record HasChecked (kept : Kept) (said : List Said) : Type 0 where
  pub lines : kept ≡ with_lines (nothing_kept kept.vars) said
  pub follow : AllFollow [] said
  pub within : All (λ line. IsClauseWithin kept.vars (clause_of line)) said
