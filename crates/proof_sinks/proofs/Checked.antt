-- Checkers that were told lines.
use Rattle.std.proofs.Common.{◌≡◌, ℕ, ℤ, List, [], ◌∷◌, ◌++◌, Result, Ok, Err, OnOk, OnErr, refl, sym, ◌∙◌, ap, append_assoc, subst}
use Rattle.std.specs.List.{All}
use Rattle.std.proofs.lemmas.List.{append-nil}
use Rattle.std.proofs.lemmas.List.Elements.{All-push}
use Rattle.clause_base.specs.Formulas.{IsClauseWithin}
use Rattle.refutation_check.specs.Following.{Follows}
use Rattle.refutation_check.specs.Keeping.{Kept, nothing_kept, with_axiom, with_derived}
use Rattle.proof_sinks.specs.declared.lines.Said.{Said}
use Rattle.proof_sinks.specs.declared.lines.Said.TheVariants.{Axiom, Derived}
use Rattle.proof_sinks.specs.Lines.{clause_of, clauses_of}
use Rattle.proof_sinks.specs.Checking.{with_line, with_lines, LineFollows, AllFollow, HasChecked}

with_lines-more : (kept : Kept) (said : List Said) (line : Said) → with_lines kept (said ++ line ∷ []) ≡ with_line (with_lines kept said) line
with_lines-more kept [] line = refl
with_lines-more kept (first ∷ said) line = with_lines-more (with_line kept first) said line

-- one line more adds its clause
clause_with : (kept : Kept) (line : Said) → (with_line kept line).clauses ≡ kept.clauses ++ clause_of line ∷ []
clause_with kept (Axiom clause) = refl
clause_with kept (Derived clause hints) = refl

clauses_with : (kept : Kept) (said : List Said) → (with_lines kept said).clauses ≡ kept.clauses ++ clauses_of said
clauses_with kept [] = sym (append-nil kept.clauses)
clauses_with kept (line ∷ said) =
    clauses_with (with_line kept line) said
    ∙ ap (λ cs. cs ++ clauses_of said) (clause_with kept line)
    ∙ append_assoc kept.clauses (clause_of line ∷ []) (clauses_of said)

vars_with : (kept : Kept) (line : Said) → (with_line kept line).vars ≡ kept.vars
vars_with kept (Axiom clause) = refl
vars_with kept (Derived clause hints) = refl

AllFollow-more : (earlier : List (List ℤ)) (said : List Said) (line : Said) → AllFollow earlier said → LineFollows (earlier ++ clauses_of said) line → AllFollow earlier (said ++ line ∷ [])
AllFollow-more earlier [] line follow follows = (subst (λ cs. LineFollows cs line) (append-nil earlier) follows, tt)
AllFollow-more earlier (first ∷ said) line follow follows = (
  follow.0,
  AllFollow-more (earlier ++ clause_of first ∷ []) said line follow.1
      (subst (λ cs. LineFollows cs line) (sym (append_assoc earlier (clause_of first ∷ []) (clauses_of said))) follows),
)

-- the clauses of a checker are those of its lines
pub clauses_are : (kept : Kept) (said : List Said) → HasChecked kept said → kept.clauses ≡ clauses_of said
clauses_are kept said checked = ap (λ k. k.clauses) checked.lines ∙ clauses_with (nothing_kept kept.vars) said

-- one line more is checked
checked_more : (kept : Kept) (said : List Said) (line : Said) → HasChecked kept said → IsClauseWithin kept.vars (clause_of line) → LineFollows (clauses_of said) line
    → HasChecked (with_line kept line) (said ++ line ∷ [])
checked_more kept said line checked within follows = record {
  lines = ap (λ k. with_line k line) checked.lines ∙ sym (with_lines-more (nothing_kept kept.vars) said line)
      ∙ ap (λ vars. with_lines (nothing_kept vars) (said ++ line ∷ [])) (sym (vars_with kept line));
  follow = AllFollow-more [] said line checked.follow follows;
  within = subst (λ vars. All (λ l. IsClauseWithin vars (clause_of l)) (said ++ line ∷ [])) (sym (vars_with kept line))
      (All-push (λ l. IsClauseWithin kept.vars (clause_of l)) said line checked.within within);
}

-- a given clause that was taken or not
pub checked_axiom : {T E : Type 0} (result : Result T E) (kept new : Kept) (said lines : List Said) (clause : List ℤ) → HasChecked kept said → OnOk result (IsClauseWithin kept.vars clause)
    → OnOk result (new ≡ with_axiom kept clause) → OnOk result (lines ≡ said ++ Axiom clause ∷ []) → OnErr result (new ≡ kept) → OnErr result (lines ≡ said) → HasChecked new lines
checked_axiom (Ok x) kept new said lines clause checked within taken more same stays =
    subst (λ k. HasChecked k lines) (sym taken) (subst (λ ls. HasChecked (with_axiom kept clause) ls) (sym more) (checked_more kept said (Axiom clause) checked within tt))
checked_axiom (Err e) kept new said lines clause checked within taken more same stays =
    subst (λ k. HasChecked k lines) (sym same) (subst (λ ls. HasChecked kept ls) (sym stays) checked)

-- a step that was taken or not
pub checked_derived : {T E : Type 0} (result : Result T E) (kept new : Kept) (said lines : List Said) (clause : List ℤ) (hints : List ℕ) → HasChecked kept said → OnOk result (IsClauseWithin kept.vars clause)
    → OnOk result (Follows kept.clauses clause hints) → OnOk result (new ≡ with_derived kept clause) → OnOk result (lines ≡ said ++ Derived clause hints ∷ [])
    → OnErr result (new ≡ kept) → OnErr result (lines ≡ said) → HasChecked new lines
checked_derived (Ok x) kept new said lines clause hints checked within follows taken more same stays =
    subst (λ k. HasChecked k lines) (sym taken) (subst (λ ls. HasChecked (with_derived kept clause) ls) (sym more)
    (checked_more kept said (Derived clause hints) checked within (subst (λ cs. Follows cs clause hints) (clauses_are kept said checked) follows)))
checked_derived (Err e) kept new said lines clause hints checked within follows taken more same stays =
    subst (λ k. HasChecked k lines) (sym same) (subst (λ ls. HasChecked kept ls) (sym stays) checked)
