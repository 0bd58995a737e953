-- Marks that are set one by one.
use Rattle.std.proofs.Common.{arith, ◌≡◌, inl, inr, ℕ, ◌<◌, ◌≤◌, ◌+◌, Bool, true, false, ◌||◌, ◌==◌, List, length, get_or, take, set, replicate, refl, sym, ◌∙◌, ap}
use Rattle.std.specs.List.{All}
use Rattle.std.proofs.lemmas.Bool.{eq-eqb, ne_eqb, cases_eq, cases_lt}
use Rattle.std.proofs.lemmas.List.{get_or-set_same, get_or-set_other, get_or-replicate, get_or_past, length-replicate, length-set}
use Rattle.std.proofs.lemmas.List.Folds.{list_any_more}
use Rattle.switch_net.specs.declared.fets.Fet.{Fet}
use Rattle.switch_net.specs.Refusals.{IsFetBelow}
use Rattle.switch_net.specs.Switches.{value, is_gate, is_terminal, gates_some, joins_some}

or_none : (x : Bool) → (x || false) ≡ x
or_none true = refl
or_none false = refl

or_more : (x y z : Bool) → ((x || y) || z) ≡ (x || (y || z))
or_more true y z = refl
or_more false y z = refl

or_all : (x : Bool) → (x || true) ≡ true
or_all true = refl
or_all false = refl

-- one mark more
pub marks_set : (marks : List Bool) (k n : ℕ) → k < length marks → value (set marks k true) n ≡ (value marks n || k == n)
marks_set marks k n lt = elim (cases_eq k n) [
  | inl same ↦ ap (λ m. value (set marks k true) m) (sym same) ∙ get_or-set_same marks k true false lt ∙ sym (ap (λ t. value marks n || t) (eq-eqb k n same) ∙ or_all (value marks n))
  | inr other ↦ get_or-set_other marks k n true false (λ same. other (sym same)) ∙ sym (ap (λ t. value marks n || t) (ne_eqb k n other) ∙ or_none (value marks n))
]

-- two marks more
pub marks_two : (marks : List Bool) (j k n : ℕ) → j < length marks → k < length marks → value (set (set marks j true) k true) n ≡ (value marks n || (j == n || k == n))
marks_two marks j k n j_lt k_lt =
    marks_set (set marks j true) k n (omega (arith, k_lt, length-set marks j true))
    ∙ ap (λ t. t || k == n) (marks_set marks j n j_lt)
    ∙ or_more (value marks n) (j == n) (k == n)

-- no marks
pub marks_none : (size n : ℕ) → value (replicate size false) n ≡ false
marks_none size n = elim (cases_lt n size) [
  | inl lt ↦ get_or-replicate size n false false lt
  | inr past ↦ get_or_past (replicate size false) n false (omega (arith, past, length-replicate size false))
]

-- past the end there is no mark
pub marks_past : (marks : List Bool) (n : ℕ) → length marks ≤ n → value marks n ≡ false
marks_past marks n past = get_or_past marks n false past

-- one transistor more, of those whose gates are marked
pub gates_more : (size : ℕ) (marks : List Bool) (fets : List Fet) (k : ℕ) (d : Fet) → All (IsFetBelow size) fets → k < length fets → length marks ≡ size → ((n : ℕ) → value marks n ≡ gates_some (take k fets) n)
    → (n : ℕ) → value (set marks (get_or fets k d).gate.0 true) n ≡ gates_some (take (k + 1) fets) n
gates_more size marks fets k d below lt each is n =
    marks_set marks (get_or fets k d).gate.0 n (omega (arith, (below k d lt).gate, each))
    ∙ ap (λ t. t || is_gate n (get_or fets k d)) (is n)
    ∙ sym (list_any_more (is_gate n) fets k d lt)

-- one transistor more, of those whose terminals are marked
pub terminals_more : (size : ℕ) (marks : List Bool) (fets : List Fet) (k : ℕ) (d : Fet) → All (IsFetBelow size) fets → k < length fets → length marks ≡ size → ((n : ℕ) → value marks n ≡ joins_some (take k fets) n)
    → (n : ℕ) → value (set (set marks (get_or fets k d).a.0 true) (get_or fets k d).b.0 true) n ≡ joins_some (take (k + 1) fets) n
terminals_more size marks fets k d below lt each is n =
    marks_two marks (get_or fets k d).a.0 (get_or fets k d).b.0 n (omega (arith, (below k d lt).a, each)) (omega (arith, (below k d lt).b, each))
    ∙ ap (λ t. t || is_terminal n (get_or fets k d)) (is n)
    ∙ sym (list_any_more (is_terminal n) fets k d lt)
