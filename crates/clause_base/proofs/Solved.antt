-- Clauses that are true, one after the other.
use Rattle.std.proofs.Common.{◌≡◌, ℕ, ◌+◌, ◌<◌, ◌≤◌, ℤ, Bool, List, length, take, get_or, sym, ◌∙◌, subst}
use Rattle.std.specs.List.{All}
use Rattle.std.proofs.lemmas.List.{take_all}
use Rattle.std.proofs.lemmas.List.Elements.{All-more}
use Rattle.clause_base.specs.Solving.{IsTrueUnder, Solves}

module _ (holds : ℤ → Bool) (items : List (List ℤ)) (i : ℕ) where
  pub clause_true : (formula : List (List ℤ)) (item slice : List ℤ) → items ≡ formula → i < length items → item ≡ get_or items i item → slice ≡ item → Solves holds formula → IsTrueUnder holds slice
  clause_true formula item slice same lt at is solves =
      subst (IsTrueUnder holds) (sym (is ∙ at)) (subst (Solves holds) (sym same) solves i item lt)

  pub solved_more : (item slice : List ℤ) → i < length items → item ≡ get_or items i item → slice ≡ item → IsTrueUnder holds slice → All (IsTrueUnder holds) (take i items) → All (IsTrueUnder holds) (take (i + 1) items)
  solved_more item slice lt at is passes before = All-more (IsTrueUnder holds) items i item lt before (subst (IsTrueUnder holds) (is ∙ at) passes)

  pub solved_all : (formula : List (List ℤ)) → items ≡ formula → length items ≤ i → All (IsTrueUnder holds) (take i items) → Solves holds formula
  solved_all formula same all before = subst (Solves holds) (take_all i items all ∙ same) before
