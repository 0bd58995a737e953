-- Clauses one behind the other: where each stands, and one more at the end.
use Rattle.std.proofs.Common.{◌≡◌, ℕ, zero, suc, ◌+◌, ◌-◌, ◌<◌, ◌≤◌, ℤ, List, [], ◌∷◌, ◌++◌, length, take, drop, refl, sym, ap, ◌∙◌, subst, arith, slice_index, slice_index_or, length-append, length-drop}
use Rattle.std.proofs.Math.Seq.{drop-append_seam}
use Rattle.std.proofs.lemmas.List.{take-append-le, drop-append-le, take_all}
use Rattle.clause_arena.specs.Arenas.{begin_of, clauses_from, AreEnds}

pub last_of : (start : ℕ) (ends : List ℕ) (size : ℕ) → AreEnds start ends size → start ≤ size
last_of start [] size are = omega (arith, are)
last_of start (end ∷ ends) size are = omega (arith, are.0, last_of end ends size are.1)

pub in_order : (start : ℕ) (ends : List ℕ) (size k : ℕ) → AreEnds start ends size → k < length ends → begin_of start ends k ≤ slice_index ends k
in_order start [] size k are lt = absurd (omega (arith, lt))
in_order start (end ∷ ends) size zero are lt = are.0
in_order start (end ∷ ends) size (suc zero) are lt = in_order end ends size zero are.1 (omega (arith, lt))
in_order start (end ∷ ends) size (suc (suc k)) are lt = in_order end ends size (suc k) are.1 (omega (arith, lt))

pub within : (start : ℕ) (ends : List ℕ) (size k : ℕ) → AreEnds start ends size → k < length ends → slice_index ends k ≤ size
within start [] size k are lt = absurd (omega (arith, lt))
within start (end ∷ ends) size zero are lt = last_of end ends size are.1
within start (end ∷ ends) size (suc k) are lt = within end ends size k are.1 (omega (arith, lt))

pub clause_is : (start : ℕ) (ends : List ℕ) (lits : List ℤ) (k : ℕ) → k < length ends → slice_index_or (clauses_from start ends lits) k [] ≡ take (slice_index ends k - begin_of start ends k) (drop (begin_of start ends k) lits)
clause_is start [] lits k lt = absurd (omega (arith, lt))
clause_is start (end ∷ ends) lits zero lt = refl
clause_is start (end ∷ ends) lits (suc zero) lt = clause_is end ends lits zero (omega (arith, lt))
clause_is start (end ∷ ends) lits (suc (suc k)) lt = clause_is end ends lits (suc k) (omega (arith, lt))

pub count_is : (start : ℕ) (ends : List ℕ) (lits : List ℤ) → length (clauses_from start ends lits) ≡ length ends
count_is start [] lits = refl
count_is start (end ∷ ends) lits = ap suc (count_is end ends lits)

new_clause : (size : ℕ) (lits new : List ℤ) → size ≡ length lits → take (length lits + length new - size) (drop size (lits ++ new)) ≡ new
new_clause size lits new is =
    ap (λ n. take (length lits + length new - n) (drop n (lits ++ new))) is ∙ ap (λ xs. take (length lits + length new - length lits) xs) (drop-append_seam lits new) ∙ take_all (length lits + length new - length lits) new (omega arith)

pub clauses_more : (start : ℕ) (ends : List ℕ) (lits new : List ℤ) → AreEnds start ends (length lits) → clauses_from start (ends ++ (length lits + length new) ∷ []) (lits ++ new) ≡ clauses_from start ends lits ++ new ∷ []
clauses_more start [] lits new are = ap (λ c. c ∷ []) (new_clause start lits new are)
clauses_more start (end ∷ ends) lits new are =
    ap (λ c. c ∷ clauses_from end (ends ++ (length lits + length new) ∷ []) (lits ++ new)) (old (last_of end ends (length lits) are.1) are.0)
    ∙ ap (λ cs. take (end - start) (drop start lits) ∷ cs) (clauses_more end ends lits new are.1)
  where
    old : end ≤ length lits → start ≤ end → take (end - start) (drop start (lits ++ new)) ≡ take (end - start) (drop start lits)
    old low order = ap (λ xs. take (end - start) xs) (drop-append-le start lits new (omega (arith, low, order)))
        ∙ take-append-le (end - start) (drop start lits) new (omega (arith, low, order, length-drop start lits))

ends_more : (start : ℕ) (ends : List ℕ) (size more : ℕ) → AreEnds start ends size → AreEnds start (ends ++ (size + more) ∷ []) (size + more)
ends_more start [] size more are = (omega (arith, are), refl)
ends_more start (end ∷ ends) size more are = (are.0, ends_more end ends size more are.1)

pub store_more : (ends : List ℕ) (lits new : List ℤ) → AreEnds 0 ends (length lits) → AreEnds 0 (ends ++ (length lits + length new) ∷ []) (length (lits ++ new))
store_more ends lits new are = subst (λ n. AreEnds 0 (ends ++ (length lits + length new) ∷ []) n) (sym (length-append lits new)) (ends_more 0 ends (length lits) (length new) are)
