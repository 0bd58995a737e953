-- Worked values of the definitions, each computed, and instances that hold or are refused.
use Rattle.std.proofs.Common.{◌≡◌, [], ◌∷◌, refl, arith}
use Rattle.std.specs.Prelude.{pos, negsuc}
use Rattle.std.proofs.lemmas.Int.{ints}
use Rattle.clause_base.proofs.Instances.{rising_by, apart_by}
use Rattle.clause_arena.specs.Arenas.{IsNormal, clauses_from, begin_of, AreEnds}

normal : IsNormal (negsuc 1 ∷ pos 1 ∷ pos 3 ∷ [])
normal = record { rising = rising_by (negsuc 1 ∷ pos 1 ∷ pos 3 ∷ []) ((refl, (refl, tt)), ((refl, tt), (tt, tt))); apart = apart_by (negsuc 1 ∷ pos 1 ∷ pos 3 ∷ []) refl }

empty : IsNormal []
empty = record { rising = rising_by [] tt; apart = apart_by [] refl }

listed_twice : IsNormal (pos 2 ∷ pos 2 ∷ []) → ⊥
listed_twice clause = grind (arith, ints, clause.rising.rising 0 1 (pos 0) (omega arith) (omega arith))

tautology : IsNormal (negsuc 0 ∷ pos 1 ∷ []) → ⊥
tautology clause = clause.apart.apart (pos 1) (1, omega arith, refl) (0, omega arith, refl)

-- three clauses, the second of which is empty
clauses : clauses_from 0 (2 ∷ 2 ∷ 3 ∷ []) (pos 5 ∷ negsuc 5 ∷ pos 7 ∷ []) ≡ (pos 5 ∷ negsuc 5 ∷ []) ∷ [] ∷ (pos 7 ∷ []) ∷ []
clauses = refl

third_begins : begin_of 0 (2 ∷ 2 ∷ 3 ∷ []) 2 ≡ 2
third_begins = refl

ends : AreEnds 0 (2 ∷ 2 ∷ 3 ∷ []) 3
ends = (omega arith, (omega arith, (omega arith, refl)))

an_end_lacks : AreEnds 0 (2 ∷ []) 3 → ⊥
an_end_lacks are = omega (arith, are.1)

ends_fall : AreEnds 0 (2 ∷ 1 ∷ []) 1 → ⊥
ends_fall are = omega (arith, are.1.0)
