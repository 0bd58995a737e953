-- Sets of numbers by their ends.
use Rattle.std.proofs.Common.{◌≡◌, ℕ, suc, ◌+◌, ◌≤◌, Bool, true, false, cond, not, ◌||◌, List, [], ◌∷◌, ◌++◌, length, refl, sym, ap, ◌∙◌, inl, inr, arith}
use Rattle.std.specs.Prelude.{ℤ, ◌≤ℤ◌, ◌<ℤ◌, int_lt}
use Rattle.std.specs.List.{All}
use Rattle.std.proofs.lemmas.Int.{ints, by_lt_z}
use Rattle.std.proofs.lemmas.List.Elements.{All-head, All-tail, All-weaker}
use Rattle.std.proofs.lemmas.Bool.{cases_lt, false≢true}
use Rattle.plane_geom.specs.Cells.{is_between}
use Rattle.plane_geom.specs.Ends.{is_odd, flips}

-- ---- odd and even

pub odd_more : (n : ℕ) → is_odd (n + 1) ≡ not (is_odd n)
odd_more n = grind (arith)

pub odd_suc : (n : ℕ) → is_odd (suc n) ≡ not (is_odd n)
odd_suc n = grind (arith)

-- two even numbers that differ by at most one
pub even_same : (n k : ℕ) → is_odd n ≡ false → is_odd k ≡ false → k ≤ n → n ≤ k + 1 → k ≡ n
even_same n k en ek le more = elim (cases_lt k n) [
  | inl lt ↦ absurd (let e : n ≡ k + 1 = omega arith in false≢true (sym en ∙ ap is_odd e ∙ odd_more k ∙ ap not ek))
  | inr ge ↦ omega arith
]

-- ---- one more end

twice : (p q b : Bool) → cond p (cond q b (not b)) (not (cond q b (not b))) ≡ cond q (cond p b (not b)) (not (cond p b (not b)))
twice true true b = refl
twice true false b = refl
twice false true b = refl
twice false false b = refl

pub flips-push : (ends : List ℤ) (t z : ℤ) → flips (ends ++ t ∷ []) z ≡ cond (int_lt z t) (flips ends z) (not (flips ends z))
flips-push [] t z = refl
flips-push (s ∷ ends) t z = rw (flips-push ends t z) (twice (int_lt z s) (int_lt z t) (flips ends z))

-- an end behind z changes nothing at z
pub flips-push_behind : (ends : List ℤ) (t z : ℤ) → z <ℤ t → flips (ends ++ t ∷ []) z ≡ flips ends z
flips-push_behind ends t z h = flips-push ends t z ∙ grind (arith, ints)

-- Behind all ends the set is all or nothing.
pub flips-up_to : (ends : List ℤ) (z : ℤ) → All (λ t. t ≤ℤ z) ends → flips ends z ≡ is_odd (length ends)
flips-up_to [] z h = refl
flips-up_to (t ∷ ends) z h =
    let here : t ≤ℤ z = All-head (λ t. t ≤ℤ z) t ends h in
    let rest = flips-up_to ends z (All-tail (λ t. t ≤ℤ z) t ends h) in
    grind (arith, ints, odd_suc (length ends))

pub up_further : (ends : List ℤ) (x z : ℤ) → x ≤ℤ z → All (λ t. t ≤ℤ x) ends → All (λ t. t ≤ℤ z) ends
up_further ends x z up h = All-weaker (λ t. t ≤ℤ x) (λ t. t ≤ℤ z) (λ t le. omega (arith, ints)) ends h

pair_cases : (low high z : ℤ) (before : Bool) → low ≤ℤ high → (low ≤ℤ z → before ≡ false)
    → cond (int_lt z high) (cond (int_lt z low) before (not before)) (not (cond (int_lt z low) before (not before))) ≡ (before || is_between low high z)
pair_cases low high z true order none = by_lt_z z low (λ h. grind (arith, ints)) (λ h. absurd (false≢true (sym (none h))))
pair_cases low high z false order none = grind (arith, ints)

-- Two more ends behind the others, of an even number: one more span.
pub flips-pair : (ends : List ℤ) (low high z : ℤ) → All (λ t. t ≤ℤ low) ends → is_odd (length ends) ≡ false → low ≤ℤ high
    → flips ((ends ++ low ∷ []) ++ high ∷ []) z ≡ (flips ends z || is_between low high z)
flips-pair ends low high z up even order =
    rw (flips-push (ends ++ low ∷ []) high z, flips-push ends low z)
    (pair_cases low high z (flips ends z) order (λ h. flips-up_to ends z (up_further ends low z h up) ∙ even))
