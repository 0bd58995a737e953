-- Comments: the `)` that closes one is found by counting, whatever stands inside.
use Rattle.std.proofs.Common.{◌≡◌, ℕ, ◌+◌, ◌-◌, ◌≤◌, ◌==◌, Bool, true, false, cond, List, [], ◌∷◌, ◌++◌, Option, Some, refl, sym, ap, ◌∙◌, subst, arith}
use Rattle.std.proofs.lemmas.Bool.{eqb-true, eqb-false, eq-eqb, ne_eqb}
use Rattle.std.proofs.lemmas.List.Sums.{sum_by-cons}
use Rattle.std.proofs.lemmas.Option.{same_Some}
use Rattle.cif_grammar.specs.Grammar.{opened, closed}
use Rattle.cif_grammar.specs.Readers.{closing}

opened_more : (b : ℕ) (bs : List ℕ) → opened (b ∷ bs) ≡ cond (b == 40) 1 0 + opened bs
opened_more b bs = sum_by-cons (λ b. cond (b == 40) 1 0) b bs

closed_more : (b : ℕ) (bs : List ℕ) → closed (b ∷ bs) ≡ cond (b == 41) 1 0 + closed bs
closed_more b bs = sum_by-cons (λ b. cond (b == 41) 1 0) b bs

-- what a byte adds on either side
record Byte (b up down : ℕ) : Type 0 where
  ups : (bs : List ℕ) → opened (b ∷ bs) ≡ up + opened bs
  downs : (bs : List ℕ) → closed (b ∷ bs) ≡ down + closed bs

opener : (b : ℕ) → (b == 40) ≡ true → Byte b 1 0
opener b e =
    let other : (b == 41) ≡ false = ne_eqb b 41 (λ f. omega (arith, eqb-true b 40 e)) in
    record { ups = λ bs. opened_more b bs ∙ ap (λ t. cond t 1 0 + opened bs) e; downs = λ bs. closed_more b bs ∙ ap (λ t. cond t 1 0 + closed bs) other }

closer : (b : ℕ) → (b == 41) ≡ true → Byte b 0 1
closer b e =
    let other : (b == 40) ≡ false = ne_eqb b 40 (λ f. omega (arith, eqb-true b 41 e)) in
    record { ups = λ bs. opened_more b bs ∙ ap (λ t. cond t 1 0 + opened bs) other; downs = λ bs. closed_more b bs ∙ ap (λ t. cond t 1 0 + closed bs) e }

plain : (b : ℕ) → (b == 40) ≡ false → (b == 41) ≡ false → Byte b 0 0
plain b e f = record { ups = λ bs. opened_more b bs ∙ ap (λ t. cond t 1 0 + opened bs) e; downs = λ bs. closed_more b bs ∙ ap (λ t. cond t 1 0 + closed bs) f }

-- Inside so many parentheses: the text closes all that it opens and these too, but no more in any front.
pub record Level (depth : ℕ) (text : List ℕ) : Type 0 where
  pub all : opened text + depth ≡ closed text
  pub fronts : (front back : List ℕ) → text ≡ front ++ back → closed front ≤ opened front + depth

fronts_more : (b up down : ℕ) (text : List ℕ) (outer inner : ℕ) → Byte b up down → up + outer ≡ down + inner → Level inner text → (front back : List ℕ) → b ∷ text ≡ front ++ back → closed front ≤ opened front + outer
fronts_more b up down text outer inner byte e l [] back h = omega arith
fronts_more b up down text outer inner byte e l (x ∷ front) back h =
    let first : b ≡ x = cc in
    let behind : text ≡ front ++ back = cc in
    let same = l.fronts front back behind in
    let ups : opened (x ∷ front) ≡ up + opened front = ap (λ y. opened (y ∷ front)) (sym first) ∙ byte.ups front in
    let downs : closed (x ∷ front) ≡ down + closed front = ap (λ y. closed (y ∷ front)) (sym first) ∙ byte.downs front in
    omega (arith, same, ups, downs, e)

level_more : (b up down : ℕ) (text : List ℕ) (outer inner : ℕ) → Byte b up down → up + outer ≡ down + inner → Level inner text → Level outer (b ∷ text)
level_more b up down text outer inner byte e l = record {
  all = omega (arith, e, byte.ups text, byte.downs text, l.all);
  fronts = fronts_more b up down text outer inner byte e l;
}

level_less : (b up down : ℕ) (text : List ℕ) (outer inner : ℕ) → Byte b up down → up + outer ≡ down + inner → Level outer (b ∷ text) → Level inner text
level_less b up down text outer inner byte e l = record {
  all = omega (arith, e, byte.ups text, byte.downs text, l.all);
  fronts = λ front back h. omega (arith, l.fronts (b ∷ front) back (ap (λ s. b ∷ s) h), byte.ups front, byte.downs front, e);
}

-- the text up to the `)` that closes so many parentheses and one more
pub record Closes (depth : ℕ) (bytes rest : List ℕ) : Type 0 where
  pub text : List ℕ
  pub level : Level depth text
  pub whole : bytes ≡ text ++ (41 ∷ rest)

nothing_closed : (front back : List ℕ) → [] ≡ front ++ back → closed front ≤ opened front + 0
nothing_closed [] back h = omega arith
nothing_closed (x ∷ front) back h = cc

at_level : (bytes rest : List ℕ) (b : ℕ) → b ≡ 41 → bytes ≡ rest → Closes 0 (b ∷ bytes) rest
at_level bytes rest b e same = record {
  text = [];
  level = record { all = refl; fronts = λ front back h. nothing_closed front back h };
  whole = λ i. e i ∷ same i;
}

closes_more : (b up down outer inner : ℕ) (bs rest : List ℕ) → Byte b up down → up + outer ≡ down + inner → Closes inner bs rest → Closes outer (b ∷ bs) rest
closes_more b up down outer inner bs rest byte e c = record {
  text = b ∷ c.text;
  level = level_more b up down c.text outer inner byte e c.level;
  whole = ap (λ s. b ∷ s) c.whole;
}

closing_case : (b : ℕ) (bs rest : List ℕ) (depth : ℕ) (t u v : Bool) → (b == 40) ≡ t → (b == 41) ≡ u → (depth == 0) ≡ v → ((depth : ℕ) → closing depth bs ≡ Some rest → Closes depth bs rest) → cond {A = Option (List ℕ)} t (closing (depth + 1) bs) (cond u (cond v (Some bs) (closing (depth - 1) bs)) (closing depth bs)) ≡ Some rest → Closes depth (b ∷ bs) rest
closing_case b bs rest depth true u v e f g ih h = closes_more b 1 0 depth (depth + 1) bs rest (opener b e) (omega arith) (ih (depth + 1) h)
closing_case b bs rest depth false true true e f g ih h = subst (λ d. Closes d (b ∷ bs) rest) (sym (eqb-true depth 0 g)) (at_level bs rest b (eqb-true b 41 f) (same_Some bs rest h))
closing_case b bs rest depth false true false e f g ih h =
    let deep = eqb-false depth 0 g in
    closes_more b 0 1 depth (depth - 1) bs rest (closer b f) (omega arith) (ih (depth - 1) h)
closing_case b bs rest depth false false v e f g ih h = closes_more b 0 0 depth depth bs rest (plain b e f) refl (ih depth h)

pub closing_takes : (bytes rest : List ℕ) (depth : ℕ) → closing depth bytes ≡ Some rest → Closes depth bytes rest
closing_takes [] rest depth h = cc
closing_takes (b ∷ bs) rest depth h = closing_case b bs rest depth (b == 40) (b == 41) (depth == 0) refl refl refl (λ d. closing_takes bs rest d) h

again_case : (b : ℕ) (text rest : List ℕ) (depth : ℕ) (t u v : Bool) → (b == 40) ≡ t → (b == 41) ≡ u → (depth == 0) ≡ v → ((depth : ℕ) → Level depth text → closing depth (text ++ (41 ∷ rest)) ≡ Some rest) → Level depth (b ∷ text) → cond {A = Option (List ℕ)} t (closing (depth + 1) (text ++ (41 ∷ rest))) (cond u (cond v (Some (text ++ (41 ∷ rest))) (closing (depth - 1) (text ++ (41 ∷ rest)))) (closing depth (text ++ (41 ∷ rest)))) ≡ Some rest
again_case b text rest depth true u v e f g ih l = ih (depth + 1) (level_less b 1 0 text depth (depth + 1) (opener b e) (omega arith) l)
again_case b text rest depth false true true e f g ih l =
    let byte = closer b f in
    absurd (omega (arith, eqb-true depth 0 g, l.fronts (b ∷ []) text refl, byte.ups [], byte.downs []))
again_case b text rest depth false true false e f g ih l =
    let deep = eqb-false depth 0 g in
    ih (depth - 1) (level_less b 0 1 text depth (depth - 1) (closer b f) (omega arith) l)
again_case b text rest depth false false v e f g ih l = ih depth (level_less b 0 0 text depth depth (plain b e f) refl l)

pub closing_again : (text rest : List ℕ) (depth : ℕ) → Level depth text → closing depth (text ++ (41 ∷ rest)) ≡ Some rest
closing_again [] rest depth l = rw (eq-eqb depth 0 (omega (arith, l.all))) refl
closing_again (b ∷ text) rest depth l = again_case b text rest depth (b == 40) (b == 41) (depth == 0) refl refl refl (λ d. closing_again text rest d) l
