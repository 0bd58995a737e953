-- Words spell one formula at most, and what may stand behind the first of them.
use Rattle.std.proofs.Common.{◌≡◌, inl, inr, ℕ, zero, suc, ◌-◌, ◌^◌, ◌<◌, ◌≤◌, ℤ, pos, negsuc, true, ◌&&◌, nat_lt, nat_le, nat_abs, List, [], ◌∷◌, ◌++◌, length, get_or, map, codes, refl, sym, ap, ◌∙◌, subst, arith, append_assoc, length-append}
use Rattle.std.specs.List.{list_all, flat_map}
use Rattle.std.specs.Fmt.{decimal, signed_decimal}
use Rattle.std.specs.Int.Signed.{mag}
use Rattle.std.proofs.lemmas.Bool.Decides.{nat_tests}
use Rattle.std.proofs.lemmas.Fmt.{decimal_digit, decimal_injective, signed_decimal_injective}
use Rattle.std.proofs.lemmas.List.{append-nil}
use Rattle.std.proofs.lemmas.List.Folds.{list_all-append}
use Rattle.std.proofs.lemmas.List.Sums.{AllPass-from_list_all}
use Rattle.std.proofs.lemmas.Grind.{flat_map-append}
use Rattle.clause_base.specs.Formulas.{Clauses, IsFormula}
use Rattle.clause_base.specs.FormulaText.{most_vars, most_clauses, is_literal_of, clause_texts, IsEnd, AreWords}
use Rattle.clause_base.specs.FormulaFaults.{IsFront}
use Rattle.clause_base.specs.Readers.{Begins, GoesOn, are_literals}
use Rattle.clause_base.proofs.NumberLemmas.{both, within, within_negative}

-- ---- lists

pub head_same : {A : Type 0} {x y : A} {xs ys : List A} → x ∷ xs ≡ y ∷ ys → x ≡ y
head_same e = cc

pub tail_same : {A : Type 0} {x y : A} {xs ys : List A} → x ∷ xs ≡ y ∷ ys → xs ≡ ys
tail_same e = cc

-- ---- literals

zero_text : decimal 0 ≡ codes "0"
zero_text = decimal_digit 0 (omega arith)

small : (vars : ℕ) (l : ℤ) → vars ≤ most_vars → is_literal_of vars l ≡ true → mag l < 2 ^ 63
small vars (pos n) few is = omega (arith, few, (within vars n is).1)
small vars (negsuc n) few is = omega (arith, few, within_negative vars n is)

same_literal : (vars : ℕ) (l m : ℤ) → vars ≤ most_vars → is_literal_of vars l ≡ true → is_literal_of vars m ≡ true → signed_decimal l ≡ signed_decimal m → l ≡ m
same_literal vars l m few p q e = signed_decimal_injective l m (small vars l few p) (small vars m few q) e

no_zero : (vars : ℕ) (l : ℤ) → vars ≤ most_vars → is_literal_of vars l ≡ true → signed_decimal l ≡ codes "0" → ⊥
no_zero vars l few is e = clash (subst (λ z. is_literal_of vars z ≡ true) (signed_decimal_injective l (pos 0) (small vars l few is) (omega arith) (e ∙ sym zero_text)) is) where
  clash : is_literal_of vars (pos 0) ≡ true → ⊥
  clash is = let h = within vars 0 is in omega (arith, h.0)

-- ---- clauses

module _ (vars : ℕ) (few : vars ≤ most_vars) where
  same_clause : (c d : List ℤ) (xs ys : List (List ℕ)) → are_literals vars c ≡ true → are_literals vars d ≡ true → clause_texts c ++ xs ≡ clause_texts d ++ ys → (c ≡ d) × (xs ≡ ys)
  same_clause [] [] xs ys p q e = (refl, tail_same e)
  same_clause [] (m ∷ d) xs ys p q e = absurd (no_zero vars m few (both (is_literal_of vars m) (are_literals vars d) q).0 (sym (head_same e)))
  same_clause (l ∷ c) [] xs ys p q e = absurd (no_zero vars l few (both (is_literal_of vars l) (are_literals vars c) p).0 (head_same e))
  same_clause (l ∷ c) (m ∷ d) xs ys p q e =
      let a = both (is_literal_of vars l) (are_literals vars c) p in
      let b = both (is_literal_of vars m) (are_literals vars d) q in
      let first = same_literal vars l m few a.0 b.0 (head_same e) in
      let others = same_clause c d xs ys a.1 b.1 (tail_same e) in
      ((λ i. first i ∷ others.0 i), others.1)

  pub same_clauses : (cs ds : List (List ℤ)) (xs ys : List (List ℕ)) → list_all (are_literals vars) cs ≡ true → list_all (are_literals vars) ds ≡ true → length cs ≡ length ds
      → flat_map clause_texts cs ++ xs ≡ flat_map clause_texts ds ++ ys → (cs ≡ ds) × (xs ≡ ys)
  same_clauses [] [] xs ys p q long e = (refl, e)
  same_clauses [] (d ∷ ds) xs ys p q long e = absurd (omega (arith, long))
  same_clauses (c ∷ cs) [] xs ys p q long e = absurd (omega (arith, long))
  same_clauses (c ∷ cs) (d ∷ ds) xs ys p q long e =
      let a = both (are_literals vars c) (list_all (are_literals vars) cs) p in
      let b = both (are_literals vars d) (list_all (are_literals vars) ds) q in
      let first = same_clause c d (flat_map clause_texts cs ++ xs) (flat_map clause_texts ds ++ ys) a.0 b.0 (sym (append_assoc (clause_texts c) (flat_map clause_texts cs) xs) ∙ e ∙ append_assoc (clause_texts d) (flat_map clause_texts ds) ys) in
      let others = same_clauses cs ds xs ys a.1 b.1 (omega (arith, long)) first.1 in
      ((λ i. first.0 i ∷ others.0 i), others.1)

  goes_on : (lits d : List ℤ) (tail rest : List (List ℕ)) → are_literals vars lits ≡ true → are_literals vars d ≡ true → map signed_decimal lits ++ tail ≡ clause_texts d ++ rest → GoesOn vars tail
  goes_on [] [] tail rest p q e = subst (GoesOn vars) (sym e) (inl refl)
  goes_on [] (m ∷ d) tail rest p q e = subst (GoesOn vars) (sym e) (inr (m, (both (is_literal_of vars m) (are_literals vars d) q).0, refl))
  goes_on (l ∷ lits) [] tail rest p q e = absurd (no_zero vars l few (both (is_literal_of vars l) (are_literals vars lits) p).0 (head_same e))
  goes_on (l ∷ lits) (m ∷ d) tail rest p q e = goes_on lits d tail rest (both (is_literal_of vars l) (are_literals vars lits) p).1 (both (is_literal_of vars m) (are_literals vars d) q).1 (tail_same e)

  -- behind whole clauses and literals of the next one it goes on
  pub goes_on_behind : (cs ds : List (List ℤ)) (lits : List ℤ) (tail behind : List (List ℕ)) → list_all (are_literals vars) cs ≡ true → list_all (are_literals vars) ds ≡ true → are_literals vars lits ≡ true → length cs < length ds
      → flat_map clause_texts cs ++ (map signed_decimal lits ++ tail) ≡ flat_map clause_texts ds ++ behind → GoesOn vars tail
  goes_on_behind cs [] lits tail behind p q r fewer e = absurd (omega (arith, fewer))
  goes_on_behind [] (d ∷ ds) lits tail behind p q r fewer e =
      goes_on lits d tail (flat_map clause_texts ds ++ behind) r (both (are_literals vars d) (list_all (are_literals vars) ds) q).0 (e ∙ append_assoc (clause_texts d) (flat_map clause_texts ds) behind)
  goes_on_behind (c ∷ cs) (d ∷ ds) lits tail behind p q r fewer e =
      let a = both (are_literals vars c) (list_all (are_literals vars) cs) p in
      let b = both (are_literals vars d) (list_all (are_literals vars) ds) q in
      let first = same_clause c d (flat_map clause_texts cs ++ (map signed_decimal lits ++ tail)) (flat_map clause_texts ds ++ behind) a.0 b.0 (sym (append_assoc (clause_texts c) (flat_map clause_texts cs) (map signed_decimal lits ++ tail)) ∙ e ∙ append_assoc (clause_texts d) (flat_map clause_texts ds) behind) in
      goes_on_behind cs ds lits tail behind a.1 b.1 r (omega (arith, fewer)) first.1

few_of : (vars : ℕ) (l : ℤ) → is_literal_of vars l ≡ true → nat_abs l ≤ vars
few_of vars l is = let h = both (nat_lt 0 (nat_abs l)) (nat_le (nat_abs l) vars) is in grind (arith, nat_tests, h.1)

-- clauses of literals within the limits make a formula
pub is_formula : (vars count : ℕ) (cs : List (List ℤ)) → vars ≤ most_vars → count ≤ most_clauses → length cs ≡ count → list_all (are_literals vars) cs ≡ true → IsFormula vars cs
is_formula vars count cs few fewer all literals = record {
  few_vars = omega (arith, few);
  few_clauses = omega (arith, fewer, all);
  within = λ k d lt j e jlt. few_of vars (get_or (get_or cs k d) j e) (AllPass-from_list_all (is_literal_of vars) (get_or cs k d) (AllPass-from_list_all (are_literals vars) cs literals k d lt) j e jlt);
}

-- ---- headers

-- the words of a formula's header
abbrev pub header : ℕ → ℕ → List (List ℕ) → List (List ℕ)
header vars count words = codes "p" ∷ codes "cnf" ∷ decimal vars ∷ decimal count ∷ words

pub begins_p : (tail : List (List ℕ)) (g : Clauses) → AreWords tail g → Begins (codes "p") tail
begins_p tail g are = subst (Begins (codes "p")) (sym are.whole) refl

pub begins_cnf : (tail : List (List ℕ)) (g : Clauses) → AreWords (codes "p" ∷ tail) g → Begins (codes "cnf") tail
begins_cnf tail g are = subst (Begins (codes "cnf")) (sym (tail_same are.whole)) refl

pub begins_vars : (tail : List (List ℕ)) (g : Clauses) → AreWords (codes "p" ∷ codes "cnf" ∷ tail) g → Begins (decimal g.vars) tail
begins_vars tail g are = subst (Begins (decimal g.vars)) (sym (tail_same (tail_same are.whole))) refl

pub begins_count : (vars : List ℕ) (tail : List (List ℕ)) (g : Clauses) → AreWords (codes "p" ∷ codes "cnf" ∷ vars ∷ tail) g → Begins (decimal (length g.clauses)) tail
begins_count vars tail g are = subst (Begins (decimal (length g.clauses))) (sym (tail_same (tail_same (tail_same are.whole)))) refl

-- what a header tells of the formula
pub record IsBody (vars count : ℕ) (words : List (List ℕ)) (g : Clauses) : Type 0 where
  pub vars_same : g.vars ≡ vars
  pub count_same : length g.clauses ≡ count
  pub behind : List (List ℕ)
  pub body : words ≡ flat_map clause_texts g.clauses ++ behind
  pub ends : IsEnd behind
  pub literals : list_all (are_literals vars) g.clauses ≡ true

pub body_of : (vars count : ℕ) (words : List (List ℕ)) (g : Clauses) → vars ≤ most_vars → count ≤ most_clauses → AreWords (header vars count words) g → IsBody vars count words g
body_of vars count words g few fewer are =
    let after = tail_same (tail_same are.whole) in
    let same : g.vars ≡ vars = decimal_injective g.vars vars (omega (arith, are.few_vars)) (omega (arith, few)) (sym (head_same after)) in
    record {
      vars_same = same;
      count_same = decimal_injective (length g.clauses) count (omega (arith, are.few_clauses)) (omega (arith, fewer)) (sym (head_same (tail_same after)));
      behind = are.behind;
      body = tail_same (tail_same after);
      ends = are.ends;
      literals = subst (λ n. list_all (are_literals n) g.clauses ≡ true) same are.literals;
    }

-- words spell one formula at most
pub one_formula : (words : List (List ℕ)) (f g : Clauses) → AreWords words f → AreWords words g → f ≡ g
one_formula words f g p q =
    let b = body_of f.vars (length f.clauses) (flat_map clause_texts f.clauses ++ p.behind) g p.few_vars p.few_clauses (subst (λ ws. AreWords ws g) p.whole q) in
    let same = same_clauses f.vars p.few_vars f.clauses g.clauses p.behind b.behind p.literals b.literals (sym b.count_same) b.body in
    λ i. record { vars = sym b.vars_same i; clauses = same.0 i }

-- ---- fronts

abbrev empty : ℕ → Clauses
empty vars = record { vars = vars; clauses = [] }

are_empty : (vars : ℕ) → vars ≤ most_vars → AreWords (header vars 0 []) (empty vars)
are_empty vars few = record { behind = []; whole = refl; ends = tt; few_vars = few; few_clauses = omega arith; literals = refl }

pub front_none : IsFront []
front_none = record { more = header 0 0 []; formula = empty 0; are = are_empty 0 (omega arith) }

pub front_p : IsFront (codes "p" ∷ [])
front_p = record { more = codes "cnf" ∷ decimal 0 ∷ decimal 0 ∷ []; formula = empty 0; are = are_empty 0 (omega arith) }

pub front_cnf : IsFront (codes "p" ∷ codes "cnf" ∷ [])
front_cnf = record { more = decimal 0 ∷ decimal 0 ∷ []; formula = empty 0; are = are_empty 0 (omega arith) }

pub front_vars : (vars : ℕ) → vars ≤ most_vars → IsFront (codes "p" ∷ codes "cnf" ∷ decimal vars ∷ [])
front_vars vars few = record { more = decimal 0 ∷ []; formula = empty vars; are = are_empty vars few }

-- whole clauses are a front: all of them
pub are_all : (vars count : ℕ) (cs : List (List ℤ)) (behind : List (List ℕ)) → vars ≤ most_vars → count ≤ most_clauses → length cs ≡ count → list_all (are_literals vars) cs ≡ true → IsEnd behind
    → AreWords (header vars count (flat_map clause_texts cs ++ behind)) (record { vars = vars; clauses = cs })
are_all vars count cs behind few fewer all literals ends = record {
  behind = behind;
  whole = ap (λ n. header vars n (flat_map clause_texts cs ++ behind)) (sym all);
  ends = ends;
  few_vars = few;
  few_clauses = omega (arith, fewer, all);
  literals = literals;
}

abbrev blanks : ℕ → List (List ℤ)
blanks zero = []
blanks (suc n) = [] ∷ blanks n

length-blanks : (n : ℕ) → length (blanks n) ≡ n
length-blanks zero = refl
length-blanks (suc n) = omega (arith, length-blanks n)

blanks_pass : (vars n : ℕ) → list_all (are_literals vars) (blanks n) ≡ true
blanks_pass vars zero = refl
blanks_pass vars (suc n) = blanks_pass vars n

-- whole clauses and literals of the next one are a front: the clause ends, and the others are empty
pub front_in_clause : (vars count : ℕ) (cs : List (List ℤ)) (lits : List ℤ) → vars ≤ most_vars → count ≤ most_clauses → length cs < count → list_all (are_literals vars) cs ≡ true → are_literals vars lits ≡ true
    → IsFront (header vars count (flat_map clause_texts cs ++ map signed_decimal lits))
front_in_clause vars count cs lits few fewer less all_literals literals = record {
  more = codes "0" ∷ flat_map clause_texts others;
  formula = record { vars = vars; clauses = cs ++ (lits ∷ others) };
  are = subst (λ ws. AreWords (header vars count ws) (record { vars = vars; clauses = cs ++ (lits ∷ others) })) same (are_all vars count (cs ++ (lits ∷ others)) [] few fewer long passes tt);
} where
  others : List (List ℤ)
  others = blanks (count - length cs - 1)

  long : length (cs ++ (lits ∷ others)) ≡ count
  long = omega (arith, less, length-append cs (lits ∷ others), length-blanks (count - length cs - 1))

  passes : list_all (are_literals vars) (cs ++ (lits ∷ others)) ≡ true
  passes = list_all-append (are_literals vars) cs (lits ∷ others) ∙ (λ i. all_literals i && (literals i && blanks_pass vars (count - length cs - 1) i))

  same : flat_map clause_texts (cs ++ (lits ∷ others)) ++ [] ≡ (flat_map clause_texts cs ++ map signed_decimal lits) ++ (codes "0" ∷ flat_map clause_texts others)
  same = append-nil (flat_map clause_texts (cs ++ (lits ∷ others)))
      ∙ flat_map-append clause_texts cs (lits ∷ others)
      ∙ ap (λ ws. flat_map clause_texts cs ++ ws) (append_assoc (map signed_decimal lits) (codes "0" ∷ []) (flat_map clause_texts others))
      ∙ sym (append_assoc (flat_map clause_texts cs) (map signed_decimal lits) (codes "0" ∷ flat_map clause_texts others))

pub front_all : (vars count : ℕ) (cs : List (List ℤ)) → vars ≤ most_vars → count ≤ most_clauses → length cs ≡ count → list_all (are_literals vars) cs ≡ true → IsFront (header vars count (flat_map clause_texts cs))
front_all vars count cs few fewer all literals = record { more = []; formula = record { vars = vars; clauses = cs }; are = are_all vars count cs [] few fewer all literals tt }

-- a front of a front
pub front_less : (xs ys : List (List ℕ)) → IsFront (xs ++ ys) → IsFront xs
front_less xs ys f = record { more = ys ++ f.more; formula = f.formula; are = subst (λ ws. AreWords ws f.formula) (append_assoc xs ys f.more) f.are }
