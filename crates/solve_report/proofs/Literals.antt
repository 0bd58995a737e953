-- The true literals of values, one by one.
use Rattle.std.proofs.Common.{◌≡◌, ℕ, zero, suc, ◌+◌, ◌<◌, ◌≤◌, ℤ, pos, Bool, List, [], ◌∷◌, ◌++◌, length, take, map, get_or, flat_map, refl, sym, ◌∙◌, ap, subst, append_assoc, arith}
use Rattle.std.specs.Prelude.{codes}
use Rattle.std.specs.List.{enumerate_from}
use Rattle.std.proofs.lemmas.List.{get_or_default, take_more, take_all, append-nil}
use Rattle.std.proofs.lemmas.List.Concat.{flat_map-append}
use Rattle.clause_base.specs.ClauseText.{literal_text}
use Rattle.solve_report.specs.Report.{literal_of, true_literals, values_line}

abbrev literals_from : ℕ → List Bool → List ℤ
literals_from n values = map (λ at. literal_of at.0 at.1) (enumerate_from n values)

literal_at : (n i : ℕ) (values : List Bool) (value : Bool) (d : ℤ) → i < length values → value ≡ get_or values i value
    → literal_of (n + i) value ≡ get_or (literals_from n values) i d
literal_at n i [] value d within is = absurd (omega (arith, within))
literal_at n zero (v ∷ values) value d within is = let same : n + 0 ≡ n = omega arith in λ j. literal_of (same j) (is j)
literal_at n (suc i) (v ∷ values) value d within is =
    let same : n + suc i ≡ (n + 1) + i = omega arith in
    ap (λ k. literal_of k value) same ∙ literal_at (n + 1) i values value d (omega (arith, within)) is

count : (n : ℕ) (values : List Bool) → length (literals_from n values) ≡ length values
count n [] = refl
count n (v ∷ values) = ap (λ k. suc k) (count (n + 1) values)

-- the texts of the first items, and that of one more
text_more : {X : Type 0} (text : X → List ℕ) (xs : List X) (i : ℕ) (d : X) → i < length xs
    → flat_map text (take i xs) ++ text (get_or xs i d) ≡ flat_map text (take (i + 1) xs)
text_more text xs i d within =
    ap (λ l. flat_map text (take i xs) ++ l) (sym (append-nil (text (get_or xs i d))))
    ∙ sym (flat_map-append text (take i xs) (get_or xs i d ∷ [])) ∙ ap (λ l. flat_map text l) (sym (take_more xs i d within))

-- the line of values so far: the literals of the first variables
abbrev pub line_so_far : List Bool → ℕ → List ℕ
line_so_far values i = codes "values " ++ flat_map literal_text (take i (true_literals values))

-- the line so far, and one more literal
pub line_more : (values : List Bool) (i : ℕ) (d : Bool) {before after : List ℕ} → i < length values → before ≡ line_so_far values i
    → after ≡ before ++ literal_text (literal_of (i + 1) (get_or values i d)) → after ≡ line_so_far values (i + 1)
line_more values i d within so_far more =
    let value = get_or values i d in
    let same : i + 1 ≡ 1 + i = omega arith in
    let here : literal_of (i + 1) value ≡ get_or (true_literals values) i (pos 0) =
    ap (λ k. literal_of k value) same ∙ literal_at 1 i values value (pos 0) within (get_or_default values i d value within) in
    let inside : i < length (true_literals values) = subst (λ n. i < n) (sym (count 1 values)) within in
    let first = flat_map literal_text (take i (true_literals values)) in
    more ∙ ap (λ l. l ++ literal_text (literal_of (i + 1) value)) so_far
    ∙ append_assoc (codes "values ") first (literal_text (literal_of (i + 1) value))
    ∙ ap (λ l. codes "values " ++ (first ++ literal_text l)) here
    ∙ ap (λ l. codes "values " ++ l) (text_more literal_text (true_literals values) i (pos 0) inside)

-- the line with all literals, and its end
pub line_whole : (values : List Bool) (i : ℕ) {before after : List ℕ} → length values ≤ i → before ≡ line_so_far values i
    → after ≡ before ++ codes "0\n" → after ≡ values_line values
unfolding values_line
line_whole values i end is more =
    let literals = flat_map literal_text (true_literals values) in
    let all : take i (true_literals values) ≡ true_literals values =
    take_all i (true_literals values) (omega (arith, end, count 1 values)) in
    more ∙ ap (λ l. l ++ codes "0\n") (is ∙ ap (λ l. codes "values " ++ flat_map literal_text l) all)
    ∙ append_assoc (codes "values ") literals (codes "0\n")
    ∙ ap (λ l. codes "values " ++ l) (sym (append_assoc literals (codes "0") (codes "\n")))
