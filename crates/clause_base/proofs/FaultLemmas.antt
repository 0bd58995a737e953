-- Where a text of a formula is at fault, and that it has one answer.
use Rattle.std.proofs.Common.{◌≡◌, ◌≢◌, inl, inr, ℕ, ◌<◌, ◌≤◌, ℤ, true, List, [], ◌∷◌, ◌++◌, length, map, codes, refl, sym, ap, ◌∙◌, subst, arith, append_assoc}
use Rattle.std.specs.List.{list_all, flat_map}
use Rattle.std.specs.Fmt.{decimal, signed_decimal}
use Rattle.std.specs.Str.Parse.{digits_value}
use Rattle.std.proofs.lemmas.List.{append-nil, map-append}
use Rattle.clause_base.specs.declared.faults.FormulaFault.{FormulaFault}
use Rattle.clause_base.specs.declared.faults.FormulaFault.TheVariants.{TooLong, Syntax, TooLarge, NoMemory}
use Rattle.clause_base.specs.Formulas.{Clauses}
use Rattle.clause_base.specs.TextWords.{Word, words_of, texts_of}
use Rattle.clause_base.specs.FormulaText.{most_vars, most_clauses, clause_texts, IsEnd, AreWords, SpellsFormula}
use Rattle.clause_base.specs.FormulaFaults.{IsFront, IsFirstWrong, IsTooLarge, IsLargeAt, IsWrongAt, EndsEarly, IsFormulaFault}
use Rattle.clause_base.specs.Readers.{Takes, Begins, BeginsLarge, GoesOn, next_at, are_literals, IsNumberFault, IsClauseFault}
use Rattle.clause_base.proofs.NumberLemmas.{value-decimal}
use Rattle.clause_base.proofs.ReadingLemmas.{takes_more}
use Rattle.clause_base.proofs.FormulaLemmas.{head_same, tail_same, header, begins_p, begins_cnf, begins_vars, begins_count, body_of, one_formula, same_clauses, goes_on_behind, front_none, front_p, front_cnf, front_vars, are_all, front_in_clause, front_all, front_less}

texts-append : (xs ys : List Word) → texts_of (xs ++ ys) ≡ texts_of xs ++ texts_of ys
texts-append xs ys = map-append (λ (word : Word). word.text) xs ys

-- ---- the word at fault

-- what may stand behind these words, as far as its first word tells
record Follows (front : List (List ℕ)) (P : List (List ℕ) → Type 0) : Type 0 where
  can : IsFront front
  next : (tail : List (List ℕ)) (g : Clauses) → AreWords (front ++ tail) g → P tail
  first : (word : List ℕ) (xs ys : List (List ℕ)) → P (word ∷ xs) → P (word ∷ ys)

first_wrong : {P : List (List ℕ) → Type 0} (bytes : List ℕ) (front : List (List ℕ)) (word : Word) (rest : List Word) → Follows front P → Takes (words_of bytes) (word ∷ rest) front → (P (texts_of (word ∷ rest)) → ⊥) → IsFirstWrong bytes front word
first_wrong bytes front word rest f takes not = record {
  front = takes.taken;
  rest = rest;
  whole = takes.whole;
  texts = takes.spelled;
  can = f.can;
  cannot = λ w. not (f.first word.text w.more (texts_of rest) (f.next (word.text ∷ w.more) w.formula (subst (λ ws. AreWords ws w.formula) (append_assoc front (word.text ∷ []) w.more) w.are)));
}

all_texts : (bytes : List ℕ) {front : List (List ℕ)} → Takes (words_of bytes) [] front → texts_of (words_of bytes) ≡ front
all_texts bytes takes = ap texts_of (takes.whole ∙ append-nil takes.taken) ∙ takes.spelled

ends_early : {P : List (List ℕ) → Type 0} (bytes : List ℕ) (front : List (List ℕ)) → Follows front P → Takes (words_of bytes) [] front → (P [] → ⊥) → EndsEarly bytes (length bytes)
ends_early bytes front f takes not = record {
  can = subst IsFront (sym (all_texts bytes takes)) f.can;
  cannot = λ g spells. not (f.next [] g (subst (λ ws. AreWords ws g) (all_texts bytes takes ∙ sym (append-nil front)) spells.words));
  here = refl;
}

abbrev LargeNext : List (List ℕ) → List Word → Type 0
LargeNext front [] = ⊥
LargeNext front (word ∷ rest) = IsTooLarge front word.text

syntax_at : {P : List (List ℕ) → Type 0} (bytes : List ℕ) (front : List (List ℕ)) (left : List Word) → Follows front P → Takes (words_of bytes) left front → (P (texts_of left) → ⊥) → (LargeNext front left → ⊥)
    → IsFormulaFault bytes (Syntax (next_at (length bytes) left))
syntax_at bytes front [] f takes not small = inr (ends_early bytes front f takes not)
syntax_at bytes front (word ∷ rest) f takes not small = inl (record { before = front; word = word; first = first_wrong bytes front word rest f takes not; other = small; here = refl })

large_at : {P : List (List ℕ) → Type 0} (bytes : List ℕ) (front : List (List ℕ)) (left : List Word) → Follows front P → Takes (words_of bytes) left front → (P (texts_of left) → ⊥) → LargeNext front left
    → IsFormulaFault bytes (TooLarge (next_at (length bytes) left))
large_at bytes front [] f takes not large = absurd large
large_at bytes front (word ∷ rest) f takes not large = record { before = front; word = word; first = first_wrong bytes front word rest f takes not; large = large; here = refl }

-- no number of a header stands here
no_large : (front : List (List ℕ)) (left : List Word) → length front ≢ 2 → length front ≢ 3 → LargeNext front left → ⊥
no_large front [] two three large = large
no_large front (word ∷ rest) two three (inl h) = two (ap length h.0)
no_large front (word ∷ rest) two three (inr h) = three (ap length h.1)

-- ---- what follows each front

follows_none : Follows [] (Begins (codes "p"))
follows_none = record { can = front_none; next = begins_p; first = λ word xs ys h. h }

follows_p : Follows (codes "p" ∷ []) (Begins (codes "cnf"))
follows_p = record { can = front_p; next = begins_cnf; first = λ word xs ys h. h }

-- a number up to this one
abbrev NumberNext : ℕ → List (List ℕ) → Type 0
NumberNext most words = (n : ℕ) × (n ≤ most) × Begins (decimal n) words

follows_cnf : Follows (codes "p" ∷ codes "cnf" ∷ []) (NumberNext most_vars)
follows_cnf = record { can = front_cnf; next = λ tail g are. (g.vars, are.few_vars, begins_vars tail g are); first = λ word xs ys h. h }

follows_vars : (vars : ℕ) → vars ≤ most_vars → Follows (codes "p" ∷ codes "cnf" ∷ decimal vars ∷ []) (NumberNext most_clauses)
follows_vars vars few = record { can = front_vars vars few; next = λ tail g are. (length g.clauses, are.few_clauses, begins_count (decimal vars) tail g are); first = λ word xs ys h. h }

follows_in_clause : (vars count : ℕ) (cs : List (List ℤ)) (lits : List ℤ) → vars ≤ most_vars → count ≤ most_clauses → length cs < count → list_all (are_literals vars) cs ≡ true → are_literals vars lits ≡ true
    → Follows (header vars count (flat_map clause_texts cs ++ map signed_decimal lits)) (GoesOn vars)
follows_in_clause vars count cs lits few fewer less all_literals literals = record {
  can = front_in_clause vars count cs lits few fewer less all_literals literals;
  next = λ tail g are.
      let b = body_of vars count _ g few fewer are in
      goes_on_behind vars few cs g.clauses lits tail b.behind all_literals b.literals literals (omega (arith, less, b.count_same)) (sym (append_assoc (flat_map clause_texts cs) (map signed_decimal lits) tail) ∙ b.body);
  first = λ word xs ys h. h;
}

first_of_end : (word : List ℕ) (xs ys : List (List ℕ)) → IsEnd (word ∷ xs) → IsEnd (word ∷ ys)
first_of_end [] xs ys h = h
first_of_end (b ∷ bs) xs ys h = h

follows_all : (vars count : ℕ) (cs : List (List ℤ)) → vars ≤ most_vars → count ≤ most_clauses → length cs ≡ count → list_all (are_literals vars) cs ≡ true
    → Follows (header vars count (flat_map clause_texts cs)) IsEnd
follows_all vars count cs few fewer all literals = record {
  can = front_all vars count cs few fewer all literals;
  next = λ tail g are.
      let b = body_of vars count _ g few fewer are in
      let same = same_clauses vars few cs g.clauses tail b.behind literals b.literals (all ∙ sym b.count_same) b.body in
      subst IsEnd (sym same.1) b.ends;
  first = first_of_end;
}

-- ---- the faults of each reader

pub no_p : (bytes : List ℕ) (left : List Word) → Takes (words_of bytes) left [] → (Begins (codes "p") (texts_of left) → ⊥) → IsFormulaFault bytes (Syntax (next_at (length bytes) left))
no_p bytes left takes not = syntax_at bytes [] left follows_none takes not (no_large [] left (λ e. omega (arith, e)) (λ e. omega (arith, e)))

pub no_cnf : (bytes : List ℕ) (left : List Word) → Takes (words_of bytes) left (codes "p" ∷ []) → (Begins (codes "cnf") (texts_of left) → ⊥) → IsFormulaFault bytes (Syntax (next_at (length bytes) left))
no_cnf bytes left takes not = syntax_at bytes (codes "p" ∷ []) left follows_p takes not (no_large (codes "p" ∷ []) left (λ e. omega (arith, e)) (λ e. omega (arith, e)))

large_vars : (left : List Word) → LargeNext (codes "p" ∷ codes "cnf" ∷ []) left → BeginsLarge most_vars (texts_of left)
large_vars [] large = large
large_vars (word ∷ rest) (inl h) = h.1
large_vars (word ∷ rest) (inr h) = let long = ap length h.1 in absurd (omega (arith, long))

vars_large : (left : List Word) → BeginsLarge most_vars (texts_of left) → LargeNext (codes "p" ∷ codes "cnf" ∷ []) left
vars_large [] large = large
vars_large (word ∷ rest) large = inl (refl, large)

large_count : (vars : List ℕ) (left : List Word) → LargeNext (codes "p" ∷ codes "cnf" ∷ vars ∷ []) left → BeginsLarge most_clauses (texts_of left)
large_count vars [] large = large
large_count vars (word ∷ rest) (inl h) = let long = ap length h.0 in absurd (omega (arith, long))
large_count vars (word ∷ rest) (inr h) = h.2

count_large : (vars : List ℕ) (left : List Word) → BeginsLarge most_clauses (texts_of left) → LargeNext (codes "p" ∷ codes "cnf" ∷ vars ∷ []) left
count_large vars [] large = large
count_large vars (word ∷ rest) large = inr (vars, refl, large)

-- a number over the limit is no number up to it
not_both_sizes : (most : ℕ) (words : List (List ℕ)) → most ≤ most_clauses → BeginsLarge most words → NumberNext most words → ⊥
not_both_sizes most [] few large next = large
not_both_sizes most (word ∷ words) few large (n, small, spelled) = let value = ap (digits_value 10) spelled ∙ value-decimal n (omega (arith, small, few)) in omega (arith, large.over, value, small)

pub no_vars : (bytes : List ℕ) (left : List Word) (fault : FormulaFault) → Takes (words_of bytes) left (codes "p" ∷ codes "cnf" ∷ []) → IsNumberFault most_vars (length bytes) left fault → IsFormulaFault bytes fault
no_vars bytes left (Syntax at) takes h =
    subst (λ p. IsFormulaFault bytes (Syntax p)) (sym h.0) (syntax_at bytes (codes "p" ∷ codes "cnf" ∷ []) left follows_cnf takes (λ next. h.1 next.0 next.1 next.2) (λ large. h.2 (large_vars left large)))
no_vars bytes left (TooLarge at) takes h =
    subst (λ p. IsFormulaFault bytes (TooLarge p)) (sym h.0) (large_at bytes (codes "p" ∷ codes "cnf" ∷ []) left follows_cnf takes (not_both_sizes most_vars (texts_of left) (omega arith) h.1) (vars_large left h.1))
no_vars bytes left TooLong takes h = h
no_vars bytes left NoMemory takes h = h

pub no_count : (bytes : List ℕ) (vars : ℕ) (left : List Word) (fault : FormulaFault) → vars ≤ most_vars → Takes (words_of bytes) left (codes "p" ∷ codes "cnf" ∷ decimal vars ∷ []) → IsNumberFault most_clauses (length bytes) left fault → IsFormulaFault bytes fault
no_count bytes vars left (Syntax at) few takes h =
    subst (λ p. IsFormulaFault bytes (Syntax p)) (sym h.0) (syntax_at bytes (codes "p" ∷ codes "cnf" ∷ decimal vars ∷ []) left (follows_vars vars few) takes (λ next. h.1 next.0 next.1 next.2) (λ large. h.2 (large_count (decimal vars) left large)))
no_count bytes vars left (TooLarge at) few takes h =
    subst (λ p. IsFormulaFault bytes (TooLarge p)) (sym h.0) (large_at bytes (codes "p" ∷ codes "cnf" ∷ decimal vars ∷ []) left (follows_vars vars few) takes (not_both_sizes most_clauses (texts_of left) (omega arith) h.1) (count_large (decimal vars) left h.1))
no_count bytes vars left TooLong few takes h = h
no_count bytes vars left NoMemory few takes h = h

pub no_clause : (bytes : List ℕ) (vars count : ℕ) (left : List Word) (fault : FormulaFault) → vars ≤ most_vars → count ≤ most_clauses → Takes (words_of bytes) left (codes "p" ∷ codes "cnf" ∷ decimal vars ∷ decimal count ∷ [])
    → IsClauseFault vars count (length bytes) left fault → fault ≢ NoMemory → IsFormulaFault bytes fault
no_clause bytes vars count left (Syntax at) few fewer takes h some =
    subst (λ p. IsFormulaFault bytes (Syntax p)) (sym h.here)
    (syntax_at bytes (header vars count (flat_map clause_texts h.clauses ++ map signed_decimal h.lits)) h.new (follows_in_clause vars count h.clauses h.lits few fewer h.fewer h.all_literals h.literals) (takes_more takes h.takes) h.stops
    (no_large (header vars count (flat_map clause_texts h.clauses ++ map signed_decimal h.lits)) h.new (λ e. omega (arith, e)) (λ e. omega (arith, e))))
no_clause bytes vars count left (TooLarge at) few fewer takes h some = absurd h
no_clause bytes vars count left TooLong few fewer takes h some = h
no_clause bytes vars count left NoMemory few fewer takes h some = absurd (some refl)

pub no_end : (bytes : List ℕ) (vars count : ℕ) (cs : List (List ℤ)) (left : List Word) → vars ≤ most_vars → count ≤ most_clauses → length cs ≡ count → list_all (are_literals vars) cs ≡ true → Takes (words_of bytes) left (header vars count (flat_map clause_texts cs))
    → (IsEnd (texts_of left) → ⊥) → IsFormulaFault bytes (Syntax (next_at (length bytes) left))
no_end bytes vars count cs left few fewer all literals takes not =
    syntax_at bytes (header vars count (flat_map clause_texts cs)) left (follows_all vars count cs few fewer all literals) takes not (no_large (header vars count (flat_map clause_texts cs)) left (λ e. omega (arith, e)) (λ e. omega (arith, e)))

-- the whole text is read
pub spelled : (bytes : List ℕ) (vars count : ℕ) (cs : List (List ℤ)) (left : List Word) → vars ≤ most_vars → count ≤ most_clauses → length cs ≡ count → list_all (are_literals vars) cs ≡ true → Takes (words_of bytes) left (header vars count (flat_map clause_texts cs))
    → IsEnd (texts_of left) → SpellsFormula bytes (record { vars = vars; clauses = cs })
spelled bytes vars count cs left few fewer all literals takes ends = record {
  words = subst (λ ws. AreWords ws (record { vars = vars; clauses = cs })) (sym (ap texts_of takes.whole ∙ texts-append takes.taken left ∙ ap (λ ts. ts ++ texts_of left) takes.spelled)) (are_all vars count cs (texts_of left) few fewer all literals ends);
}

-- the position that a reader tells
pub syntax_is : (bytes : List ℕ) (fault : FormulaFault) (end : ℕ) (left : List Word) → end ≡ length bytes → fault ≡ Syntax (next_at end left) → IsFormulaFault bytes (Syntax (next_at (length bytes) left)) → IsFormulaFault bytes fault
syntax_is bytes fault end left all is h = subst (λ f. IsFormulaFault bytes f) (sym (is ∙ ap (λ n. Syntax (next_at n left)) all)) h

-- ---- one answer

pub one_formula_of : (bytes : List ℕ) (f g : Clauses) → SpellsFormula bytes f → SpellsFormula bytes g → f ≡ g
one_formula_of bytes f g p q = one_formula (texts_of (words_of bytes)) f g p.words q.words

-- Two places of one list are the same, or one is behind the other.
data Meeting (us bs : List Word) (v w : Word) : Type 0 where
  same : us ≡ bs → v ≡ w → Meeting us bs v w
  later : (cs : List Word) → bs ≡ us ++ (v ∷ cs) → Meeting us bs v w
  sooner : (cs : List Word) → us ≡ bs ++ (w ∷ cs) → Meeting us bs v w

meeting_more : (u : Word) (us bs : List Word) (v w : Word) → Meeting us bs v w → Meeting (u ∷ us) (u ∷ bs) v w
meeting_more u us bs v w (same a b) = same (ap (λ xs. u ∷ xs) a) b
meeting_more u us bs v w (later cs e) = later cs (ap (λ xs. u ∷ xs) e)
meeting_more u us bs v w (sooner cs e) = sooner cs (ap (λ xs. u ∷ xs) e)

meeting : (us bs : List Word) (v w : Word) (xs ys : List Word) → us ++ (v ∷ xs) ≡ bs ++ (w ∷ ys) → Meeting us bs v w
meeting [] [] v w xs ys e = same refl (head_same e)
meeting [] (b ∷ bs) v w xs ys e = later bs (ap (λ u. u ∷ bs) (sym (head_same e)))
meeting (a ∷ us) [] v w xs ys e = sooner us (ap (λ u. u ∷ us) (head_same e))
meeting (a ∷ us) (b ∷ bs) v w xs ys e = subst (λ u. Meeting (a ∷ us) (u ∷ bs) v w) (head_same e) (meeting_more a us bs v w (meeting us bs v w xs ys (tail_same e)))

-- the words of a front can't go on to a word that is wrong there
no_front_behind : (before : List (List ℕ)) (us bs : List Word) (v : Word) → texts_of us ≡ before → (IsFront (before ++ (v.text ∷ [])) → ⊥) → IsFront (texts_of (us ++ (v ∷ bs))) → ⊥
no_front_behind before us bs v texts cannot can =
    cannot (front_less (before ++ (v.text ∷ [])) (texts_of bs) (subst IsFront (texts-append us (v ∷ bs) ∙ ap (λ ts. ts ++ (v.text ∷ texts_of bs)) texts ∙ sym (append_assoc before (v.text ∷ []) (texts_of bs))) can))

no_whole : (bytes : List ℕ) (before : List (List ℕ)) (word : Word) → IsFirstWrong bytes before word → IsFront (texts_of (words_of bytes)) → ⊥
no_whole bytes before word p can = no_front_behind before p.front p.rest word p.texts p.cannot (subst (λ ws. IsFront (texts_of ws)) p.whole can)

record SameWrong (before others : List (List ℕ)) (v w : Word) : Type 0 where
  fronts : before ≡ others
  words : v ≡ w

one_wrong : (bytes : List ℕ) (before others : List (List ℕ)) (v w : Word) → IsFirstWrong bytes before v → IsFirstWrong bytes others w → SameWrong before others v w
one_wrong bytes before others v w p q = by_meeting (meeting p.front q.front v w p.rest q.rest (sym p.whole ∙ q.whole)) where
  by_meeting : Meeting p.front q.front v w → SameWrong before others v w
  by_meeting (same fronts words) = record { fronts = sym p.texts ∙ ap texts_of fronts ∙ q.texts; words = words }
  by_meeting (later cs e) = absurd (no_front_behind before p.front cs v p.texts p.cannot (subst (λ ws. IsFront (texts_of ws)) e (subst IsFront (sym q.texts) q.can)))
  by_meeting (sooner cs e) = absurd (no_front_behind others q.front cs w q.texts q.cannot (subst (λ ws. IsFront (texts_of ws)) e (subst IsFront (sym p.texts) p.can)))

same_syntax : (a b : ℕ) → a ≡ b → Syntax a ≡ Syntax b
same_syntax a b e = ap Syntax e

wrong_and_large : (bytes : List ℕ) (a b : ℕ) → IsWrongAt bytes a → IsLargeAt bytes b → ⊥
wrong_and_large bytes a b p q = let s = one_wrong bytes p.before q.before p.word q.word p.first q.first in
    p.other (subst (λ front. IsTooLarge front p.word.text) (sym s.fronts) (subst (λ (word : Word). IsTooLarge q.before word.text) (sym s.words) q.large))

pub one_fault : (bytes : List ℕ) (f g : FormulaFault) → IsFormulaFault bytes f → IsFormulaFault bytes g → f ≡ g
one_fault bytes (Syntax a) (Syntax b) (inl p) (inl q) = let s = one_wrong bytes p.before q.before p.word q.word p.first q.first in same_syntax a b (p.here ∙ ap (λ (word : Word). word.at) s.words ∙ sym q.here)
one_fault bytes (Syntax a) (Syntax b) (inl p) (inr q) = absurd (no_whole bytes p.before p.word p.first q.can)
one_fault bytes (Syntax a) (Syntax b) (inr p) (inl q) = absurd (no_whole bytes q.before q.word q.first p.can)
one_fault bytes (Syntax a) (Syntax b) (inr p) (inr q) = same_syntax a b (p.here ∙ sym q.here)
one_fault bytes (Syntax a) (TooLarge b) (inl p) q = absurd (wrong_and_large bytes a b p q)
one_fault bytes (Syntax a) (TooLarge b) (inr p) q = absurd (no_whole bytes q.before q.word q.first p.can)
one_fault bytes (TooLarge a) (Syntax b) p (inl q) = absurd (wrong_and_large bytes b a q p)
one_fault bytes (TooLarge a) (Syntax b) p (inr q) = absurd (no_whole bytes p.before p.word p.first q.can)
one_fault bytes (TooLarge a) (TooLarge b) p q = let s = one_wrong bytes p.before q.before p.word q.word p.first q.first in ap TooLarge (p.here ∙ ap (λ (word : Word). word.at) s.words ∙ sym q.here)
one_fault bytes TooLong g p q = absurd p
one_fault bytes NoMemory g p q = absurd p
one_fault bytes (Syntax a) TooLong p q = absurd q
one_fault bytes (Syntax a) NoMemory p q = absurd q
one_fault bytes (TooLarge a) TooLong p q = absurd q
one_fault bytes (TooLarge a) NoMemory p q = absurd q

whole_front : (bytes : List ℕ) (f : Clauses) → SpellsFormula bytes f → IsFront (texts_of (words_of bytes))
whole_front bytes f p = record { more = []; formula = f; are = subst (λ ws. AreWords ws f) (sym (append-nil (texts_of (words_of bytes)))) p.words }

pub not_both : (bytes : List ℕ) (f : Clauses) (fault : FormulaFault) → SpellsFormula bytes f → IsFormulaFault bytes fault → ⊥
not_both bytes f (Syntax at) p (inl q) = no_whole bytes q.before q.word q.first (whole_front bytes f p)
not_both bytes f (Syntax at) p (inr q) = q.cannot f p
not_both bytes f (TooLarge at) p q = no_whole bytes q.before q.word q.first (whole_front bytes f p)
not_both bytes f TooLong p q = q
not_both bytes f NoMemory p q = q
