-- What readers take of a formula's words.
use Rattle.std.proofs.Common.{◌≡◌, ℕ, ◌<◌, ◌≤◌, ℤ, Bool, true, false, not, ◌&&◌, Option, Some, None, IfSome, List, [], ◌∷◌, ◌++◌, length, map, codes, refl, sym, ap, ◌∙◌, subst, arith, append_assoc, length-append}
use Rattle.std.specs.List.{list_all, flat_map}
use Rattle.std.specs.Fmt.{signed_decimal}
use Rattle.std.proofs.lemmas.List.{append-nil, flat_map_more, map-append}
use Rattle.std.proofs.lemmas.List.Folds.{list_all-append}
use Rattle.clause_base.specs.TextWords.{Word, texts_of}
use Rattle.clause_base.specs.FormulaText.{is_literal_of, clause_texts}
use Rattle.clause_base.specs.FormulaFaults.{IsOverMost}
use Rattle.clause_base.specs.Readers.{Takes, BeginsLarge, word_text, GoesOn, next_at, are_literals, StopsInClause}

pub takes_none : (words : List Word) → Takes words words []
takes_none words = record { taken = []; whole = refl; spelled = refl }

pub takes_one : {old new : List Word} (word : Word) (text : List ℕ) → old ≡ word ∷ new → word.text ≡ text → Takes old new (text ∷ [])
takes_one word text is spells = record { taken = word ∷ []; whole = is; spelled = ap (λ t. t ∷ []) spells }

pub takes_more : {a b c : List Word} {xs ys : List (List ℕ)} → Takes a b xs → Takes b c ys → Takes a c (xs ++ ys)
takes_more {c = c} p q = record {
  taken = p.taken ++ q.taken;
  whole = p.whole ∙ ap (λ w. p.taken ++ w) q.whole ∙ sym (append_assoc p.taken q.taken c);
  spelled = map-append (λ (word : Word). word.text) p.taken q.taken ∙ (λ i. p.spelled i ++ q.spelled i);
}

-- whole clauses were read, and literals of the next one
pub record HasRead (vars count : ℕ) (old new : List Word) (clauses : List (List ℤ)) (lits : List ℤ) : Type 0 where
  pub takes : Takes old new (flat_map clause_texts clauses ++ map signed_decimal lits)
  pub most : length clauses ≤ count
  pub last : length clauses ≡ count → lits ≡ []
  pub all_literals : list_all (are_literals vars) clauses ≡ true
  pub literals : are_literals vars lits ≡ true

pub read_none : (vars count : ℕ) (words : List Word) → HasRead vars count words words [] []
read_none vars count words = record { takes = takes_none words; most = omega arith; last = λ e. refl; all_literals = refl; literals = refl }

all_more : {X : Type 0} (test : X → Bool) (xs : List X) (x : X) → list_all test xs ≡ true → test x ≡ true → list_all test (xs ++ (x ∷ [])) ≡ true
all_more test xs x all one = list_all-append test xs (x ∷ []) ∙ (λ i. all i && (one i && true))

pub read_literal : {vars count : ℕ} {old new next : List Word} {clauses : List (List ℤ)} {lits : List ℤ} (l : ℤ) → HasRead vars count old new clauses lits → length clauses < count
    → Takes new next (signed_decimal l ∷ []) → is_literal_of vars l ≡ true → HasRead vars count old next clauses (lits ++ (l ∷ []))
read_literal {vars = vars} {old = old} {next = next} {clauses = clauses} {lits = lits} l h fewer takes is = record {
  takes = subst (λ ts. Takes old next ts) (append_assoc (flat_map clause_texts clauses) (map signed_decimal lits) (signed_decimal l ∷ []) ∙ ap (λ ts. flat_map clause_texts clauses ++ ts) (sym (map-append signed_decimal lits (l ∷ [])))) (takes_more h.takes takes);
  most = h.most;
  last = λ e. absurd (omega (arith, e, fewer));
  all_literals = h.all_literals;
  literals = all_more (is_literal_of vars) lits l h.literals is;
}

pub read_clause : {vars count : ℕ} {old new next : List Word} {clauses : List (List ℤ)} {lits : List ℤ} → HasRead vars count old new clauses lits → length clauses < count
    → Takes new next (codes "0" ∷ []) → HasRead vars count old next (clauses ++ (lits ∷ [])) []
read_clause {vars = vars} {old = old} {next = next} {clauses = clauses} {lits = lits} h fewer takes = record {
  takes = subst (λ ts. Takes old next ts) (append_assoc (flat_map clause_texts clauses) (map signed_decimal lits) (codes "0" ∷ []) ∙ flat_map_more clause_texts [] clauses lits ∙ sym (append-nil _)) (takes_more h.takes takes);
  most = omega (arith, fewer, length-append clauses (lits ∷ []));
  last = λ e. refl;
  all_literals = all_more (are_literals vars) clauses lits h.all_literals h.literals;
  literals = refl;
}

pub read_all : {vars count : ℕ} {old new : List Word} {clauses : List (List ℤ)} {lits : List ℤ} → HasRead vars count old new clauses lits → count ≤ length clauses
    → Takes old new (flat_map clause_texts clauses)
read_all {old = old} {new = new} {clauses = clauses} h all =
    subst (λ ts. Takes old new ts) (ap (λ ls. flat_map clause_texts clauses ++ map signed_decimal ls) (h.last (omega (arith, all, h.most))) ∙ append-nil _) h.takes

pub stops : {vars count end at : ℕ} {old new : List Word} {clauses : List (List ℤ)} {lits : List ℤ} → HasRead vars count old new clauses lits → length clauses < count
    → (GoesOn vars (texts_of new) → ⊥) → at ≡ next_at end new → StopsInClause vars count end old at
stops {new = new} {clauses = clauses} {lits = lits} h fewer not at = record {
  clauses = clauses;
  lits = lits;
  new = new;
  takes = h.takes;
  fewer = fewer;
  all_literals = h.all_literals;
  literals = h.literals;
  stops = not;
  here = at;
}

pub turned : (t : Bool) → false ≡ not t → true ≡ t
turned true e = refl
turned false e = cc

-- the next word is a number over the limit
pub large_number : {old new : List Word} (word : Word) (most end : ℕ) → old ≡ word ∷ new → IsOverMost most word.text → (word.at ≡ next_at end old) × BeginsLarge most (texts_of old)
large_number word most end is over = subst (λ words. (word.at ≡ next_at end words) × BeginsLarge most (texts_of words)) (sym is) (refl, over)

-- the same, of what the reader of a literal gives
pub literal_step : {vars count : ℕ} {old new next : List Word} {clauses : List (List ℤ)} {lits items : List ℤ} (found : Option ℤ) (l : ℤ) → HasRead vars count old new clauses lits → length clauses < count
    → Takes new next (word_text found ∷ []) → IfSome found (λ l. is_literal_of vars l ≡ true) → found ≡ Some l → items ≡ lits ++ (l ∷ []) → HasRead vars count old next clauses items
literal_step {vars = vars} {count = count} {old = old} {new = new} {next = next} {clauses = clauses} found l h fewer takes is some items =
    subst (λ ls. HasRead vars count old next clauses ls) (sym items) (read_literal l h fewer (subst (λ f. Takes new next (word_text f ∷ [])) some takes) (subst (λ f. IfSome f (λ l. is_literal_of vars l ≡ true)) some is))

pub clause_step : {vars count : ℕ} {old new next : List Word} {clauses others : List (List ℤ)} {lits items : List ℤ} (found : Option ℤ) → HasRead vars count old new clauses lits → length clauses < count
    → Takes new next (word_text found ∷ []) → found ≡ None → others ≡ clauses ++ (lits ∷ []) → items ≡ [] → HasRead vars count old next others items
clause_step {vars = vars} {count = count} {old = old} {new = new} {next = next} {clauses = clauses} {lits = lits} {items = rest} found h fewer takes none others items =
    subst (λ cs. HasRead vars count old next cs rest) (sym others) (subst (λ ls. HasRead vars count old next (clauses ++ (lits ∷ [])) ls) (sym items) (read_clause h fewer (subst (λ f. Takes new next (word_text f ∷ [])) none takes)))

pub takes_start : {all words : List Word} → words ≡ all → Takes all words []
takes_start {words = words} e = record { taken = []; whole = sym e; spelled = refl }
