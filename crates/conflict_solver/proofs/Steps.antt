-- The steps of a search under way.
use Rattle.std.proofs.Common.{◌≡◌, ◌≢◌, ℕ, zero, suc, ◌+◌, ◌-◌, ◌^◌, ◌<◌, ◌≤◌, ◌⊎◌, inl, inr, ℤ, pos, negsuc, neg_ℤ, nat_abs, true, Option, Some, None, IfSome, IfNone, Result, Ok, Err, OnOk, IfOk, List, [], ◌∷◌, ◌++◌, length, take, get_or, refl, sym, ap, ◌∙◌, subst, arith}
use Rattle.std.specs.List.{Any}
use Rattle.std.proofs.lemmas.Bool.Decides.{nat_tests}
use Rattle.std.proofs.lemmas.Int.{ints}
use Rattle.std.proofs.lemmas.List.{get_or_default, take_more, take_all, map-append, append-nil, length-append, length-map}
use Rattle.std.proofs.lemmas.List.Elements.{All-more}
use Rattle.clause_base.specs.Literals.{is_in}
use Rattle.clause_base.specs.Formulas.{Clauses, IsFormula}
use Rattle.clause_base.specs.FormulaText.{is_literal_of}
use Rattle.clause_base.specs.Teaching.{Teaches, IsOpen}
use Rattle.clause_base.specs.Plain.{IsPlain}
use Rattle.clause_base.proofs.LiteralLemmas.{in_contains}
use Rattle.refutation_check.specs.Following.{Follows, numbered}
use Rattle.refutation_check.specs.Deriving.{AreDerived, AreExhausted}
use Rattle.proof_sinks.specs.declared.lines.Said.{Said}
use Rattle.proof_sinks.specs.declared.lines.Said.TheVariants.{Axiom, Derived}
use Rattle.proof_sinks.specs.Lines.{given_lines, derived_lines}
use Rattle.search_trail.specs.Trails.{Search, IsSearch, front_size, with_clause, with_decision}
use Rattle.search_trail.specs.Learning.{IsLearnt, IsAsserting, IsDoneBelow}
use Rattle.clause_watches.specs.Watching.{Watched, AreWatched, HasGrown}
use Rattle.clause_watches.proofs.Kept.{closed, decision_kept}
use Rattle.conflict_solver.specs.Deriving.{IsProof, IsProofSoFar, AreGiven}
use Rattle.conflict_solver.specs.Answering.{IsAnswered}
use Rattle.conflict_solver.specs.declared.verdict.Verdict.{Verdict}
use Rattle.conflict_solver.specs.declared.verdict.Verdict.TheVariants.{Values, Refuted, Undecided}
use Rattle.conflict_solver.specs.declared.verdict.SolveFault.{SolveFault}
use Rattle.conflict_solver.specs.Joining.{HasJoined}
use Rattle.conflict_solver.specs.Setting.{AreTrue, IsSettled, HasDecided}
use Rattle.conflict_solver.specs.Running.{IsUnderWay, IsGiving}
use Rattle.conflict_solver.proofs.Counting.{few_lines}
use Rattle.conflict_solver.proofs.Derivations.{line_more, ends_empty, so_far, answered}
use Rattle.conflict_solver.proofs.Verdicts.{settled, open_below}

-- what holds of one clause more
pub true_more : (s : Search) (place : ℕ) (clause : List ℤ) → place < length s.clauses → clause ≡ numbered s.clauses (place + 1) → Any (λ l. is_in s.lits l ≡ true) clause → AreTrue s place → AreTrue s (place + 1)
true_more s place clause lt is any before = All-more (λ c. Any (λ l. is_in s.lits l ≡ true) c) s.clauses place [] lt before (subst (λ c. Any (λ l. is_in s.lits l ≡ true) c) (is ∙ ap (λ n. get_or s.clauses n []) same) any) where
  same : place + 1 - 1 ≡ place
  same = omega arith

pub start_low : (s : Search) (w : Watched) → AreWatched s w → 0 < length s.starts → front_size s (length s.starts - 1) ≤ w.head
start_low s w k above = omega (arith, k.levels (length s.starts - 1) (omega (arith, above)), get_or_default s.starts (length s.starts - 1) (length s.lits) 0 (omega (arith, above)))

pub done_below : (s : Search) (w : Watched) → IsSearch s → AreWatched s w → 0 < length s.starts → IsDoneBelow s
done_below s w t k above = closed s w (length s.starts - 1) t k (start_low s w k above)

-- ---- a line that a conflict teaches

literal_of : (vars : ℕ) (l : ℤ) → (l ≡ pos 0 → ⊥) → nat_abs l ≤ vars → is_literal_of vars l ≡ true
literal_of vars l some most = grind (arith, nat_tests, by_size l some most) where
  by_size : (l : ℤ) → (l ≡ pos 0 → ⊥) → nat_abs l ≤ vars → 0 < nat_abs l
  by_size (pos zero) some most = absurd (some refl)
  by_size (pos (suc n)) some most = omega arith
  by_size (negsuc n) some most = omega arith

plain : (s : Search) (clause : List ℤ) → IsSearch s → IsLearnt s clause → IsPlain s.vars clause
plain s clause t l = record {
  once = l.once;
  literals = λ k d klt. literal_of s.vars (get_or clause k d) (some (get_or clause k d) (l.negated k d klt)) (within (get_or clause k d) (l.negated k d klt));
} where
  some : (z : ℤ) → is_in s.lits (neg_ℤ z) ≡ true → z ≡ pos 0 → ⊥
  some z is zero_is = let zero_in : is_in s.lits (pos 0) ≡ true = subst (λ z. is_in s.lits (neg_ℤ z) ≡ true) zero_is is in
      t.once.apart.apart (pos 0) (in_contains s.lits (pos 0) zero_in) (in_contains s.lits (pos 0) zero_in)

  within : (z : ℤ) → is_in s.lits (neg_ℤ z) ≡ true → nat_abs z ≤ s.vars
  within z is = let (p, plt, at) = in_contains s.lits (neg_ℤ z) is in omega (arith, ints, t.small p (neg_ℤ z) plt, ap (λ z. nat_abs z) at)

module _ (formula : Clauses) (budget left : ℕ) (said new : List Said) (s : Search) (w : Watched) (items clause : List ℤ) (hint_items hints : List ℕ)
    (t : IsSearch s) (k : AreWatched s w) (above : 0 < length s.starts) (some : 0 < left) (lits_are : clause ≡ items) (hints_are : hints ≡ hint_items)
    (follows : Follows s.clauses items hint_items) (l : IsLearnt s items) (asserting : IsDoneBelow s → IsAsserting s items) (teaches : IsDoneBelow s → Teaches s.clauses items)
    (run : IsUnderWay formula budget left said s) where
  filled : items ≢ []
  filled empty = let no' : ⊥ = omega (arith, (asserting (done_below s w t k above)).some, ap (λ c. length c) empty) in absurd no'

  pub took_line : (u : Search) (left' : ℕ) → new ≡ said ++ Derived clause hints ∷ [] → HasJoined s u clause → left' + 1 ≡ left → IsUnderWay formula budget left' new u
  took_line u left' is joined less = subst (λ n. IsUnderWay formula budget n new u) (omega (arith, less))
      (line_more formula budget left said new s u items hint_items run some (is ∙ (λ i. said ++ Derived (lits_are i) (hints_are i) ∷ [])) follows (teaches (done_below s w t k above)) (plain s items t l) filled
      joined.vars (joined.clauses ∙ ap (λ c. s.clauses ++ c ∷ []) lits_are))

  pub line_so_far : new ≡ said ++ Derived clause hints ∷ [] → IsProofSoFar formula budget new
  line_so_far is = inr (so_far formula budget (left - 1) new (with_clause s clause) (took_line (with_clause s clause) (left - 1) is record { vars = refl; clauses = refl } (omega (arith, some))))

  pub torn_so_far : (new ≡ said) ⊎ (new ≡ said ++ Derived clause hints ∷ []) → IsProofSoFar formula budget new
  torn_so_far (inl same) = inr (subst (IsProof formula budget) (sym same) (so_far formula budget left said s run))
  torn_so_far (inr more) = line_so_far more

-- ---- the empty line

module _ (formula : Clauses) (budget left : ℕ) (said new : List Said) (s : Search) (items clause : List ℤ) (hint_items hints : List ℕ) (lits_are : clause ≡ items) (hints_are : hints ≡ hint_items)
    (follows : Follows s.clauses items hint_items) (empty : items ≡ []) (run : IsUnderWay formula budget left said s) where
  pub refuted : new ≡ said ++ Derived clause hints ∷ [] → IsAnswered formula budget new Refuted
  refuted is = ends_empty formula budget left said new s items hint_items run (is ∙ (λ i. said ++ Derived (lits_are i) (hints_are i) ∷ [])) follows empty

  pub torn_refuted : (new ≡ said) ⊎ (new ≡ said ++ Derived clause hints ∷ []) → IsProofSoFar formula budget new
  torn_refuted (inl same) = inr (subst (IsProof formula budget) (sym same) (so_far formula budget left said s run))
  torn_refuted (inr more) = inr (answered formula budget new (refuted more))

-- ---- a decision

pub decided_kept : (s u : Search) (w x : Watched) (found : Option Verdict) → IsSearch s → AreWatched s w → w.head ≡ length s.lits → x ≡ w → IfNone found (HasDecided s u) → IfNone found (AreWatched u x)
decided_kept s u w x None t k done same d = subst (λ u. AreWatched u x) (sym d.begun) (subst (λ x. AreWatched (with_decision s d.lit) x) (sym same) (decision_kept s w d.lit t k done))
decided_kept s u w x (Some verdict) t k done same d = tt

pub settled_found : (formula : Clauses) (budget left : ℕ) (said : List Said) (old s : Search) (w : Watched) (found : Option Verdict) → IsUnderWay formula budget left said old → s.vars ≡ old.vars → s.clauses ≡ old.clauses
    → IsSearch s → AreWatched s w → w.head ≡ length s.lits → IfSome found (IsSettled s left) → IfSome found (IsAnswered formula budget said)
settled_found formula budget left said old s w None run vars clauses t k done is = tt
settled_found formula budget left said old s w (Some verdict) run vars clauses t k done is = settled formula budget left said old s w verdict run vars clauses t k done is

pub done_when_none : {A P : Type 0} (found : Option A) → found ≡ None → IfNone found P → P
done_when_none {A} {P} found none is = subst (λ f. IfNone f P) none is

-- below a conflict unit propagation meets none
pub grown_open : (old s : Search) (w : Watched) → HasGrown old s → IsSearch s → AreWatched s w → 0 < length s.starts → IsOpen old.clauses
grown_open old s w grown t k above = subst IsOpen grown.clauses (open_below s w t k (length s.starts - 1) (omega (arith, above)))

-- ---- clauses that are given

pub given_more : (formula : Clauses) (items : List (List ℤ)) (i : ℕ) (said new : List Said) (item clause : List ℤ) → items ≡ formula.clauses → i < length items → item ≡ get_or items i item → clause ≡ item
    → said ≡ given_lines (take i formula.clauses) → new ≡ said ++ Axiom clause ∷ [] → AreGiven formula new
given_more formula items i said new item clause same lt at is given more = record {
  count = i + 1;
  front = more ∙ (λ j. given j ++ Axiom ((is ∙ at ∙ ap (λ xs. get_or xs i item) same) j) ∷ []) ∙ sym (map-append (λ (c : List ℤ). Axiom c) (take i formula.clauses) (get_or formula.clauses i item ∷ []))
      ∙ ap (λ cs. given_lines cs) (sym (take_more formula.clauses i item (omega (arith, lt, ap (λ xs. length xs) same))));
}

pub given_torn : (formula : Clauses) (items : List (List ℤ)) (i : ℕ) (said new : List Said) (item clause : List ℤ) → items ≡ formula.clauses → i < length items → item ≡ get_or items i item → clause ≡ item
    → said ≡ given_lines (take i formula.clauses) → (new ≡ said) ⊎ (new ≡ said ++ Axiom clause ∷ []) → AreGiven formula new
given_torn formula items i said new item clause same lt at is given (inl kept) = record { count = i; front = kept ∙ given }
given_torn formula items i said new item clause same lt at is given (inr more) = given_more formula items i said new item clause same lt at is given more

-- ---- all were given

all_given : (formula : Clauses) (count : ℕ) (said : List Said) → count ≡ length formula.clauses → said ≡ given_lines (take count formula.clauses) → said ≡ given_lines formula.clauses
all_given formula count said all given = given ∙ ap (λ cs. given_lines cs) (take_all count formula.clauses (omega (arith, all)))

pub few_given : (formula : Clauses) (said : List Said) (s : Search) (w : Watched) (conflict : Option ℕ) → IsFormula formula.vars formula.clauses → IsGiving formula (length formula.clauses) said s w conflict → length said < 2 ^ 61
few_given formula said s w conflict f giving = omega (arith, f.few_clauses, ap (λ ls. length ls) (all_given formula (length formula.clauses) said refl giving.given), length-map formula.clauses (λ (c : List ℤ). Axiom c))

pub begun : (formula : Clauses) (left : ℕ) (said : List Said) (s : Search) (w : Watched) (conflict : Option ℕ) → IsGiving formula (length formula.clauses) said s w conflict → IsUnderWay formula left left said s
begun formula left said s w conflict giving = record {
  lines = [];
  whole = all_given formula (length formula.clauses) said refl giving.given ∙ sym (append-nil (given_lines formula.clauses));
  derived = record { follow = tt; teach = tt; plain = λ k d klt. let no' : ⊥ = omega (arith, klt) in absurd no'; few = omega arith };
  filled = λ k d klt. let no' : ⊥ = omega (arith, klt) in absurd no';
  count = omega arith;
  clauses = giving.clauses ∙ take_all (length formula.clauses) formula.clauses (omega arith) ∙ sym (append-nil formula.clauses);
  vars = giving.vars;
}

-- ---- the bounds of a search

pub few_said : (formula : Clauses) (budget left : ℕ) (said : List Said) (s : Search) → IsFormula formula.vars formula.clauses → budget < 2 ^ 32 → IsUnderWay formula budget left said s → length said < 2 ^ 61
few_said formula budget left said s f small run = omega (
  arith,
  f.few_clauses,
  small,
  run.count,
  ap (λ ls. length ls) run.whole,
  length-append (given_lines formula.clauses) (derived_lines run.lines),
  length-map formula.clauses (λ (c : List ℤ). Axiom c),
  length-map run.lines (λ (line : List ℤ × List ℕ). Derived line.0 line.1),
)

never_exhausted : (formula : Clauses) (budget : ℕ) (lines : List (List ℤ × List ℕ)) → AreDerived formula budget lines → AreExhausted formula budget lines → 3 ^ formula.vars ≤ budget → ⊥
never_exhausted formula budget lines derived spent large = let no' : ⊥ = omega (arith, large, spent.count, few_lines formula.vars formula.clauses lines spent.new spent.filled derived.plain) in no'

abbrev is_decided : Result Verdict SolveFault → Type 0
is_decided (Ok Undecided) = ⊥
is_decided (Ok Refuted) = Unit {0}
is_decided (Ok (Values values)) = Unit {0}
is_decided (Err fault) = Unit {0}

pub decided : (formula : Clauses) (budget : ℕ) (said : List Said) (r : Result Verdict SolveFault) → IfOk r (IsAnswered formula budget said) → 3 ^ formula.vars ≤ budget → OnOk r (r ≢ Ok Undecided)
decided formula budget said (Ok Undecided) a large = λ same. never_exhausted formula budget a.lines a.derived a.verdict_holds large
decided formula budget said (Ok Refuted) a large = λ same. subst is_decided same tt
decided formula budget said (Ok (Values values)) a large = λ same. subst is_decided same tt
decided formula budget said (Err fault) a large = tt

pub found_is : {A : Type 0} (P : A → Type 0) (found : Option A) (x : A) → found ≡ Some x → IfSome found P → P x
found_is P found x is holds = subst (λ f. IfSome f P) is holds
