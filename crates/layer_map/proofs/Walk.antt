-- The walk over the lines of a text.
use Rattle.std.proofs.Common.{◌≡◌, ℕ, ◌+◌, ◌<◌, Bool, true, false, if◌then◌else◌, not, List, [], ◌∷◌, ◌++◌, length, Option, Some, None, refl, sym, ap, ◌∙◌, subst, arith, ◌==◌, append_assoc, inl, inr}
use Rattle.std.specs.List.{list_any}
use Rattle.std.specs.Option.{option_or}
use Rattle.std.proofs.lemmas.Bool.{ne_eqb}
use Rattle.std.proofs.lemmas.List.{append-nil, length-append}
use Rattle.plane_geom.proofs.Options.{option_or_none}
use Rattle.layer_map.specs.declared.refusal.MapRefusal.{MapRefusal}
use Rattle.layer_map.specs.declared.refusal.MapRefusal.TheVariants.{BadLine, NoSupplyLine}
use Rattle.layer_map.specs.declared.refusal.Side.TheVariants.{High, Low}
use Rattle.layer_map.specs.Lines.{lines_of}
use Rattle.layer_map.specs.Grammar.{Statement, nothing, wire, cut, fet, label, supply, SpellsLine, Spells}
use Rattle.layer_map.specs.Plan.{Plan, map_of, gathered, supplies_in}
use Rattle.layer_map.specs.Faults.{fault_in, first_fault, names_side, lacks, supply_fault, IsLineFault, Refuses, Accepts}
use Rattle.layer_map.specs.Steps.{Adds, with_line}
use Rattle.layer_map.specs.Readers.{first_of, said_at}
use Rattle.layer_map.proofs.Parsing.{first_is, none_first}
use Rattle.layer_map.proofs.RowLemmas.{said_takes, said_again}

-- The lines before the rest say this map, and none of them is at fault.
pub record Reached (text rest : List ℕ) (plan : Plan) (number : ℕ) : Type 0 where
  pub before : List Statement
  pub front : List (List ℕ)
  pub split : lines_of text ≡ front ++ lines_of rest
  pub says : Spells front before
  pub none : first_fault before ≡ None
  pub plan_is : plan ≡ map_of before
  pub number_is : number ≡ length before

pub at_start : (text : List ℕ) (plan : Plan) → plan ≡ map_of [] → Reached text text plan 0
at_start text plan e = record { before = []; front = []; split = refl; says = refl; none = refl; plan_is = e; number_is = refl }

pub goes_on : (text rest behind line : List ℕ) (plan next : Plan) (number : ℕ) (s : Statement) → Reached text rest plan number → ◌≡◌ {A = Option (List ℕ × List (List ℕ))} (Some (line, lines_of behind)) (first_of (lines_of rest)) → Some s ≡ said_at line → Adds (number + 1) plan s next → Reached text behind next (number + 1)
goes_on text rest behind line plan next number s r e said a = record {
  before = s ∷ r.before;
  front = r.front ++ (line ∷ []);
  split = r.split ∙ ap (λ xs. r.front ++ xs) (first_is (lines_of rest) (lines_of behind) line e) ∙ sym (append_assoc r.front (line ∷ []) (lines_of behind));
  says = (r.front, line, refl, r.says, said_takes line s (sym said));
  none = ap (λ o. option_or o (fault_in (length r.before + 1) (map_of r.before) s)) r.none ∙ (λ i. fault_in (sym r.number_is i + 1) (sym r.plan_is i) s) ∙ a.faultless;
  plan_is = a.plan ∙ ap (λ p. with_line p s) r.plan_is;
  number_is = omega (arith, r.number_is);
}

never : {A : Type 0} (x : A) (o : Option A) → None ≡ o → o ≡ Some x → ⊥
never x None e h = cc
never x (Some y) e h = cc

pub bad_line : (text rest behind line : List ℕ) (plan : Plan) (number : ℕ) → Reached text rest plan number → ◌≡◌ {A = Option (List ℕ × List (List ℕ))} (Some (line, lines_of behind)) (first_of (lines_of rest)) → None ≡ said_at line → Refuses text (BadLine (number + 1))
bad_line text rest behind line plan number r e said = inl (record {
  before = r.before;
  front = r.front;
  line = line;
  rest = lines_of behind;
  split = r.split ∙ ap (λ xs. r.front ++ xs) (first_is (lines_of rest) (lines_of behind) line e);
  spelled = r.says;
  none_before = r.none;
  is = inl (λ s h. never s (said_at line) said (said_again line s h), ap (λ n. BadLine (n + 1)) r.number_is);
})

pub faulty : (text rest behind line : List ℕ) (plan : Plan) (number : ℕ) (s : Statement) (fault : MapRefusal) → Reached text rest plan number → ◌≡◌ {A = Option (List ℕ × List (List ℕ))} (Some (line, lines_of behind)) (first_of (lines_of rest)) → Some s ≡ said_at line → fault_in (number + 1) plan s ≡ Some fault → Refuses text fault
faulty text rest behind line plan number s fault r e said f = inl (record {
  before = r.before;
  front = r.front;
  line = line;
  rest = lines_of behind;
  split = r.split ∙ ap (λ xs. r.front ++ xs) (first_is (lines_of rest) (lines_of behind) line e);
  spelled = r.says;
  none_before = r.none;
  is = inr (s, said_takes line s (sym said), (λ i. fault_in (sym r.number_is i + 1) (sym r.plan_is i) s) ∙ f);
})

-- ---- lines of supplies

other : (xs : List (List ℕ)) (t : Bool) → t ≡ not (length xs == 0) → t ≡ not (length (xs ++ []) == 0)
other xs t h = h ∙ ap (λ ys. not (length ys == 0)) (sym (append-nil xs))

here : (xs names : List (List ℕ)) → 0 < length names → true ≡ not (length (xs ++ names) == 0)
here xs names some = ap not (sym (ne_eqb (length (xs ++ names)) 0 (λ e. omega (arith, length-append xs names, e, some))))

pub high_lines : (lines : List (List ℕ)) (said : List Statement) → Spells lines said → list_any (names_side High) said ≡ not (length (gathered (λ wires. supplies_in High) said) == 0)
high_lines lines [] h = refl
high_lines lines (nothing ∷ before) (f, l, e, says, sp) = other _ _ (high_lines f before says)
high_lines lines (wire n x ∷ before) (f, l, e, says, sp) = other _ _ (high_lines f before says)
high_lines lines (cut x ws ∷ before) (f, l, e, says, sp) = other _ _ (high_lines f before says)
high_lines lines (fet k x g d ∷ before) (f, l, e, says, sp) = other _ _ (high_lines f before says)
high_lines lines (label n ws ∷ before) (f, l, e, says, sp) = other _ _ (high_lines f before says)
high_lines lines (supply High names ∷ before) (f, l, e, says, sp) = here _ names sp.some
high_lines lines (supply Low names ∷ before) (f, l, e, says, sp) = other _ _ (high_lines f before says)

pub low_lines : (lines : List (List ℕ)) (said : List Statement) → Spells lines said → list_any (names_side Low) said ≡ not (length (gathered (λ wires. supplies_in Low) said) == 0)
low_lines lines [] h = refl
low_lines lines (nothing ∷ before) (f, l, e, says, sp) = other _ _ (low_lines f before says)
low_lines lines (wire n x ∷ before) (f, l, e, says, sp) = other _ _ (low_lines f before says)
low_lines lines (cut x ws ∷ before) (f, l, e, says, sp) = other _ _ (low_lines f before says)
low_lines lines (fet k x g d ∷ before) (f, l, e, says, sp) = other _ _ (low_lines f before says)
low_lines lines (label n ws ∷ before) (f, l, e, says, sp) = other _ _ (low_lines f before says)
low_lines lines (supply High names ∷ before) (f, l, e, says, sp) = other _ _ (low_lines f before says)
low_lines lines (supply Low names ∷ before) (f, l, e, says, sp) = here _ names sp.some

twice_not : (t : Bool) → not (not t) ≡ t
twice_not true = refl
twice_not false = refl

-- whether the supplies have lines, by the names that the map has
pub lacks_is : (lines : List (List ℕ)) (said : List Statement) (plan : Plan) → plan ≡ map_of said → Spells lines said → supply_fault said ≡ (if length plan.high == 0 then Some (NoSupplyLine High) else if length plan.low == 0 then Some (NoSupplyLine Low) else None)
lacks_is lines said plan e h =
    let high : lacks High said ≡ (length plan.high == 0) = ap not (high_lines lines said h) ∙ twice_not _ ∙ ap (λ (p : Plan). length p.high == 0) (sym e) in
    let low : lacks Low said ≡ (length plan.low == 0) = ap not (low_lines lines said h) ∙ twice_not _ ∙ ap (λ (p : Plan). length p.low == 0) (sym e) in
    λ i. if high i then Some (NoSupplyLine High) else if low i then Some (NoSupplyLine Low) else None

pub no_supply : (text rest : List ℕ) (plan : Plan) (number : ℕ) (fault : MapRefusal) → Reached text rest plan number → ◌≡◌ {A = Option (List ℕ × List (List ℕ))} None (first_of (lines_of rest)) → (if length plan.high == 0 then Some (NoSupplyLine High) else if length plan.low == 0 then Some (NoSupplyLine Low) else None) ≡ Some fault → Refuses text fault
no_supply text rest plan number fault r e f =
    let whole : lines_of text ≡ r.front = r.split ∙ ap (λ xs. r.front ++ xs) (none_first (lines_of rest) e) ∙ append-nil r.front in
    let says = subst (λ ls. Spells ls r.before) (sym whole) r.says in
    inr (record { said = r.before; spelled = says; none_at_fault = r.none; is = lacks_is (lines_of text) r.before plan r.plan_is says ∙ f })

pub accepted : (text rest : List ℕ) (plan : Plan) (number : ℕ) → Reached text rest plan number → ◌≡◌ {A = Option (List ℕ × List (List ℕ))} None (first_of (lines_of rest)) → (length plan.high == 0) ≡ false → (length plan.low == 0) ≡ false → Accepts text plan
accepted text rest plan number r e h k =
    let whole : lines_of text ≡ r.front = r.split ∙ ap (λ xs. r.front ++ xs) (none_first (lines_of rest) e) ∙ append-nil r.front in
    let says = subst (λ ls. Spells ls r.before) (sym whole) r.says in
    record { said = r.before; spelled = says; none_at_fault = r.none; supplied = lacks_is (lines_of text) r.before plan r.plan_is says ∙ (λ i. if h i then Some (NoSupplyLine High) else if k i then Some (NoSupplyLine Low) else None); is = r.plan_is }

-- ---- one answer

pub data Outcome : Type 0 where
  accepts : Plan → Outcome
  refuses : MapRefusal → Outcome

unfoldable pub ending : Option MapRefusal → Plan → Outcome
ending None plan = accepts plan
ending (Some fault) plan = refuses fault

unfoldable pub judged : Option MapRefusal → Outcome → Outcome
judged None next = next
judged (Some fault) next = refuses fault

unfoldable pub after : Option Statement → List Statement → (List Statement → Outcome) → Outcome
after None said next = refuses (BadLine (length said + 1))
after (Some s) said next = judged (fault_in (length said + 1) (map_of said) s) (next (s ∷ said))

unfoldable pub answer : List (List ℕ) → List Statement → Outcome
answer [] said = ending (supply_fault said) (map_of said)
answer (line ∷ lines) said = after (said_at line) said (answer lines)

walked : (said : List Statement) (front more : List (List ℕ)) → Spells front said → first_fault said ≡ None → answer (front ++ more) [] ≡ answer more said
unfolding answer after judged
walked [] front more h e = ap (λ f. answer (f ++ more) []) h
walked (s ∷ before) front more (f, l, whole, says, sp) e =
    let none = option_or_none (first_fault before) (fault_in (length before + 1) (map_of before) s) e in
    ap (λ x. answer (x ++ more) []) whole ∙ ap (λ x. answer x []) (append_assoc f (l ∷ []) more) ∙ walked before f (l ∷ more) says none.0 ∙ ap (λ o. after o before (answer more)) (said_again l s sp) ∙ ap (λ o. judged o (answer more (s ∷ before))) none.1

accepts_so : (text : List ℕ) (p : Plan) → Accepts text p → answer (lines_of text) [] ≡ accepts p
unfolding answer ending
accepts_so text p a = ap (λ x. answer x []) (sym (append-nil (lines_of text))) ∙ walked a.said (lines_of text) [] a.spelled a.none_at_fault ∙ ap (λ o. ending o (map_of a.said)) a.supplied ∙ ap accepts (sym a.is)

unsaid : (line : List ℕ) (o : Option Statement) → said_at line ≡ o → ((s : Statement) → SpellsLine line s → ⊥) → said_at line ≡ None
unsaid line None e h = e
unsaid line (Some s) e h = absurd (h s (said_takes line s e))

fault_so : (line : List ℕ) (lines : List (List ℕ)) (before : List Statement) (f : MapRefusal) → IsLineFault (length before + 1) (map_of before) line f → answer (line ∷ lines) before ≡ refuses f
unfolding answer after judged
fault_so line lines before f (inl h) = ap (λ o. after o before (answer lines)) (unsaid line (said_at line) refl h.0) ∙ ap refuses (sym h.1)
fault_so line lines before f (inr h) = ap (λ o. after o before (answer lines)) (said_again line h.0 h.1) ∙ ap (λ o. judged o (answer lines (h.0 ∷ before))) h.2

refuses_so : (text : List ℕ) (f : MapRefusal) → Refuses text f → answer (lines_of text) [] ≡ refuses f
unfolding answer ending
refuses_so text f (inl a) = ap (λ x. answer x []) a.split ∙ walked a.before a.front (a.line ∷ a.rest) a.spelled a.none_before ∙ fault_so a.line a.rest a.before f a.is
refuses_so text f (inr a) = ap (λ x. answer x []) (sym (append-nil (lines_of text))) ∙ walked a.said (lines_of text) [] a.spelled a.none_at_fault ∙ ap (λ o. ending o (map_of a.said)) a.is

pub one_map : (text : List ℕ) (p q : Plan) → Accepts text p → Accepts text q → p ≡ q
one_map text p q a b = let same : accepts p ≡ accepts q = sym (accepts_so text p a) ∙ accepts_so text q b in cc

pub one_fault : (text : List ℕ) (f g : MapRefusal) → Refuses text f → Refuses text g → f ≡ g
one_fault text f g a b = let same : refuses f ≡ refuses g = sym (refuses_so text f a) ∙ refuses_so text g b in cc

pub not_both : (text : List ℕ) (p : Plan) (f : MapRefusal) → Accepts text p → Refuses text f → ⊥
not_both text p f a b = let same : accepts p ≡ refuses f = sym (accepts_so text p a) ∙ refuses_so text f b in cc

pub names_of_side : (names other : List (List ℕ)) (n : ℕ) (t : Bool) → names ≡ other → n ≡ length names → t ≡ (n == 0) → (length other == 0) ≡ t
names_of_side names other n t e size h = sym (h ∙ ap (λ m. m == 0) (size ∙ ap length e))

pub first_side : (text rest : List ℕ) (plan : Plan) (number : ℕ) → Reached text rest plan number → ◌≡◌ {A = Option (List ℕ × List (List ℕ))} None (first_of (lines_of rest)) → (length plan.high == 0) ≡ true → Refuses text (NoSupplyLine High)
first_side text rest plan number r e h = no_supply text rest plan number (NoSupplyLine High) r e (ap (λ t. if t then Some (NoSupplyLine High) else if length plan.low == 0 then Some (NoSupplyLine Low) else None) h)

pub second_side : (text rest : List ℕ) (plan : Plan) (number : ℕ) → Reached text rest plan number → ◌≡◌ {A = Option (List ℕ × List (List ℕ))} None (first_of (lines_of rest)) → (length plan.high == 0) ≡ false → (length plan.low == 0) ≡ true → Refuses text (NoSupplyLine Low)
second_side text rest plan number r e h k = no_supply text rest plan number (NoSupplyLine Low) r e (λ i. if h i then Some (NoSupplyLine High) else if k i then Some (NoSupplyLine Low) else None)
