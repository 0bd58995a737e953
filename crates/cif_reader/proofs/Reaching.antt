-- How far a text is read.
use Rattle.std.proofs.Common.{◌≡◌, ℕ, suc, ◌-◌, ◌<◌, ◌≤◌, ◌==◌, Bool, true, false, not, ◌&&◌, if◌then◌else◌, List, [], ◌∷◌, ◌++◌, length, codes, refl, sym, ap, subst, ◌∙◌, arith, inl, inr, eqb-true}
use Rattle.std.specs.Prelude.{Option, Some, None, is_some}
use Rattle.std.specs.Option.{option_or, option_and_then}
use Rattle.std.proofs.lemmas.List.{length-append}
use Rattle.cif_grammar.specs.Grammar.{Command, Placed, is_inside, may_stand, is_gap}
use Rattle.cif_grammar.specs.Words.{skip}
use Rattle.cif_grammar.specs.Readers.{command_at}
use Rattle.cif_grammar.proofs.Walking.{walk, walk_more, walk_takes, stuck_none, stuck_barred, longest_here, command_shorter}
use Rattle.cif_reader.specs.declared.refusal.CifRefusal.{CifRefusal}
use Rattle.cif_reader.specs.declared.builder.Builder.{Builder}
use Rattle.cif_reader.specs.Faults.{is_twice, first_fault, fault_of, end_fault, is_delete, Refuses}
use Rattle.cif_reader.specs.Reading.{Accepts}
use Rattle.cif_reader.specs.Scope.{layer_behind, scale_behind, scale_in}
use Rattle.cif_reader.specs.Built.{IsFine, IsBuilt, opening_of, may_stand_in, if_standing, standing_at}
use Rattle.cif_reader.proofs.Steps.{built_inside, may_stand_is, faultless}

-- The commands up to the rest have no fault, and the state is theirs.
pub record Reached (text rest : List ℕ) (b : Builder) : Type 0 where
  pub count : ℕ
  pub commands : List Placed
  pub walked : walk count (length text) text ≡ Some (commands, rest)
  pub fine : first_fault commands ≡ None
  pub built : IsBuilt commands b

pub at_start : (text : List ℕ) (b : Builder) → IsBuilt [] b → Reached text (skip is_gap text) b
at_start text b h = record { count = 0; commands = []; walked = refl; fine = refl; built = h }

-- what a standing command is
record Stood (before : List Placed) (total : ℕ) (rest : List ℕ) (c : Command) (next : List ℕ) : Type 0 where
  read : command_at total rest ≡ Some (c, next)
  may : may_stand before c ≡ true

stood_if : (t : Bool) (x : Command × List ℕ) (c : Command) (next : List ℕ) → (if t then Some x else None) ≡ Some (c, next) → (t ≡ true) × (x ≡ (c, next))
stood_if true x c next h = (refl, cc)
stood_if false x c next h = cc

stood_case : (before : List Placed) (inside : Bool) (total : ℕ) (rest : List ℕ) (c : Command) (next : List ℕ) (r : Option (Command × List ℕ)) → command_at total rest ≡ r → is_inside before ≡ inside → option_and_then (if_standing inside) r ≡ Some (c, next) → Stood before total rest c next
stood_case before inside total rest c next None e i h = cc
stood_case before inside total rest c next (Some x) e i h =
    let s = stood_if (may_stand_in inside x.0) x c next h in
    record {
      read = e ∙ ap Some s.1;
      may = may_stand_is before inside c i ∙ ap (λ (y : Command × List ℕ). may_stand_in inside y.0) (sym s.1) ∙ s.0;
    }

stood : (text rest : List ℕ) (b : Builder) (c : Command) (next : List ℕ) (r : Reached text rest b) → standing_at (is_some (opening_of b.definition)) (length text) rest ≡ Some (c, next) → Stood r.commands (length text) rest c next
unfolding standing_at
stood text rest b c next r h = stood_case r.commands (is_some (opening_of b.definition)) (length text) rest c next (command_at (length text) rest) refl (built_inside r.commands b r.built) h

placed : List ℕ → List ℕ → Command → Placed
placed text rest c = record { at = length text - length rest; what = c }

pub goes_on : (text rest : List ℕ) (b b' : Builder) (c : Command) (next : List ℕ) (r : Reached text rest b) → standing_at (is_some (opening_of b.definition)) (length text) rest ≡ Some (c, next) → fault_of r.commands (record { at = length text - length rest; what = c }) ≡ None → IsBuilt (record { at = length text - length rest; what = c } ∷ r.commands) b' → Reached text next b'
goes_on text rest b b' c next r h fine built =
    let s = stood text rest b c next r h in
    record {
      count = suc r.count;
      commands = record { at = length text - length rest; what = c } ∷ r.commands;
      walked = walk_more r.count (length text) text r.commands rest c next r.walked s.read s.may;
      fine = ap (λ f. option_or f (fault_of r.commands (record { at = length text - length rest; what = c }))) r.fine ∙ fine;
      built = built;
    }

-- the rest is the end of the text
pub rest_within : (text rest : List ℕ) (b : Builder) → Reached text rest b → length rest ≤ length text
rest_within text rest b r =
    let t = walk_takes r.count (length text) text r.commands rest refl r.walked in
    omega (arith, ap length t.whole, length-append t.front rest)

pub gets_shorter : (text rest : List ℕ) (b : Builder) (c : Command) (next : List ℕ) (r : Reached text rest b) → standing_at (is_some (opening_of b.definition)) (length text) rest ≡ Some (c, next) → length next < length rest
gets_shorter text rest b c next r h =
    let s = stood text rest b c next r h in
    command_shorter (length text) (length text - length rest) rest c next (omega (arith, rest_within text rest b r)) s.read

pub stands_may : (text rest : List ℕ) (b : Builder) (c : Command) (next : List ℕ) (r : Reached text rest b) → standing_at (is_some (opening_of b.definition)) (length text) rest ≡ Some (c, next) → may_stand r.commands c ≡ true
stands_may text rest b c next r h = (stood text rest b c next r h).may

-- A command is at fault.
pub fault_here : (text rest : List ℕ) (b : Builder) (c : Command) (next : List ℕ) (fault : CifRefusal) (r : Reached text rest b) → standing_at (is_some (opening_of b.definition)) (length text) rest ≡ Some (c, next) → fault_of r.commands (record { at = length text - length rest; what = c }) ≡ Some fault → Refuses text fault
fault_here text rest b c next fault r h is =
    let s = stood text rest b c next r h in
    let t = walk_takes (suc r.count) (length text) text (record { at = length text - length rest; what = c } ∷ r.commands) next refl (walk_more r.count (length text) text r.commands rest c next r.walked s.read s.may) in
    inl (record { before = r.commands; command = record { at = length text - length rest; what = c }; front = t.front; rest = next; items = t.spelled; whole = t.whole; none_before = r.fine; is = is })

-- ---- the end

barred_if : (t : Bool) (x : Command × List ℕ) → (if t then Some x else None) ≡ None → t ≡ false
barred_if true x h = cc
barred_if false x h = refl

stuck_case : (text rest : List ℕ) (b : Builder) (r : Reached text rest b) (inside : Bool) (s : Option (Command × List ℕ)) → command_at (length text) rest ≡ s → is_inside r.commands ≡ inside → option_and_then (if_standing inside) s ≡ None → walk (suc r.count) (length text) text ≡ None
stuck_case text rest b r inside None e i h = stuck_none r.count (length text) text r.commands rest r.walked e
stuck_case text rest b r inside (Some x) e i h = stuck_barred r.count (length text) text r.commands rest x.0 x.1 r.walked e (may_stand_is r.commands inside x.0 i ∙ barred_if (may_stand_in inside x.0) x h)

stuck : (text rest : List ℕ) (b : Builder) (r : Reached text rest b) → standing_at (is_some (opening_of b.definition)) (length text) rest ≡ None → walk (suc r.count) (length text) text ≡ None
unfolding standing_at
stuck text rest b r h = stuck_case text rest b r (is_some (opening_of b.definition)) (command_at (length text) rest) refl (built_inside r.commands b r.built) h

-- Something that isn't the end stands behind the last command.
pub fault_behind : (text rest : List ℕ) (b : Builder) (fault : CifRefusal) (r : Reached text rest b) → standing_at (is_some (opening_of b.definition)) (length text) rest ≡ None → end_fault (is_some (opening_of b.definition)) (length text - length rest) rest ≡ Some fault → Refuses text fault
fault_behind text rest b fault r none is =
    let t = walk_takes r.count (length text) text r.commands rest refl r.walked in
    let size : length text - length rest ≡ length t.front = omega (arith, ap length t.whole, length-append t.front rest) in
    inr (record {
      commands = r.commands;
      front = t.front;
      rest = rest;
      longest = longest_here r.count text r.commands rest r.walked (stuck text rest b r none);
      none_before = r.fine;
      is = (λ i. end_fault (built_inside r.commands b r.built i) (sym size i) rest) ∙ is;
    })

-- the `E`
record Ended (inside : Bool) (rest : List ℕ) : Type 0 where
  more : List ℕ
  outside : inside ≡ false
  is : rest ≡ codes "E" ++ more

some_fault : (v w : Bool) (x y z : CifRefusal) → (if v then Some x else if w then Some y else Some z) ≡ None → ⊥
some_fault true w x y z h = cc
some_fault false true x y z h = cc
some_fault false false x y z h = cc

first_test : {X : Type 0} (t : Bool) (r : Option X) → (if t then None else r) ≡ None → (r ≡ None → ⊥) → t ≡ true
first_test true r h f = refl
first_test false r h f = absurd (f h)

both_parts : (t u : Bool) → (t && not u) ≡ true → (t ≡ true) × (u ≡ false)
both_parts true false h = (refl, refl)
both_parts true true h = cc
both_parts false u h = cc

ended : (inside : Bool) (at : ℕ) (rest : List ℕ) → end_fault inside at rest ≡ None → Ended inside rest
ended inside at [] h = cc
ended inside at (b ∷ bs) h =
    let parts = both_parts (b == 69) inside (first_test (b == 69 && not inside) _ h (some_fault (b == 82) (b == 68 && is_delete bs) _ _ _)) in
    record { more = bs; outside = parts.1; is = ap (λ c. c ∷ bs) (eqb-true b 69 parts.0) }

pub accepted_here : (text rest : List ℕ) (b : Builder) → Reached text rest b → end_fault (is_some (opening_of b.definition)) (length text - length rest) rest ≡ None → Accepts text b.file
accepted_here text rest b r is =
    let t = walk_takes r.count (length text) text r.commands rest refl r.walked in
    let e = ended (is_some (opening_of b.definition)) (length text - length rest) rest is in
    record {
      commands = r.commands;
      spelled = record { front = t.front; rest = e.more; items = t.spelled; outside = built_inside r.commands b r.built ∙ e.outside; whole = t.whole ∙ ap (λ s. t.front ++ s) e.is };
      none_at_fault = r.fine;
      symbols = r.built.symbols;
      top = r.built.top;
    }

pub fine_here : (text rest : List ℕ) (b : Builder) (c : Command) (r : Reached text rest b) → fault_of r.commands (record { at = length text - length rest; what = c }) ≡ None → IsFine (scale_in (opening_of b.definition)) c
fine_here text rest b c r h =
    subst (λ o. IsFine (scale_in o) c) (sym r.built.opening) (faultless (layer_behind r.commands) (scale_behind r.commands) (is_twice r.commands c) (record { at = length text - length rest; what = c }) h).fine
