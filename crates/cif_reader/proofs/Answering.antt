-- A text has one answer.
use Rattle.std.proofs.Common.{◌≡◌, ℕ, zero, suc, ◌+◌, ◌<◌, ◌≤◌, false, List, [], ◌∷◌, ◌++◌, length, codes, refl, sym, ap, subst, ◌∙◌, arith, ◌⊎◌, inl, inr}
use Rattle.std.specs.Prelude.{Option, Some, None}
use Rattle.std.specs.Option.{option_or}
use Rattle.std.proofs.lemmas.Bool.{cases_lt}
use Rattle.std.proofs.lemmas.List.{length-append}
use Rattle.plane_geom.proofs.Turning.{IsPlaceOf-unique}
use Rattle.std.proofs.lemmas.Option.{same_Some}
use Rattle.plane_geom.proofs.Options.{bind_some, guarded}
use Rattle.cif_grammar.specs.Grammar.{Placed, is_inside, may_stand, Longest, is_gap}
use Rattle.cif_grammar.specs.Words.{skip}
use Rattle.cif_grammar.specs.Readers.{command_at}
use Rattle.cif_grammar.proofs.Shorter.{skip_shorter}
use Rattle.cif_grammar.proofs.Walking.{walk, and_next, walk_takes, walk_again, command_shorter, longest_one, spells_longest, one_spelling}
use Rattle.cif_reader.specs.declared.refusal.CifRefusal.{CifRefusal}
use Rattle.cif_reader.specs.declared.file.Item.{Item}
use Rattle.cif_reader.specs.declared.file.Symbol.{Symbol}
use Rattle.cif_reader.specs.declared.file.What.{What}
use Rattle.cif_reader.specs.declared.file.What.TheVariants.{Draw, Call, Mark}
use Rattle.cif_reader.specs.File.{Contents}
use Rattle.cif_reader.specs.Faults.{first_fault, fault_of, end_fault, FaultAt, FaultBehind, Refuses}
use Rattle.cif_reader.specs.Reading.{Accepts, Saying, drawn, called, marked, Remark, Definition, IsSaid, AreSaid, AreDefined, definitions, said_outside}
use Rattle.cif_reader.specs.Same.{IsSame, AreSame, AreSameSymbols, IsSameFile}

-- ---- fewer commands have no fault where more have none

none_first : (a b : Option CifRefusal) → option_or a b ≡ None → a ≡ None
none_first None b h = refl
none_first (Some x) b h = h

-- so many commands less
record Before (n total : ℕ) (text : List ℕ) (last : List Placed × List ℕ) : Type 0 where
  walked : List Placed × List ℕ
  is : walk n total text ≡ Some walked
  fine : first_fault last.0 ≡ None → first_fault walked.0 ≡ None

before_case : (m n total : ℕ) (text : List ℕ) (last : List Placed × List ℕ) → walk (suc m) total text ≡ Some last → ((w : List Placed × List ℕ) → walk m total text ≡ Some w → n ≤ m → Before n total text w) → n < suc m ⊎ suc m ≤ n → n ≤ suc m → Before n total text last
before_case m n total text last h ih (inl less) small =
    let walked = bind_some (walk m total text) (and_next total) last h in
    let c = bind_some (command_at total walked.0.1) _ last walked.2 in
    let may = guarded (may_stand walked.0.0 c.0.0) _ last c.2 in
    let b = ih walked.0 walked.1 (omega arith) in
    record { walked = b.walked; is = b.is; fine = λ none. b.fine (none_first (first_fault walked.0.0) _ (ap (λ (z : List Placed × List ℕ). first_fault z.0) may.1 ∙ none)) }
before_case m n total text last h ih (inr full) small =
    let same : suc m ≡ n = omega arith in
    record { walked = last; is = ap (λ k. walk k total text) (sym same) ∙ h; fine = λ none. none }

fewer : (m n total : ℕ) (text : List ℕ) (last : List Placed × List ℕ) → walk m total text ≡ Some last → n ≤ m → Before n total text last
fewer zero n total text last h small =
    let same : 0 ≡ n = omega arith in
    record { walked = last; is = ap (λ k. walk k total text) (sym same) ∙ h; fine = λ none. none }
fewer (suc m) n total text last h small = before_case m n total text last h (λ w e le. fewer m n total text w e le) (cases_lt n (suc m)) small

fine_fewer : (m n : ℕ) (text : List ℕ) (last walked : List Placed × List ℕ) → walk m (length text) text ≡ Some last → walk n (length text) text ≡ Some walked → n ≤ m → first_fault last.0 ≡ None → first_fault walked.0 ≡ None
fine_fewer m n text last walked h e small none =
    let b = fewer m n (length text) text last h small in
    ap (λ (z : List Placed × List ℕ). first_fault z.0) (same_Some _ _ (sym e ∙ b.is)) ∙ b.fine none

-- ---- the first command at fault

at_walk : (text : List ℕ) (f : CifRefusal) (a : FaultAt text f) → walk (suc (length a.before)) (length text) text ≡ Some (a.command ∷ a.before, skip is_gap a.rest)
at_walk text f a = ap (λ n. walk n (length text) text) (size a.before) ∙ walk_again (a.command ∷ a.before) text a.front a.rest a.items a.whole where
  size : (xs : List Placed) → suc (length xs) ≡ length (a.command ∷ xs)
  size xs = omega arith

faulty : (text : List ℕ) (f : CifRefusal) (a : FaultAt text f) → first_fault (a.command ∷ a.before) ≡ Some f
faulty text f a = ap (λ r. option_or r (fault_of a.before a.command)) a.none_before ∙ a.is

some_none : (f : CifRefusal) (r : Option CifRefusal) → r ≡ Some f → r ≡ None → ⊥
some_none f r h e = cc

-- A fault among the commands of a walk without fault is none.
not_among : (text : List ℕ) (f : CifRefusal) (a : FaultAt text f) (m : ℕ) (last : List Placed × List ℕ) → walk m (length text) text ≡ Some last → suc (length a.before) ≤ m → first_fault last.0 ≡ None → ⊥
not_among text f a m last h small none = some_none f _ (faulty text f a) (fine_fewer m (suc (length a.before)) text last _ h (at_walk text f a) small none)

short_walk : (text : List ℕ) (f : CifRefusal) (a : FaultAt text f) → walk (length a.before) (length text) text ≡ Some (bind_some (walk (length a.before) (length text) text) (and_next (length text)) _ (at_walk text f a)).0
short_walk text f a = (bind_some (walk (length a.before) (length text) text) (and_next (length text)) _ (at_walk text f a)).1

abbrev tail_of : List Placed → List Placed
tail_of [] = []
tail_of (c ∷ before) = before

before_is : (text : List ℕ) (f : CifRefusal) (a : FaultAt text f) → first_fault (bind_some (walk (length a.before) (length text) text) (and_next (length text)) _ (at_walk text f a)).0.0 ≡ None
before_is text f a =
    let walked = bind_some (walk (length a.before) (length text) text) (and_next (length text)) _ (at_walk text f a) in
    let c = bind_some (command_at (length text) walked.0.1) _ _ walked.2 in
    let may = guarded (may_stand walked.0.0 c.0.0) _ _ c.2 in
    ap (λ (z : List Placed × List ℕ). first_fault (tail_of z.0)) may.1 ∙ a.none_before

same_at : (text : List ℕ) (f g : CifRefusal) (a : FaultAt text f) (b : FaultAt text g) → length a.before < length b.before ⊎ length b.before ≤ length a.before → length b.before < length a.before ⊎ length a.before ≤ length b.before → f ≡ g
same_at text f g a b (inl less) u = absurd (not_among text f a (length b.before) _ (short_walk text g b) (omega arith) (before_is text g b))
same_at text f g a b (inr many) (inl less) = absurd (not_among text g b (length a.before) _ (short_walk text f a) (omega arith) (before_is text f a))
same_at text f g a b (inr many) (inr few) =
    let count : suc (length a.before) ≡ suc (length b.before) = omega arith in
    let same = same_Some _ _ (sym (at_walk text f a) ∙ ap (λ n. walk n (length text) text) count ∙ at_walk text g b) in
    let faults : Some f ≡ Some g = sym (faulty text f a) ∙ ap (λ (z : List Placed × List ℕ). first_fault z.0) same ∙ faulty text g b in
    cc

-- ---- a fault, and the longest front

-- No walk goes beyond the longest front.
none_beyond : (text front rest : List ℕ) (commands : List Placed) → Longest text commands front rest → (w : List Placed × List ℕ) → walk (suc (length commands)) (length text) text ≡ Some w → ⊥
none_beyond text front rest commands l w h =
    let walked = bind_some (walk (length commands) (length text) text) (and_next (length text)) w h in
    let here = walk_again commands text front rest l.items l.whole in
    let same = same_Some _ _ (sym here ∙ walked.1) in
    let c = bind_some (command_at (length text) walked.0.1) _ w walked.2 in
    let may = guarded (may_stand walked.0.0 c.0.0) _ w c.2 in
    let first = walk_takes (length commands) (length text) text walked.0.0 walked.0.1 refl walked.1 in
    let longer = walk_takes (suc (length commands)) (length text) text w.0 w.1 refl h in
    let whole_first = omega_length text first.front walked.0.1 first.whole in
    let shorter = command_shorter (length text) (length first.front) walked.0.1 c.0.0 c.0.1 (sym whole_first) c.1 in
    let behind : length w.1 ≡ length c.0.1 = ap (λ (z : List Placed × List ℕ). length z.1) (sym may.1) in
    let stays : length walked.0.1 ≡ length (skip is_gap rest) = ap (λ (z : List Placed × List ℕ). length z.1) (sym same) in
    let most = l.longest w.0 longer.front w.1 longer.spelled longer.whole in
    omega (arith, most, shorter, behind, stays, skip_shorter is_gap rest, omega_length text longer.front w.1 longer.whole, omega_length text front rest l.whole) where
      omega_length : (t a b : List ℕ) → t ≡ a ++ b → length t ≡ length a + length b
      omega_length t a b e = ap length e ∙ length-append a b

not_with : (text front rest : List ℕ) (commands : List Placed) (f : CifRefusal) → Longest text commands front rest → first_fault commands ≡ None → FaultAt text f → ⊥
not_with text front rest commands f l none a = not_with_case (cases_lt (length commands) (suc (length a.before))) where
  here : walk (length commands) (length text) text ≡ Some (commands, skip is_gap rest)
  here = walk_again commands text front rest l.items l.whole

  not_with_case : length commands < suc (length a.before) ⊎ suc (length a.before) ≤ length commands → ⊥
  not_with_case (inr few) = not_among text f a (length commands) (commands, skip is_gap rest) here few none
  not_with_case (inl many) =
      let b = fewer (suc (length a.before)) (suc (length commands)) (length text) text _ (at_walk text f a) (omega arith) in
      none_beyond text front rest commands l b.walked b.is

-- ---- refusals

same_behind : (text : List ℕ) (f g : CifRefusal) → FaultBehind text f → FaultBehind text g → f ≡ g
same_behind text f g a b =
    let one = longest_one text a.commands b.commands a.front a.rest b.front b.rest a.longest b.longest in
    let same : Some f ≡ Some g = sym a.is ∙ (λ i. end_fault (is_inside (one.0 i)) (length (one.1 i)) (one.2 i)) ∙ b.is in
    cc

pub one_refusal : (text : List ℕ) (f g : CifRefusal) → Refuses text f → Refuses text g → f ≡ g
one_refusal text f g (inl a) (inl b) = same_at text f g a b (cases_lt (length a.before) (length b.before)) (cases_lt (length b.before) (length a.before))
one_refusal text f g (inl a) (inr b) = absurd (not_with text b.front b.rest b.commands f b.longest b.none_before a)
one_refusal text f g (inr a) (inl b) = absurd (not_with text a.front a.rest a.commands g a.longest a.none_before b)
one_refusal text f g (inr a) (inr b) = same_behind text f g a b

no_end_fault : (at : ℕ) (rest : List ℕ) (f : CifRefusal) → end_fault false at (codes "E" ++ rest) ≡ Some f → ⊥
no_end_fault at rest f h = cc

pub never_both : (text : List ℕ) (file : Contents) (f : CifRefusal) → Accepts text file → Refuses text f → ⊥
never_both text file f a (inl b) = not_with text a.spelled.front (codes "E" ++ a.spelled.rest) a.commands f (spells_longest text a.commands a.spelled) a.none_at_fault b
never_both text file f a (inr b) =
    let one = longest_one text a.commands b.commands _ _ b.front b.rest (spells_longest text a.commands a.spelled) b.longest in
    no_end_fault (length a.spelled.front) a.spelled.rest f
    ((λ i. end_fault (sym a.spelled.outside i) (length a.spelled.front) (codes "E" ++ a.spelled.rest)) ∙ (λ i. end_fault (is_inside (one.0 i)) (length (one.1 i)) (one.2 i)) ∙ b.is)

-- ---- files

same_what : (v w : What) (s : Saying) → IsSaid v s → IsSaid w s → IsSame v w
same_what (Draw on shape) (Draw layer other) (drawn l f) h k = (h.0 ∙ sym k.0, h.1 ∙ sym k.1)
same_what (Call n place) (Call m there) (called l steps) h k = (h.0 ∙ sym k.0, IsPlaceOf-unique steps place there h.1 k.1)
same_what (Mark name at on) (Mark text point layer) (marked n p l) h k = (h.0 ∙ sym k.0, h.1 ∙ sym k.1, h.2 ∙ sym k.2)
same_what (Draw on shape) (Draw layer other) (called n steps) h k = absurd h
same_what (Draw on shape) (Draw layer other) (marked n p l) h k = absurd h
same_what (Draw on shape) (Call m there) (drawn l f) h k = absurd k
same_what (Draw on shape) (Call m there) (called l steps) h k = absurd h
same_what (Draw on shape) (Call m there) (marked n p l) h k = absurd h
same_what (Draw on shape) (Mark text point layer) (drawn l f) h k = absurd k
same_what (Draw on shape) (Mark text point layer) (called l steps) h k = absurd h
same_what (Draw on shape) (Mark text point layer) (marked n p l) h k = absurd h
same_what (Call n place) (Draw layer other) (drawn l f) h k = absurd h
same_what (Call n place) (Draw layer other) (called l steps) h k = absurd k
same_what (Call n place) (Draw layer other) (marked m p l) h k = absurd h
same_what (Call n place) (Call m there) (drawn l f) h k = absurd h
same_what (Call n place) (Call m there) (marked l p q) h k = absurd h
same_what (Call n place) (Mark text point layer) (drawn l f) h k = absurd h
same_what (Call n place) (Mark text point layer) (called l steps) h k = absurd k
same_what (Call n place) (Mark text point layer) (marked m p l) h k = absurd h
same_what (Mark name at on) (Draw layer other) (drawn l f) h k = absurd h
same_what (Mark name at on) (Draw layer other) (called l steps) h k = absurd h
same_what (Mark name at on) (Draw layer other) (marked n p l) h k = absurd k
same_what (Mark name at on) (Call m there) (drawn l f) h k = absurd h
same_what (Mark name at on) (Call m there) (called l steps) h k = absurd h
same_what (Mark name at on) (Call m there) (marked n p l) h k = absurd k
same_what (Mark name at on) (Mark text point layer) (drawn l f) h k = absurd h
same_what (Mark name at on) (Mark text point layer) (called l steps) h k = absurd h

same_items : (f g : List Item) (rs : List Remark) → AreSaid f rs → AreSaid g rs → AreSame f g
same_items [] [] rs h k = tt
same_items [] (j ∷ g) [] h k = absurd k
same_items [] (j ∷ g) (r ∷ rs) h k = absurd h
same_items (i ∷ f) [] [] h k = absurd h
same_items (i ∷ f) [] (r ∷ rs) h k = absurd k
same_items (i ∷ f) (j ∷ g) [] h k = absurd h
same_items (i ∷ f) (j ∷ g) (r ∷ rs) h k = (h.0 ∙ sym k.0, same_what i.what j.what r.what h.1 k.1, same_items f g rs h.2 k.2)

same_symbols : (f g : List Symbol) (ds : List Definition) → AreDefined f ds → AreDefined g ds → AreSameSymbols f g
same_symbols [] [] ds h k = tt
same_symbols [] (j ∷ g) [] h k = absurd k
same_symbols [] (j ∷ g) (d ∷ ds) h k = absurd h
same_symbols (i ∷ f) [] [] h k = absurd h
same_symbols (i ∷ f) [] (d ∷ ds) h k = absurd k
same_symbols (i ∷ f) (j ∷ g) [] h k = absurd h
same_symbols (i ∷ f) (j ∷ g) (d ∷ ds) h k = (h.0 ∙ sym k.0, h.1 ∙ sym k.1, same_items i.items.items j.items.items d.remarks h.2 k.2, same_symbols f g ds h.3 k.3)

pub one_file : (text : List ℕ) (f g : Contents) → Accepts text f → Accepts text g → IsSameFile f g
one_file text f g a b =
    let same = one_spelling text a.commands b.commands a.spelled b.spelled in
    record {
      symbols = same_symbols f.symbols g.symbols (definitions b.commands) (subst (λ cs. AreDefined f.symbols (definitions cs)) same a.symbols) b.symbols;
      top = same_items f.top g.top (said_outside b.commands) (subst (λ cs. AreSaid f.top (said_outside cs)) same a.top) b.top;
    }
