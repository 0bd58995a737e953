-- The commands of a text, one after the other: which lists of commands a text has, and where the longest front of
-- whole items ends. This is what a reader of whole texts rests on.
use Rattle.std.proofs.Common.{◌≡◌, ℕ, zero, suc, ◌+◌, ◌-◌, ◌<◌, ◌≤◌, ◌==◌, ◌||◌, Bool, true, false, if◌then◌else◌, List, [], ◌∷◌, ◌++◌, length, codes, Option, Some, None, refl, sym, ap, ◌∙◌, subst, arith, ◌⊎◌, inl, inr}
use Rattle.std.specs.Char.{is_ascii_digit}
use Rattle.std.proofs.lemmas.Bool.{cases_lt, or_parts}
use Rattle.std.proofs.lemmas.Bool.Decides.{nat_tests}
use Rattle.std.proofs.lemmas.List.{length-append}
use Rattle.std.proofs.lemmas.Option.{same_Some}
use Rattle.plane_geom.specs.Texts.{◌>>=◌}
use Rattle.plane_geom.proofs.Options.{bind_some, guarded}
use Rattle.cif_grammar.specs.Words.{◌⋅◌, Takes, Literally, Run, is_blank, skip}
use Rattle.cif_grammar.specs.Grammar.{Command, box, polygon, wire, layer, call, user, comment, start, finish, command, end, is_gap, Placed, may_stand, Stands, Items, Spells, Longest}
use Rattle.cif_grammar.specs.Readers.{body_at, command_at}
use Rattle.cif_grammar.proofs.Shorter.{skip_shorter}
use Rattle.cif_grammar.proofs.Runs.{begins, skip_over, skip_stays}
use Rattle.cif_grammar.proofs.Joins.{takes_then, then_at, run_takes, parts_of}
pub use Rattle.cif_grammar.proofs.Rows.{command_takes}
pub use Rattle.cif_grammar.proofs.Again.{command_again}

-- ---- one command

marked : (at : ℕ) (word : List ℕ) → (Literally (codes ";") ⋅ Run is_gap) at word → 0 < length word
marked at word w = omega (arith, ap length w.whole, length-append w.front w.back, ap length w.first)

plainly_marked : (at : ℕ) (word : List ℕ) → (Run is_blank ⋅ Literally (codes ";") ⋅ Run is_gap) at word → 0 < length word
plainly_marked at word w = omega (arith, ap length w.whole, length-append w.front w.back, marked (at + length w.front) w.back w.second)

pub end_some : (c : Command) (at : ℕ) (word : List ℕ) → end c at word → 0 < length word
end_some (box l w p d) at word e = plainly_marked at word e
end_some (polygon p) at word e = plainly_marked at word e
end_some (wire w p) at word e = plainly_marked at word e
end_some (layer name) at word e = plainly_marked at word e
end_some (call n ts) at word e = plainly_marked at word e
end_some (user text) at word e = marked at word e
end_some comment at word e = plainly_marked at word e
end_some (start n s) at word e = plainly_marked at word e
end_some finish at word e = plainly_marked at word e

-- The rest is shorter.
pub command_shorter : (total at : ℕ) (bytes : List ℕ) (c : Command) (rest : List ℕ) → at + length bytes ≡ total → command_at total bytes ≡ Some (c, rest) → length rest < length bytes
command_shorter total at bytes c rest h e =
    let t = command_takes total at bytes c rest h e in
    omega (arith, ap length t.whole, length-append t.front rest, ap length t.spelled.whole, length-append t.spelled.front t.spelled.back, end_some c (at + length t.spelled.front) t.spelled.back t.spelled.second)

gap_is_other : (b : ℕ) → is_gap b ≡ true → (is_ascii_digit b || b == 66 || b == 80 || b == 87 || b == 76 || b == 67 || b == 40 || b == 68) ≡ false
gap_is_other b h = grind (arith, nat_tests)

gap_none : (total b : ℕ) (bs : List ℕ) → is_gap b ≡ true → body_at total (b ∷ bs) ≡ None
unfolding body_at
gap_none total b bs h =
    let t7 = or_parts _ (b == 68) (gap_is_other b h) in
    let t6 = or_parts _ (b == 40) t7.0 in
    let t5 = or_parts _ (b == 67) t6.0 in
    let t4 = or_parts _ (b == 76) t5.0 in
    let t3 = or_parts _ (b == 87) t4.0 in
    let t2 = or_parts _ (b == 80) t3.0 in
    let t1 = or_parts (is_ascii_digit b) (b == 66) t2.0 in
    rw (t1.0, t1.1, t2.1, t3.1, t4.1, t5.1, t6.1, t7.1) refl

gap_not_read : (total b : ℕ) (bs : List ℕ) (x : Command × List ℕ) → is_gap b ≡ true → command_at total (b ∷ bs) ≡ Some x → ⊥
unfolding command_at
gap_not_read total b bs x h e =
    let body = bind_some (body_at total (b ∷ bs)) _ x e in
    let none = gap_none total b bs h in
    cc

no_gap : (total : ℕ) (bytes : List ℕ) (x : Command × List ℕ) (t : Bool) → begins is_gap bytes ≡ t → command_at total bytes ≡ Some x → begins is_gap bytes ≡ false
no_gap total bytes x false h e = h
no_gap total [] x true h e = cc
no_gap total (b ∷ bs) x true h e = absurd (gap_not_read total b bs x h e)

-- No blank and no semicolon stands before what is read.
pub command_first : (total : ℕ) (bytes : List ℕ) (x : Command × List ℕ) → command_at total bytes ≡ Some x → begins is_gap bytes ≡ false
command_first total bytes x e = no_gap total bytes x (begins is_gap bytes) refl e

-- No command begins with an `E`.
pub no_command : (total : ℕ) (rest : List ℕ) → command_at total (codes "E" ++ rest) ≡ None
unfolding command_at body_at
no_command total rest = refl

-- ---- so many commands

-- one command more, where it may stand
abbrev pub and_next : ℕ → List Placed × List ℕ → Option (List Placed × List ℕ)
and_next total walked = do
  c ← command_at total walked.1
  if may_stand walked.0 c.0 then Some (record { at = total - length walked.1; what = c.0 } ∷ walked.0, c.1) else None

-- Blanks and so many commands, the latest first, and what stands behind them.
abbrev pub walk : ℕ → ℕ → List ℕ → Option (List Placed × List ℕ)
walk zero total text = Some ([], skip is_gap text)
walk (suc n) total text = walk n total text >>= and_next total

pub walk_more : (n total : ℕ) (text : List ℕ) (before : List Placed) (rest : List ℕ) (c : Command) (next : List ℕ) → walk n total text ≡ Some (before, rest) → command_at total rest ≡ Some (c, next) → may_stand before c ≡ true → walk (suc n) total text ≡ Some (record { at = total - length rest; what = c } ∷ before, next)
walk_more n total text before rest c next w e m = rw (w, e, m) refl

-- It ends where no command stands, and at a command that may not stand there.
pub stuck_none : (n total : ℕ) (text : List ℕ) (before : List Placed) (rest : List ℕ) → walk n total text ≡ Some (before, rest) → command_at total rest ≡ None → walk (suc n) total text ≡ None
stuck_none n total text before rest w e = rw (w, e) refl

pub stuck_barred : (n total : ℕ) (text : List ℕ) (before : List Placed) (rest : List ℕ) (c : Command) (next : List ℕ) → walk n total text ≡ Some (before, rest) → command_at total rest ≡ Some (c, next) → may_stand before c ≡ false → walk (suc n) total text ≡ None
stuck_barred n total text before rest c next w e m = rw (w, e, m) refl

-- ---- what is walked over is spelled so

stands_takes : (before : List Placed) (c : Placed) (at : ℕ) (bytes rest : List ℕ) → c.at ≡ at → may_stand before c.what ≡ true → Takes (command c.what ⋅ end c.what) at bytes rest → Takes (Stands before c) at bytes rest
stands_takes before c at bytes rest place scope t = record { front = t.front; spelled = record { place = place; scope = scope; word = t.spelled }; whole = t.whole }

pub walk_takes : (n total : ℕ) (text : List ℕ) (commands : List Placed) (rest : List ℕ) → length text ≡ total → walk n total text ≡ Some (commands, rest) → Takes (Items commands) 0 text rest
walk_takes zero total text commands rest h w = subst (λ (z : List Placed × List ℕ). Takes (Items z.0) 0 text z.1) (same_Some _ _ w) (run_takes is_gap 0 text)
walk_takes (suc n) total text commands rest h w =
    let walked = bind_some (walk n total text) (and_next total) (commands, rest) w in
    let c = bind_some (command_at total walked.0.1) _ (commands, rest) walked.2 in
    let may = guarded (may_stand walked.0.0 c.0.0) _ (commands, rest) c.2 in
    let first = walk_takes n total text walked.0.0 walked.0.1 h walked.1 in
    let there : (0 + length first.front) + length walked.0.1 ≡ total = then_at total first (omega (arith, h)) in
    let place : total - length walked.0.1 ≡ 0 + length first.front = omega (arith, there) in
    let next = command_takes total _ walked.0.1 c.0.0 c.0.1 there c.1 in
    let stands = stands_takes walked.0.0 (record { at = total - length walked.0.1; what = c.0.0 }) _ walked.0.1 c.0.1 place may.0 next in
    subst (λ (z : List Placed × List ℕ). Takes (Items z.0) 0 text z.1) may.1 (takes_then first stands)

-- ---- what is spelled so is walked over

again : (total : ℕ) (commands : List Placed) (longer more : List ℕ) → 0 + length (longer ++ more) ≡ total → Items commands 0 longer → walk (length commands) total (longer ++ more) ≡ Some (commands, skip is_gap more)
again total [] longer more h w = ap (λ s. Some ([], s)) (skip_over is_gap longer more w)
again total (c ∷ before) longer more h w =
    let p = parts_of total 0 longer more h w in
    let read = command_again total _ c.what p.back more p.there p.second.word in
    let stay = skip_stays is_gap (p.back ++ more) (command_first total (p.back ++ more) _ read) in
    let walked = ap (walk (length before) total) p.regrouped ∙ again total before p.front (p.back ++ more) p.here p.first ∙ ap (λ s. Some (before, s)) stay in
    let place : total - length (p.back ++ more) ≡ c.at = omega (arith, p.there, p.second.place) in
    walk_more (length before) total (longer ++ more) before (p.back ++ more) c.what (skip is_gap more) walked read p.second.scope
    ∙ λ i. Some (record { at = place i; what = c.what } ∷ before, skip is_gap more)

pub walk_again : (commands : List Placed) (text longer more : List ℕ) → Items commands 0 longer → text ≡ longer ++ more → walk (length commands) (length text) text ≡ Some (commands, skip is_gap more)
walk_again commands text longer more w e = ap (λ s. walk (length commands) (length text) s) e ∙ again (length text) commands longer more (omega (arith, ap length e)) w

-- ---- fewer commands

-- so many commands less, and what stands behind them
record Earlier (k m total : ℕ) (text : List ℕ) (last : List Placed × List ℕ) : Type 0 where
  walked : List Placed × List ℕ
  is : walk k total text ≡ Some walked
  more : length last.1 + m ≤ length walked.1 + k

earlier_case : (m k total : ℕ) (text : List ℕ) (last : List Placed × List ℕ) → length text ≡ total → walk (suc m) total text ≡ Some last → ((last : List Placed × List ℕ) → k ≤ m → walk m total text ≡ Some last → Earlier k m total text last) → k < suc m ⊎ suc m ≤ k → k ≤ suc m → Earlier k (suc m) total text last
earlier_case m k total text last h w ih (inl less) small =
    let walked = bind_some (walk m total text) (and_next total) last w in
    let c = bind_some (command_at total walked.0.1) _ last walked.2 in
    let may = guarded (may_stand walked.0.0 c.0.0) _ last c.2 in
    let t = walk_takes m total text walked.0.0 walked.0.1 h walked.1 in
    let there : (0 + length t.front) + length walked.0.1 ≡ total = then_at total t (omega (arith, h)) in
    let shorter = command_shorter total _ walked.0.1 c.0.0 c.0.1 there c.1 in
    let e = ih walked.0 (omega arith) walked.1 in
    record { walked = e.walked; is = e.is; more = omega (arith, e.more, shorter, ap (λ (z : List Placed × List ℕ). length z.1) may.1) }
earlier_case m k total text last h w ih (inr full) small =
    let same : suc m ≡ k = omega arith in
    record { walked = last; is = ap (λ n. walk n total text) (sym same) ∙ w; more = omega (arith, same) }

earlier : (m k total : ℕ) (text : List ℕ) (last : List Placed × List ℕ) → length text ≡ total → k ≤ m → walk m total text ≡ Some last → Earlier k m total text last
earlier zero k total text last h small w =
    let same : 0 ≡ k = omega arith in
    record { walked = last; is = ap (λ n. walk n total text) (sym same) ∙ w; more = omega (arith, same) }
earlier (suc m) k total text last h small w = earlier_case m k total text last h w (λ last small w. earlier m k total text last h small w) (cases_lt k (suc m)) small

-- The longer walk leaves less.
leaves_less : (m k total : ℕ) (text : List ℕ) (last walked : List Placed × List ℕ) → length text ≡ total → k ≤ m → walk m total text ≡ Some last → walk k total text ≡ Some walked → length last.1 + m ≤ length walked.1 + k
leaves_less m k total text last walked h small w v =
    let e = earlier m k total text last h small w in
    let same = same_Some _ _ (sym e.is ∙ v) in
    omega (arith, e.more, ap (λ (z : List Placed × List ℕ). length z.1) same)

-- A walk that is stuck is the longest.
no_further : (n m total : ℕ) (text : List ℕ) (walked : List Placed × List ℕ) → length text ≡ total → walk n total text ≡ None → walk m total text ≡ Some walked → n ≤ m → ⊥
no_further n m total text walked h none w small =
    let e = earlier m n total text walked h small w in
    let is = e.is in
    cc

-- ---- the longest front

bounded : (n : ℕ) (text : List ℕ) (commands : List Placed) (rest : List ℕ) → walk n (length text) text ≡ Some (commands, rest) → walk (suc n) (length text) text ≡ None → (others : List Placed) (longer more : List ℕ) → Items others 0 longer → text ≡ longer ++ more → length rest ≤ length more
bounded n text commands rest w stuck others longer more items whole =
    let other = walk_again others text longer more items whole in
    let few : length others < suc n = elim (cases_lt (length others) (suc n)) [ inl less ↦ less | inr many ↦ absurd (no_further (suc n) (length others) (length text) text _ refl stuck other many) ] in
    omega (arith, leaves_less n (length others) (length text) text _ _ refl (omega arith) w other, skip_shorter is_gap more)

-- Where the walk is stuck, its front is the longest.
pub longest_here : (n : ℕ) (text : List ℕ) (commands : List Placed) (rest : List ℕ) (w : walk n (length text) text ≡ Some (commands, rest)) → walk (suc n) (length text) text ≡ None → Longest text commands (walk_takes n (length text) text commands rest refl w).front rest
longest_here n text commands rest w stuck =
    let t = walk_takes n (length text) text commands rest refl w in
    record {
      items = t.spelled;
      whole = t.whole;
      longest = λ others longer more items whole. omega (arith, bounded n text commands rest w stuck others longer more items whole, ap length t.whole, ap length whole, length-append t.front rest, length-append longer more);
    }

same_fronts : (a b c d : List ℕ) → a ++ b ≡ c ++ d → length a ≡ length c → (a ≡ c) × (b ≡ d)
same_fronts [] b [] d e h = (refl, e)
same_fronts [] b (y ∷ c) d e h = absurd (omega (arith, h))
same_fronts (x ∷ a) b [] d e h = absurd (omega (arith, h))
same_fronts (x ∷ a) b (y ∷ c) d e h =
    let first : x ≡ y = cc in
    let behind : a ++ b ≡ c ++ d = cc in
    let more = same_fronts a b c d behind (omega (arith, h)) in
    (λ i. first i ∷ more.0 i, more.1)

same_walks : (n m total : ℕ) (text : List ℕ) (x y : List Placed × List ℕ) → length text ≡ total → walk n total text ≡ Some x → walk m total text ≡ Some y → length x.1 ≡ length y.1 → n < m ⊎ m ≤ n → n ≡ m
same_walks n m total text x y h w v e (inl less) = omega (arith, leaves_less m n total text y x h (omega arith) v w, e)
same_walks n m total text x y h w v e (inr more) = omega (arith, leaves_less n m total text x y h more w v, e)

-- A text has one longest front, and one list of commands there.
pub longest_one : (text : List ℕ) (c d : List Placed) (front rest before behind : List ℕ) → Longest text c front rest → Longest text d before behind → (c ≡ d) × (front ≡ before) × (rest ≡ behind)
longest_one text c d front rest before behind l k =
    let size : length front ≡ length before = omega (arith, l.longest d before behind k.items k.whole, k.longest c front rest l.items l.whole) in
    let parts = same_fronts front rest before behind (sym l.whole ∙ k.whole) size in
    let w = walk_again c text front rest l.items l.whole in
    let v = walk_again d text before behind k.items k.whole in
    let left : length (skip is_gap rest) ≡ length (skip is_gap behind) = ap (λ s. length (skip is_gap s)) parts.1 in
    let count = same_walks (length c) (length d) (length text) text _ _ refl w v left (cases_lt (length c) (length d)) in
    let same = same_Some _ _ (sym w ∙ ap (λ n. walk n (length text) text) count ∙ v) in
    (ap (λ (z : List Placed × List ℕ). z.0) same, parts.0, parts.1)

-- The front before the `E` of a whole text is the longest.
pub spells_longest : (text : List ℕ) (commands : List Placed) (s : Spells text commands) → Longest text commands s.front (codes "E" ++ s.rest)
spells_longest text commands s =
    let w = walk_again commands text s.front (codes "E" ++ s.rest) s.items s.whole in
    let stuck = stuck_none (length commands) (length text) text commands (codes "E" ++ s.rest) w (no_command (length text) s.rest) in
    record {
      items = s.items;
      whole = s.whole;
      longest = λ others longer more items whole. omega (arith, bounded (length commands) text commands (codes "E" ++ s.rest) w stuck others longer more items whole, ap length s.whole, ap length whole, length-append s.front (codes "E" ++ s.rest), length-append longer more);
    }

-- No text spells two lists of commands.
pub one_spelling : (text : List ℕ) (c d : List Placed) → Spells text c → Spells text d → c ≡ d
one_spelling text c d s t = (longest_one text c d _ _ _ _ (spells_longest text c s) (spells_longest text d t)).0
