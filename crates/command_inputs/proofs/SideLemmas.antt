-- The words that spell sides.
use Rattle.std.proofs.Common.{◌≡◌, ◌≢◌, ◌⊎◌, inl, inr, ℕ, zero, suc, ◌<◌, ◌≤◌, ◌+◌, ◌/◌, ◌%◌, ◌^◌, Bool, true, false, List, [], ◌∷◌, ◌++◌, length, get_or, take, drop, All, map, Option, None, Some, Bor, refl, sym, ◌∙◌, ap, subst, arith}
use Rattle.std.specs.Prelude.{nat_eq, IfNone, codes, if◌then◌else◌}
use Rattle.std.specs.List.{AllZip, concat, slice_split, join_with_byte}
use Rattle.std.specs.Fmt.{decimal}
use Rattle.std.specs.Str.Parse.{AllDigits}
use Rattle.std.specs.Char.{digit_value}
use Rattle.std.proofs.lemmas.Fmt.{decimal_is_IsNumeral, decimal_injective}
use Rattle.std.proofs.lemmas.Str.Parse.{digit_from_value}
use Rattle.std.proofs.lemmas.Bool.Decides.{nat_tests}
use Rattle.std.proofs.lemmas.List.Elements.{All-nil, All-cons, All-head, All-tail, All-append, All-from_get_or}
use Rattle.std.proofs.lemmas.List.{append-nil, take_more, map-append}
use Rattle.std.proofs.lemmas.List.Splits.{slice_split_none, slice_split_at, length-slice_split, join_with_byte-slice_split}
use Rattle.std.proofs.lemmas.Slice.Zip.{AllZip-long, all_zipped_more}
use Rattle.defect_sweep.specs.declared.sides.SideWeight.{SideWeight}
use Rattle.defect_sweep.specs.Sides.{AreSides}
use Rattle.defect_sweep.specs.SideTexts.{comma, size_of, entry_text, sides_text}
use Rattle.command_inputs.specs.Sides.{IsEntrySide, SpellsEntry, SpellsSides}

-- the text has no such byte
Lacks : ℕ → List ℕ → Type 0
Lacks byte text = All (λ b. nat_eq b byte ≡ false) text

no_digit : (b byte : ℕ) → digit_value b < 10 → (byte < 48) ⊎ (57 < byte) → nat_eq b byte ≡ false
no_digit b byte is other = let range = digit_from_value b is in grind (arith, nat_tests, range, other)

digits_lack : (byte : ℕ) (ds : List ℕ) → AllDigits 10 ds → (byte < 48) ⊎ (57 < byte) → Lacks byte ds
unfolding Lacks
digits_lack byte [] are other = All-nil (λ b. nat_eq b byte ≡ false)
digits_lack byte (d ∷ ds) are other = All-cons (λ b. nat_eq b byte ≡ false) d ds (no_digit d byte are.0 other) (digits_lack byte ds are.1 other)

decimal_lacks : (byte n : ℕ) → n < 2 ^ 64 → (byte < 48) ⊎ (57 < byte) → Lacks byte (decimal n)
decimal_lacks byte n small other = digits_lack byte (decimal n) (decimal_is_IsNumeral n small).0.1 other

-- ---- entries

entry_lacks : (entry : List ℕ) (side : SideWeight) → IsEntrySide side → SpellsEntry entry side → Lacks comma entry
unfolding Lacks
entry_lacks entry side is (inl plain) = subst (λ e. Lacks comma e) (sym plain.0) (decimal_lacks comma (size_of side) (omega (arith, is.counted.small)) (inl (omega arith)))
entry_lacks entry side is (inr spelled) =
    let size = decimal_lacks comma (size_of side) (omega (arith, is.counted.small)) (inl (omega arith)) in
    let weight = decimal_lacks comma side.weight (omega (arith, is.counted.light)) (inl (omega arith)) in
    subst (λ e. Lacks comma e) (sym spelled)
    (All-append (λ b. nat_eq b comma ≡ false) (decimal (size_of side)) (58 ∷ decimal side.weight) size (All-cons (λ b. nat_eq b comma ≡ false) 58 (decimal side.weight) (grind (arith, nat_tests)) weight))

-- a text without a `:` is none with one
no_colon : (text before rest : List ℕ) → Lacks 58 text → Lacks 58 before → text ≡ before ++ 58 ∷ rest → ⊥
unfolding Lacks
no_colon text before rest lacks also same =
    let one = slice_split_none (λ b. nat_eq b 58) text lacks in
    let two = slice_split_at (λ b. nat_eq b 58) before 58 rest also (grind (arith, nat_tests)) in
    let lengths = ap length (sym one ∙ ap (λ t. slice_split (λ b. nat_eq b 58) t) same ∙ two) in
    omega (arith, lengths, length-slice_split (λ b. nat_eq b 58) rest)

-- the two decimals round a `:`
parts : (n k : ℕ) → n < 2 ^ 64 → k < 2 ^ 64 → slice_split (λ b. nat_eq b 58) (decimal n ++ 58 ∷ decimal k) ≡ decimal n ∷ decimal k ∷ []
unfolding Lacks
parts n k small less =
    slice_split_at (λ b. nat_eq b 58) (decimal n) 58 (decimal k) (decimal_lacks 58 n small (inr (omega arith))) (grind (arith, nat_tests))
    ∙ ap (λ t. decimal n ∷ t) (slice_split_none (λ b. nat_eq b 58) (decimal k) (decimal_lacks 58 k less (inr (omega arith))))

same_parts : (n m k l : ℕ) → n < 2 ^ 64 → m < 2 ^ 64 → k < 2 ^ 64 → l < 2 ^ 64 → decimal n ++ 58 ∷ decimal k ≡ decimal m ++ 58 ∷ decimal l → (n ≡ m) × (k ≡ l)
same_parts n m k l a b c d same =
    let lists = sym (parts n k a c) ∙ ap (λ t. slice_split (λ b. nat_eq b 58) t) same ∙ parts m l b d in
    (decimal_injective n m a b (ap (λ t. get_or t 0 []) lists), decimal_injective k l c d (ap (λ t. get_or t 1 []) lists))

same_cells : (a b : ℕ) → a % 2 ≡ 0 → b % 2 ≡ 0 → a / 2 ≡ b / 2 → a ≡ b
same_cells a b even also same = omega (arith, even, also, same)

same_side : (s t : SideWeight) → IsEntrySide s → IsEntrySide t → size_of s ≡ size_of t → s.weight ≡ t.weight → s ≡ t
same_side s t is also sizes weights =
    let cells = same_cells s.cells t.cells is.even also.even sizes in
    λ i. record { cells = cells i; weight = weights i }

size_small : (s : SideWeight) → IsEntrySide s → size_of s < 2 ^ 64
size_small s is = omega (arith, is.counted.small)

weight_small : (s : SideWeight) → IsEntrySide s → s.weight < 2 ^ 64
weight_small s is = omega (arith, is.counted.light)

size_lacks : (s : SideWeight) → IsEntrySide s → Lacks 58 (decimal (size_of s))
size_lacks s is = decimal_lacks 58 (size_of s) (size_small s is) (inr (omega arith))

-- an entry spells one side at most
pub one_side : (entry : List ℕ) (s t : SideWeight) → IsEntrySide s → IsEntrySide t → SpellsEntry entry s → SpellsEntry entry t → s ≡ t
one_side entry s t is also (inl here) (inl there) =
    same_side s t is also (decimal_injective (size_of s) (size_of t) (size_small s is) (size_small t also) (sym here.0 ∙ there.0)) (here.1 ∙ sym there.1)
one_side entry s t is also (inl here) (inr there) = absurd (no_colon (decimal (size_of s)) (decimal (size_of t)) (decimal t.weight) (size_lacks s is) (size_lacks t also) (sym here.0 ∙ there))
one_side entry s t is also (inr here) (inl there) = absurd (no_colon (decimal (size_of t)) (decimal (size_of s)) (decimal s.weight) (size_lacks t also) (size_lacks s is) (sym there.0 ∙ here))
one_side entry s t is also (inr here) (inr there) =
    let both = same_parts (size_of s) (size_of t) s.weight t.weight (size_small s is) (size_small t also) (weight_small s is) (weight_small t also) (sym here ∙ there) in
    same_side s t is also both.0 both.1

-- ---- an entry that is cut at its first `:`

other_byte : (b : ℕ) → b ≢ 58 → nat_eq b 58 ≡ false
other_byte b other = by_test (nat_eq b 58) refl where
  by_test : (t : Bool) → nat_eq b 58 ≡ t → t ≡ false
  by_test true is = absurd (other (grind (arith, nat_tests, is)))
  by_test false is = refl

lacks_from : (text : List ℕ) → ((i : ℕ) → i < length text → get_or text i 0 ≢ 58) → Lacks 58 text
unfolding Lacks
lacks_from text none = All-from_get_or (λ b. nat_eq b 58 ≡ false) text 0 (λ i less. other_byte (get_or text i 0) (none i less))

-- one without a `:` is a size, with the weight 1
pub size_alone : (entry : List ℕ) → ((i : ℕ) → i < length entry → get_or entry i 0 ≢ 58) → ((n : ℕ) → 1 ≤ n → n ≤ 32768 → entry ≡ decimal n → ⊥) → (side : SideWeight) → IsEntrySide side → SpellsEntry entry side → ⊥
size_alone entry none no_size side is (inl plain) = no_size (size_of side) (omega (arith, is.counted.some)) (omega (arith, is.counted.small)) plain.0
size_alone entry none no_size side is (inr spelled) = no_colon entry (decimal (size_of side)) (decimal side.weight) (lacks_from entry none) (size_lacks side is) spelled

-- one with a `:` is a size and a weight
pub size_and_weight : (entry size weight : List ℕ) → (entry ≡ size ++ 58 ∷ weight) × ((i : ℕ) → i < length size → get_or size i 0 ≢ 58) → (side : SideWeight) → IsEntrySide side → SpellsEntry entry side → (size ≡ decimal (size_of side)) × (weight ≡ decimal side.weight)
unfolding Lacks
size_and_weight entry size weight cut side is (inl plain) = absurd (no_colon (decimal (size_of side)) size weight (size_lacks side is) (lacks_from size cut.1) (sym plain.0 ∙ cut.0))
size_and_weight entry size weight cut side is (inr spelled) =
    let here = slice_split_at (λ b. nat_eq b 58) size 58 weight (lacks_from size cut.1) (grind (arith, nat_tests)) in
    let lists = sym here ∙ ap (λ t. slice_split (λ b. nat_eq b 58) t) (sym cut.0 ∙ spelled) ∙ parts (size_of side) side.weight (size_small side is) (weight_small side is) in
    (ap (λ t. get_or t 0 []) lists, sym (join_with_byte-slice_split 58 weight) ∙ ap (λ t. join_with_byte 58 (drop 1 t)) lists)

pub no_weight : (entry size weight : List ℕ) → (entry ≡ size ++ 58 ∷ weight) × ((i : ℕ) → i < length size → get_or size i 0 ≢ 58) → ((n : ℕ) → 1 ≤ n → n ≤ 30 → weight ≡ decimal n → ⊥) → (side : SideWeight) → IsEntrySide side → SpellsEntry entry side → ⊥
no_weight entry size weight cut none side is spells = none side.weight is.counted.counts is.counted.light (size_and_weight entry size weight cut side is spells).1

pub no_size : (entry size weight : List ℕ) → (entry ≡ size ++ 58 ∷ weight) × ((i : ℕ) → i < length size → get_or size i 0 ≢ 58) → ((n : ℕ) → 1 ≤ n → n ≤ 32768 → size ≡ decimal n → ⊥) → (side : SideWeight) → IsEntrySide side → SpellsEntry entry side → ⊥
no_size entry size weight cut none side is spells = none (size_of side) (omega (arith, is.counted.some)) (omega (arith, is.counted.small)) (size_and_weight entry size weight cut side is spells).0

pub none_weaker : {X P Q : Type 0} (r : Option X) → (P → Q) → IfNone r P → IfNone r Q
none_weaker None weaker p = weaker p
none_weaker (Some x) weaker p = tt

-- ---- lists of entries

entries_lack : (entries : List (List ℕ)) (sides : List SideWeight) → All IsEntrySide sides → AllZip SpellsEntry entries sides → All (Lacks comma) entries
entries_lack [] [] are each = All-nil (Lacks comma)
entries_lack [] (s ∷ sides) are each = All-nil (Lacks comma)
entries_lack (e ∷ entries) [] are each = absurd each
entries_lack (e ∷ entries) (s ∷ sides) are each =
    All-cons (Lacks comma) e entries (entry_lacks e s (All-head IsEntrySide s sides are) each.0) (entries_lack entries sides (All-tail IsEntrySide s sides are) each.1)

-- joined entries are cut again where they were joined
split_joined : (entries : List (List ℕ)) → 1 ≤ length entries → All (Lacks comma) entries → slice_split (λ b. nat_eq b comma) (join_with_byte comma entries) ≡ entries
unfolding Lacks
split_joined [] some lack = absurd (omega (arith, some))
split_joined (e ∷ []) some lack = slice_split_none (λ b. nat_eq b comma) e (All-head (Lacks comma) e [] lack)
split_joined (e ∷ f ∷ entries) some lack =
    slice_split_at (λ b. nat_eq b comma) e comma (join_with_byte comma (f ∷ entries)) (All-head (Lacks comma) e (f ∷ entries) lack) (grind (arith, nat_tests))
    ∙ ap (λ t. e ∷ t) (split_joined (f ∷ entries) (omega arith) (All-tail (Lacks comma) e (f ∷ entries) lack))

-- each side of a spelled word is one that an entry can spell
each_side : (word : List ℕ) (sides : List SideWeight) → SpellsSides word sides → All IsEntrySide sides
each_side word sides spells = λ k d within. record { counted = spells.are.each k d within; even = spells.even k d within }

pub entries_are : (word : List ℕ) (sides : List SideWeight) (spells : SpellsSides word sides) → slice_split (λ b. nat_eq b comma) word ≡ spells.entries
entries_are word sides spells =
    ap (λ t. slice_split (λ b. nat_eq b comma) t) spells.joined
    ∙ split_joined spells.entries (omega (arith, spells.are.some, AllZip-long SpellsEntry spells.entries sides spells.each)) (entries_lack spells.entries sides (each_side word sides spells) spells.each)

-- entries spell one list of sides
pub one_list : (entries : List (List ℕ)) (sides others : List SideWeight) → All IsEntrySide sides → All IsEntrySide others → AllZip SpellsEntry entries sides → AllZip SpellsEntry entries others → sides ≡ others
one_list [] [] [] are also here there = refl
one_list [] [] (t ∷ others) are also here there = absurd there
one_list [] (s ∷ sides) others are also here there = absurd here
one_list (e ∷ entries) [] others are also here there = absurd here
one_list (e ∷ entries) (s ∷ sides) [] are also here there = absurd there
one_list (e ∷ entries) (s ∷ sides) (t ∷ others) are also here there =
    let first = one_side e s t (All-head IsEntrySide s sides are) (All-head IsEntrySide t others also) here.0 there.0 in
    let rest = one_list entries sides others (All-tail IsEntrySide s sides are) (All-tail IsEntrySide t others also) here.1 there.1 in
    λ i. first i ∷ rest i

pub one_word : (word : List ℕ) (sides others : List SideWeight) → SpellsSides word sides → SpellsSides word others → sides ≡ others
one_word word sides others here there =
    let entries = sym (entries_are word sides here) ∙ entries_are word others there in
    one_list there.entries sides others (each_side word sides here) (each_side word others there) (subst (λ es. AllZip SpellsEntry es sides) entries here.each) there.each

-- the loop that read one more entry
pub read_more : (entries : List (Bor (List ℕ))) (i : ℕ) (d : Bor (List ℕ)) (sides : List SideWeight) (s : SideWeight) → i < length entries → AllZip SpellsEntry (map (λ e. e.now) (take i entries)) sides → SpellsEntry (get_or entries i d).now s → AllZip SpellsEntry (map (λ e. e.now) (take (i + 1) entries)) (sides ++ s ∷ [])
read_more entries i d sides s less so_far spells =
    subst (λ es. AllZip SpellsEntry es (sides ++ s ∷ [])) (sym (ap (λ es. map (λ e. e.now) es) (take_more entries i d less) ∙ map-append (λ (e : Bor (List ℕ)). e.now) (take i entries) (get_or entries i d ∷ [])))
    (all_zipped_more SpellsEntry (map (λ e. e.now) (take i entries)) sides (get_or entries i d).now s so_far spells)

-- an entry that spells no side
pub not_read : (entries : List (Bor (List ℕ))) (sides : List SideWeight) (i : ℕ) (d : Bor (List ℕ)) → i < length entries → ((side : SideWeight) → IsEntrySide side → SpellsEntry (get_or entries i d).now side → ⊥) → All IsEntrySide sides → AllZip SpellsEntry (map (λ e. e.now) entries) sides → ⊥
not_read [] sides i d less none are each = absurd (omega (arith, less))
not_read (e ∷ entries) [] i d less none are each = absurd each
not_read (e ∷ entries) (s ∷ sides) zero d less none are each = none s (All-head IsEntrySide s sides are) each.0
not_read (e ∷ entries) (s ∷ sides) (suc i) d less none are each = not_read entries sides i d (omega (arith, less)) none (All-tail IsEntrySide s sides are) each.1

-- ---- words

-- the entries of a word are those that it is cut into
same_entries : (word : List ℕ) (entries : List (List ℕ)) (sides : List SideWeight) → entries ≡ slice_split (λ b. nat_eq b comma) word → SpellsSides word sides → AllZip SpellsEntry entries sides
same_entries word entries sides cut spells = subst (λ es. AllZip SpellsEntry es sides) (sym (cut ∙ entries_are word sides spells)) spells.each

pub not_spelled : (word : List ℕ) (entries : List (List ℕ)) → entries ≡ slice_split (λ b. nat_eq b comma) word → ((sides : List SideWeight) → All IsEntrySide sides → AllZip SpellsEntry entries sides → ⊥) → (sides : List SideWeight) → SpellsSides word sides → ⊥
not_spelled word entries cut none sides spells = none sides (each_side word sides spells) (same_entries word entries sides cut spells)

pub not_sides : (word : List ℕ) (entries : List (List ℕ)) (read : List SideWeight) → entries ≡ slice_split (λ b. nat_eq b comma) word → All IsEntrySide read → AllZip SpellsEntry entries read → (AreSides read → ⊥) → (sides : List SideWeight) → SpellsSides word sides → ⊥
not_sides word entries read cut whole each others sides spells =
    others (subst AreSides (one_list entries sides read (each_side word sides spells) whole (same_entries word entries sides cut spells) each) spells.are)

pub spelled : (word : List ℕ) (entries : List (List ℕ)) (sides : List SideWeight) → entries ≡ slice_split (λ b. nat_eq b comma) word → All IsEntrySide sides → AllZip SpellsEntry entries sides → AreSides sides → SpellsSides word sides
spelled word entries sides cut whole each are = record {
  entries = entries;
  joined = sym (ap (λ es. join_with_byte comma es) cut ∙ join_with_byte-slice_split comma word);
  each = each;
  are = are;
  even = λ k d within. (whole k d within).even;
}

-- ---- the printed word

printed_entry : (side : SideWeight) → SpellsEntry (entry_text side) side
printed_entry side = by_test (nat_eq side.weight 1) refl where
  by_test : (t : Bool) → nat_eq side.weight 1 ≡ t → SpellsEntry (concat (decimal (size_of side) ∷ (if t then [] else codes ":" ∷ decimal side.weight ∷ []))) side
  by_test true is = inl (append-nil (decimal (size_of side)), grind (arith, nat_tests, is))
  by_test false is = inr (ap (λ l. decimal (size_of side) ++ (codes ":" ++ l)) (append-nil (decimal side.weight)))

printed_entries : (sides : List SideWeight) → AllZip SpellsEntry (map entry_text sides) sides
printed_entries [] = tt
printed_entries (side ∷ sides) = (printed_entry side, printed_entries sides)

-- the word that is printed spells the sides
pub printed : (word : List ℕ) (sides : List SideWeight) → SpellsSides word sides → SpellsSides (sides_text sides) sides
printed word sides spells = record { entries = map entry_text sides; joined = refl; each = printed_entries sides; are = spells.are; even = spells.even }
