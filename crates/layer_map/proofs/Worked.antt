-- Worked values of the definitions, each computed; and whole texts, judged line by line.
use Rattle.std.proofs.Common.{◌≡◌, ℕ, zero, suc, ◌+◌, Bool, true, false, List, [], ◌∷◌, ◌++◌, length, map, Option, Some, None, refl, sym, ap, ◌∙◌, subst, codes, arith, append_assoc, inl, inr}
use Rattle.std.specs.List.{AllByRecursion}
use Rattle.std.specs.Option.{option_or}
use Rattle.std.specs.Str.{bytes_eq}
use Rattle.std.proofs.lemmas.List.{append-nil}
use Rattle.switch_net.specs.declared.Kind.TheVariants.{N}
use Rattle.layer_map.specs.declared.refusal.MapRefusal.{MapRefusal}
use Rattle.layer_map.specs.declared.refusal.MapRefusal.TheVariants.{BadLine, UnknownWire, Unbounded, TwiceNamed, NoSupplyLine, TooMany}
use Rattle.layer_map.specs.declared.refusal.Side.TheVariants.{High, Low}
use Rattle.layer_map.specs.Lines.{lines_of}
use Rattle.layer_map.specs.Words.{words_of, is_skipped, is_supply_line}
use Rattle.layer_map.specs.Names.{is_wire_name, are_distinct}
use Rattle.layer_map.specs.Grammar.{of_layer, product, no_factor, Sum, sum_of, no_product, layers_in, depth_of, Statement, wire, cut, SpellsLine, Spells}
use Rattle.layer_map.specs.Truth.{on, neither, both, either, means, holds, is_unbounded}
use Rattle.layer_map.specs.Plan.{Wire, Plan, map_of, AreNumbers, IsKeptMap}
use Rattle.layer_map.specs.Faults.{fault_in, first_fault, supply_fault, Refuses}
use Rattle.layer_map.specs.Readers.{tree_of, said_at, row_at, wire_at, cut_at, fet_at, terminals_at, label_at, supply_at}
use Rattle.layer_map.proofs.RowLemmas.{said_takes, said_again}
use Rattle.layer_map.proofs.Walk.{accepts, refuses, ending, judged, after, answer}

-- ---- lines and words

-- A CR is dropped before an LF alone; the last line may lack its LF.
lines : lines_of (97 ∷ 13 ∷ 10 ∷ 10 ∷ 98 ∷ 13 ∷ []) ≡ codes "a" ∷ [] ∷ (98 ∷ 13 ∷ []) ∷ []
lines = refl

-- A sign needs no blank round it, but on a line of supplies it is part of a name.
signs : words_of true (codes "cut(CVA):m1") ≡ codes "cut" ∷ codes "(" ∷ codes "CVA" ∷ codes ")" ∷ codes ":" ∷ codes "m1" ∷ []
signs = refl

no_signs : words_of false (codes " high  A+B ") ≡ codes "high" ∷ codes "A+B" ∷ []
no_signs = refl

-- a comment behind blanks, blanks alone, nothing, and a `#` that is not the first
skipped : map is_skipped (codes "  # cut" ∷ codes "  " ∷ [] ∷ codes "a #" ∷ []) ≡ true ∷ true ∷ true ∷ false ∷ []
skipped = refl

supplies : map is_supply_line (codes " high A" ∷ codes "low" ∷ codes "high+Vdd" ∷ codes "higher" ∷ []) ≡ true ∷ true ∷ false ∷ false ∷ []
supplies = refl

-- Two CRs before an LF: one of them is dropped.
two_returns : lines_of (13 ∷ 13 ∷ 10 ∷ []) ≡ (13 ∷ []) ∷ []
two_returns = refl

-- 16 bytes and 17, a digit first, a capital, an underline within
names_of_wires : map is_wire_name (codes "abcdefghijklmnop" ∷ codes "abcdefghijklmnopq" ∷ codes "1a" ∷ codes "aB" ∷ codes "a_1" ∷ []) ≡ true ∷ false ∷ false ∷ false ∷ true ∷ []
names_of_wires = refl

distinct : map are_distinct ((codes "a" ∷ codes "b" ∷ []) ∷ (codes "a" ∷ codes "b" ∷ codes "a" ∷ []) ∷ [] ∷ []) ≡ true ∷ false ∷ true ∷ []
distinct = refl

-- ---- expressions

e : List ℕ → Sum
e text = tree_of (words_of true text)

present : List ℕ → List ℕ → Bool
present one name = bytes_eq name one

-- `*` binds tighter than `+`: A or (B and C)
tighter : holds (means (e (codes "A+B*C"))) (present (codes "A")) ≡ true
unfolding e present
tighter = refl

not_looser : holds (means (e (codes "(A+B)*C"))) (present (codes "A")) ≡ false
unfolding e present
not_looser = refl

-- `!` binds tightest: (not A) and B
tightest : holds (means (e (codes "!A*B"))) (present (codes "B")) ≡ true
unfolding e present
tightest = refl

-- Sums and products group to the left, and parentheses are left out.
to_the_left : means (e (codes "A+B*!C*D+E")) ≡ either (either (on (codes "A")) (both (both (on (codes "B")) (neither (on (codes "C")))) (on (codes "D")))) (on (codes "E"))
unfolding e
to_the_left = refl

grouped : means (e (codes "A*(B+C)")) ≡ both (on (codes "A")) (either (on (codes "B")) (on (codes "C")))
unfolding e
grouped = refl

-- A layer alone is false where none is present, its inverse true, and a product of both false.
bounds : map (λ text. is_unbounded (means (e text))) (codes "A" ∷ codes "!A" ∷ codes "A*!B" ∷ codes "!(A+B)" ∷ codes "!!A" ∷ []) ≡ false ∷ true ∷ false ∷ true ∷ false ∷ []
unfolding e
bounds = refl

open_second_term : is_unbounded (means (e (codes "CMF+!(CPG*!CAA)"))) ≡ true
unfolding e
open_second_term = refl

depth : depth_of (e (codes "!(A+!!B)*C")) ≡ 4
unfolding e
depth = refl

layers : layers_in (e (codes "A*A+!A")) ≡ 3
unfolding e
layers = refl

-- ---- lines, by hand

only : List ℕ → Sum
only name = sum_of (product (of_layer name) no_factor) no_product

a_wire : SpellsLine (codes "wire m1\tA") (wire (codes "m1") (only (codes "A")))
unfolding only
a_wire = record { words = record { counts = refl; kind = refl; cut_so = refl }; named = refl; layers = refl }

no_cut : (e : Sum) (wires : List (List ℕ)) → SpellsLine (codes "wire m1 A") (cut e wires) → ⊥
no_cut e wires c = let same = c.words.cut_so in cc

-- ---- what a map keeps

numbers : AreNumbers 2 (0 ∷ 1 ∷ 1 ∷ [])
numbers = record { some = omega arith; known = (omega arith, (omega arith, (omega arith, tt))) }

number_too_large : AreNumbers 2 (0 ∷ 2 ∷ []) → ⊥
number_too_large n = omega (arith, n.known.1.0)

no_numbers : AreNumbers 2 [] → ⊥
no_numbers n = omega (arith, n.some)

-- one wire, on this layer
one_wire : List ℕ → Plan
one_wire name = record { wires = record { name = codes "m"; formula = on name } ∷ []; cuts = []; fets = []; labels = []; high = []; low = [] }

kept : IsKeptMap (one_wire (codes "A"))
unfolding one_wire
kept = record { few = omega arith; few_fets = omega arith; wires = (refl, tt); cuts = tt; fets = tt; labels = tt; once = refl }

not_kept : (p : Plan) → p.wires ≡ record { name = codes "m"; formula = neither (on (codes "A")) } ∷ [] → IsKeptMap p → ⊥
not_kept p e k = let bounded = (subst (AllByRecursion (λ (w : Wire). is_unbounded w.formula ≡ false)) e k.wires).0 in cc

-- ---- whole texts

refused_end : (text : List ℕ) (f : MapRefusal) (said : List Statement) (o : Option MapRefusal) → supply_fault said ≡ o → Spells (lines_of text) said → first_fault said ≡ None → ending o (map_of said) ≡ refuses f → Refuses text f
unfolding ending
refused_end text f said None e says none h = absurd (let no : accepts (map_of said) ≡ refuses f = h in cc)
refused_end text f said (Some g) e says none h = let same : refuses g ≡ refuses f = h in inr (record { said = said; spelled = says; none_at_fault = none; is = e ∙ cc })

refused_line : (text line : List ℕ) (f : MapRefusal) (lines front : List (List ℕ)) (said : List Statement) (s : Statement) (o : Option MapRefusal) → said_at line ≡ Some s → fault_in (length said + 1) (map_of said) s ≡ o → lines_of text ≡ front ++ (line ∷ lines) → Spells front said → first_fault said ≡ None → judged o (answer lines (s ∷ said)) ≡ refuses f → (first_fault (s ∷ said) ≡ None → answer lines (s ∷ said) ≡ refuses f → Refuses text f) → Refuses text f
unfolding judged
refused_line text line f lines front said s None e is split says none h more = more (ap (λ o. option_or o (fault_in (length said + 1) (map_of said) s)) none ∙ is) h
refused_line text line f lines front said s (Some g) e is split says none h more =
    let same : refuses g ≡ refuses f = h in
    inl (record { before = said; front = front; line = line; rest = lines; split = split; spelled = says; none_before = none; is = inr (s, said_takes line s e, is ∙ cc) })

refused_at : (text line : List ℕ) (f : MapRefusal) (lines front : List (List ℕ)) (said : List Statement) (o : Option Statement) → said_at line ≡ o → lines_of text ≡ front ++ (line ∷ lines) → Spells front said → first_fault said ≡ None → after o said (answer lines) ≡ refuses f → ((s : Statement) → SpellsLine line s → first_fault (s ∷ said) ≡ None → answer lines (s ∷ said) ≡ refuses f → Refuses text f) → Refuses text f
unfolding after
refused_at text line f lines front said None e split says none h more =
    let same : refuses (BadLine (length said + 1)) ≡ refuses f = h in
    inl (record { before = said; front = front; line = line; rest = lines; split = split; spelled = says; none_before = none; is = inl (λ s h. (let no : None ≡ Some s = sym e ∙ said_again line s h in cc), cc) })
refused_at text line f lines front said (Some s) e split says none h more = refused_line text line f lines front said s (fault_in (length said + 1) (map_of said) s) e refl split says none h (more s (said_takes line s e))

-- The answer of the walk over all lines is the refusal of the text.
refused_on : (text : List ℕ) (f : MapRefusal) (lines front : List (List ℕ)) (said : List Statement) → lines_of text ≡ front ++ lines → Spells front said → first_fault said ≡ None → answer lines said ≡ refuses f → Refuses text f
unfolding answer
refused_on text f [] front said split says none h = refused_end text f said (supply_fault said) refl (subst (λ lines. Spells lines said) (sym (split ∙ append-nil front)) says) none h
refused_on text f (line ∷ lines) front said split says none h = refused_at text line f lines front said (said_at line) refl split says none h (λ s spelled none h. refused_on text f lines (front ++ (line ∷ [])) (s ∷ said) (split ∙ sym (append_assoc front (line ∷ []) lines)) (front, line, refl, says, spelled) none h)

refused : (text : List ℕ) (f : MapRefusal) → answer (lines_of text) [] ≡ refuses f → Refuses text f
refused text f h = refused_on text f (lines_of text) [] [] refl refl refl h

-- A sum with no last term, on the third line; a CR that no LF follows; a sign behind `high`; a list with no name; a `!` before a `+`.
bad_lines : Refuses (codes "# map\n\nwire metal CMF+\n") (BadLine 3) × Refuses (codes "high Vdd" ++ (13 ∷ [])) (BadLine 1) × Refuses (codes "high+Vdd") (BadLine 1) × Refuses (codes "low ") (BadLine 1) × Refuses (codes "wire m !!+A") (BadLine 1)
unfolding answer after judged ending said_at row_at wire_at cut_at fet_at terminals_at label_at supply_at
bad_lines = (refused _ _ refl, refused _ _ refl, refused _ _ refl, refused _ _ refl, refused _ _ refl)

-- No text, a comment with a CR behind it, a map without `low`, and signs that no blank stands beside.
no_supplies : Refuses (codes "") (NoSupplyLine High) × Refuses (codes "# map" ++ (13 ∷ [])) (NoSupplyLine High) × Refuses (codes "wire metal CMF\nlabel CMF metal\nhigh Vdd\n") (NoSupplyLine Low) × Refuses (codes "wire m1 CVA\ncut(CVA):m1") (NoSupplyLine High)
unfolding answer after judged ending said_at row_at wire_at cut_at fet_at terminals_at label_at supply_at
no_supplies = (refused _ _ refl, refused _ _ refl, refused _ _ refl, refused _ _ refl)

-- A wire that no line names, one that a later line names, and one that its own line names.
unknown_wires : Refuses (codes "cut CVA : metal") (UnknownWire 1) × Refuses (codes "label A m\nwire m A") (UnknownWire 1) × Refuses (codes "wire m A\nfet n A gate m diff n") (UnknownWire 2)
unfolding answer after judged ending said_at row_at wire_at cut_at fet_at terminals_at label_at supply_at
unknown_wires = (refused _ _ refl, refused _ _ refl, refused _ _ refl)

-- A wire, a layer of labels, a supply on one line, on two lines of one side, and on both sides.
twice : Refuses (codes "wire m CMF\nwire m CPG") (TwiceNamed 2) × Refuses (codes "wire m A\nlabel A m\nlabel B m m\nlabel A m") (TwiceNamed 4) × Refuses (codes "high A+B A+B") (TwiceNamed 1) × Refuses (codes "high Vdd\nhigh Vdd") (TwiceNamed 2) × Refuses (codes "high Vdd\nlow Vdd") (TwiceNamed 2)
unfolding answer after judged ending said_at row_at wire_at cut_at fet_at terminals_at label_at supply_at
twice = (refused _ _ refl, refused _ _ refl, refused _ _ refl, refused _ _ refl, refused _ _ refl)

-- An inverse, the second term of a sum, a cut, a channel.
unbounded : Refuses (codes "wire metal !CMF") (Unbounded 1) × Refuses (codes "wire metal CMF+!(CPG*!CAA)") (Unbounded 1) × Refuses (codes "wire m A\ncut !A : m") (Unbounded 2) × Refuses (codes "wire m A\nfet p !A gate m diff m") (Unbounded 2)
unfolding answer after judged ending said_at row_at wire_at cut_at fet_at terminals_at label_at supply_at
unbounded = (refused _ _ refl, refused _ _ refl, refused _ _ refl, refused _ _ refl)

-- the part so many times
copies : ℕ → List ℕ → List ℕ
copies zero part = []
copies (suc n) part = part ++ copies n part

-- 33 names of one supply, though they are equal, on one line and on two; 17 wires in a list; 65 names of layers; 33 that are open round one place, one by one and mixed.
too_many : Refuses (codes "high" ++ copies 33 (codes " A")) (TooMany 1) × Refuses (codes "low A B C D E F G H I J K L M N O P\nlow" ++ copies 17 (codes " A")) (TooMany 2) × Refuses (codes "wire a A\ncut A :" ++ copies 17 (codes " a")) (TooMany 2) × Refuses (codes "wire a A" ++ copies 64 (codes "+A")) (TooMany 1) × Refuses (codes "wire a " ++ (copies 33 (codes "!") ++ codes "A")) (TooMany 1) × Refuses (codes "wire a " ++ (copies 16 (codes "(!") ++ (codes "!A" ++ copies 16 (codes ")")))) (TooMany 1)
unfolding answer after judged ending said_at row_at wire_at cut_at fet_at terminals_at label_at supply_at copies
too_many = (refused (codes "high" ++ copies 33 (codes " A")) (TooMany 1) refl, refused (codes "low A B C D E F G H I J K L M N O P\nlow" ++ copies 17 (codes " A")) (TooMany 2) refl, refused (codes "wire a A\ncut A :" ++ copies 17 (codes " a")) (TooMany 2) refl, refused (codes "wire a A" ++ copies 64 (codes "+A")) (TooMany 1) refl, refused (codes "wire a " ++ (copies 33 (codes "!") ++ codes "A")) (TooMany 1) refl, refused (codes "wire a " ++ (copies 16 (codes "(!") ++ (codes "!A" ++ copies 16 (codes ")")))) (TooMany 1) refl)

-- One less of each. Then the equal names are the fault, or that no supply is there.
at_the_limits : Refuses (codes "low A B C D E F G H I J K L M N O P\nlow" ++ copies 16 (codes " A")) (TwiceNamed 2) × Refuses (codes "wire a A\ncut A :" ++ copies 16 (codes " a")) (NoSupplyLine High) × Refuses (codes "wire a A" ++ copies 63 (codes "+A")) (NoSupplyLine High) × Refuses (codes "wire a " ++ (copies 16 (codes "(!") ++ (codes "A" ++ copies 16 (codes ")")))) (NoSupplyLine High)
unfolding answer after judged ending said_at row_at wire_at cut_at fet_at terminals_at label_at supply_at copies
at_the_limits = (refused (codes "low A B C D E F G H I J K L M N O P\nlow" ++ copies 16 (codes " A")) (TwiceNamed 2) refl, refused (codes "wire a A\ncut A :" ++ copies 16 (codes " a")) (NoSupplyLine High) refl, refused (codes "wire a A" ++ copies 63 (codes "+A")) (NoSupplyLine High) refl, refused (codes "wire a " ++ (copies 16 (codes "(!") ++ (codes "A" ++ copies 16 (codes ")")))) (NoSupplyLine High) refl)

-- Within one line: too many before unknown, unknown before twice, unknown before unbounded, twice before unbounded, and a line that is none before too many. Of several lines the first.
order : Refuses (codes "cut A :" ++ copies 17 (codes " a")) (TooMany 1) × Refuses (codes "wire m A\nlabel A m\nlabel A n") (UnknownWire 3) × Refuses (codes "cut !A : m") (UnknownWire 1) × Refuses (codes "wire m A\nwire m !A") (TwiceNamed 2) × Refuses (codes "wire m " ++ (copies 33 (codes "!") ++ codes "+A")) (BadLine 1) × Refuses (codes "wire m !A\nwire") (Unbounded 1)
unfolding answer after judged ending said_at row_at wire_at cut_at fet_at terminals_at label_at supply_at copies
order = (refused (codes "cut A :" ++ copies 17 (codes " a")) (TooMany 1) refl, refused (codes "wire m A\nlabel A m\nlabel A n") (UnknownWire 3) refl, refused (codes "cut !A : m") (UnknownWire 1) refl, refused (codes "wire m A\nwire m !A") (TwiceNamed 2) refl, refused (codes "wire m " ++ (copies 33 (codes "!") ++ codes "+A")) (BadLine 1) refl, refused (codes "wire m !A\nwire") (Unbounded 1) refl)

-- What lines say together: wires by their numbers, in the order of the lines, and each list in that of its names.
whole_map : answer (lines_of (codes "wire a A\nwire b B+C\ncut A:b a\nlow G\nfet n A gate b diff a\nlabel A b\nhigh V W\nlow H\n")) [] ≡ accepts (record {
  wires = record { name = codes "a"; formula = on (codes "A") } ∷ record { name = codes "b"; formula = either (on (codes "B")) (on (codes "C")) } ∷ [];
  cuts = record { formula = on (codes "A"); wires = 1 ∷ 0 ∷ [] } ∷ [];
  fets = record { kind = N; channel = on (codes "A"); gate = 1; diff = 0 } ∷ [];
  labels = record { layer = codes "A"; wires = 1 ∷ [] } ∷ [];
  high = codes "V" ∷ codes "W" ∷ [];
  low = codes "G" ∷ codes "H" ∷ [];
})
unfolding answer after judged ending said_at row_at wire_at cut_at fet_at terminals_at label_at supply_at
whole_map = refl
