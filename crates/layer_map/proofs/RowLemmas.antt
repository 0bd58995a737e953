-- Rows: what is read is spelled so, and what is spelled so is read.
use Rattle.std.proofs.Common.{◌≡◌, ℕ, ◌<◌, Bool, true, false, if◌then◌else◌, not, ◌&&◌, ◌||◌, List, [], ◌∷◌, ◌++◌, length, codes, Option, Some, None, refl, sym, ap, ◌∙◌, subst, arith}
use Rattle.std.specs.List.{list_all}
use Rattle.std.specs.Str.{bytes_eq}
use Rattle.std.proofs.lemmas.Bool.{and_parts, and_from}
use Rattle.std.proofs.lemmas.List.{append-nil}
use Rattle.plane_geom.proofs.Options.{bind_some, guarded}
use Rattle.plane_geom.specs.Texts.{◌>>=◌}
use Rattle.plane_geom.specs.Names.{is_short, is_name}
use Rattle.switch_net.specs.declared.Kind.{Kind}
use Rattle.switch_net.specs.declared.Kind.TheVariants.{N, P}
use Rattle.layer_map.specs.declared.refusal.Side.{Side}
use Rattle.layer_map.specs.declared.refusal.Side.TheVariants.{High, Low}
use Rattle.layer_map.specs.Names.{is_wire_name}
use Rattle.layer_map.specs.Words.{words_of, is_skipped, is_supply_line, begins_supply}
use Rattle.layer_map.specs.Grammar.{Sum, sum_words, names_sum, Statement, nothing, wire, cut, fet, label, supply, kind_word, side_word, AreWires, HasWords, SpellsLine}
use Rattle.layer_map.specs.Readers.{first_of, behind, parse, is_nothing, are_wires, wire_at, cut_at, kind_at, terminals_at, fet_at, label_at, supply_at, row_at, said_at}
use Rattle.layer_map.proofs.Steps.{bytes_are, are_bytes}
use Rattle.layer_map.proofs.Parsing.{parse_takes, parse_again}

tested : {A : Type 0} (t : Bool) (o : Option A) (y : A) → (if t then o else None) ≡ Some y → (t ≡ true) × (o ≡ Some y)
tested true o y h = (refl, h)
tested false o y h = cc

nothing_is : (ws : List (List ℕ)) → is_nothing ws ≡ true → ws ≡ []
nothing_is [] h = refl
nothing_is (w ∷ ws) h = cc

some_words : (ws : List (List ℕ)) → not (is_nothing ws) ≡ true → 0 < length ws
some_words [] h = cc
some_words (w ∷ ws) h = omega arith

has_some : (ws : List (List ℕ)) → 0 < length ws → not (is_nothing ws) ≡ true
has_some [] h = absurd (omega arith)
has_some (w ∷ ws) h = refl

behind_is : (w : List ℕ) (ws next : List (List ℕ)) → behind w ws ≡ Some next → ws ≡ w ∷ next
behind_is w [] next h = cc
behind_is w (x ∷ xs) next h = let got = guarded (bytes_eq x w) xs next h in λ i. bytes_are x w got.0 i ∷ got.1 i

behind_again : (w : List ℕ) (ws : List (List ℕ)) → behind w (w ∷ ws) ≡ Some ws
behind_again w ws = ap (λ t. if t then Some ws else None) (are_bytes w w refl)

first_again : (ws rest : List (List ℕ)) (w : List ℕ) → first_of ws ≡ Some (w, rest) → ws ≡ w ∷ rest
first_again [] rest w h = cc
first_again (x ∷ xs) rest w h = let same : ◌≡◌ {A = List ℕ × List (List ℕ)} (x, xs) (w, rest) = cc in λ i. ap (λ (y : List ℕ × List (List ℕ)). y.0) same i ∷ ap (λ (y : List ℕ × List (List ℕ)). y.1) same i

wires_are : (ws : List (List ℕ)) → are_wires ws ≡ true → AreWires ws
wires_are ws h = let all = and_parts (not (is_nothing ws)) (list_all is_wire_name ws) h in record { some = some_words ws all.0; named = all.1 }

wires_again : (ws : List (List ℕ)) → AreWires ws → are_wires ws ≡ true
wires_again ws h = and_from _ _ (has_some ws h.some) h.named

-- ---- each row

wire_takes : (line : List ℕ) (ws : List (List ℕ)) (s : Statement) → HasWords false true line (codes "wire" ∷ ws) → wire_at ws ≡ Some s → SpellsLine line s
unfolding wire_at
wire_takes line [] s h e = cc
wire_takes line (name ∷ ws) s h e =
    let named = tested (is_wire_name name) (parse ws >>= λ x. if is_nothing x.1 then Some (wire name x.0) else None) s e in
    let tree = bind_some (parse ws) (λ x. if is_nothing x.1 then Some (wire name x.0) else None) s named.1 in
    let last = guarded (is_nothing tree.0.1) (wire name tree.0.0) s tree.2 in
    let read = parse_takes ws tree.0.0 tree.0.1 tree.1 in
    let whole : ws ≡ sum_words tree.0.0 = read.whole ∙ ap (λ r. sum_words tree.0.0 ++ r) (nothing_is tree.0.1 last.0) ∙ append-nil (sum_words tree.0.0) in
    subst (SpellsLine line) last.1 (record { words = record { counts = h.counts; kind = h.kind; cut_so = h.cut_so ∙ ap (λ t. codes "wire" ∷ name ∷ t) whole }; named = named.0; layers = read.named })

whole_parse : (e : Sum) → names_sum e ≡ true → parse (sum_words e) ≡ Some (e, [])
whole_parse e h = ap parse (sym (append-nil (sum_words e))) ∙ parse_again e [] h (record { factors = refl; products = refl })

wire_again : (name : List ℕ) (e : Sum) → is_wire_name name ≡ true → names_sum e ≡ true → wire_at (name ∷ sum_words e) ≡ Some (wire name e)
unfolding wire_at
wire_again name e named h = rw (named, whole_parse e h) refl

cut_takes : (line : List ℕ) (ws : List (List ℕ)) (s : Statement) → HasWords false true line (codes "cut" ∷ ws) → cut_at ws ≡ Some s → SpellsLine line s
unfolding cut_at
cut_takes line ws s h e =
    let tree = bind_some (parse ws) (λ x. behind (codes ":") x.1 >>= λ names. if are_wires names then Some (cut x.0 names) else None) s e in
    let colon = bind_some (behind (codes ":") tree.0.1) (λ names. if are_wires names then Some (cut tree.0.0 names) else None) s tree.2 in
    let last = guarded (are_wires colon.0) (cut tree.0.0 colon.0) s colon.2 in
    let read = parse_takes ws tree.0.0 tree.0.1 tree.1 in
    subst (SpellsLine line) last.1 (record { words = record { counts = h.counts; kind = h.kind; cut_so = h.cut_so ∙ ap (λ t. codes "cut" ∷ t) (read.whole ∙ ap (λ r. sum_words tree.0.0 ++ r) (behind_is (codes ":") tree.0.1 colon.0 colon.1)) }; layers = read.named; named = wires_are colon.0 last.0 })

cut_again : (e : Sum) (wires : List (List ℕ)) → names_sum e ≡ true → AreWires wires → cut_at (sum_words e ++ (codes ":" ∷ wires)) ≡ Some (cut e wires)
unfolding cut_at
cut_again e wires h w = rw (parse_again e (codes ":" ∷ wires) h (record { factors = refl; products = refl }), wires_again wires w) refl

kind_takes : (w : List ℕ) (k : Kind) → kind_at w ≡ Some k → w ≡ kind_word k
kind_takes w k h = go (bytes_eq w (codes "n")) (bytes_eq w (codes "p")) refl refl h
  where
    go : (a b : Bool) → bytes_eq w (codes "n") ≡ a → bytes_eq w (codes "p") ≡ b → (if a then Some N else if b then Some P else None) ≡ Some k → w ≡ kind_word k
    go true b ea eb e = bytes_are w (codes "n") ea ∙ ap kind_word (let same : N ≡ k = cc in same)
    go false true ea eb e = bytes_are w (codes "p") eb ∙ ap kind_word (let same : P ≡ k = cc in same)
    go false false ea eb e = cc

kind_again : (k : Kind) → kind_at (kind_word k) ≡ Some k
kind_again N = refl
kind_again P = refl

-- the wires of a transistor
pub record AreTerminals (ws : List (List ℕ)) (gate diff : List ℕ) : Type 0 where
  pub whole : ws ≡ codes "gate" ∷ gate ∷ codes "diff" ∷ diff ∷ []
  pub gate_named : is_wire_name gate ≡ true
  pub diff_named : is_wire_name diff ≡ true

ends_take : (ws : List (List ℕ)) (gate diff : List ℕ) → terminals_at ws ≡ Some (gate, diff) → AreTerminals ws gate diff
unfolding terminals_at
ends_take ws gate diff e =
    let a = bind_some (behind (codes "gate") ws) (λ at_gate. first_of at_gate >>= λ g. behind (codes "diff") g.1 >>= λ at_diff. first_of at_diff >>= λ d. if is_wire_name g.0 && is_wire_name d.0 && is_nothing d.1 then Some (g.0, d.0) else None) (gate, diff) e in
    let b = bind_some (first_of a.0) (λ g. behind (codes "diff") g.1 >>= λ at_diff. first_of at_diff >>= λ d. if is_wire_name g.0 && is_wire_name d.0 && is_nothing d.1 then Some (g.0, d.0) else None) (gate, diff) a.2 in
    let c = bind_some (behind (codes "diff") b.0.1) (λ at_diff. first_of at_diff >>= λ d. if is_wire_name b.0.0 && is_wire_name d.0 && is_nothing d.1 then Some (b.0.0, d.0) else None) (gate, diff) b.2 in
    let d = bind_some (first_of c.0) (λ d. if is_wire_name b.0.0 && is_wire_name d.0 && is_nothing d.1 then Some (b.0.0, d.0) else None) (gate, diff) c.2 in
    let last = guarded {A = List ℕ × List ℕ} (is_wire_name b.0.0 && is_wire_name d.0.0 && is_nothing d.0.1) (b.0.0, d.0.0) (gate, diff) d.2 in
    let all = and_parts (is_wire_name b.0.0 && is_wire_name d.0.0) (is_nothing d.0.1) last.0 in
    let names = and_parts (is_wire_name b.0.0) (is_wire_name d.0.0) all.0 in
    let whole : ws ≡ codes "gate" ∷ b.0.0 ∷ codes "diff" ∷ d.0.0 ∷ [] = behind_is (codes "gate") ws a.0 a.1 ∙ ap (λ t. codes "gate" ∷ t) (first_again a.0 b.0.1 b.0.0 b.1 ∙ ap (λ t. b.0.0 ∷ t) (behind_is (codes "diff") b.0.1 c.0 c.1 ∙ ap (λ t. codes "diff" ∷ t) (first_again c.0 d.0.1 d.0.0 d.1 ∙ ap (λ t. d.0.0 ∷ t) (nothing_is d.0.1 all.1)))) in
    subst (λ (y : List ℕ × List ℕ). AreTerminals ws y.0 y.1) last.1 (record { whole = whole; gate_named = names.0; diff_named = names.1 })

ends_again : (gate diff : List ℕ) → is_wire_name gate ≡ true → is_wire_name diff ≡ true → terminals_at (codes "gate" ∷ gate ∷ codes "diff" ∷ diff ∷ []) ≡ Some (gate, diff)
unfolding terminals_at
ends_again gate diff g d = rw (g, d) refl

fet_takes : (line : List ℕ) (ws : List (List ℕ)) (s : Statement) → HasWords false true line (codes "fet" ∷ ws) → fet_at ws ≡ Some s → SpellsLine line s
unfolding fet_at
fet_takes line ws s h e =
    let a = bind_some (first_of ws) (λ first. kind_at first.0 >>= λ kind. parse first.1 >>= λ x. terminals_at x.1 >>= λ ends. Some (fet kind x.0 ends.0 ends.1)) s e in
    let b = bind_some (kind_at a.0.0) (λ kind. parse a.0.1 >>= λ x. terminals_at x.1 >>= λ ends. Some (fet kind x.0 ends.0 ends.1)) s a.2 in
    let c = bind_some (parse a.0.1) (λ x. terminals_at x.1 >>= λ ends. Some (fet b.0 x.0 ends.0 ends.1)) s b.2 in
    let d = bind_some (terminals_at c.0.1) (λ ends. Some (fet b.0 c.0.0 ends.0 ends.1)) s c.2 in
    let read = parse_takes a.0.1 c.0.0 c.0.1 c.1 in
    let ends = ends_take c.0.1 d.0.0 d.0.1 d.1 in
    let same : fet b.0 c.0.0 d.0.0 d.0.1 ≡ s = cc in
    let whole : ws ≡ kind_word b.0 ∷ (sum_words c.0.0 ++ (codes "gate" ∷ d.0.0 ∷ codes "diff" ∷ d.0.1 ∷ [])) = first_again ws a.0.1 a.0.0 a.1 ∙ λ i. kind_takes a.0.0 b.0 b.1 i ∷ (read.whole ∙ ap (λ r. sum_words c.0.0 ++ r) ends.whole) i in
    subst (SpellsLine line) same (record { words = record { counts = h.counts; kind = h.kind; cut_so = h.cut_so ∙ ap (λ t. codes "fet" ∷ t) whole }; layers = read.named; gate_named = ends.gate_named; diff_named = ends.diff_named })

fet_again : (k : Kind) (e : Sum) (gate diff : List ℕ) → names_sum e ≡ true → is_wire_name gate ≡ true → is_wire_name diff ≡ true → fet_at (kind_word k ∷ (sum_words e ++ (codes "gate" ∷ gate ∷ codes "diff" ∷ diff ∷ []))) ≡ Some (fet k e gate diff)
unfolding fet_at
fet_again k e gate diff h g d = rw (kind_again k, parse_again e (codes "gate" ∷ gate ∷ codes "diff" ∷ diff ∷ []) h (record { factors = refl; products = refl }), ends_again gate diff g d) refl

label_takes : (line : List ℕ) (ws : List (List ℕ)) (s : Statement) → HasWords false true line (codes "label" ∷ ws) → label_at ws ≡ Some s → SpellsLine line s
unfolding label_at
label_takes line [] s h e = cc
label_takes line (l ∷ ws) s h e =
    let last = guarded (is_short l && are_wires ws) (label l ws) s e in
    let all = and_parts (is_short l) (are_wires ws) last.0 in
    subst (SpellsLine line) last.1 (record { words = h; short = all.0; named = wires_are ws all.1 })

label_again : (l : List ℕ) (ws : List (List ℕ)) → is_short l ≡ true → AreWires ws → label_at (l ∷ ws) ≡ Some (label l ws)
unfolding label_at
label_again l ws h w = rw (h, wires_again ws w) refl

side_of : Bool → Side
side_of t = if t then High else Low

side_is : (w : List ℕ) (t : Bool) → bytes_eq w (codes "high") ≡ t → (t || bytes_eq w (codes "low")) ≡ true → w ≡ side_word (if t then High else Low)
side_is w true e h = bytes_are w (codes "high") e
side_is w false e h = bytes_are w (codes "low") h

supply_takes : (line : List ℕ) (ws : List (List ℕ)) (s : Statement) → is_skipped line ≡ false → is_supply_line line ≡ true → words_of false line ≡ ws → supply_at ws ≡ Some s → SpellsLine line s
unfolding supply_at
supply_takes line [] s c k h e = cc
supply_takes line (w ∷ names) s c k h e =
    let last = guarded (not (is_nothing names) && list_all is_name names) (supply (if bytes_eq w (codes "high") then High else Low) names) s e in
    let all = and_parts (not (is_nothing names)) (list_all is_name names) last.0 in
    let side = side_is w (bytes_eq w (codes "high")) refl (ap begins_supply (sym h) ∙ k) in
    subst (SpellsLine line) last.1 (record { words = record { counts = c; kind = k; cut_so = h ∙ ap (λ x. x ∷ names) side }; some = some_words names all.0; named = all.1 })

supply_again : (side : Side) (names : List (List ℕ)) → 0 < length names → list_all is_name names ≡ true → supply_at (side_word side ∷ names) ≡ Some (supply side names)
unfolding supply_at
supply_again High names some h = rw (has_some names some, h) refl
supply_again Low names some h = rw (has_some names some, h) refl

-- ---- the whole line

row_case : (line w : List ℕ) (ws : List (List ℕ)) (s : Statement) (a b c d : Bool) → bytes_eq w (codes "wire") ≡ a → bytes_eq w (codes "cut") ≡ b → bytes_eq w (codes "fet") ≡ c → bytes_eq w (codes "label") ≡ d → HasWords false true line (w ∷ ws) → (if a then wire_at ws else if b then cut_at ws else if c then fet_at ws else if d then label_at ws else None) ≡ Some s → SpellsLine line s
row_case line w ws s true b c d ea eb ec ed h e = wire_takes line ws s (subst (λ x. HasWords false true line (x ∷ ws)) (bytes_are w (codes "wire") ea) h) e
row_case line w ws s false true c d ea eb ec ed h e = cut_takes line ws s (subst (λ x. HasWords false true line (x ∷ ws)) (bytes_are w (codes "cut") eb) h) e
row_case line w ws s false false true d ea eb ec ed h e = fet_takes line ws s (subst (λ x. HasWords false true line (x ∷ ws)) (bytes_are w (codes "fet") ec) h) e
row_case line w ws s false false false true ea eb ec ed h e = label_takes line ws s (subst (λ x. HasWords false true line (x ∷ ws)) (bytes_are w (codes "label") ed) h) e
row_case line w ws s false false false false ea eb ec ed h e = cc

row_takes : (line : List ℕ) (ws : List (List ℕ)) (s : Statement) → HasWords false true line ws → row_at ws ≡ Some s → SpellsLine line s
unfolding row_at
row_takes line [] s h e = cc
row_takes line (w ∷ ws) s h e = row_case line w ws s (bytes_eq w (codes "wire")) (bytes_eq w (codes "cut")) (bytes_eq w (codes "fet")) (bytes_eq w (codes "label")) refl refl refl refl h e

line_case : (line : List ℕ) (s : Statement) (a b : Bool) → is_skipped line ≡ a → is_supply_line line ≡ b → (if a then Some nothing else if b then supply_at (words_of false line) else row_at (words_of true line)) ≡ Some s → SpellsLine line s
line_case line s true b ea eb e = subst (SpellsLine line) (let same : nothing ≡ s = cc in same) ea
line_case line s false true ea eb e = supply_takes line (words_of false line) s ea eb refl e
line_case line s false false ea eb e = row_takes line (words_of true line) s (record { counts = ea; kind = eb; cut_so = refl }) e

pub said_takes : (line : List ℕ) (s : Statement) → said_at line ≡ Some s → SpellsLine line s
unfolding said_at
said_takes line s e = line_case line s (is_skipped line) (is_supply_line line) refl refl e

read_row : (line : List ℕ) (ws : List (List ℕ)) (s : Statement) → HasWords false true line ws → row_at ws ≡ Some s → said_at line ≡ Some s
unfolding said_at
read_row line ws s h e = (λ i. if h.counts i then Some nothing else if h.kind i then supply_at (words_of false line) else row_at (h.cut_so i)) ∙ e

wire_row : (ws : List (List ℕ)) → row_at (codes "wire" ∷ ws) ≡ wire_at ws
unfolding row_at
wire_row ws = refl

cut_row : (ws : List (List ℕ)) → row_at (codes "cut" ∷ ws) ≡ cut_at ws
unfolding row_at
cut_row ws = refl

fet_row : (ws : List (List ℕ)) → row_at (codes "fet" ∷ ws) ≡ fet_at ws
unfolding row_at
fet_row ws = refl

label_row : (ws : List (List ℕ)) → row_at (codes "label" ∷ ws) ≡ label_at ws
unfolding row_at
label_row ws = refl

pub said_again : (line : List ℕ) (s : Statement) → SpellsLine line s → said_at line ≡ Some s
unfolding said_at
said_again line nothing h = ap (λ t. if t then Some nothing else if is_supply_line line then supply_at (words_of false line) else row_at (words_of true line)) h
said_again line (wire name e) h = read_row line _ _ h.words (wire_row (name ∷ sum_words e) ∙ wire_again name e h.named h.layers)
said_again line (cut e wires) h = read_row line _ _ h.words (cut_row _ ∙ cut_again e wires h.layers h.named)
said_again line (fet k e gate diff) h = read_row line _ _ h.words (fet_row _ ∙ fet_again k e gate diff h.layers h.gate_named h.diff_named)
said_again line (label l wires) h = read_row line _ _ h.words (label_row _ ∙ label_again l wires h.short h.named)
said_again line (supply side names) h = (λ i. if h.words.counts i then Some nothing else if h.words.kind i then supply_at (h.words.cut_so i) else row_at (words_of true line)) ∙ supply_again side names h.some h.named
