-- The lines of bridges, one by one.
use Rattle.std.proofs.Common.{◌≡◌, ℕ, suc, ◌+◌, ◌<◌, List, [], ◌∷◌, ◌++◌, length, take, drop, get_or, map, sym, ◌∙◌, ap, subst, arith, append_assoc}
use Rattle.std.specs.Prelude.{codes}
use Rattle.std.proofs.lemmas.List.{take_more, take-append-drop, drop_more, length-take-le, append-nil}
use Rattle.probe_io.specs.Devices.{SinkState, IsPut, IsCut}
use Rattle.probe_io.proofs.Putting.{put_after, cut_after, cut_more}
use Rattle.layer_map.specs.declared.map.WireLine.{WireLine}
use Rattle.layer_map.specs.Plan.{Plan, Wire, wire_names}
use Rattle.layer_map.specs.Views.{wire_seen}
use Rattle.layout_extract.specs.Layouts.{NamedNets}
use Rattle.defect_sweep.specs.declared.sides.SideWeight.{SideWeight}
use Rattle.defect_sweep.specs.Counting.{BridgeCount}
use Rattle.bridge_rank.specs.Lines.{line_names, bridge_line}
use Rattle.bridges_command.specs.Report.{header, bridge_lines, tally, report_text}
use Rattle.bridges_command.specs.Command.{tallies_of}
use Rattle.bridges_command.specs.Views.{tallied}

-- the line of the bridge at this place in the list
abbrev pub line_at : List (List ℕ) → List (List ℕ) → ℕ → BridgeCount → List ℕ
line_at wires names place bridge = bridge_line wires names place bridge (codes "\n")

-- lines after lines
bridge_lines-append : (wires names : List (List ℕ)) (place : ℕ) (xs ys : List BridgeCount)
    → bridge_lines wires names place (xs ++ ys) ≡ bridge_lines wires names place xs ++ bridge_lines wires names (place + length xs) ys
bridge_lines-append wires names place [] ys = ap (λ n. bridge_lines wires names n ys) (omega arith)
bridge_lines-append wires names place (x ∷ xs) ys =
    ap (λ t. line_at wires names place x ++ t)
    (bridge_lines-append wires names (suc place) xs ys ∙ ap (λ n. bridge_lines wires names (suc place) xs ++ bridge_lines wires names n ys) (omega arith))
    ∙ sym (append_assoc (line_at wires names place x) (bridge_lines wires names (suc place) xs) (bridge_lines wires names (place + suc (length xs)) ys))

-- the lines before one, that line, and those after it
lines_at : (wires names : List (List ℕ)) (ranked : List BridgeCount) (i : ℕ) (d : BridgeCount) → i < length ranked
    → bridge_lines wires names 1 ranked
    ≡ bridge_lines wires names 1 (take i ranked) ++ (line_at wires names (i + 1) (get_or ranked i d) ++ bridge_lines wires names (suc (i + 1)) (drop (i + 1) ranked))
lines_at wires names ranked i d within =
    ap (λ xs. bridge_lines wires names 1 xs) (sym (take-append-drop i ranked)) ∙ bridge_lines-append wires names 1 (take i ranked) (drop i ranked)
    ∙ ap (λ n. bridge_lines wires names 1 (take i ranked) ++ bridge_lines wires names n (drop i ranked)) (omega (arith, length-take-le i ranked))
    ∙ ap (λ xs. bridge_lines wires names 1 (take i ranked) ++ bridge_lines wires names (i + 1) xs) (drop_more ranked i d within)

lines_more : (wires names : List (List ℕ)) (ranked : List BridgeCount) (i : ℕ) (d : BridgeCount) → i < length ranked
    → bridge_lines wires names 1 (take (i + 1) ranked) ≡ bridge_lines wires names 1 (take i ranked) ++ line_at wires names (i + 1) (get_or ranked i d)
lines_more wires names ranked i d within =
    ap (λ xs. bridge_lines wires names 1 xs) (take_more ranked i d within) ∙ bridge_lines-append wires names 1 (take i ranked) (get_or ranked i d ∷ [])
    ∙ ap (λ n. bridge_lines wires names 1 (take i ranked) ++ bridge_lines wires names n (get_or ranked i d ∷ [])) (omega (arith, length-take-le i ranked))
    ∙ ap (λ t. bridge_lines wires names 1 (take i ranked) ++ t) (append-nil (line_at wires names (i + 1) (get_or ranked i d)))

-- the same of an equal text
pub put_is : {a b : List ℕ} {s t : SinkState} → a ≡ b → IsPut a s t → IsPut b s t
put_is {s = s} {t = t} same put = subst (λ text. IsPut text s t) same put

-- the loop wrote one more line
pub put_line : {s t u : SinkState} (wires names : List (List ℕ)) (ranked : List BridgeCount) (i : ℕ) (d : BridgeCount) → i < length ranked → t.strict ≡ s.strict
    → IsPut (bridge_lines wires names 1 (take i ranked)) s t → IsPut (line_at wires names (i + 1) (get_or ranked i d)) t u
    → IsPut (bridge_lines wires names 1 (take (i + 1) ranked)) s u
put_line wires names ranked i d within same first next = rw (lines_more wires names ranked i d within) (put_after same first next)

-- the loop wrote a prefix of one more line
pub cut_line : {s t u : SinkState} (wires names : List (List ℕ)) (ranked : List BridgeCount) (i : ℕ) (d : BridgeCount) → i < length ranked
    → IsPut (bridge_lines wires names 1 (take i ranked)) s t → IsCut (line_at wires names (i + 1) (get_or ranked i d)) t u → IsCut (bridge_lines wires names 1 ranked) s u
cut_line wires names ranked i d within first next =
    rw (lines_at wires names ranked i d within) (cut_after first (cut_more (bridge_lines wires names (suc (i + 1)) (drop (i + 1) ranked)) next))

-- ---- the names of wires

each_name : (lines : List WireLine) → line_names lines ≡ map (λ (w : Wire). w.name) (map wire_seen lines)
each_name [] = λ i. []
each_name (line ∷ lines) = λ i. line.name ∷ each_name lines i

names_of_lines : (lines : List WireLine) (plan : Plan) → map wire_seen lines ≡ plan.wires → line_names lines ≡ wire_names plan
names_of_lines lines plan same = each_name lines ∙ ap (λ (ws : List Wire). map (λ (w : Wire). w.name) ws) same

-- ---- the whole text

pub text_is : (sides others : List SideWeight) (lines : List WireLine) (plan : Plan) (names : List (List ℕ)) (named : NamedNets) (numbers : ℕ × ℕ × ℕ) (ranked list : List BridgeCount) (nets bridges : ℕ)
    → sides ≡ others → map wire_seen lines ≡ plan.wires → names ≡ named.names → numbers ≡ (named.bound, named.unbound, named.deep) → ranked ≡ list
    → nets ≡ length named.names → bridges ≡ length list
    → header sides nets (tallied numbers) bridges ++ (bridge_lines (line_names lines) names 1 ranked ++ tally bridges)
    ≡ report_text others (wire_names plan) named.names (tallies_of named) list
text_is sides others lines plan names named numbers ranked list nets bridges widths wires same tallies lists count many =
    λ i. header (widths i) (count i) (tallied (tallies i)) (many i) ++ (bridge_lines (names_of_lines lines plan wires i) (same i) 1 (lists i) ++ tally (many i))
