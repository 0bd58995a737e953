-- The facts of traced and of joined nets, put together from those of the calls.
use Rattle.std.proofs.Common.{◌≡◌, ℕ, zero, suc, ◌<◌, ◌≤◌, List, [], ◌∷◌, length, map, refl, sym, ap, ◌∙◌, subst, arith, slice_get, slice_index, Some}
use Rattle.std.specs.Prelude.{IfOk, Result, Ok, Err}
use Rattle.std.specs.List.{All, AllByRecursion, AllZip}
use Rattle.std.proofs.lemmas.List.{take_all}
use Rattle.std.proofs.lemmas.List.Elements.{All-from_recursion, recursion_from_All, All-weaker}
use Rattle.std.proofs.lemmas.Option.{slice_get_within}
use Rattle.link_classes.specs.Classes.{has_pair, AreClasses}
use Rattle.layer_map.specs.declared.map.CutLine.{CutLine}
use Rattle.layer_map.specs.Plan.{Plan}
use Rattle.layer_map.specs.Views.{cut_seen, numbers_seen}
use Rattle.mask_region.specs.declared.strips.Strip.{Strip}
use Rattle.mask_region.specs.Strips.{MaskLists}
use Rattle.switch_net.specs.declared.NetId.{NetId}
use Rattle.net_trace.specs.declared.node.Node.{Node}
use Rattle.net_trace.specs.declared.wiring.Vertex.{Vertex}
use Rattle.net_trace.specs.Touching.{Cut, Nets, cuts_of, traced_nets, cuts_with}
use Rattle.net_trace.specs.Nets.{IsJoinedBy, HasMoreNets}
use Rattle.net_trace.specs.Wirings.{vertices_of, AreAllBanded, AreEdges, IsSound, IsTraced, AreCorners, ArePicked, AreRenumbered, AreEndsOf}
use Rattle.net_trace.proofs.NetNumbers.{net_count}
use Rattle.net_trace.proofs.TracedNets.{roots_are, count_of}
use Rattle.net_trace.proofs.TracedStart.{traced_start}
use Rattle.net_trace.proofs.JoinedNets.{traced_joined}
use Rattle.net_trace.proofs.ListReads.{same_default}

pub least_below : (size : ℕ) (pairs : List (ℕ × ℕ)) (label least : List ℕ) → AreClasses size (has_pair pairs) label least → All (λ k. k < size) least
least_below size pairs label least h k d lt = omega (arith, same_default least k d lt, h.inside k lt)

-- there are no more classes than numbers
pub least_few : (size : ℕ) (pairs : List (ℕ × ℕ)) (label least : List ℕ) → AreClasses size (has_pair pairs) label least → length least ≤ size
least_few size pairs label least h = by_last (length least) refl
  where
    up : (k : ℕ) → k < length least → k ≤ slice_index least k
    up zero lt = omega arith
    up (suc k) lt = omega (arith, up k (omega (arith, lt)), h.rising k (suc k) (omega arith) lt)

    by_last : (n : ℕ) → length least ≡ n → length least ≤ size
    by_last zero is = omega (arith, is)
    by_last (suc n) is = let lt : n < length least = omega (arith, is) in omega (arith, is, up n lt, h.inside n lt)

pub trace_made : (wires : List (List Strip)) (cuts cuts' : List Cut) (joins : List (Node × Node)) (first second : List Vertex) (pairs pairs' : List (ℕ × ℕ)) (label least least' : List ℕ) (roots : List Node) → AreAllBanded wires
    → first ≡ vertices_of 0 wires → second ≡ vertices_of 0 wires → cuts' ≡ cuts → pairs' ≡ pairs → least' ≡ least → joins ≡ []
    → AreEdges (record { wires = wires; cuts = cuts'; joins = [] }) (vertices_of 0 wires) pairs → AreClasses (length first) (has_pair pairs') label least → AreCorners second least' (length least') roots
    → IsTraced (record { wires = wires; cuts = cuts; joins = joins }) label roots
trace_made wires cuts cuts' joins first second pairs pairs' label least least' roots banded is_first is_second is_cuts is_pairs is_least is_joins edges classes corners =
    subst (λ (j : List (Node × Node)). IsTraced (record { wires = wires; cuts = cuts; joins = j }) label roots) (sym is_joins)
    (traced_start wires cuts banded pairs label least roots
    (subst (λ (c : List Cut). AreEdges (record { wires = wires; cuts = c; joins = [] }) (vertices_of 0 wires) pairs) is_cuts edges)
    (subst (λ (l : List Vertex). AreClasses (length l) (has_pair pairs) label least) is_first (subst (λ (p : List (ℕ × ℕ)). AreClasses (length first) (has_pair p) label least) is_pairs classes))
    (subst (λ (l : List Vertex). AreCorners l least (length least) roots) is_second (subst (λ (l : List ℕ). AreCorners second l (length l) roots) is_least corners)))

-- the pairs are of numbers of strips
pub edges_inside : (nets : Nets) (vertices from : List Vertex) (pairs to : List (ℕ × ℕ)) → from ≡ vertices → to ≡ pairs → AreEdges nets vertices pairs → All (λ (p : ℕ × ℕ). (p.0 < length from) × (p.1 < length from)) to
edges_inside nets vertices from pairs to is_from is_to h =
    subst (λ (l : List (ℕ × ℕ)). All (λ (p : ℕ × ℕ). (p.0 < length from) × (p.1 < length from)) l) (sym is_to)
    (subst (λ (v : List Vertex). All (λ (p : ℕ × ℕ). (p.0 < length v) × (p.1 < length v)) pairs) (sym is_from)
    (All-weaker (IsSound nets vertices) (λ (p : ℕ × ℕ). (p.0 < length vertices) × (p.1 < length vertices)) (λ p s. (slice_get_within vertices p.0 s.from s.first, slice_get_within vertices p.1 s.to s.second)) pairs h.sound))

-- the labels, by equal lists of cuts and of joins
pub cuts_moved : (wires : List (List Strip)) (from to : List Cut) (joins : List (Node × Node)) (label : List ℕ) (roots : List Node) → from ≡ to → joins ≡ []
    → IsTraced (record { wires = wires; cuts = from; joins = [] }) label roots → IsTraced (record { wires = wires; cuts = to; joins = joins }) label roots
cuts_moved wires from to joins label roots is_cuts is_joins h =
    subst (λ (j : List (Node × Node)). IsTraced (record { wires = wires; cuts = to; joins = j }) label roots) (sym is_joins) (subst (λ (c : List Cut). IsTraced (record { wires = wires; cuts = c; joins = [] }) label roots) is_cuts h)

map_wires : (lines : List CutLine) → map (λ c. numbers_seen c.wires.items) lines ≡ map (λ c. c.wires) (map cut_seen lines)
map_wires [] = refl
map_wires (l ∷ lines) = ap (λ ws. numbers_seen l.wires.items ∷ ws) (map_wires lines)

pub cuts_made : (plan : Plan) (masks : MaskLists) (cuts : List Cut) (regions : List (List Strip)) (lines : List CutLine) → regions ≡ masks.cuts → map cut_seen lines ≡ plan.cuts → cuts ≡ cuts_with regions (map (λ c. numbers_seen c.wires.items) lines) → cuts ≡ cuts_of plan masks
cuts_made plan masks cuts regions lines is_regions is_lines is =
    is ∙ ap (λ r. cuts_with r (map (λ c. numbers_seen c.wires.items) lines)) is_regions ∙ ap (λ w. cuts_with masks.cuts w) (map_wires lines ∙ ap (λ cs. map (λ c. c.wires) cs) is_lines)

pub nets_made : (plan : Plan) (masks : MaskLists) (wires : List (List Strip)) (cuts : List Cut) (joins : List (Node × Node)) → wires ≡ masks.wires → cuts ≡ cuts_of plan masks → joins ≡ [] → record { wires = wires; cuts = cuts; joins = joins } ≡ traced_nets plan masks
nets_made plan masks wires cuts joins is_wires is_cuts is_joins = λ i. record { wires = is_wires i; cuts = is_cuts i; joins = is_joins i }

pub more_made : (nets named : Nets) (label : List ℕ) (roots : List Node) → nets ≡ named → AreAllBanded nets.wires → IsTraced nets label roots → 8192 < length roots → HasMoreNets named 8192
more_made nets named label roots is banded h more = subst (λ (n : Nets). HasMoreNets n 8192) is (record { count = length roots; is = count_of nets label roots banded h; more = more })

pub few_made : (nets named : Nets) (label : List ℕ) (roots : List Node) → named ≡ nets → AreAllBanded nets.wires → IsTraced nets label roots → length roots ≤ 8192 → HasMoreNets named 8192 → ⊥
few_made nets named label roots is banded h few more_ =
    let many : HasMoreNets nets 8192 = subst (λ (n : Nets). HasMoreNets n 8192) is more_ in
    let same = net_count nets many.count (length roots) many.is (count_of nets label roots banded h) in
    let lt = many.more in
    omega (arith, same, few, lt)

-- ---- joining

pub numbers_below : (n : ℕ) (pairs : List (NetId × NetId)) → All (λ (p : NetId × NetId). (p.0.0 < n) × (p.1.0 < n)) pairs → All (λ (p : ℕ × ℕ). (p.0 < n) × (p.1 < n)) (map (λ (p : NetId × NetId). (p.0.0, p.1.0)) pairs)
numbers_below n pairs h = All-from_recursion (λ (p : ℕ × ℕ). (p.0 < n) × (p.1 < n)) (map (λ (p : NetId × NetId). (p.0.0, p.1.0)) pairs) (each pairs (recursion_from_All (λ (p : NetId × NetId). (p.0.0 < n) × (p.1.0 < n)) pairs h))
  where
    each : (ps : List (NetId × NetId)) → AllByRecursion (λ (p : NetId × NetId). (p.0.0 < n) × (p.1.0 < n)) ps → AllByRecursion (λ (p : ℕ × ℕ). (p.0 < n) × (p.1 < n)) (map (λ (p : NetId × NetId). (p.0.0, p.1.0)) ps)
    each [] k = tt
    each (p ∷ ps) k = (k.0, each ps k.1)

pub whole_ends : (roots : List Node) (pairs : List (ℕ × ℕ)) (old new : List (Node × Node)) (h : AreEndsOf roots pairs (length pairs) old new) → AllZip (λ p e. (slice_get roots p.0 ≡ Some e.0) × (slice_get roots p.1 ≡ Some e.1)) pairs h.ends
whole_ends roots pairs old new h = subst (λ (l : List (ℕ × ℕ)). AllZip (λ (p : ℕ × ℕ) (e : Node × Node). (slice_get roots p.0 ≡ Some e.0) × (slice_get roots p.1 ≡ Some e.1)) l h.ends) (take_all (length pairs) pairs (omega arith)) h.at

pub joined_made : (nets : Nets) (label : List ℕ) (roots : List Node) (pairs : List (ℕ × ℕ)) (joins : List (Node × Node)) (second least new_label : List ℕ) (new_roots : List Node) → AreAllBanded nets.wires → IsTraced nets label roots
    → AreEndsOf roots pairs (length pairs) nets.joins joins → AreClasses (length roots) (has_pair pairs) second least → AreRenumbered second label (length label) new_label → ArePicked roots least (length least) new_roots
    → IsTraced (record { wires = nets.wires; cuts = nets.cuts; joins = joins }) new_label new_roots
joined_made nets label roots pairs joins second least new_label new_roots banded h ends classes numbered picked =
    subst (λ (j : List (Node × Node)). IsTraced (record { wires = nets.wires; cuts = nets.cuts; joins = j }) new_label new_roots) (sym ends.added)
    (traced_joined nets label roots banded h pairs ends.ends (whole_ends roots pairs nets.joins joins ends) second least new_label new_roots classes numbered picked)

pub joined_by : (nets new : Nets) (label : List ℕ) (roots : List Node) (pairs : List (ℕ × ℕ)) (joins : List (Node × Node)) → AreAllBanded nets.wires → IsTraced nets label roots → AreEndsOf roots pairs (length pairs) nets.joins joins
    → new ≡ record { wires = nets.wires; cuts = nets.cuts; joins = joins } → IsJoinedBy nets pairs new
joined_by nets new label roots pairs joins banded h ends is = record {
  roots = roots;
  are = roots_are nets label roots banded h;
  ends = ends.ends;
  at = whole_ends roots pairs nets.joins joins ends;
  wires = ap (λ (n : Nets). n.wires) is;
  cuts = ap (λ (n : Nets). n.cuts) is;
  joins = ap (λ (n : Nets). n.joins) is ∙ ends.added;
}

pub if_ok_as : {T E : Type 0} (r : Result T E) (P Q : T → Type 0) → ((x : T) → P x → Q x) → IfOk r P → IfOk r Q
if_ok_as (Ok x) P Q f h = f x h
if_ok_as (Err e) P Q f h = tt

-- ---- the same facts of equal lists

pub ends_moved : (roots roots' : List Node) (pairs pairs' : List (ℕ × ℕ)) (old new : List (Node × Node)) → roots ≡ roots' → pairs ≡ pairs' → AreEndsOf roots pairs (length pairs) old new → AreEndsOf roots' pairs' (length pairs') old new
ends_moved roots roots' pairs pairs' old new is_roots is_pairs h = subst (λ (r : List Node). AreEndsOf r pairs' (length pairs') old new) is_roots (subst (λ (p : List (ℕ × ℕ)). AreEndsOf roots p (length p) old new) is_pairs h)

pub classes_moved : (size size' : ℕ) (pairs pairs' : List (ℕ × ℕ)) (label least : List ℕ) → size ≡ size' → pairs ≡ pairs' → AreClasses size (has_pair pairs) label least → AreClasses size' (has_pair pairs') label least
classes_moved size size' pairs pairs' label least is_size is_pairs h = subst (λ n. AreClasses n (has_pair pairs') label least) is_size (subst (λ (p : List (ℕ × ℕ)). AreClasses size (has_pair p) label least) is_pairs h)

pub numbered_moved : (second second' label label' new : List ℕ) → second ≡ second' → label ≡ label' → AreRenumbered second label (length label) new → AreRenumbered second' label' (length label') new
numbered_moved second second' label label' new is_second is_label h = subst (λ (s : List ℕ). AreRenumbered s label' (length label') new) is_second (subst (λ (l : List ℕ). AreRenumbered second l (length l) new) is_label h)

pub picked_moved : (from from' : List Node) (indices indices' : List ℕ) (nodes : List Node) → from ≡ from' → indices ≡ indices' → ArePicked from indices (length indices) nodes → ArePicked from' indices' (length indices') nodes
picked_moved from from' indices indices' nodes is_from is_indices h = subst (λ (f : List Node). ArePicked f indices' (length indices') nodes) is_from (subst (λ (i : List ℕ). ArePicked from i (length i) nodes) is_indices h)
