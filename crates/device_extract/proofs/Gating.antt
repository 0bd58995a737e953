-- Channel cells with no gate, line by line.
use Rattle.std.proofs.Common.{◌≡◌, ℕ, zero, suc, ◌+◌, ◌<◌, ◌≤◌, Bool, true, false, not, ◌&&◌, List, [], length, refl, sym, ap, ◌∙◌, subst, arith, inl, inr, slice_get, get_or, Some, ◌==◌}
use Rattle.std.specs.Prelude.{ℤ}
use Rattle.std.specs.declared.cmp.Ordering.TheVariants.{Less}
use Rattle.std.specs.Ordering.{int_cmp, ordering_then}
use Rattle.std.proofs.lemmas.Bool.{cases_order, and_parts, and_from, eq-eqb}
use Rattle.std.proofs.lemmas.Int.{ints}
use Rattle.std.proofs.lemmas.Option.{slice_get_within, get_or_from_slice_get}
use Rattle.link_classes.proofs.TableNumbers.{nat_less}
use Rattle.link_classes.proofs.UniqueNumbers.{some_one}
use Rattle.plane_geom.specs.declared.shapes.Point.{Point}
use Rattle.layer_map.specs.Plan.{Plan}
use Rattle.layer_map.specs.Plan as layers
use Rattle.mask_region.specs.declared.strips.Strip.{Strip}
use Rattle.mask_region.specs.Strips.{MaskLists, is_in_strip, is_in, IsStrip, Follows, Banded}
use Rattle.mask_region.proofs.Searching.{follows_at}
use Rattle.net_trace.specs.declared.wiring.Vertex.{Vertex}
use Rattle.net_trace.specs.Touching.{is_in_wire, has_node}
use Rattle.net_trace.specs.Nets.{node_cmp, node_at}
use Rattle.net_trace.specs.Wirings.{corner}
use Rattle.net_trace.proofs.Lists.{not_both_ways}
use Rattle.net_trace.proofs.NodeOrder.{corner_before, corner_least}
use Rattle.net_trace.proofs.TracedNets.{not_before}
use Rattle.net_trace.proofs.TracedStart.{less_both}
use Rattle.net_trace.proofs.VertexFacts.{strip_with, in_region}
use Rattle.net_trace.proofs.VertexLists.{strip_in}
use Rattle.device_extract.specs.Channels.{wire_plane, IsUngated, AreGated, IsFirstUngated, IsLeastIn}

-- ---- the least cell of a region

pub least_none : (strips : List Strip) → strips ≡ [] → (x y : ℤ) → is_in strips x y ≡ false
least_none strips is x y = ap (λ (l : List Strip). is_in l x y) is

module _ (strips : List Strip) (s : Strip) (banded : Banded strips) (at : slice_get strips 0 ≡ Some s) where
  vertex : ℕ → Strip → Vertex
  vertex w t = record { wire = w; strip = t }

  strip_s : IsStrip s
  strip_s = strip_in strips 0 s banded.each at

  before : (w k : ℕ) (t : Strip) → slice_get strips k ≡ Some t → node_cmp (corner (record { wire = w; strip = t })) (corner (record { wire = w; strip = s })) ≡ Less → ⊥
  before w zero t at_t less =
      let same : t ≡ s = some_one t s (sym at_t ∙ at) in
      less_both (corner (record { wire = w; strip = t })) (corner (record { wire = w; strip = s })) less
      (subst (λ (r : Strip). node_cmp (corner (record { wire = w; strip = s })) (corner (record { wire = w; strip = r })) ≡ Less) (sym same)
      (subst (λ (r : Strip). node_cmp (corner (record { wire = w; strip = r })) (corner (record { wire = w; strip = s })) ≡ Less) same less))
  before w (suc k) t at_t less =
      let lt = slice_get_within strips (suc k) t at_t in
      let follows : Follows s t = subst (λ (r : Strip). Follows r t) (get_or_from_slice_get strips 0 s s at) (subst (λ (r : Strip). Follows (get_or strips 0 s) r) (get_or_from_slice_get strips (suc k) t s at_t) (follows_at strips 0 (suc k) s banded.each (omega arith) lt)) in
      less_both (corner (record { wire = w; strip = t })) (corner (record { wire = w; strip = s })) less
      (corner_before (record { wire = w; strip = s }) (record { wire = w; strip = t }) strip_s (inr (refl, follows)))

  pub least_corner : (cell : Point) → cell.x ≡ s.x0 → cell.y ≡ s.y0 → IsLeastIn strips cell
  least_corner cell is_x is_y = record {
    has = ap (λ (x : ℤ). is_in strips x cell.y) is_x ∙ ap (λ (y : ℤ). is_in strips s.x0 y) is_y ∙ in_region strips 0 s s.x0 s.y0 at own;
    least = λ w x y here less.
        let (k, t, at_t, in_t) = strip_with strips x y here in
        let moved : node_cmp (node_at w x y) (corner (record { wire = w; strip = s })) ≡ Less =
        ap (λ (a : ℤ). node_cmp (node_at w x y) (node_at w a s.y0)) (sym is_x) ∙ ap (λ (b : ℤ). node_cmp (node_at w x y) (node_at w cell.x b)) (sym is_y) ∙ less in
        not_before (corner (record { wire = w; strip = t })) (node_at w x y) (corner (record { wire = w; strip = s }))
        (corner_least (record { wire = w; strip = t }) (node_at w x y) (and_from (w == w) (is_in_strip t x y) (eq-eqb w w refl) in_t)) (before w k t at_t) moved;
  } where
    own : is_in_strip s s.x0 s.y0 ≡ true
    own = let wide = strip_s.wide in let high = strip_s.high in grind (arith, ints)

-- ---- line by line

-- No channel cell of the first n lines is ungated.
pub record AreGatedTo (plan : Plan) (masks : MaskLists) (n : ℕ) : Type 0 where
  pub each : (line : ℕ) (x y : ℤ) → line < n → IsUngated plan masks line x y → ⊥

pub gated_none : (plan : Plan) (masks : MaskLists) → AreGatedTo plan masks 0
gated_none plan masks = record { each = λ line x y lt. absurd (omega (arith, lt)) }

pub gated_all : (plan : Plan) (masks : MaskLists) (n : ℕ) → length plan.fets ≤ n → AreGatedTo plan masks n → AreGated plan masks
gated_all plan masks n le h = record { each = λ line x y bad. h.each line x y (omega (arith, le, slice_get_within plan.fets line bad.fet bad.at)) bad }

less_line : (k m : ℕ) (x y i j : ℤ) → k < m → node_cmp (node_at k x y) (node_at m i j) ≡ Less
less_line k m x y i j lt = ap (λ o. ordering_then o (ordering_then (int_cmp y j) (int_cmp x i))) (nat_less k m lt)

module _ (plan : Plan) (masks : MaskLists) (n : ℕ) (fet : layers.Fet) (channel gate bare : List Strip) (at : slice_get plan.fets n ≡ Some fet) (at_channel : slice_get masks.channels n ≡ Some channel)
    (at_gate : slice_get masks.wires fet.gate ≡ Some gate) (cells : (x y : ℤ) → is_in bare x y ≡ (is_in channel x y && not (is_in gate x y))) (h : AreGatedTo plan masks n) where
  bare_has : (x y : ℤ) → IsUngated plan masks n x y → is_in bare x y ≡ true
  bare_has x y bad =
      let same : bad.fet ≡ fet = some_one bad.fet fet (sym bad.at ∙ at) in
      let has : is_in channel x y ≡ true = ap (λ o. is_in_wire o x y) (sym at_channel) ∙ bad.channel in
      let none : is_in gate x y ≡ false = ap (λ o. is_in_wire o x y) (sym at_gate) ∙ ap (λ (f : layers.Fet). has_node (wire_plane masks) f.gate x y) (sym same) ∙ bad.bare in
      cells x y ∙ (λ i. has i && not (none i))

  pub gated_more : ((x y : ℤ) → is_in bare x y ≡ false) → AreGatedTo plan masks (n + 1)
  gated_more none = record {
    each = λ line x y lt bad. elim (cases_order line n) [
      | inl same ↦ not_both_ways (is_in bare x y) (bare_has x y (subst (λ m. IsUngated plan masks m x y) same bad)) (none x y)
      | inr (inl less) ↦ h.each line x y less bad
      | inr (inr more) ↦ absurd (omega (arith, lt, more))
    ];
  }

  pub first_bare : (cell : Point) → IsLeastIn bare cell → IsFirstUngated plan masks cell
  first_bare cell least = record {
    line = n;
    is = record { fet = fet; at = at; channel = ap (λ o. is_in_wire o cell.x cell.y) at_channel ∙ here.0; bare = ap (λ o. is_in_wire o cell.x cell.y) at_gate ∙ not_true (is_in gate cell.x cell.y) here.1 };
    first = λ m x y bad less. elim (cases_order m n) [
      | inl same ↦ least.least n x y (bare_has x y (subst (λ l. IsUngated plan masks l x y) same bad)) (ap (λ l. node_cmp (node_at l x y) (node_at n cell.x cell.y)) (sym same) ∙ less)
      | inr (inl earlier) ↦ h.each m x y earlier bad
      | inr (inr later) ↦ less_both (node_at m x y) (node_at n cell.x cell.y) less (less_line n m cell.x cell.y x y later)
    ];
  } where
    here : (is_in channel cell.x cell.y ≡ true) × (not (is_in gate cell.x cell.y) ≡ true)
    here = and_parts (is_in channel cell.x cell.y) (not (is_in gate cell.x cell.y)) (sym (cells cell.x cell.y) ∙ least.has)

    not_true : (b : Bool) → not b ≡ true → b ≡ false
    not_true true e = let none : ⊥ = cc in absurd none
    not_true false e = refl
