-- The search at the cells round a point.
use Rattle.std.proofs.Common.{◌≡◌, ℕ, ◌+◌, ◌==◌, inl, inr, Bool, true, false, List, Option, Some, None, slice_get, if◌then◌else◌, refl, sym, subst, arith}
use Rattle.std.specs.Option.{MatchOption}
use Rattle.std.proofs.lemmas.Bool.{both_ways, eqb-true}
use Rattle.plane_geom.specs.declared.shapes.Point.{Point}
use Rattle.switch_net.specs.declared.NetId.{NetId}
use Rattle.net_trace.specs.Touching.{Nets, has_node}
use Rattle.net_trace.specs.Nets.{IsNetNumber, node_at}
use Rattle.layout_extract.specs.declared.around.Near.{Near}
use Rattle.layout_extract.specs.declared.around.Near.TheVariants.{Nothing, One, Two}
use Rattle.layout_extract.specs.Binding.{HasNodeIn, HasNoNodeIn, AreOneNet, AreTwoNets, IsAround, more}
use Rattle.layout_extract.proofs.Places.{one_at}
use Rattle.net_trace.proofs.Lists.{last_or_before}

module _ (nets : Nets) (wire : ℕ) (cells : List Point) (i : ℕ) (c : Point) (at : slice_get cells i ≡ Some c) where
  later : (cell : Point) (net : ℕ) → HasNodeIn nets wire cells i cell net → HasNodeIn nets wire cells (i + 1) cell net
  later cell net h = let lt = h.early in record { k = h.k; early = omega (arith, lt); at = h.at; number = h.number }

  new : (net : ℕ) → IsNetNumber nets (node_at wire c.x c.y) net → HasNodeIn nets wire cells (i + 1) c net
  new net number = record { k = i; early = omega arith; at = at; number = number }

  none_more : has_node nets wire c.x c.y ≡ false → HasNoNodeIn nets wire cells i → HasNoNodeIn nets wire cells (i + 1)
  none_more lacks h = record {
    none = λ k d lt at_k. elim (last_or_before k i lt) [
      | inl less ↦ h.none k d less at_k
      | inr same ↦ subst (λ (e : Point). has_node nets wire e.x e.y ≡ false) (sym (one_at cells k i d c same at_k at)) lacks
    ];
  }

  one_none : (net : ℕ) → has_node nets wire c.x c.y ≡ false → AreOneNet nets wire cells i net → AreOneNet nets wire cells (i + 1) net
  one_none net lacks h = record {
    each = λ k d lt at_k yes. elim (last_or_before k i lt) [
      | inl less ↦ h.each k d less at_k yes
      | inr same ↦ absurd (both_ways (has_node nets wire c.x c.y) lacks (subst (λ (e : Point). has_node nets wire e.x e.y ≡ true) (one_at cells k i d c same at_k at) yes))
    ];
  }

  one_more : (net : ℕ) → IsNetNumber nets (node_at wire c.x c.y) net → AreOneNet nets wire cells i net → AreOneNet nets wire cells (i + 1) net
  one_more net number h = record {
    each = λ k d lt at_k yes. elim (last_or_before k i lt) [
      | inl less ↦ h.each k d less at_k yes
      | inr same ↦ subst (λ (e : Point). IsNetNumber nets (node_at wire e.x e.y) net) (sym (one_at cells k i d c same at_k at)) number
    ];
  }

  one_new : (net : ℕ) → IsNetNumber nets (node_at wire c.x c.y) net → HasNoNodeIn nets wire cells i → AreOneNet nets wire cells (i + 1) net
  one_new net number h = record {
    each = λ k d lt at_k yes. elim (last_or_before k i lt) [
      | inl less ↦ absurd (both_ways (has_node nets wire d.x d.y) (h.none k d less at_k) yes)
      | inr same ↦ subst (λ (e : Point). IsNetNumber nets (node_at wire e.x e.y) net) (sym (one_at cells k i d c same at_k at)) number
    ];
  }

  two_more : AreTwoNets nets wire cells i → AreTwoNets nets wire cells (i + 1)
  two_more h = record { c = h.c; d = h.d; m = h.m; n = h.n; one = later h.c h.m h.one; other = later h.d h.n h.other; apart = h.apart }

  by_number : (first : Point) (other net : NetId) (b : Bool) → (other.0 == net.0) ≡ b → IsNetNumber nets (node_at wire c.x c.y) net.0 → IsAround nets wire cells i (One first other)
      → IsAround nets wire cells (i + 1) (if b then One first other else Two)
  by_number first other net true same number h = (later first other.0 h.0, one_more other.0 (subst (λ n. IsNetNumber nets (node_at wire c.x c.y) n) (sym (eqb-true other.0 net.0 same)) number) h.1)
  by_number first other net false apart number h = record {
    c = first;
    d = c;
    m = other.0;
    n = net.0;
    one = later first other.0 h.0;
    other = new net.0 number;
    apart = λ same. grind (arith, apart, same);
  }

  pub around_more : (near : Near) (found : Option NetId) → MatchOption found (has_node nets wire c.x c.y ≡ false) (λ n. IsNetNumber nets (node_at wire c.x c.y) n.0)
      → IsAround nets wire cells i near → IsAround nets wire cells (i + 1) (more near c found)
  around_more Nothing None lacks h = none_more lacks h
  around_more (One first other) None lacks h = (later first other.0 h.0, one_none other.0 lacks h.1)
  around_more Two None lacks h = two_more h
  around_more Nothing (Some net) number h = (new net.0 number, one_new net.0 number h)
  around_more (One first other) (Some net) number h = by_number first other net (other.0 == net.0) refl number h
  around_more Two (Some net) number h = two_more h
