-- A layout is refused for one reason, and never has a list of transistors then.
use Rattle.std.proofs.Common.{◌≡◌, ℕ, ◌<◌, ◌≤◌, List, length, refl, sym, ap, ◌∙◌, subst, arith, inl, inr}
use Rattle.std.specs.Prelude.{ℤ}
use Rattle.std.specs.declared.cmp.Ordering.{Ordering}
use Rattle.std.specs.declared.cmp.Ordering.TheVariants.{Less, Equal, Greater}
use Rattle.std.specs.Ordering.{ordering_reverse}
use Rattle.std.proofs.lemmas.Bool.{cases_order}
use Rattle.plane_geom.specs.declared.shapes.Point.{Point}
use Rattle.switch_net.specs.declared.fets.Fet.{Fet}
use Rattle.layer_map.specs.Plan.{Plan}
use Rattle.mask_region.specs.Strips.{MaskLists}
use Rattle.net_trace.specs.declared.node.Node.{Node}
use Rattle.net_trace.specs.Touching.{Nets}
use Rattle.net_trace.specs.Nets.{node_cmp, node_at}
use Rattle.net_trace.proofs.NetNumbers.{net_below}
use Rattle.net_trace.proofs.NodeOrder.{node_total, node_equal}
use Rattle.device_extract.specs.declared.refusal.DeviceRefusal.{DeviceRefusal}
use Rattle.device_extract.specs.declared.refusal.DeviceRefusal.TheVariants.{UngatedChannel, NoTerminal, ManyTerminals, TooManyFets, NoMemory}
use Rattle.device_extract.specs.Channels.{channel_plane, IsCellOf, IsLeastCellOf, AreGated, IsFirstUngated}
use Rattle.device_extract.specs.Transistors.{IsTransistor, AreTransistors}
use Rattle.device_extract.specs.Refusals.{IsBare, IsCrowded, RefusesDevices}
use Rattle.device_extract.proofs.Listing.{element_at, two_of}
use Rattle.device_extract.proofs.OneList.{one_list}

-- two nodes of which neither comes before the other are one
one_node : (a b : Node) → (node_cmp a b ≡ Less → ⊥) → (node_cmp b a ≡ Less → ⊥) → a ≡ b
one_node a b not_less not_more = by_order (node_cmp a b) refl
  where
    by_order : (o : Ordering) → node_cmp a b ≡ o → a ≡ b
    by_order Less is = absurd (not_less is)
    by_order Equal is = node_equal a b is
    by_order Greater is = absurd (not_more (node_total.antisymm b a ∙ ap (λ o. ordering_reverse o) is))

one_cell : (p q : Point) (k m : ℕ) → node_at k p.x p.y ≡ node_at m q.x q.y → p ≡ q
one_cell p q k m same = λ i. record { x = (same i).x; y = (same i).y }

one_least : (masks : MaskLists) (t s : ℕ) (p q : Point) → t ≡ s → IsLeastCellOf masks t p → IsLeastCellOf masks s q → p ≡ q
one_least masks t s p q same first second =
    let other : IsLeastCellOf masks t q = subst (λ n. IsLeastCellOf masks n q) (sym same) second in
    one_cell p q first.line other.line (one_node (node_at first.line p.x p.y) (node_at other.line q.x q.y) (other.least first.line p.x p.y first.of) (first.least other.line q.x q.y other.of))

first_one : (t s : ℕ) → (t < s → ⊥) → (s < t → ⊥) → t ≡ s
first_one t s not_less not_more = elim (cases_order t s) [ inl same ↦ same | inr (inl less) ↦ absurd (not_less less) | inr (inr more) ↦ absurd (not_more more) ]

module _ (plan : Plan) (masks : MaskLists) (nets : Nets) where
  at_in : (fets : List Fet) (t line : ℕ) (x y : ℤ) → AreTransistors plan masks nets fets → IsCellOf masks t line x y → (fet : Fet) × IsTransistor plan masks nets t fet
  at_in fets t line x y are cell =
      let (fet, at) = element_at fets t (net_below (channel_plane masks) (node_at line x y) t (length fets) cell are.count) in
      (fet, are.each t fet at)

  not_bare : (fets : List Fet) (t : ℕ) → AreTransistors plan masks nets fets → IsBare plan masks nets t → ⊥
  not_bare fets t are bare = let (fet, is) = at_in fets t bare.line bare.x bare.y are bare.cell in bare.none fet.a.0 is.a

  not_crowded : (fets : List Fet) (t : ℕ) → AreTransistors plan masks nets fets → IsCrowded plan masks nets t → ⊥
  not_crowded fets t are h =
      let (fet, is) = at_in fets t h.first.line h.first.x h.first.y are h.first.cell in
      two_of fet.a.0 fet.b.0 h.a h.b h.c (is.only h.a h.first) (is.only h.b h.second) (is.only h.c h.third) h.rising h.rising_on

  not_ungated : (cell : Point) → AreGated plan masks → IsFirstUngated plan masks cell → ⊥
  not_ungated cell gated first = gated.each first.line cell.x cell.y first.is

pub one_reason : (plan : Plan) (masks : MaskLists) (nets : Nets) (r q : DeviceRefusal) → (r ≡ NoMemory → ⊥) → (q ≡ NoMemory → ⊥) → RefusesDevices plan masks nets r → RefusesDevices plan masks nets q → r ≡ q
one_reason plan masks nets NoMemory q some other h k = absurd (some refl)
one_reason plan masks nets (UngatedChannel p) NoMemory some other h k = absurd (other refl)
one_reason plan masks nets (UngatedChannel p) (UngatedChannel q) some other h k =
    ap (λ c. UngatedChannel c) (one_cell p q h.line k.line (one_node (node_at h.line p.x p.y) (node_at k.line q.x q.y) (k.first h.line p.x p.y h.is) (h.first k.line q.x q.y k.is)))
one_reason plan masks nets (UngatedChannel p) (NoTerminal q) some other h k = absurd (not_ungated plan masks nets p k.gated h)
one_reason plan masks nets (UngatedChannel p) (ManyTerminals q) some other h k = absurd (not_ungated plan masks nets p k.gated h)
one_reason plan masks nets (UngatedChannel p) TooManyFets some other h k = absurd (not_ungated plan masks nets p k.are.gated h)
one_reason plan masks nets (NoTerminal p) NoMemory some other h k = absurd (other refl)
one_reason plan masks nets (NoTerminal p) (UngatedChannel q) some other h k = absurd (not_ungated plan masks nets q h.gated k)
one_reason plan masks nets (NoTerminal p) (NoTerminal q) some other h k =
    ap (λ c. NoTerminal c) (one_least masks h.t k.t p q (first_one h.t k.t (λ less. k.first h.t less h.is) (λ more. h.first k.t more k.is)) h.least k.least)
one_reason plan masks nets (NoTerminal p) (ManyTerminals q) some other h k = absurd (k.ended h.t h.is)
one_reason plan masks nets (NoTerminal p) TooManyFets some other h k = absurd (not_bare plan masks nets k.fets h.t k.are h.is)
one_reason plan masks nets (ManyTerminals p) NoMemory some other h k = absurd (other refl)
one_reason plan masks nets (ManyTerminals p) (UngatedChannel q) some other h k = absurd (not_ungated plan masks nets q h.gated k)
one_reason plan masks nets (ManyTerminals p) (NoTerminal q) some other h k = absurd (h.ended k.t k.is)
one_reason plan masks nets (ManyTerminals p) (ManyTerminals q) some other h k =
    ap (λ c. ManyTerminals c) (one_least masks h.t k.t p q (first_one h.t k.t (λ less. k.first h.t less h.is) (λ more. h.first k.t more k.is)) h.least k.least)
one_reason plan masks nets (ManyTerminals p) TooManyFets some other h k = absurd (not_crowded plan masks nets k.fets h.t k.are h.is)
one_reason plan masks nets TooManyFets NoMemory some other h k = absurd (other refl)
one_reason plan masks nets TooManyFets (UngatedChannel q) some other h k = absurd (not_ungated plan masks nets q h.are.gated k)
one_reason plan masks nets TooManyFets (NoTerminal q) some other h k = absurd (not_bare plan masks nets h.fets k.t h.are k.is)
one_reason plan masks nets TooManyFets (ManyTerminals q) some other h k = absurd (not_crowded plan masks nets h.fets k.t h.are k.is)
one_reason plan masks nets TooManyFets TooManyFets some other h k = refl

pub never_both : (plan : Plan) (masks : MaskLists) (nets : Nets) (fets : List Fet) (r : DeviceRefusal) → length masks.channels ≡ length plan.fets → nets.wires ≡ masks.wires → (r ≡ NoMemory → ⊥) → length fets ≤ 4096
    → AreTransistors plan masks nets fets → RefusesDevices plan masks nets r → ⊥
never_both plan masks nets fets NoMemory each same some few are h = some refl
never_both plan masks nets fets (UngatedChannel p) each same some few are h = not_ungated plan masks nets p are.gated h
never_both plan masks nets fets (NoTerminal p) each same some few are h = not_bare plan masks nets fets h.t are h.is
never_both plan masks nets fets (ManyTerminals p) each same some few are h = not_crowded plan masks nets fets h.t are h.is
never_both plan masks nets fets TooManyFets each same some few are h =
    let size = ap (λ (l : List Fet). length l) (one_list plan masks nets each same are.gated fets h.fets are h.are) in
    let more = h.more in
    omega (arith, size, few, more)
