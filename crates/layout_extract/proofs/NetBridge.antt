-- Joining by pairs of nets makes the classes that labels make, with the same numbers and names.
use Rattle.std.proofs.Common.{◌≡◌, ℕ, ◌==◌, ◌&&◌, inl, inr, Bool, true, List, [], ◌++◌, length, Option, Some, None, slice_get, unwrap_or, refl, sym, ap, ◌∙◌, subst}
use Rattle.std.specs.Option.{option_map}
use Rattle.std.specs.List.{AllZip, list_any}
use Rattle.std.specs.Ordering.{nat_cmp, is_le}
use Rattle.std.specs.Str.{bytes_eq}
use Rattle.std.specs.Cmp.Lexicographic.{slice_cmp}
use Rattle.std.proofs.lemmas.Bool.{and_parts, and_from, or_cases, or_left, or_right}
use Rattle.std.proofs.lemmas.Bool.Decides.{Decides-eqb}
use Rattle.std.proofs.lemmas.Slice.Eq.{bytes_eq-Decides}
use Rattle.std.proofs.lemmas.Option.{slice_get-map, slice_get_within, get_or_from_slice_get}
use Rattle.switch_net.specs.declared.NetId.{NetId}
use Rattle.cif_flatten.specs.declared.flat.Mark.{Mark}
use Rattle.layer_map.specs.Plan.{Plan}
use Rattle.link_classes.specs.Linked.{Linked}
use Rattle.link_classes.specs.Numbering.{AreRoots, IsNumber}
use Rattle.link_classes.specs.Numbering.{IsLeast as IsLeastNode}
use Rattle.link_classes.specs.Classes.{has_pair}
use Rattle.link_classes.proofs.Chains.{linked_refl, linked_touch, linked_trans, linked_sym, linked_map}
use Rattle.mask_region.specs.declared.strips.Strip.{Strip}
use Rattle.net_trace.specs.declared.node.Node.{Node}
use Rattle.net_trace.specs.Touching.{Cut, Nets, is_node, touches}
use Rattle.net_trace.specs.Nets.{node_cmp, is_same, is_joined, is_link, AreNetRoots, IsNetNumber, IsNetCount, IsJoinedBy}
use Rattle.layout_extract.specs.declared.tags.Spot.{Spot}
use Rattle.layout_extract.specs.declared.tags.Tag.{Tag}
use Rattle.layout_extract.specs.declared.named.BoundName.{BoundName}
use Rattle.layout_extract.specs.Labels.{is_bound_at}
use Rattle.layout_extract.specs.Names.{Labelled, is_joining, is_joined_by_name, is_net_link, IsNamedNumber, IsBoundName, is_listed_name, AreBoundNames, IsLeastName, IsNameOf}
use Rattle.layout_extract.specs.Layouts.{AreJoinedAs, AreNames}
use Rattle.layout_extract.specs.Tags.{IsTagOf, numbers_of, IsPairOf, AreJoins, IsLeast, name_or, IsNameBy, IsKept}
use Rattle.layout_extract.proofs.Places.{any_at, place_of, zip_left, zip_right}
use Rattle.net_trace.proofs.NetNumbers.{net_one, net_links}
use Rattle.layout_extract.proofs.Bridge.{link_touch, spot_node}
use Rattle.net_trace.proofs.JoinedNets.{same_is, same_self}
use Rattle.net_trace.proofs.TracedNets.{touch_link}

-- ---- nets with the same wires and cuts

abbrev of_parts : List (List Strip) → List Cut → Nets
of_parts wires cuts = record { wires = wires; cuts = cuts; joins = [] }

pub same_nodes : (old new : Nets) → new.wires ≡ old.wires → (a : Node) → is_node new a ≡ is_node old a
same_nodes old new wires a = λ i. is_node (of_parts (wires i) []) a

pub same_touches : (old new : Nets) → new.wires ≡ old.wires → new.cuts ≡ old.cuts → (a b : Node) → touches new a b ≡ touches old a b
same_touches old new wires cuts a b = λ i. touches (of_parts (wires i) (cuts i)) a b

-- the roots, the numbers and their count depend on what is linked alone
module _ (old new : Node → Bool) (link other : Node → Node → Bool) (nodes : (a : Node) → new a ≡ old a)
    (sound : (a b : Node) → Linked other a b → Linked link a b) (whole : (a b : Node) → Linked link a b → Linked other a b) where
  least_by : (a : Node) → IsLeastNode node_cmp new other a → IsLeastNode node_cmp old link a
  least_by a h = record { thing = sym (nodes a) ∙ h.thing; least = λ b linked. h.least b (whole a b linked) }

  pub roots_by : (roots : List Node) → AreRoots node_cmp new other roots → AreRoots node_cmp old link roots
  roots_by roots h = record {
    least = λ k r at. least_by r (h.least k r at);
    every = λ a thing. let (k, r, at, linked) = h.every a (nodes a ∙ thing) in (k, r, at, sound a r linked);
    rising = h.rising;
  }

  pub number_by : (a : Node) (n : ℕ) → IsNumber node_cmp new other a n → IsNumber node_cmp old link a n
  number_by a n h = record { roots = h.roots; are = roots_by h.roots h.are; root = h.root; at = h.at; thing = sym (nodes a) ∙ h.thing; linked = sound a h.root h.linked }

-- the net of a root, and the root of a net
root_number : (nets : Nets) (roots : List Node) → AreNetRoots nets roots → (n : ℕ) (r : Node) → slice_get roots n ≡ Some r → IsNetNumber nets r n
root_number nets roots are n r at = record { roots = roots; are = are; root = r; at = at; thing = (are.least n r at).thing; linked = linked_refl (is_link nets) r }

number_root : (nets : Nets) (roots : List Node) → AreNetRoots nets roots → (a : Node) (n : ℕ) → IsNetNumber nets a n → (r : Node) × (slice_get roots n ≡ Some r) × Linked (is_link nets) a r
number_root nets roots are a n number =
    let (k, r, at, linked) = are.every a number.thing in
    let mine : IsNetNumber nets a k = record { roots = roots; are = are; root = r; at = at; thing = number.thing; linked = linked } in
    let same = net_one nets a a k n mine number (linked_refl (is_link nets) a) in
    (r, ap (λ j. slice_get roots j) (sym same) ∙ at, linked)

pair_back : (o : Option (NetId × NetId)) (p : ℕ × ℕ) → option_map (λ (q : NetId × NetId). (q.0.0, q.1.0)) o ≡ Some p → (q : NetId × NetId) × (o ≡ Some q) × (q.0.0 ≡ p.0) × (q.1.0 ≡ p.1)
pair_back None p e = let none : ⊥ = cc in absurd none
pair_back (Some q) p e = (q, refl, ap (λ o. elim o [ Some x ↦ x.0 | None ↦ q.0.0 ]) e, ap (λ o. elim o [ Some x ↦ x.1 | None ↦ q.1.0 ]) e)

-- ---- labels that are bound, and where

-- Each spot is where a label of its name is bound; where a label is bound, a spot of its name is linked.
pub record AreSpotted (nets : Nets) (plan : Plan) (marks : List Mark) (spots : List Spot) : Type 0 where
  pub each : (j : ℕ) (s : Spot) → slice_get spots j ≡ Some s → (k : ℕ) × (m : Mark) × (slice_get marks k ≡ Some m) × (m.name ≡ s.name.now) × (is_bound_at nets plan m (spot_node s) ≡ true)
  pub all : (k : ℕ) (m : Mark) (a : Node) → slice_get marks k ≡ Some m → is_bound_at nets plan m a ≡ true → (j : ℕ) × (s : Spot) × (slice_get spots j ≡ Some s) × (s.name.now ≡ m.name) × Linked (is_link nets) a (spot_node s)

module _ (nets : Nets) (none : nets.joins ≡ []) (plan : Plan) (marks : List Mark) (spots : List Spot) (spotted : AreSpotted nets plan marks spots) where
  abbrev g : Labelled
  g = record { nets = nets; plan = plan; marks = marks }

  touch_named : (a b : Node) → Linked (is_link nets) a b → Linked (is_net_link g) a b
  touch_named a b linked = linked_map (is_link nets) (is_net_link g) (λ x. x)
      (λ c d is. linked_touch (is_net_link g) c d (or_left (touches nets c d) (is_joined_by_name g c d) (link_touch nets none c d is))) a b linked

  -- the tags in any nets
  module _ (new : Nets) (tags : List Tag) (tagged : AllZip (IsTagOf new) spots tags) where
    tag_bound : (j : ℕ) (t : Tag) → slice_get tags j ≡ Some t → (k : ℕ) × (m : Mark) × (a : Node) × (slice_get marks k ≡ Some m) × (m.name ≡ t.name.now) × (is_bound_at nets plan m a ≡ true) × IsNetNumber new a t.net.0
    tag_bound j t at =
        let (s, at_s, is) = zip_right (IsTagOf new) spots tags j t tagged at in
        let (k, m, at_m, name, bound) = spotted.each j s at_s in
        (k, m, spot_node s, at_m, name ∙ sym is.name, bound, is.number)

    bound_tag : (k : ℕ) (m : Mark) (a : Node) → slice_get marks k ≡ Some m → is_bound_at nets plan m a ≡ true
        → (j : ℕ) × (t : Tag) × (b : Node) × (slice_get tags j ≡ Some t) × (t.name.now ≡ m.name) × Linked (is_link nets) a b × IsNetNumber new b t.net.0
    bound_tag k m a at bound =
        let (j, s, at_s, name, linked) = spotted.all k m a at bound in
        let (t, at_t, is) = zip_left (IsTagOf new) spots tags j s tagged at_s in
        (j, t, spot_node s, at_t, is.name ∙ name, linked, is.number)

  module _ (tags : List Tag) (tagged : AllZip (IsTagOf nets) spots tags) (pairs : List (NetId × NetId)) (joins : AreJoins (is_joining plan) tags pairs) (new : Nets) (by : IsJoinedBy nets (numbers_of pairs) new) where
    joins_are : new.joins ≡ by.ends
    joins_are = by.joins ∙ ap (λ js. js ++ by.ends) none

    -- labels of joining names
    by_names : (j k : ℕ) (m n : Mark) (a b : Node) → slice_get marks j ≡ Some m → slice_get marks k ≡ Some n → is_bound_at nets plan m a ≡ true → is_bound_at nets plan n b ≡ true → is_joining plan m.name n.name ≡ true → is_net_link g a b ≡ true
    by_names j k m n a b at_m at_n bound_m bound_n passes =
        let inner = any_at (λ (n : Mark). is_bound_at nets plan n b && is_joining plan m.name n.name) marks k n at_n (and_from (is_bound_at nets plan n b) (is_joining plan m.name n.name) bound_n passes) in
        or_right (touches nets a b) (is_joined_by_name g a b)
        (any_at (λ (m : Mark). is_bound_at nets plan m a && list_any (λ (n : Mark). is_bound_at nets plan n b && is_joining plan m.name n.name) marks) marks j m at_m
        (and_from (is_bound_at nets plan m a) (list_any (λ (n : Mark). is_bound_at nets plan n b && is_joining plan m.name n.name) marks) bound_m inner))

    -- the least nodes of two nets that are joined
    ends_linked : (k : ℕ) (e : Node × Node) → slice_get by.ends k ≡ Some e → Linked (is_net_link g) e.0 e.1
    ends_linked k e at_e =
        let (p, at_p, roots_at) = zip_right (λ (p : ℕ × ℕ) (e : Node × Node). (slice_get by.roots p.0 ≡ Some e.0) × (slice_get by.roots p.1 ≡ Some e.1)) (numbers_of pairs) by.ends k e by.at at_e in
        let (q, at_q, q0, q1) = pair_back (slice_get pairs k) p (sym (slice_get-map (λ (q : NetId × NetId). (q.0.0, q.1.0)) pairs k) ∙ at_p) in
        let pair = subst (λ z. IsPairOf (is_joining plan) tags z) (get_or_from_slice_get pairs k q q at_q) (joins.sound k q (slice_get_within pairs k q at_q)) in
        let (i, m, c, at_m, name_m, bound_m, number_c) = tag_bound nets tags tagged pair.j pair.s pair.at_j in
        let (l, n, d, at_n, name_n, bound_n, number_d) = tag_bound nets tags tagged pair.k pair.t pair.at_k in
        let first : IsNetNumber nets c p.0 = subst (λ x. IsNetNumber nets c x) (ap (λ (x : NetId). x.0) (sym pair.one) ∙ q0) number_c in
        let second : IsNetNumber nets d p.1 = subst (λ x. IsNetNumber nets d x) (ap (λ (x : NetId). x.0) (sym pair.other) ∙ q1) number_d in
        let low = net_links nets e.0 c p.0 (root_number nets by.roots by.are p.0 e.0 roots_at.0) first in
        let high = net_links nets d e.1 p.1 second (root_number nets by.roots by.are p.1 e.1 roots_at.1) in
        let passes = subst (λ x. is_joining plan x n.name ≡ true) (sym name_m) (subst (λ x. is_joining plan pair.s.name.now x ≡ true) (sym name_n) pair.passes) in
        linked_trans (is_net_link g) e.0 c e.1 (touch_named e.0 c low)
        (linked_trans (is_net_link g) c d e.1 (linked_touch (is_net_link g) c d (by_names i l m n c d at_m at_n bound_m bound_n passes)) (touch_named d e.1 high))

    sound_link : (a b : Node) → is_link new a b ≡ true → Linked (is_net_link g) a b
    sound_link a b is = elim (or_cases (touches new a b) ((is_node new a && is_node new b) && is_joined new.joins a b) is) [
      | inl touch ↦ linked_touch (is_net_link g) a b (or_left (touches nets a b) (is_joined_by_name g a b) (sym (same_touches nets new by.wires by.cuts a b) ∙ touch))
      | inr joined ↦
          let among = (and_parts (is_node new a && is_node new b) (is_joined new.joins a b) joined).1 in
          let (k, e, at_e, same) = place_of (λ (j : Node × Node). is_same a j.0 && is_same b j.1) by.ends (subst (λ js. is_joined js a b ≡ true) joins_are among) in
          let (same_a, same_b) = and_parts (is_same a e.0) (is_same b e.1) same in
          subst (λ x. Linked (is_net_link g) x b) (sym (same_is a e.0 same_a)) (subst (λ x. Linked (is_net_link g) e.0 x) (sym (same_is b e.1 same_b)) (ends_linked k e at_e))
    ]

    kept_link : (a b : Node) → Linked (is_link nets) a b → Linked (is_link new) a b
    kept_link a b linked = linked_map (is_link nets) (is_link new) (λ x. x)
        (λ c d is. linked_touch (is_link new) c d (touch_link new c d (same_touches nets new by.wires by.cuts c d ∙ link_touch nets none c d is))) a b linked

    -- the root of a net, and of no net this node
    abbrev root_of : Node → ℕ → Node
    root_of other n = unwrap_or (slice_get by.roots n) other

    root_is : (other : Node) (n : ℕ) (r : Node) → slice_get by.roots n ≡ Some r → root_of other n ≡ r
    root_is other n r at = ap (λ o. unwrap_or o other) at

    pair_linked : (other : Node) (m n : ℕ) → has_pair (numbers_of pairs) m n ≡ true → Linked (is_link new) (root_of other m) (root_of other n)
    pair_linked other m n has =
        let (k, p, at_p, is) = place_of (λ (p : ℕ × ℕ). p.0 == m && p.1 == n) (numbers_of pairs) has in
        let (p0, p1) = and_parts (p.0 == m) (p.1 == n) is in
        let (e, at_e, roots_at) = zip_left (λ (p : ℕ × ℕ) (e : Node × Node). (slice_get by.roots p.0 ≡ Some e.0) × (slice_get by.roots p.1 ≡ Some e.1)) (numbers_of pairs) by.ends k p by.at at_p in
        let at_0 : slice_get by.roots m ≡ Some e.0 = ap (λ x. slice_get by.roots x) (sym ((Decides-eqb p.0 m).0 p0)) ∙ roots_at.0 in
        let at_1 : slice_get by.roots n ≡ Some e.1 = ap (λ x. slice_get by.roots x) (sym ((Decides-eqb p.1 n).0 p1)) ∙ roots_at.1 in
        let node_0 = same_nodes nets new by.wires e.0 ∙ (by.are.least m e.0 at_0).thing in
        let node_1 = same_nodes nets new by.wires e.1 ∙ (by.are.least n e.1 at_1).thing in
        let among = subst (λ js. is_joined js e.0 e.1 ≡ true) (sym joins_are) (any_at (λ (j : Node × Node). is_same e.0 j.0 && is_same e.1 j.1) by.ends k e at_e (and_from (is_same e.0 e.0) (is_same e.1 e.1) (same_self e.0) (same_self e.1))) in
        let linked = linked_touch (is_link new) e.0 e.1 (or_right (touches new e.0 e.1) ((is_node new e.0 && is_node new e.1) && is_joined new.joins e.0 e.1)
        (and_from (is_node new e.0 && is_node new e.1) (is_joined new.joins e.0 e.1) (and_from (is_node new e.0) (is_node new e.1) node_0 node_1) among)) in
        subst (λ x. Linked (is_link new) x (root_of other n)) (sym (root_is other m e.0 at_0)) (subst (λ x. Linked (is_link new) e.0 x) (sym (root_is other n e.1 at_1)) linked)

    whole_link : (a b : Node) → is_net_link g a b ≡ true → Linked (is_link new) a b
    whole_link a b is = elim (or_cases (touches nets a b) (is_joined_by_name g a b) is) [
      | inl touch ↦ linked_touch (is_link new) a b (touch_link new a b (same_touches nets new by.wires by.cuts a b ∙ touch))
      | inr named ↦
          let (i, m, at_m, both) = place_of (λ (m : Mark). is_bound_at nets plan m a && list_any (λ (n : Mark). is_bound_at nets plan n b && is_joining plan m.name n.name) marks) marks named in
          let (bound_m, inner) = and_parts (is_bound_at nets plan m a) (list_any (λ (n : Mark). is_bound_at nets plan n b && is_joining plan m.name n.name) marks) both in
          let (l, n, at_n, rest) = place_of (λ (n : Mark). is_bound_at nets plan n b && is_joining plan m.name n.name) marks inner in
          let (bound_n, passes) = and_parts (is_bound_at nets plan n b) (is_joining plan m.name n.name) rest in
          let (j, s, c, at_s, name_s, linked_c, number_c) = bound_tag nets tags tagged i m a at_m bound_m in
          let (k, t, d, at_t, name_t, linked_d, number_d) = bound_tag nets tags tagged l n b at_n bound_n in
          let joining = subst (λ x. is_joining plan x t.name.now ≡ true) (sym name_s) (subst (λ x. is_joining plan m.name x ≡ true) (sym name_t) passes) in
          let chain = joins.whole j k s t at_s at_t joining in
          let roots_linked = linked_map (has_pair (numbers_of pairs)) (is_link new) (root_of a) (pair_linked a) s.net.0 t.net.0 chain in
          let (r, at_r, to_r) = number_root nets by.roots by.are c s.net.0 number_c in
          let (q, at_q, to_q) = number_root nets by.roots by.are d t.net.0 number_d in
          let middle = subst (λ x. Linked (is_link new) x q) (root_is a s.net.0 r at_r) (subst (λ x. Linked (is_link new) (root_of a s.net.0) x) (root_is a t.net.0 q at_q) roots_linked) in
          let front = kept_link a r (linked_trans (is_link nets) a c r linked_c to_r) in
          let back = kept_link q b (linked_sym (is_link nets) b q (linked_trans (is_link nets) b d q linked_d to_q)) in
          linked_trans (is_link new) a r b front (linked_trans (is_link new) r q b middle back)
    ]

    pub joined_as : AreJoinedAs g new
    joined_as = record {
      wires = by.wires;
      cuts = by.cuts;
      sound = λ a b linked. linked_map (is_link new) (is_net_link g) (λ x. x) sound_link a b linked;
      whole = λ a b linked. linked_map (is_net_link g) (is_link new) (λ x. x) whole_link a b linked;
    }

  module _ (new : Nets) (same : AreJoinedAs g new) where
    nodes : (a : Node) → is_node new a ≡ is_node nets a
    nodes a = same_nodes nets new same.wires a

    to_named : (a : Node) (n : ℕ) → IsNetNumber new a n → IsNamedNumber g a n
    to_named a n h = number_by (is_node nets) (is_node new) (is_net_link g) (is_link new) nodes same.sound same.whole a n h

    of_named : (a : Node) (n : ℕ) → IsNamedNumber g a n → IsNetNumber new a n
    of_named a n h = number_by (is_node new) (is_node nets) (is_link new) (is_net_link g) (λ b. sym (nodes b)) same.whole same.sound a n h

    later : (a b : Node) → Linked (is_link nets) a b → Linked (is_link new) a b
    later a b linked = same.whole a b (touch_named a b linked)

    module _ (tags : List Tag) (tagged : AllZip (IsTagOf new) spots tags) where
      -- a bound name stands on a tag of the net
      name_tag : (net : ℕ) (name : List ℕ) → IsBoundName g net name → (j : ℕ) × (t : Tag) × (slice_get tags j ≡ Some t) × (t.name.now ≡ name) × (t.net.0 ≡ net)
      name_tag net name h =
          let (j, t, b, at, name_is, linked, number) = bound_tag new tags tagged h.k h.mark h.node h.at h.bound in
          (j, t, at, name_is ∙ h.is, net_one new b h.node t.net.0 net number (of_named h.node net h.number) (linked_sym (is_link new) h.node b (later h.node b linked)))

      tag_name : (j : ℕ) (t : Tag) → slice_get tags j ≡ Some t → IsBoundName g t.net.0 t.name.now
      tag_name j t at =
          let (k, m, a, at_m, name, bound, number) = tag_bound new tags tagged j t at in
          record { k = k; mark = m; at = at_m; is = name; node = a; bound = bound; number = to_named a t.net.0 number }

      by_first : (net : ℕ) (name : List ℕ) (first : Option (List ℕ)) → IsLeast tags (length tags) net first → name ≡ name_or net first → IsNameOf g net name
      by_first net name None h is = inr (record {
        none = λ labelled.
            let (j, t, at, name_is, of) = name_tag net labelled.name labelled.bound in
            h.none j t (slice_get_within tags j t at) at of;
        is = is;
      })
      by_first net name (Some first) h is = inl (subst (λ x. IsLeastName g net x) (sym is) (record {
        bound = subst (λ n. IsBoundName g n first) h.of_net (subst (λ x. IsBoundName g h.tag.net.0 x) h.is (tag_name h.k h.tag h.at));
        least = λ other bound.
            let (j, t, at, name_is, of) = name_tag net other bound in
            subst (λ x. is_le (slice_cmp nat_cmp first x) ≡ true) name_is (h.least j t (slice_get_within tags j t at) at of);
      }))

      pub names_are : (names : List (List ℕ)) → IsNetCount new (length names) → ((net : ℕ) (name : List ℕ) → slice_get names net ≡ Some name → IsNameBy tags net name) → AreNames g names
      names_are names count each = record {
        count = record { roots = count.roots; are = roots_by (is_node nets) (is_node new) (is_net_link g) (is_link new) nodes same.sound same.whole count.roots count.are; is = count.is };
        each = λ net name at. let by = each net name at in by_first net name by.first by.least by.is;
      }

      pub bound_names_are : (list : List BoundName) → AllZip IsKept tags list → AreBoundNames g list
      bound_names_are list kept = record { exact = λ net name. (there net name, back net name) }
        where
          there : (net : ℕ) (name : List ℕ) → is_listed_name list net name ≡ true → IsBoundName g net name
          there net name listed =
              let (k, b, at, is) = place_of (λ (b : BoundName). b.net.0 == net && bytes_eq b.name name) list listed in
              let (is_net, is_name) = and_parts (b.net.0 == net) (bytes_eq b.name name) is in
              let (t, at_t, same) = zip_right IsKept tags list k b kept at in
              let of_net = ap (λ (n : NetId). n.0) (sym same.net) ∙ (Decides-eqb b.net.0 net).0 is_net in
              let of_name = sym same.name ∙ (bytes_eq-Decides b.name name).0 is_name in
              subst (λ n. IsBoundName g n name) of_net (subst (λ x. IsBoundName g t.net.0 x) of_name (tag_name k t at_t))

          back : (net : ℕ) (name : List ℕ) → IsBoundName g net name → is_listed_name list net name ≡ true
          back net name bound =
              let (j, t, at, name_is, of) = name_tag net name bound in
              let (b, at_b, same) = zip_left IsKept tags list j t kept at in
              any_at (λ (b : BoundName). b.net.0 == net && bytes_eq b.name name) list j b at_b
              (and_from (b.net.0 == net) (bytes_eq b.name name) ((Decides-eqb b.net.0 net).1 (ap (λ (n : NetId). n.0) same.net ∙ of)) ((bytes_eq-Decides b.name name).1 (same.name ∙ name_is)))
