-- What the least cells and the ends of transistors say of the layout.
use Rattle.std.proofs.Common.{◌≡◌, ℕ, zero, suc, cond, ◌+◌, ◌<◌, ◌⊎◌, Bool, true, false, ◌&&◌, ◌==◌, List, [], ◌∷◌, length, refl, sym, ap, ◌∙◌, subst, arith, inl, inr, slice_get, get_or, Some, None}
use Rattle.std.specs.Prelude.{ℤ}
use Rattle.std.specs.List.{All, position, position_from}
use Rattle.std.proofs.lemmas.Iterator.Adapters.{position_from-zero}
use Rattle.std.proofs.lemmas.List.Quantifiers.{position-Some}
use Rattle.std.proofs.lemmas.Bool.{and_parts, eqb-true}
use Rattle.std.proofs.lemmas.List.Folds.{Any-from_list_any}
use Rattle.std.proofs.lemmas.Option.{slice_get_within, slice_get-get_or, get_or_from_slice_get}
use Rattle.link_classes.proofs.Chains.{linked_refl}
use Rattle.link_classes.proofs.UniqueNumbers.{some_one, no_some}
use Rattle.plane_geom.specs.declared.shapes.Point.{Point}
use Rattle.switch_net.specs.declared.NetId.{NetId}
use Rattle.switch_net.specs.declared.fets.Fet.{Fet}
use Rattle.layer_map.specs.Plan.{Plan}
use Rattle.layer_map.specs.Plan as layers
use Rattle.mask_region.specs.declared.strips.Strip.{Strip}
use Rattle.mask_region.specs.Strips.{MaskLists}
use Rattle.net_trace.specs.declared.node.Node.{Node}
use Rattle.net_trace.specs.Touching.{Nets, is_in_wire, has_node}
use Rattle.net_trace.specs.Nets.{node_cmp, node_at, is_link, AreNetRoots, IsNetCount}
use Rattle.net_trace.proofs.Lists.{not_both_ways}
use Rattle.net_trace.proofs.NetNumbers.{net_links, net_below}
use Rattle.net_trace.proofs.VertexFacts.{by_wire}
use Rattle.device_extract.specs.declared.terminals.Ends.{Ends}
use Rattle.device_extract.specs.declared.terminals.Ends.TheVariants.{Bare, One, Two, Crowded}
use Rattle.device_extract.specs.Channels.{channel_plane, wire_plane, IsCellOf, IsLeastCellOf, AreGated}
use Rattle.device_extract.specs.Transistors.{IsTerminalOf, IsTransistor, AreTransistors}
use Rattle.device_extract.specs.Refusals.{IsBare, IsCrowded, IsFirstBare, IsFirstCrowded}
use Rattle.device_extract.specs.Contacts.{has_contact, AreContacts, AreEndsOf, IsPair, is_bare, is_crowded, HasPair, HasGate, IsFetAt, AreFetsAt}

pub element_at : {A : Type 0} (xs : List A) (k : ℕ) → k < length xs → (x : A) × (slice_get xs k ≡ Some x)
element_at [] k lt = absurd (omega (arith, lt))
element_at (x ∷ xs) zero lt = (x, refl)
element_at (x ∷ xs) (suc k) lt = element_at xs k (omega (arith, lt))

-- no element passes where none is found
module _ {A : Type 0} (p : A → Bool) where
  none_from : (i : ℕ) (xs : List A) (k : ℕ) (x : A) → slice_get xs k ≡ Some x → p x ≡ true → position_from p i xs ≡ None → ⊥
  none_from i [] k x at is none = no_some x at
  none_from i (y ∷ ys) zero x at is none =
      let same : p y ≡ true = ap p (some_one y x at) ∙ is in
      let found : Some i ≡ None = sym (ap (λ b. cond b (Some i) (position_from p (i + 1) ys)) same) ∙ none in
      let no : ⊥ = cc in no
  none_from i (y ∷ ys) (suc k) x at is none = by_test (none_from (i + 1) ys k x at is) (p y) refl
    where
      by_test : (position_from p (i + 1) ys ≡ None → ⊥) → (b : Bool) → p y ≡ b → ⊥
      by_test rest true here = let found : Some i ≡ None = sym (ap (λ b. cond b (Some i) (position_from p (i + 1) ys)) here) ∙ none in let no : ⊥ = cc in no
      by_test rest false here = rest (sym (ap (λ b. cond b (Some i) (position_from p (i + 1) ys)) here) ∙ none)

  pub all_pass : (xs : List A) (k : ℕ) (x : A) → slice_get xs k ≡ Some x → position p xs ≡ None → p x ≡ false
  all_pass xs k x at none = by_test (p x) refl
    where
      by_test : (b : Bool) → p x ≡ b → p x ≡ false
      by_test false is = is
      by_test true is = absurd (none_from 0 xs k x at is (sym (position_from-zero p xs) ∙ none))

bare_test : (e : Ends) → is_bare e ≡ true → e ≡ Bare
bare_test Bare h = refl
bare_test (One a) h = let no : ⊥ = cc in absurd no
bare_test (Two a b) h = let no : ⊥ = cc in absurd no
bare_test Crowded h = let no : ⊥ = cc in absurd no

crowded_test : (e : Ends) → is_crowded e ≡ true → e ≡ Crowded
crowded_test Bare h = let no : ⊥ = cc in absurd no
crowded_test (One a) h = let no : ⊥ = cc in absurd no
crowded_test (Two a b) h = let no : ⊥ = cc in absurd no
crowded_test Crowded h = refl

-- ends that are neither are a pair
pub pair_of : (e : Ends) → is_bare e ≡ false → is_crowded e ≡ false → HasPair e
pair_of Bare h k = let no : ⊥ = cc in absurd no
pair_of (One a) h k = record { a = a; b = a; is = (refl, refl) }
pair_of (Two a b) h k = record { a = a; b = b; is = (refl, refl) }
pair_of Crowded h k = let no : ⊥ = cc in absurd no

pub all_pairs : (ends : List Ends) → position is_bare ends ≡ None → position is_crowded ends ≡ None → All HasPair ends
all_pairs ends no_bare no_crowded k d lt =
    let at = slice_get-get_or ends k d lt in
    pair_of (get_or ends k d) (all_pass is_bare ends k (get_or ends k d) at no_bare) (all_pass is_crowded ends k (get_or ends k d) at no_crowded)

-- three numbers in rising order are not among two
pub two_of : {P : Type 0} (p q a b c : ℕ) → (a ≡ p) ⊎ (a ≡ q) → (b ≡ p) ⊎ (b ≡ q) → (c ≡ p) ⊎ (c ≡ q) → a < b → b < c → P
two_of p q a b c (inl ea) (inl eb) ec ab bc = absurd (omega (arith, ea, eb, ab))
two_of p q a b c (inr ea) (inr eb) ec ab bc = absurd (omega (arith, ea, eb, ab))
two_of p q a b c (inl ea) (inr eb) (inl ec) ab bc = absurd (omega (arith, ea, ec, ab, bc))
two_of p q a b c (inl ea) (inr eb) (inr ec) ab bc = absurd (omega (arith, eb, ec, bc))
two_of p q a b c (inr ea) (inl eb) (inl ec) ab bc = absurd (omega (arith, eb, ec, bc))
two_of p q a b c (inr ea) (inl eb) (inr ec) ab bc = absurd (omega (arith, ea, ec, ab, bc))

module _ (plan : Plan) (masks : MaskLists) (nets : Nets) (roots : List Node) (are : AreNetRoots (channel_plane masks) roots) where
  pub root_cell : (t : ℕ) (root : Node) → slice_get roots t ≡ Some root → IsCellOf masks t root.wire root.x root.y
  root_cell t root at = record { roots = roots; are = are; root = root; at = at; thing = (are.least t root at).thing; linked = linked_refl (is_link (channel_plane masks)) root }

  pub roots_count : IsNetCount (channel_plane masks) (length roots)
  roots_count = record { roots = roots; are = are; is = refl }

  pub cell_in : (t line : ℕ) (x y : ℤ) → IsCellOf masks t line x y → t < length roots
  cell_in t line x y cell = net_below (channel_plane masks) (node_at line x y) t (length roots) cell roots_count

  pub root_least : (t : ℕ) (root : Node) (cell : Point) → slice_get roots t ≡ Some root → cell.x ≡ root.x → cell.y ≡ root.y → IsLeastCellOf masks t cell
  root_least t root cell at is_x is_y = record {
    line = root.wire;
    of = subst (λ (a : ℤ). IsCellOf masks t root.wire a cell.y) (sym is_x) (subst (λ (b : ℤ). IsCellOf masks t root.wire root.x b) (sym is_y) (root_cell t root at));
    least = λ m x y here less.
        (are.least t root at).least (node_at m x y) (net_links (channel_plane masks) root (node_at m x y) t (root_cell t root at) here)
        (ap (λ (a : ℤ). node_cmp (node_at m x y) (node_at root.wire a root.y)) (sym is_x) ∙ ap (λ (b : ℤ). node_cmp (node_at m x y) (node_at root.wire cell.x b)) (sym is_y) ∙ less);
  }

  -- ---- gates

  pub root_gate : AreGated plan masks → length masks.channels ≡ length plan.fets → nets.wires ≡ masks.wires → (t : ℕ) (root : Node) → slice_get roots t ≡ Some root → HasGate plan nets root
  root_gate gated each same t root at =
      let (channel, at_channel, in_channel) = by_wire (slice_get masks.channels root.wire) root.x root.y ((are.least t root at).thing) in
      let (fet, at_fet) = element_at plan.fets root.wire (omega (arith, each, slice_get_within masks.channels root.wire channel at_channel)) in
      record { fet = fet; at = at_fet; has = ap (λ (ws : List (List Strip)). is_in_wire (slice_get ws fet.gate) root.x root.y) same ∙ by_test fet at_fet (has_node (wire_plane masks) fet.gate root.x root.y) refl }
    where
      by_test : (fet : layers.Fet) → slice_get plan.fets root.wire ≡ Some fet → (b : Bool) → has_node (wire_plane masks) fet.gate root.x root.y ≡ b → has_node (wire_plane masks) fet.gate root.x root.y ≡ true
      by_test fet at_fet true is = is
      by_test fet at_fet false is = absurd (gated.each root.wire root.x root.y (record { fet = fet; at = at_fet; channel = (are.least t root at).thing; bare = is }))

  pub all_gates : AreGated plan masks → length masks.channels ≡ length plan.fets → nets.wires ≡ masks.wires → All (HasGate plan nets) roots
  all_gates gated each same k d lt = root_gate gated each same k (get_or roots k d) (slice_get-get_or roots k d lt)

  -- ---- terminals

  module _ (contacts : List (ℕ × NetId)) (pairs : AreContacts plan masks nets contacts) where
    pub contact_terminal : (t net : ℕ) → has_contact contacts t net ≡ true → IsTerminalOf plan masks nets t net
    contact_terminal t net has =
        let (k, c, lt, is, pass) = Any-from_list_any (λ (c : ℕ × NetId). (c.0 == t) && (c.1.0 == net)) contacts has in
        let (first, second) = and_parts (c.0 == t) (c.1.0 == net) pass in
        subst (λ a. IsTerminalOf plan masks nets a net) (eqb-true c.0 t first) (subst (λ b. IsTerminalOf plan masks nets c.0 b) (eqb-true c.1.0 net second)
        (subst (λ (p : ℕ × NetId). IsTerminalOf plan masks nets p.0 p.1.0) is (pairs.sound k c lt)))

    pub contacts_below : All (λ (c : ℕ × NetId). c.0 < length roots) contacts
    contacts_below k d lt = let end = pairs.sound k d lt in cell_in (get_or contacts k d).0 end.line end.x end.y end.cell

    module _ (ends : List Ends) (told : AreEndsOf contacts (length roots) ends) where
      end_at : (t : ℕ) → t < length roots → (e : Ends) × (slice_get ends t ≡ Some e)
      end_at t lt = element_at ends t (omega (arith, lt, told.each))

      pub bare_is : (t : ℕ) (root : Node) → slice_get roots t ≡ Some root → slice_get ends t ≡ Some Bare → IsBare plan masks nets t
      bare_is t root at at_e = record { line = root.wire; x = root.x; y = root.y; cell = root_cell t root at; none = λ net end. told.at t Bare at_e net (pairs.whole t net end) }

      pub crowded_is : (t : ℕ) → slice_get ends t ≡ Some Crowded → IsCrowded plan masks nets t
      crowded_is t at_e = let h = told.at t Crowded at_e in
          record { a = h.a; b = h.b; c = h.c; first = contact_terminal t h.a h.first; second = contact_terminal t h.b h.second; third = contact_terminal t h.c h.third; rising = h.rising; rising_on = h.rising_on }

      -- a transistor without terminals has no ends
      not_bare : (t : ℕ) (e : Ends) → slice_get ends t ≡ Some e → IsBare plan masks nets t → e ≡ Bare
      not_bare t Bare at_e bare = refl
      not_bare t (One a) at_e bare = absurd (bare.none a.0 (contact_terminal t a.0 ((told.at t (One a) at_e).first)))
      not_bare t (Two a b) at_e bare = absurd (bare.none a.0 (contact_terminal t a.0 ((told.at t (Two a b) at_e).first)))
      not_bare t Crowded at_e bare = let h = told.at t Crowded at_e in absurd (bare.none h.a (contact_terminal t h.a h.first))

      pub bare_end : (t : ℕ) → IsBare plan masks nets t → slice_get ends t ≡ Some Bare
      bare_end t bare = let (e, at_e) = end_at t (cell_in t bare.line bare.x bare.y bare.cell) in at_e ∙ ap (λ (x : Ends). Some x) (not_bare t e at_e bare)

      crowded_only : (t : ℕ) (e : Ends) → slice_get ends t ≡ Some e → IsCrowded plan masks nets t → e ≡ Crowded
      crowded_only t Bare at_e h = absurd (told.at t Bare at_e h.a (pairs.whole t h.a h.first))
      crowded_only t (One a) at_e h =
          let k = told.at t (One a) at_e in
          let first = k.only h.a (pairs.whole t h.a h.first) in
          let second = k.only h.b (pairs.whole t h.b h.second) in
          let lt = h.rising in
          absurd (omega (arith, first, second, lt))
      crowded_only t (Two a b) at_e h =
          let k = told.at t (Two a b) at_e in
          two_of a.0 b.0 h.a h.b h.c (k.only h.a (pairs.whole t h.a h.first)) (k.only h.b (pairs.whole t h.b h.second)) (k.only h.c (pairs.whole t h.c h.third)) h.rising h.rising_on
      crowded_only t Crowded at_e h = refl

      pub crowded_end : (t : ℕ) → IsCrowded plan masks nets t → slice_get ends t ≡ Some Crowded
      crowded_end t h = let (e, at_e) = end_at t (cell_in t h.first.line h.first.x h.first.y h.first.cell) in at_e ∙ ap (λ (x : Ends). Some x) (crowded_only t e at_e h)

      -- ---- the first of them

      pub first_bare : AreGated plan masks → (t : ℕ) (root : Node) (cell : Point) → slice_get roots t ≡ Some root → cell.x ≡ root.x → cell.y ≡ root.y → position is_bare ends ≡ Some t → IsFirstBare plan masks nets cell
      first_bare gated t root cell at is_x is_y found =
          let (lt, pass, before) = position-Some is_bare ends t Bare found in
          record {
            gated = gated;
            t = t;
            is = bare_is t root at (slice_get-get_or ends t Bare lt ∙ ap (λ (e : Ends). Some e) (bare_test (get_or ends t Bare) pass));
            first = λ s less bare. not_both_ways (is_bare (get_or ends s Bare)) (ap is_bare (get_or_from_slice_get ends s Bare Bare (bare_end s bare))) (before s less);
            least = root_least t root cell at is_x is_y;
          }

      pub none_bare : position is_bare ends ≡ None → (s : ℕ) → IsBare plan masks nets s → ⊥
      none_bare none s bare = not_both_ways (is_bare Bare) refl (all_pass is_bare ends s Bare (bare_end s bare) none)

      pub first_crowded : AreGated plan masks → position is_bare ends ≡ None → (t : ℕ) (root : Node) (cell : Point) → slice_get roots t ≡ Some root → cell.x ≡ root.x → cell.y ≡ root.y → position is_crowded ends ≡ Some t → IsFirstCrowded plan masks nets cell
      first_crowded gated none t root cell at is_x is_y found =
          let (lt, pass, before) = position-Some is_crowded ends t Bare found in
          record {
            gated = gated;
            ended = none_bare none;
            t = t;
            is = crowded_is t (slice_get-get_or ends t Bare lt ∙ ap (λ (e : Ends). Some e) (crowded_test (get_or ends t Bare) pass));
            first = λ s less crowded. not_both_ways (is_crowded (get_or ends s Bare)) (ap is_crowded (get_or_from_slice_get ends s Crowded Bare (crowded_end s crowded))) (before s less);
            least = root_least t root cell at is_x is_y;
          }

      -- ---- the list

      module _ (gated : AreGated plan masks) (fets : List Fet) (made : AreFetsAt plan nets roots ends (length roots) fets) where
        by_ends : (t : ℕ) (root : Node) (e : Ends) (fet : Fet) → slice_get roots t ≡ Some root → slice_get ends t ≡ Some e → IsFetAt plan nets root e fet → IsPair e fet.a fet.b → IsTransistor plan masks nets t fet
        by_ends t root Bare fet at_r at_e is pair = absurd pair
        by_ends t root Crowded fet at_r at_e is pair = absurd pair
        by_ends t root (One a) fet at_r at_e is pair =
            let h = told.at t (One a) at_e in
            let end = contact_terminal t a.0 h.first in
            record {
              kind = record { line = root.wire; x = root.x; y = root.y; fet = is.line; at = is.at; cell = root_cell t root at_r; is = is.kind };
              gate = record { line = root.wire; x = root.x; y = root.y; fet = is.line; at = is.at; cell = root_cell t root at_r; number = is.gate };
              a = subst (λ (n : NetId). IsTerminalOf plan masks nets t n.0) (sym pair.0) end;
              b = subst (λ (n : NetId). IsTerminalOf plan masks nets t n.0) (sym pair.1) end;
              only = λ net other. inl (h.only net (pairs.whole t net other) ∙ ap (λ (n : NetId). n.0) (sym pair.0));
              order = let same : fet.a.0 ≡ fet.b.0 = ap (λ (n : NetId). n.0) (pair.0 ∙ sym pair.1) in omega (arith, same);
            }
        by_ends t root (Two a b) fet at_r at_e is pair =
            let h = told.at t (Two a b) at_e in
            record {
              kind = record { line = root.wire; x = root.x; y = root.y; fet = is.line; at = is.at; cell = root_cell t root at_r; is = is.kind };
              gate = record { line = root.wire; x = root.x; y = root.y; fet = is.line; at = is.at; cell = root_cell t root at_r; number = is.gate };
              a = subst (λ (n : NetId). IsTerminalOf plan masks nets t n.0) (sym pair.0) (contact_terminal t a.0 h.first);
              b = subst (λ (n : NetId). IsTerminalOf plan masks nets t n.0) (sym pair.1) (contact_terminal t b.0 h.second);
              only = λ net other. elim (h.only net (pairs.whole t net other)) [
                | inl one ↦ inl (one ∙ ap (λ (n : NetId). n.0) (sym pair.0))
                | inr two ↦ inr (two ∙ ap (λ (n : NetId). n.0) (sym pair.1))
              ];
              order = let first : fet.a.0 ≡ a.0 = ap (λ (n : NetId). n.0) pair.0 in let second : fet.b.0 ≡ b.0 = ap (λ (n : NetId). n.0) pair.1 in let lt = h.rising in omega (arith, first, second, lt);
            }

        pub are_transistors : AreTransistors plan masks nets fets
        are_transistors = record {
          gated = gated;
          count = subst (IsNetCount (channel_plane masks)) (sym made.each) roots_count;
          each = λ t fet at_f.
              let lt : t < length roots = omega (arith, made.each, slice_get_within fets t fet at_f) in
              let (root, at_r) = element_at roots t lt in
              let (e, at_e) = end_at t lt in
              let is = made.at t root e fet at_r at_e at_f in
              by_ends t root e fet at_r at_e is is.pair;
        }
