-- Transistors and nets that touch at the cells of a side.
use Rattle.std.proofs.Common.{◌≡◌, ℕ, ◌+◌, ◌<◌, ◌≤◌, Bool, true, false, not, ◌&&◌, ◌||◌, ◌==◌, List, [], ◌∷◌, ◌++◌, length, refl, sym, ap, ◌∙◌, subst, arith, inl, inr, slice_get, Some, append_assoc}
use Rattle.std.specs.Prelude.{ℤ, ◌+ℤ◌, ◌-ℤ◌, pos, int_lt}
use Rattle.std.specs.List.{All}
use Rattle.std.proofs.lemmas.Bool.{cases_order, and_parts, and_from, eq-eqb, or_left}
use Rattle.std.proofs.lemmas.Int.{ints}
use Rattle.std.proofs.lemmas.List.Elements.{All-nil, All-push, All-append, All-weaker}
use Rattle.std.proofs.lemmas.List.Folds.{list_any-append}
use Rattle.std.proofs.lemmas.Option.{slice_get_within}
use Rattle.link_classes.specs.Linked.{Linked}
use Rattle.link_classes.proofs.Chains.{linked_map, linked_touch}
use Rattle.link_classes.proofs.UniqueNumbers.{some_one}
use Rattle.plane_geom.specs.Cells.{is_between}
use Rattle.switch_net.specs.declared.NetId.{NetId}
use Rattle.layer_map.specs.Plan.{Plan, IsKeptMap}
use Rattle.mask_region.specs.declared.strips.Strip.{Strip}
use Rattle.mask_region.specs.Strips.{MaskLists, is_in_strip, Banded}
use Rattle.net_trace.specs.declared.node.Node.{Node}
use Rattle.net_trace.specs.Touching.{Nets, has_node, is_node, is_along, is_through}
use Rattle.net_trace.specs.Nets.{node_at, is_link, IsNetNumber}
use Rattle.net_trace.specs.Wirings.{is_along_wire}
use Rattle.net_trace.proofs.Lists.{none_more}
use Rattle.net_trace.proofs.NetNumbers.{net_one}
use Rattle.net_trace.proofs.Rectangles.{rectangle_linked}
use Rattle.net_trace.proofs.TracedNets.{touch_link}
use Rattle.net_trace.proofs.Tying.{least_cell}
use Rattle.net_trace.proofs.VertexFacts.{strip_with, in_region}
use Rattle.device_extract.specs.declared.sides.Side.{Side}
use Rattle.device_extract.specs.Channels.{channel_plane}
use Rattle.device_extract.specs.Transistors.{IsTerminalOf}
use Rattle.device_extract.specs.Contacts.{IsSideOf, HasSide, AreSides, AreTouched, has_contact, IsContactAt, IsContact, AreContactsAdded, AreContacts}
use Rattle.device_extract.proofs.FetLists.{kept_at}
use Rattle.device_extract.proofs.SideLists.{step_between, step_beside}

-- ---- strips of nodes

-- A strip whose cells are all on the wire lies on one net.
pub strip_one : (nets : Nets) (w : ℕ) (s : Strip) (x y : ℤ) (m n : ℕ) → ((i j : ℤ) → is_in_strip s i j ≡ true → has_node nets w i j ≡ true) → is_in_strip s x y ≡ true
    → IsNetNumber nets (node_at w s.x0 s.y0) m → IsNetNumber nets (node_at w x y) n → m ≡ n
strip_one nets w s x y m n cells here first second =
    net_one nets (node_at w s.x0 s.y0) (node_at w x y) m n first second
    (linked_map (is_along_wire nets.wires) (is_link nets) (λ a. a) step (node_at w s.x0 s.y0) (node_at w x y) (rectangle_linked nets.wires w s x y cells here))
  where
    step : (a b : Node) → is_along_wire nets.wires a b ≡ true → Linked (is_link nets) a b
    step a b is =
        let (nodes, along) = and_parts (is_node nets a && is_node nets b) (is_along a b) is in
        linked_touch (is_link nets) a b (touch_link nets a b (and_from (is_node nets a && is_node nets b) (is_along a b || is_through nets.cuts a b) nodes (or_left (is_along a b) (is_through nets.cuts a b) along)))

-- the same for cells that lie a step from those of a strip
low_on : (a x r : ℤ) → int_lt x (a -ℤ r) ≡ int_lt (x +ℤ r) a
low_on a x r = grind (arith, ints)

low_of : (a x r : ℤ) → int_lt (x -ℤ r) (a -ℤ r) ≡ int_lt x a
low_of a x r = grind (arith, ints)

span_on : (a b x r : ℤ) → is_between (a -ℤ r) (b -ℤ r) x ≡ is_between a b (x +ℤ r)
span_on a b x r = λ i. not (low_on a x r i) && low_on b x r i

span_of : (a b x r : ℤ) → is_between (a -ℤ r) (b -ℤ r) (x -ℤ r) ≡ is_between a b x
span_of a b x r = λ i. not (low_of a x r i) && low_of b x r i

back_on : (right up : ℤ) (s : Strip) (x y : ℤ) → is_in_strip (record { y0 = s.y0 -ℤ up; y1 = s.y1 -ℤ up; x0 = s.x0 -ℤ right; x1 = s.x1 -ℤ right }) x y ≡ is_in_strip s (x +ℤ right) (y +ℤ up)
back_on right up s x y = λ i. span_on s.x0 s.x1 x right i && span_on s.y0 s.y1 y up i

back_of : (right up : ℤ) (s : Strip) (x y : ℤ) → is_in_strip (record { y0 = s.y0 -ℤ up; y1 = s.y1 -ℤ up; x0 = s.x0 -ℤ right; x1 = s.x1 -ℤ right }) (x -ℤ right) (y -ℤ up) ≡ is_in_strip s x y
back_of right up s x y = λ i. span_of s.x0 s.x1 x right i && span_of s.y0 s.y1 y up i

there_and_back : (x r : ℤ) → (x +ℤ r) -ℤ r ≡ x
there_and_back x r = omega (arith, ints)

pub strip_one_back : (nets : Nets) (w : ℕ) (right up : ℤ) (s : Strip) (x y : ℤ) (m n : ℕ) → ((i j : ℤ) → is_in_strip s i j ≡ true → has_node nets w (i -ℤ right) (j -ℤ up) ≡ true) → is_in_strip s x y ≡ true
    → IsNetNumber nets (node_at w (s.x0 -ℤ right) (s.y0 -ℤ up)) m → IsNetNumber nets (node_at w (x -ℤ right) (y -ℤ up)) n → m ≡ n
strip_one_back nets w right up s x y m n cells here first second =
    strip_one nets w (record { y0 = s.y0 -ℤ up; y1 = s.y1 -ℤ up; x0 = s.x0 -ℤ right; x1 = s.x1 -ℤ right }) (x -ℤ right) (y -ℤ up) m n
    (λ i j in_s. subst (λ (a : ℤ). has_node nets w a j ≡ true) (there_and_back i right) (subst (λ (b : ℤ). has_node nets w ((i +ℤ right) -ℤ right) b ≡ true) (there_and_back j up)
    (cells (i +ℤ right) (j +ℤ up) (sym (back_on right up s i j) ∙ in_s)))) (back_of right up s x y ∙ here) first second

-- ---- one contact

pub none_left : (plane nets : Nets) (l w : ℕ) (x y a b p q : ℤ) → p ≡ a → q ≡ b → has_node plane l p q ≡ false → (has_node plane l a b && has_node nets w x y) ≡ false
none_left plane nets l w x y a b p q is_p is_q h = ap (λ t. t && has_node nets w x y) (ap (λ (z : ℤ). has_node plane l z b) (sym is_p) ∙ ap (λ (z : ℤ). has_node plane l p z) (sym is_q) ∙ h)

pub none_right : (plane nets : Nets) (l w : ℕ) (x y a b p q : ℤ) → p ≡ x → q ≡ y → has_node nets w p q ≡ false → (has_node plane l a b && has_node nets w x y) ≡ false
none_right plane nets l w x y a b p q is_p is_q h =
    ap (λ t. has_node plane l a b && t) (ap (λ (z : ℤ). has_node nets w z y) (sym is_p) ∙ ap (λ (z : ℤ). has_node nets w p z) (sym is_q) ∙ h) ∙ and_none (has_node plane l a b)
  where
    and_none : (t : Bool) → (t && false) ≡ false
    and_none true = refl
    and_none false = refl

pub contact_here : (plane nets : Nets) (side : Side) (s : Strip) (c : ℕ × NetId) (p q i j : ℤ) → p ≡ s.x0 -ℤ side.right → q ≡ s.y0 -ℤ side.up → i ≡ s.x0 → j ≡ s.y0
    → IsNetNumber plane (node_at side.line p q) c.0 → IsNetNumber nets (node_at side.diff.0 i j) c.1.0 → IsContactAt plane nets side s.x0 s.y0 c
contact_here plane nets side s c p q i j is_p is_q is_i is_j cell number = record {
  cell = subst (λ (a : ℤ). IsNetNumber plane (node_at side.line a (s.y0 -ℤ side.up)) c.0) is_p (subst (λ (b : ℤ). IsNetNumber plane (node_at side.line p b) c.0) is_q cell);
  number = subst (λ (a : ℤ). IsNetNumber nets (node_at side.diff.0 a s.y0) c.1.0) is_i (subst (λ (b : ℤ). IsNetNumber nets (node_at side.diff.0 i b) c.1.0) is_j number);
}

-- ---- the contacts of a side

-- The first strips of the side's cells have given their contacts.
pub record IsContacting (plane nets : Nets) (side : Side) (strips : List Strip) (n : ℕ) (old new : List (ℕ × NetId)) : Type 0 where
  pub more : List (ℕ × NetId)
  pub added : new ≡ old ++ more
  pub sound : All (IsContact plane nets side) more
  pub whole : (k : ℕ) (s : Strip) (x y : ℤ) (t net : ℕ) → k < n → slice_get strips k ≡ Some s → is_in_strip s x y ≡ true
      → IsNetNumber plane (node_at side.line (x -ℤ side.right) (y -ℤ side.up)) t → IsNetNumber nets (node_at side.diff.0 x y) net → has_contact more t net ≡ true

pub contact_more : (xs : List (ℕ × NetId)) (c : ℕ × NetId) (t net : ℕ) → has_contact xs t net ≡ true → has_contact (xs ++ c ∷ []) t net ≡ true
contact_more xs c t net has = list_any-append (λ (x : ℕ × NetId). (x.0 == t) && (x.1.0 == net)) xs (c ∷ []) ∙ ap (λ b. b || has_contact (c ∷ []) t net) has

contact_last : (xs : List (ℕ × NetId)) (c : ℕ × NetId) (t net : ℕ) → c.0 ≡ t → c.1.0 ≡ net → has_contact (xs ++ c ∷ []) t net ≡ true
contact_last xs c t net first second =
    let own : ((c.0 == t) && (c.1.0 == net)) ≡ true = and_from (c.0 == t) (c.1.0 == net) (eq-eqb c.0 t first) (eq-eqb c.1.0 net second) in
    list_any-append (λ (x : ℕ × NetId). (x.0 == t) && (x.1.0 == net)) xs (c ∷ []) ∙ both (has_contact xs t net) ((c.0 == t) && (c.1.0 == net)) own
  where
    both : (a b : Bool) → b ≡ true → (a || (b || false)) ≡ true
    both true b h = refl
    both false true h = refl
    both false false h = h

module _ (plane nets : Nets) (side : Side) (strips : List Strip) where
  pub contacting_none : (old : List (ℕ × NetId)) → IsContacting plane nets side strips 0 old old
  contacting_none old = record { more = []; added = none_more old; sound = All-nil (IsContact plane nets side); whole = λ k s x y t net lt. absurd (omega (arith, lt)) }

  module _ (touched : AreTouched plane nets side strips) (banded : Banded strips) (n : ℕ) (s : Strip) (at : slice_get strips n ≡ Some s) where
    cells_of : (x y : ℤ) → is_in_strip s x y ≡ true → (has_node plane side.line (x -ℤ side.right) (y -ℤ side.up) ≡ true) × (has_node nets side.diff.0 x y ≡ true)
    cells_of x y in_s = and_parts (has_node plane side.line (x -ℤ side.right) (y -ℤ side.up)) (has_node nets side.diff.0 x y) (sym (touched.cells x y) ∙ in_region strips n s x y at in_s)

    pub contacting_more : (c : ℕ × NetId) (old now new : List (ℕ × NetId)) → IsContacting plane nets side strips n old now → IsContactAt plane nets side s.x0 s.y0 c → new ≡ now ++ c ∷ [] → IsContacting plane nets side strips (n + 1) old new
    contacting_more c old now new h here is = record {
      more = h.more ++ c ∷ [];
      added = is ∙ ap (λ l. l ++ c ∷ []) h.added ∙ append_assoc old h.more (c ∷ []);
      sound = All-push (IsContact plane nets side) h.more c h.sound (record { x = s.x0; y = s.y0; at = here });
      whole = λ k r x y t net lt at_k in_r number_t number_n. elim (cases_order k n) [
        | inl same ↦ last r (some_one r s (sym at_k ∙ ap (λ m. slice_get strips m) same ∙ at)) x y t net in_r number_t number_n
        | inr (inl less) ↦ contact_more h.more c t net (h.whole k r x y t net less at_k in_r number_t number_n)
        | inr (inr after) ↦ absurd (omega (arith, lt, after))
      ];
    } where
      last : (r : Strip) → r ≡ s → (x y : ℤ) (t net : ℕ) → is_in_strip r x y ≡ true → IsNetNumber plane (node_at side.line (x -ℤ side.right) (y -ℤ side.up)) t → IsNetNumber nets (node_at side.diff.0 x y) net → has_contact (h.more ++ c ∷ []) t net ≡ true
      last r same x y t net in_r number_t number_n =
          let in_s : is_in_strip s x y ≡ true = subst (λ (q : Strip). is_in_strip q x y ≡ true) same in_r in
          contact_last h.more c t net
          (strip_one_back plane side.line side.right side.up s x y c.0 t (λ i j in_q. (cells_of i j in_q).0) in_s here.cell number_t)
          (strip_one nets side.diff.0 s x y c.1.0 net (λ i j in_q. (cells_of i j in_q).1) in_s here.number number_n)

    pub corner_nodes : (has_node plane side.line (s.x0 -ℤ side.right) (s.y0 -ℤ side.up) ≡ true) × (has_node nets side.diff.0 s.x0 s.y0 ≡ true)
    corner_nodes = cells_of s.x0 s.y0 (least_cell strips n s banded at)

  pub contacts_added : (n : ℕ) (old new : List (ℕ × NetId)) → AreTouched plane nets side strips → length strips ≤ n → IsContacting plane nets side strips n old new → AreContactsAdded plane nets side old new
  contacts_added n old new touched le h = record {
    more = h.more;
    added = h.added;
    sound = h.sound;
    whole = λ x y t net number_t number_n.
        let (k, s, at, in_s) = strip_with strips x y (touched.cells x y ∙ and_from (has_node plane side.line (x -ℤ side.right) (y -ℤ side.up)) (has_node nets side.diff.0 x y) number_t.thing number_n.thing) in
        h.whole k s x y t net (omega (arith, le, slice_get_within strips k s at)) at in_s number_t number_n;
  }

-- ---- the contacts of all sides

abbrev pub no_side : Side
no_side = record { line = 0; diff = record { 0 = 0 }; right = pos 0; up = pos 0 }

-- The first sides have given their contacts.
pub record AreContactsTo (plan : Plan) (masks : MaskLists) (nets : Nets) (sides : List Side) (n : ℕ) (contacts : List (ℕ × NetId)) : Type 0 where
  pub sound : All (λ c. IsTerminalOf plan masks nets c.0 c.1.0) contacts
  pub whole : (k : ℕ) (s : Side) (x y : ℤ) (t net : ℕ) → k < n → slice_get sides k ≡ Some s
      → IsNetNumber (channel_plane masks) (node_at s.line (x -ℤ s.right) (y -ℤ s.up)) t → IsNetNumber nets (node_at s.diff.0 x y) net → has_contact contacts t net ≡ true

module _ (plan : Plan) (masks : MaskLists) (nets : Nets) (sides : List Side) where
  pub contacts_none : (contacts : List (ℕ × NetId)) → contacts ≡ [] → AreContactsTo plan masks nets sides 0 contacts
  contacts_none contacts is = subst (AreContactsTo plan masks nets sides 0) (sym is) (record { sound = All-nil (λ (c : ℕ × NetId). IsTerminalOf plan masks nets c.0 c.1.0); whole = λ k s x y t net lt. absurd (omega (arith, lt)) })

  terminal_of : (s : Side) → IsSideOf plan.fets s → (c : ℕ × NetId) → IsContact (channel_plane masks) nets s c → IsTerminalOf plan masks nets c.0 c.1.0
  terminal_of s of c h = record {
    line = s.line;
    x = h.x -ℤ s.right;
    y = h.y -ℤ s.up;
    i = h.x;
    j = h.y;
    fet = of.fet;
    at = of.at;
    cell = h.at.cell;
    beside = step_beside h.x h.y s.right s.up of.step;
    number = subst (λ w. IsNetNumber nets (node_at w h.x h.y) c.1.0) of.diff h.at.number;
  }

  pub contacts_more : (n : ℕ) (s : Side) (old new : List (ℕ × NetId)) → slice_get sides n ≡ Some s → IsSideOf plan.fets s → AreContactsTo plan masks nets sides n old → AreContactsAdded (channel_plane masks) nets s old new
      → AreContactsTo plan masks nets sides (n + 1) new
  contacts_more n s old new at of h added = subst (AreContactsTo plan masks nets sides (n + 1)) (sym added.added) (record {
    sound = All-append (λ (c : ℕ × NetId). IsTerminalOf plan masks nets c.0 c.1.0) old added.more h.sound
        (All-weaker (IsContact (channel_plane masks) nets s) (λ (c : ℕ × NetId). IsTerminalOf plan masks nets c.0 c.1.0) (terminal_of s of) added.more added.sound);
    whole = λ k r x y t net lt at_k number_t number_n. elim (cases_order k n) [
      | inl same ↦ right t net (last r (some_one r s (sym at_k ∙ ap (λ m. slice_get sides m) same ∙ at)) x y t net number_t number_n)
      | inr (inl less) ↦ left t net (h.whole k r x y t net less at_k number_t number_n)
      | inr (inr after) ↦ absurd (omega (arith, lt, after))
    ];
  }) where
    left : (t net : ℕ) → has_contact old t net ≡ true → has_contact (old ++ added.more) t net ≡ true
    left t net has = list_any-append (λ (x : ℕ × NetId). (x.0 == t) && (x.1.0 == net)) old added.more ∙ ap (λ b. b || has_contact added.more t net) has

    right : (t net : ℕ) → has_contact added.more t net ≡ true → has_contact (old ++ added.more) t net ≡ true
    right t net has = list_any-append (λ (x : ℕ × NetId). (x.0 == t) && (x.1.0 == net)) old added.more ∙ ap (λ b. has_contact old t net || b) has ∙ or_true (has_contact old t net)
      where
        or_true : (b : Bool) → (b || true) ≡ true
        or_true true = refl
        or_true false = refl

    last : (r : Side) → r ≡ s → (x y : ℤ) (t net : ℕ) → IsNetNumber (channel_plane masks) (node_at r.line (x -ℤ r.right) (y -ℤ r.up)) t → IsNetNumber nets (node_at r.diff.0 x y) net → has_contact added.more t net ≡ true
    last r same x y t net number_t number_n =
        added.whole x y t net (subst (λ (q : Side). IsNetNumber (channel_plane masks) (node_at q.line (x -ℤ q.right) (y -ℤ q.up)) t) same number_t) (subst (λ (q : Side). IsNetNumber nets (node_at q.diff.0 x y) net) same number_n)

  step_back : (x i : ℤ) → x ≡ i -ℤ (i -ℤ x)
  step_back x i = omega (arith, ints)

  pub contacts_all : (n count : ℕ) (contacts : List (ℕ × NetId)) → length plan.fets ≤ count → length sides ≤ n → AreSides plan.fets count sides → AreContactsTo plan masks nets sides n contacts → AreContacts plan masks nets contacts
  contacts_all n count contacts all le are h = record {
    sound = h.sound;
    whole = λ t net end.
        let side = are.whole end.line end.fet (end.i -ℤ end.x) (end.j -ℤ end.y) (omega (arith, all, slice_get_within plan.fets end.line end.fet end.at)) end.at (step_between end.x end.y end.i end.j end.beside) in
        h.whole side.k side.side end.i end.j t net (omega (arith, le, slice_get_within sides side.k side.side side.at)) side.at
        (cell_moved t end side) (subst (λ w. IsNetNumber nets (node_at w end.i end.j) net) (sym side.diff_is) end.number);
  } where
    cell_moved : (t : ℕ) {net : ℕ} (end : IsTerminalOf plan masks nets t net) (side : HasSide sides end.line end.fet.diff (end.i -ℤ end.x) (end.j -ℤ end.y))
        → IsNetNumber (channel_plane masks) (node_at side.side.line (end.i -ℤ side.side.right) (end.j -ℤ side.side.up)) t
    cell_moved t end side =
        subst (λ (l : ℕ). IsNetNumber (channel_plane masks) (node_at l (end.i -ℤ side.side.right) (end.j -ℤ side.side.up)) t) (sym side.line_is)
        (subst (λ (a : ℤ). IsNetNumber (channel_plane masks) (node_at end.line a (end.j -ℤ side.side.up)) t) (step_back end.x end.i ∙ ap (λ (r : ℤ). end.i -ℤ r) (sym side.right_is))
        (subst (λ (b : ℤ). IsNetNumber (channel_plane masks) (node_at end.line end.x b) t) (step_back end.y end.j ∙ ap (λ (r : ℤ). end.j -ℤ r) (sym side.up_is)) end.cell))

-- the diff wire of a side is one of the map's wires
pub side_within : (plan : Plan) (masks : MaskLists) (s : Side) → IsKeptMap plan → IsSideOf plan.fets s → length masks.wires ≡ length plan.wires → s.diff.0 < length masks.wires
side_within plan masks s kept of same = let diff = (kept_at plan s.line of.fet kept of.at).diff in let is = of.diff in omega (arith, diff, is, same)
