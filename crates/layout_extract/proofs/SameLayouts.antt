-- Layouts that hold the same have the same named nets, and are refused for the same reason.
use Rattle.std.proofs.Common.{◌≡◌, inl, inr, ℕ, zero, suc, ◌&&◌, ◌||◌, ℤ, Bool, true, List, [], ◌∷◌, length, map, find, Some, slice_get, refl, sym, ◌∙◌, ap, subst, arith}
use Rattle.std.specs.Prelude.{zip, count_by, is_some, not}
use Rattle.std.specs.List.{list_any, AllZip}
use Rattle.std.specs.Str.{bytes_eq}
use Rattle.std.specs.Fmt.{decimal}
use Rattle.std.specs.Ordering.{int_eq, nat_cmp, is_le}
use Rattle.std.specs.declared.cmp.Ordering.{Ordering}
use Rattle.std.specs.declared.cmp.Ordering.TheVariants.{Less, Equal, Greater}
use Rattle.std.specs.Cmp.{both_ways}
use Rattle.std.specs.Cmp.Lexicographic.{slice_cmp}
use Rattle.std.specs.FinMap.{nat_cmp-IsAntisymmetric, slice_cmp-IsAntisymmetric}
use Rattle.std.proofs.lemmas.Cmp.{nat_list_cmp_total}
use Rattle.std.proofs.lemmas.Slice.Zip.{AllZip-long}
use Rattle.std.proofs.lemmas.List.{length-map}
use Rattle.plane_geom.specs.Covering.{figure_of, covers}
use Rattle.cif_reader.specs.File.{Contents}
use Rattle.cif_reader.specs.Same.{IsSameFile}
use Rattle.cif_flatten.specs.declared.flat.Draw.{Draw}
use Rattle.cif_flatten.specs.declared.flat.Mark.{Mark}
use Rattle.cif_flatten.specs.Flat.{Lists}
use Rattle.cif_flatten.specs.Unfolding.{Drawn, Marked}
use Rattle.cif_flatten.specs.Flattening.{AreCallsApart, IsFlattened, drawn_of, marked_of}
use Rattle.cif_flatten.proofs.OneAnswer.{one_layout, never_both, one_fault}
use Rattle.cif_flatten.proofs.SameFiles.{first_fault_same, same_file}
use Rattle.layer_map.specs.Truth.{Formula, holds}
use Rattle.layer_map.specs.Plan.{Plan, Cut}
use Rattle.mask_region.specs.declared.strips.Strip.{Strip}
use Rattle.mask_region.specs.Strips.{MaskLists}
use Rattle.mask_algebra.specs.Masks.{layer_covers, is_true_at, IsMask, wire_formulas}
use Rattle.link_classes.specs.Linked.{Linked}
use Rattle.link_classes.specs.Numbering.{AreRoots, IsNumber, IsCount}
use Rattle.link_classes.proofs.UniqueNumbers.{count_one}
use Rattle.net_trace.specs.declared.node.Node.{Node}
use Rattle.net_trace.specs.Touching.{Nets, Cut as CutCells, traced_nets, is_in_wire, has_node, is_node, is_along, is_listed, is_cut_at, touches}
use Rattle.net_trace.specs.Nets.{node_cmp, is_joined, is_link, HasMoreNets}
use Rattle.layout_extract.specs.declared.refusal.LayoutRefusal.{LayoutRefusal}
use Rattle.layout_extract.specs.declared.refusal.LayoutRefusal.TheVariants.{Flat, TooManyNets, LabelAmbiguous, NoMemory}
use Rattle.layout_extract.specs.Labels.{tried_wires, cells_round, is_round, label_wire, is_shallow, is_wire, is_bound_at, IsAmbiguous, IsFirstAmbiguous, count_bound, count_unbound}
use Rattle.layout_extract.specs.Names.{Labelled, is_joining, is_net_link, IsNamedNumber, IsNamedCount, IsBoundName, is_listed_name, IsNameOf}
use Rattle.layout_extract.specs.Same.{AreSameNamed}
use Rattle.layout_extract.specs.Layouts.{NamedNets, AreLayoutMasks, labelled_by, AreJoinedAs, IsNamed, HasManyPieces, HasAmbiguous, IsNamedFrom, RefusesLayout}
use Rattle.net_trace.proofs.NodeOrder.{node_total, node_equal}

-- ---- shapes and labels

is_drawn_at : List ℕ → ℤ → ℤ → Drawn → Bool
is_drawn_at name x y d = bytes_eq d.layer name && covers d.figure x y

covers_by : (draws : List Draw) (name : List ℕ) (x y : ℤ) → layer_covers draws name x y ≡ list_any (is_drawn_at name x y) (map drawn_of draws)
unfolding is_drawn_at
covers_by [] name x y = refl
covers_by (d ∷ draws) name x y = λ i. (bytes_eq d.layer name && covers (figure_of d.shape) x y) || covers_by draws name x y i

covers_alike : (draws others : List Draw) → map drawn_of draws ≡ map drawn_of others → (name : List ℕ) (x y : ℤ) → layer_covers draws name x y ≡ layer_covers others name x y
covers_alike draws others same name x y = covers_by draws name x y ∙ ap (λ ds. list_any (is_drawn_at name x y) ds) same ∙ sym (covers_by others name x y)

true_alike : (draws others : List Draw) → map drawn_of draws ≡ map drawn_of others → (f : Formula) (x y : ℤ) → is_true_at draws f x y ≡ is_true_at others f x y
true_alike draws others same f x y = λ i. holds f (λ name. covers_alike draws others same name x y i)

label_of : Marked → Mark
label_of m = record { name = m.name; at = m.at; layer = m.layer; depth = m.depth; pos = m.pos }

labels_back : (marks : List Mark) → map label_of (map marked_of marks) ≡ marks
unfolding label_of
labels_back [] = refl
labels_back (m ∷ marks) = λ i. m ∷ labels_back marks i

labels_alike : (marks others : List Mark) → map marked_of marks ≡ map marked_of others → marks ≡ others
labels_alike marks others same = sym (labels_back marks) ∙ ap (λ ms. map label_of ms) same ∙ labels_back others

-- ---- the nodes of masks

module _ (draws others : List Draw) (same : map drawn_of draws ≡ map drawn_of others) where
  wire_alike : (formulas : List Formula) (rs qs : List (List Strip)) → AllZip (IsMask draws) formulas rs → AllZip (IsMask others) formulas qs → (w : ℕ) (x y : ℤ) → is_in_wire (slice_get rs w) x y ≡ is_in_wire (slice_get qs w) x y
  wire_alike [] [] [] a b w x y = refl
  wire_alike [] [] (q ∷ qs) a b w x y = absurd b
  wire_alike [] (r ∷ rs) qs a b w x y = absurd a
  wire_alike (f ∷ fs) [] qs a b w x y = absurd a
  wire_alike (f ∷ fs) (r ∷ rs) [] a b w x y = absurd b
  wire_alike (f ∷ fs) (r ∷ rs) (q ∷ qs) a b zero x y = a.0.cells x y ∙ true_alike draws others same f x y ∙ sym (b.0.cells x y)
  wire_alike (f ∷ fs) (r ∷ rs) (q ∷ qs) a b (suc w) x y = wire_alike fs rs qs a.1 b.1 w x y

  cuts_by : List Cut → List (List Strip) → List CutCells
  cuts_by cuts rs = map (λ p. record { region = p.0; wires = p.1 }) (zip rs (map (λ c. c.wires) cuts))

  through_alike : (cuts : List Cut) (rs qs : List (List Strip)) → AllZip (IsMask draws) (map (λ c. c.formula) cuts) rs → AllZip (IsMask others) (map (λ c. c.formula) cuts) qs → (p q : Node) → list_any (is_cut_at p q) (cuts_by cuts rs) ≡ list_any (is_cut_at p q) (cuts_by cuts qs)
  unfolding cuts_by
  through_alike [] [] [] a b p q = refl
  through_alike [] [] (r ∷ qs) a b p q = absurd b
  through_alike [] (r ∷ rs) qs a b p q = absurd a
  through_alike (c ∷ cs) [] qs a b p q = absurd a
  through_alike (c ∷ cs) (r ∷ rs) [] a b p q = absurd b
  through_alike (c ∷ cs) (r ∷ rs) (s ∷ qs) a b p q =
      λ i. ((is_listed c.wires p.wire && is_listed c.wires q.wire) && (a.0.cells p.x p.y ∙ true_alike draws others same c.formula p.x p.y ∙ sym (b.0.cells p.x p.y)) i) || through_alike cs rs qs a.1 b.1 p q i

  module _ (plan : Plan) (masks shapes : MaskLists) (one : AreLayoutMasks plan draws masks) (two : AreLayoutMasks plan others shapes) where
    nodes_alike : (w : ℕ) (x y : ℤ) → has_node (traced_nets plan masks) w x y ≡ has_node (traced_nets plan shapes) w x y
    nodes_alike = wire_alike (wire_formulas plan) masks.wires shapes.wires one.wires.each two.wires.each

    touches_alike : (p q : Node) → touches (traced_nets plan masks) p q ≡ touches (traced_nets plan shapes) p q
    unfolding cuts_by
    touches_alike p q = λ i. (nodes_alike p.wire p.x p.y i && nodes_alike q.wire q.x q.y i) && (is_along p q || ((int_eq p.x q.x && int_eq p.y q.y) && through_alike plan.cuts masks.cuts shapes.cuts one.cuts.each two.cuts.each p q i))

    pieces_alike : (most : ℕ) → HasMoreNets (traced_nets plan masks) most → HasMoreNets (traced_nets plan shapes) most
    pieces_alike most h =
        let nodes : is_node (traced_nets plan masks) ≡ is_node (traced_nets plan shapes) = λ i a. nodes_alike a.wire a.x a.y i in
        let links : is_link (traced_nets plan masks) ≡ is_link (traced_nets plan shapes) = λ i p q. touches_alike p q i || ((nodes_alike p.wire p.x p.y i && nodes_alike q.wire q.x q.y i) && is_joined [] p q) in
        record { count = h.count; is = subst (λ (t : (Node → Bool) × (Node → Node → Bool)). IsCount node_cmp t.0 t.1 h.count) (λ i. (nodes i, links i)) h.is; more = h.more }

-- ---- labels and names on nets with the same nodes

module _ (plan : Plan) (marks : List Mark) (a b : Nets) (nodes : (w : ℕ) (x y : ℤ) → has_node a w x y ≡ has_node b w x y) (touch : (p q : Node) → touches a p q ≡ touches b p q) where
  wires_alike : (m : Mark) → label_wire a plan m ≡ label_wire b plan m
  wires_alike m = λ i. find (λ wire. list_any (λ c. nodes wire c.x c.y i) (cells_round m.at)) (tried_wires plan m.layer)

  bound_alike : (m : Mark) (p : Node) → is_bound_at a plan m p ≡ is_bound_at b plan m p
  bound_alike m p = λ i. (is_shallow m && is_wire (wires_alike m i) p.wire) && (is_round m.at p.x p.y && nodes p.wire p.x p.y i)

  touch_back : (p q : Node) → Linked (touches b) p q → Linked (touches a) p q
  touch_back p q l = subst (λ t. Linked t p q) (λ i r s. sym (touch r s) i) l

  ambiguous_alike : (m : Mark) → IsAmbiguous a plan m → IsAmbiguous b plan m
  ambiguous_alike m h = record {
    a = h.a;
    b = h.b;
    at_a = sym (bound_alike m h.a) ∙ h.at_a;
    at_b = sym (bound_alike m h.b) ∙ h.at_b;
    apart = λ l. h.apart (touch_back h.a h.b l);
  }

  bound_count : count_bound a plan marks ≡ count_bound b plan marks
  bound_count = λ i. count_by (λ m. is_shallow m && is_some (wires_alike m i)) marks

  unbound_count : count_unbound a plan marks ≡ count_unbound b plan marks
  unbound_count = λ i. count_by (λ m. is_shallow m && not (is_some (wires_alike m i))) marks

  on : Labelled
  on = record { nets = a; plan = plan; marks = marks }

  over : Labelled
  over = record { nets = b; plan = plan; marks = marks }

  named_links : is_net_link on ≡ is_net_link over
  unfolding on over
  named_links = λ i p q. touch p q i || list_any (λ m. bound_alike m p i && list_any (λ n. bound_alike n q i && is_joining plan m.name n.name) marks) marks

  named_nodes : is_node (on.nets) ≡ is_node (over.nets)
  unfolding on over
  named_nodes = λ i p. nodes p.wire p.x p.y i

  number_alike : (p : Node) (n : ℕ) → IsNamedNumber on p n → IsNamedNumber over p n
  number_alike p n h = subst (λ (t : (Node → Bool) × (Node → Node → Bool)). IsNumber node_cmp t.0 t.1 p n) (λ i. (named_nodes i, named_links i)) h

  named_count : (n : ℕ) → IsNamedCount on n → IsNamedCount over n
  named_count n h = subst (λ (t : (Node → Bool) × (Node → Node → Bool)). IsCount node_cmp t.0 t.1 n) (λ i. (named_nodes i, named_links i)) h

  bound_name : (net : ℕ) (name : List ℕ) → IsBoundName on net name → IsBoundName over net name
  unfolding on over
  bound_name net name h = record {
    k = h.k;
    mark = h.mark;
    at = h.at;
    is = h.is;
    node = h.node;
    bound = sym (bound_alike h.mark h.node) ∙ h.bound;
    number = number_alike h.node net h.number;
  }

-- ---- one name

both_le : (o p : Ordering) → p ≡ Rattle.std.specs.Ordering.ordering_reverse o → is_le o ≡ true → is_le p ≡ true → o ≡ Equal
both_le Less p e h g = let none : ⊥ = cc in absurd none
both_le Equal p e h g = refl
both_le Greater p e h g = let none : ⊥ = cc in absurd none

one_least : (x y : List ℕ) → is_le (slice_cmp nat_cmp x y) ≡ true → is_le (slice_cmp nat_cmp y x) ≡ true → x ≡ y
one_least x y h g = slice_cmp-IsAntisymmetric nat_cmp-IsAntisymmetric x y (both_le (slice_cmp nat_cmp x y) (slice_cmp nat_cmp y x) (nat_list_cmp_total.antisymm y x) h g)

-- names of one net on two layouts with the same bound names
one_name : (g h : Labelled) (net : ℕ) (x y : List ℕ) → ((name : List ℕ) → IsBoundName g net name → IsBoundName h net name) → ((name : List ℕ) → IsBoundName h net name → IsBoundName g net name)
    → IsNameOf g net x → IsNameOf h net y → x ≡ y
one_name g h net x y there back (inl a) (inl b) = one_least x y (a.least y (back y b.bound)) (b.least x (there x a.bound))
one_name g h net x y there back (inl a) (inr b) = absurd (b.none (record { name = x; bound = there x a.bound }))
one_name g h net x y there back (inr a) (inl b) = absurd (a.none (record { name = y; bound = back y b.bound }))
one_name g h net x y there back (inr a) (inr b) = a.is ∙ sym b.is

same_list : {X : Type 0} (xs ys : List X) → length xs ≡ length ys → ((k : ℕ) (x y : X) → slice_get xs k ≡ Some x → slice_get ys k ≡ Some y → x ≡ y) → xs ≡ ys
same_list [] [] e h = refl
same_list [] (y ∷ ys) e h = let none : ⊥ = cc in absurd none
same_list (x ∷ xs) [] e h = let none : ⊥ = cc in absurd none
same_list (x ∷ xs) (y ∷ ys) e h = λ i. h 0 x y refl refl i ∷ same_list xs ys (omega (arith, e)) (λ k. h (suc k)) i

-- ---- the joined nets

module _ (node other : Node → Bool) (link others : Node → Node → Bool) (same : (a : Node) → node a ≡ other a)
    (there : (a b : Node) → Linked link a b → Linked others a b) (back : (a b : Node) → Linked others a b → Linked link a b) where
  roots_over : (roots : List Node) → AreRoots node_cmp node link roots → AreRoots node_cmp other others roots
  roots_over roots h = record {
    least = λ k r at. let l = h.least k r at in record { thing = sym (same r) ∙ l.thing; least = λ b linked. l.least b (back r b linked) };
    every = λ a thing. let (k, r, at, linked) = h.every a (same a ∙ thing) in (k, r, at, there a r linked);
    rising = h.rising;
  }

  number_over : (a : Node) (n : ℕ) → IsNumber node_cmp node link a n → IsNumber node_cmp other others a n
  number_over a n h = record { roots = h.roots; are = roots_over h.roots h.are; root = h.root; at = h.at; thing = sym (same a) ∙ h.thing; linked = there a h.root h.linked }

  count_over : (n : ℕ) → IsCount node_cmp node link n → IsCount node_cmp other others n
  count_over n h = record { roots = h.roots; are = roots_over h.roots h.are; is = h.is }

joined_nodes : (g : Labelled) (nets : Nets) → AreJoinedAs g nets → (p : Node) → is_node nets p ≡ is_node g.nets p
joined_nodes g nets j p = λ i. is_in_wire (slice_get (j.wires i) p.wire) p.x p.y

-- ---- named nets

-- as many wires as the map names
pub wires_named : (plan : Plan) (lists : Lists) (n : NamedNets) → IsNamed plan lists n → length n.nets.wires ≡ length plan.wires
wires_named plan lists n is = ap length is.nets.wires ∙ AllZip-long (IsMask lists.draws) (wire_formulas plan) n.masks.wires is.masks.wires.each ∙ length-map plan.wires (λ w. w.formula)

named_on : (plan : Plan) (f g : Lists) (n m : NamedNets) → map drawn_of f.draws ≡ map drawn_of g.draws → f.marks ≡ g.marks → IsNamed plan f n → IsNamed plan g m → AreSameNamed n m
unfolding on over
named_on plan f g n m draws marks here there =
    let moved = subst (λ (ms : List Mark). IsNamed plan (record { draws = g.draws; marks = ms }) m) (sym marks) there in
    let a = traced_nets plan n.masks in
    let b = traced_nets plan m.masks in
    let nodes = nodes_alike f.draws g.draws draws plan n.masks m.masks here.masks there.masks in
    let touch = touches_alike f.draws g.draws draws plan n.masks m.masks here.masks there.masks in
    let nodes_back : (w : ℕ) (x y : ℤ) → has_node b w x y ≡ has_node a w x y = λ w x y. sym (nodes w x y) in
    let touches_back : (p q : Node) → touches b p q ≡ touches a p q = λ p q. sym (touch p q) in
    let first = labelled_by plan n.masks f.marks in
    let second = labelled_by plan m.masks f.marks in
    let counts = count_one node_cmp node_total node_equal (is_node second.nets) (is_net_link second) (length n.names) (length m.names) (named_count plan f.marks a b nodes touch (length n.names) here.names.count) moved.names.count in
    record {
      nets = record {
        wires = wires_named plan f n here ∙ sym (wires_named plan g m there);
        count = λ k h. count_over (is_node second.nets) (is_node m.nets) (is_net_link second) (is_link m.nets) (λ p. sym (joined_nodes second m.nets moved.nets p)) moved.nets.whole moved.nets.sound k
            (named_count plan f.marks a b nodes touch k
            (count_over (is_node n.nets) (is_node first.nets) (is_link n.nets) (is_net_link first) (joined_nodes first n.nets here.nets) here.nets.sound here.nets.whole k h));
        number = λ p k h. number_over (is_node second.nets) (is_node m.nets) (is_net_link second) (is_link m.nets) (λ p. sym (joined_nodes second m.nets moved.nets p)) moved.nets.whole moved.nets.sound p k
            (number_alike plan f.marks a b nodes touch p k
            (number_over (is_node n.nets) (is_node first.nets) (is_link n.nets) (is_net_link first) (joined_nodes first n.nets here.nets) here.nets.sound here.nets.whole p k h));
        back = λ p k h. number_over (is_node first.nets) (is_node n.nets) (is_net_link first) (is_link n.nets) (λ p. sym (joined_nodes first n.nets here.nets p)) here.nets.whole here.nets.sound p k
            (number_alike plan f.marks b a nodes_back touches_back p k
            (number_over (is_node m.nets) (is_node second.nets) (is_link m.nets) (is_net_link second) (joined_nodes second m.nets moved.nets) moved.nets.sound moved.nets.whole p k h));
      };
      names = same_list n.names m.names counts (λ k x y at_x at_y. one_name first second k x y (bound_name plan f.marks a b nodes touch k) (bound_name plan f.marks b a nodes_back touches_back k) (here.names.each k x at_x) (moved.names.each k y at_y));
      bound_names = λ net name. both_ways (is_listed_name n.bound_names net name) (is_listed_name m.bound_names net name)
          (λ listed. (moved.bound_names.exact net name).1 (bound_name plan f.marks a b nodes touch net name ((here.bound_names.exact net name).0 listed)))
          (λ listed. (here.bound_names.exact net name).1 (bound_name plan f.marks b a nodes_back touches_back net name ((moved.bound_names.exact net name).0 listed)));
      bound = here.bound ∙ bound_count plan f.marks a b nodes touch ∙ sym moved.bound;
      unbound = here.unbound ∙ unbound_count plan f.marks a b nodes touch ∙ sym moved.unbound;
      deep = here.deep ∙ sym moved.deep;
    }

-- ---- of files

shapes_alike : (g : Contents) (a b : Lists) → IsFlattened g a → IsFlattened g b → (map drawn_of a.draws ≡ map drawn_of b.draws) × (a.marks ≡ b.marks)
shapes_alike g a b here there = let one = one_layout g a b here there in (one.0, labels_alike a.marks b.marks one.1)

-- The named nets of files that hold the same are the same.
pub one_naming : (f g : Contents) (plan : Plan) (n m : NamedNets) → IsSameFile f g → IsNamedFrom f plan n → IsNamedFrom g plan m → AreSameNamed n m
one_naming f g plan n m same here there =
    let shapes = shapes_alike g here.lists there.lists (same_file f g here.lists same here.flat) there.flat in
    named_on plan here.lists there.lists n m shapes.0 shapes.1 here.is there.is

pub wires_named_from : (file : Contents) (plan : Plan) (n : NamedNets) → IsNamedFrom file plan n → length n.nets.wires ≡ length plan.wires
wires_named_from file plan n h = wires_named plan h.lists n h.is

-- too many pieces, of the shapes of one file
many_of : (plan : Plan) (a b : Lists) → map drawn_of a.draws ≡ map drawn_of b.draws → HasManyPieces plan a → (masks : MaskLists) → AreLayoutMasks plan b.draws masks → HasMoreNets (traced_nets plan masks) 8192
many_of plan a b draws many masks are = pieces_alike a.draws b.draws draws plan many.masks masks many.are are 8192 many.more

one_place : (plan : Plan) (marks : List Mark) (a b : Nets) (nodes : (w : ℕ) (x y : ℤ) → has_node a w x y ≡ has_node b w x y) (touch : (p q : Node) → touches a p q ≡ touches b p q) (x y : ℕ)
    → IsFirstAmbiguous a plan marks x → IsFirstAmbiguous b plan marks y → x ≡ y
one_place plan marks a b nodes touch x y here there =
    let low = here.first there.k there.mark there.at (ambiguous_alike plan marks b a (λ w x y. sym (nodes w x y)) (λ p q. sym (touch p q)) there.mark there.two) in
    let high = there.first here.k here.mark here.at (ambiguous_alike plan marks a b nodes touch here.mark here.two) in
    let one = here.is in
    let other = there.is in
    omega (arith, low, high, one, other)

module _ (plan : Plan) (a b : Lists) (draws : map drawn_of a.draws ≡ map drawn_of b.draws) (marks : a.marks ≡ b.marks) where
  same_place : (x y : ℕ) → HasAmbiguous plan a x → HasAmbiguous plan b y → x ≡ y
  same_place x y here there =
      one_place plan b.marks (traced_nets plan here.masks) (traced_nets plan there.masks)
      (nodes_alike a.draws b.draws draws plan here.masks there.masks here.are there.are) (touches_alike a.draws b.draws draws plan here.masks there.masks here.are there.are) x y
      (subst (λ ms. IsFirstAmbiguous (traced_nets plan here.masks) plan ms x) marks here.first) there.first

  many_or_place : (x : ℕ) → HasManyPieces plan a → HasAmbiguous plan b x → ⊥
  many_or_place x many there = there.few (many_of plan a b draws many there.masks there.are)

  place_or_named : (x : ℕ) (n : NamedNets) → HasAmbiguous plan a x → IsNamed plan b n → ⊥
  place_or_named x n here is =
      let first = here.first in
      is.clear.none first.k first.mark (ap (λ ms. slice_get ms first.k) (sym marks) ∙ first.at)
      (ambiguous_alike plan b.marks (traced_nets plan here.masks) (traced_nets plan n.masks)
      (nodes_alike a.draws b.draws draws plan here.masks n.masks here.are is.masks) (touches_alike a.draws b.draws draws plan here.masks n.masks here.are is.masks) first.mark first.two)

  many_or_named : (n : NamedNets) → HasManyPieces plan a → IsNamed plan b n → ⊥
  many_or_named n many is = is.few (many_of plan a b draws many n.masks is.masks)

-- ---- one reason

back_shapes : (a b : Lists) → (map drawn_of a.draws ≡ map drawn_of b.draws) × (a.marks ≡ b.marks) → (map drawn_of b.draws ≡ map drawn_of a.draws) × (b.marks ≡ a.marks)
back_shapes a b s = (sym s.0, sym s.1)

-- Files that hold the same are refused for one reason.
pub one_reason : (f g : Contents) (plan : Plan) (r q : LayoutRefusal) → AreCallsApart g → (r ≡ NoMemory → ⊥) → (q ≡ NoMemory → ⊥) → IsSameFile f g → RefusesLayout f plan r → RefusesLayout g plan q → r ≡ q
one_reason f g plan NoMemory q apart some other same here there = absurd (some refl)
one_reason f g plan (Flat r) NoMemory apart some other same here there = absurd (other refl)
one_reason f g plan TooManyNets NoMemory apart some other same here there = absurd (other refl)
one_reason f g plan (LabelAmbiguous x) NoMemory apart some other same here there = absurd (other refl)
one_reason f g plan (Flat r) (Flat q) apart some other same here there = ap (λ x. Flat x) (one_fault g r q apart (first_fault_same f g r same here) there)
one_reason f g plan (Flat r) TooManyNets apart some other same here there = absurd (never_both g there.lists r there.flat (first_fault_same f g r same here))
one_reason f g plan (Flat r) (LabelAmbiguous y) apart some other same here there = absurd (never_both g there.lists r there.flat (first_fault_same f g r same here))
one_reason f g plan TooManyNets (Flat q) apart some other same here there = absurd (never_both g here.lists q (same_file f g here.lists same here.flat) there)
one_reason f g plan (LabelAmbiguous x) (Flat q) apart some other same here there = absurd (never_both g here.lists q (same_file f g here.lists same here.flat) there)
one_reason f g plan TooManyNets TooManyNets apart some other same here there = refl
one_reason f g plan TooManyNets (LabelAmbiguous y) apart some other same here there =
    let shapes = shapes_alike g here.lists there.lists (same_file f g here.lists same here.flat) there.flat in
    absurd (many_or_place plan here.lists there.lists shapes.0 shapes.1 y here.refused there.refused)
one_reason f g plan (LabelAmbiguous x) TooManyNets apart some other same here there =
    let shapes = shapes_alike g here.lists there.lists (same_file f g here.lists same here.flat) there.flat in
    absurd (many_or_place plan there.lists here.lists (sym shapes.0) (sym shapes.1) x there.refused here.refused)
one_reason f g plan (LabelAmbiguous x) (LabelAmbiguous y) apart some other same here there =
    let shapes = shapes_alike g here.lists there.lists (same_file f g here.lists same here.flat) there.flat in
    ap (λ p. LabelAmbiguous p) (same_place plan here.lists there.lists shapes.0 shapes.1 x y here.refused there.refused)

-- Files that hold the same are refused or named, and never both.
pub never_both_named : (f g : Contents) (plan : Plan) (n : NamedNets) (r : LayoutRefusal) → (r ≡ NoMemory → ⊥) → IsSameFile f g → RefusesLayout f plan r → IsNamedFrom g plan n → ⊥
never_both_named f g plan n NoMemory some same refuses is = some refl
never_both_named f g plan n (Flat r) some same refuses is = never_both g is.lists r is.flat (first_fault_same f g r same refuses)
never_both_named f g plan n TooManyNets some same refuses is =
    let shapes = shapes_alike g refuses.lists is.lists (same_file f g refuses.lists same refuses.flat) is.flat in
    many_or_named plan refuses.lists is.lists shapes.0 shapes.1 n refuses.refused is.is
never_both_named f g plan n (LabelAmbiguous x) some same refuses is =
    let shapes = shapes_alike g refuses.lists is.lists (same_file f g refuses.lists same refuses.flat) is.flat in
    place_or_named plan refuses.lists is.lists shapes.0 shapes.1 x n refuses.refused is.is
