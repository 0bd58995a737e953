-- Nets have one numbering, and one set of cells of a net on a wire.
use Rattle.std.proofs.Common.{◌≡◌, ℕ, ◌<◌, Bool, true, false, List, slice_get, refl, sym, ap, ◌∙◌, arith}
use Rattle.std.proofs.lemmas.Option.{slice_get_within}
use Rattle.link_classes.specs.Linked.{Linked}
use Rattle.link_classes.proofs.UniqueNumbers.{roots_one, number_one, number_links, count_one}
use Rattle.mask_region.specs.declared.strips.Strip.{Strip}
use Rattle.mask_region.specs.Strips.{is_in}
use Rattle.net_trace.specs.declared.node.Node.{Node}
use Rattle.net_trace.specs.Touching.{Nets, is_node}
use Rattle.net_trace.specs.Nets.{node_cmp, is_link, AreNetRoots, IsNetNumber, IsNetCount, IsRegionOf}
use Rattle.net_trace.proofs.NodeOrder.{node_total, node_equal}

-- linked nodes have one number
pub net_one : (nets : Nets) (a b : Node) (m n : ℕ) → IsNetNumber nets a m → IsNetNumber nets b n → Linked (is_link nets) a b → m ≡ n
net_one nets = number_one node_cmp node_total node_equal (is_node nets) (is_link nets)

-- nodes of one number are linked
pub net_links : (nets : Nets) (a b : Node) (n : ℕ) → IsNetNumber nets a n → IsNetNumber nets b n → Linked (is_link nets) a b
net_links nets = number_links node_cmp node_total node_equal (is_node nets) (is_link nets)

pub net_roots : (nets : Nets) (p q : List Node) → AreNetRoots nets p → AreNetRoots nets q → p ≡ q
net_roots nets = roots_one node_cmp node_total node_equal (is_node nets) (is_link nets)

pub net_count : (nets : Nets) (m n : ℕ) → IsNetCount nets m → IsNetCount nets n → m ≡ n
net_count nets = count_one node_cmp node_total node_equal (is_node nets) (is_link nets)

-- numbers are below the count
pub net_below : (nets : Nets) (a : Node) (n count : ℕ) → IsNetNumber nets a n → IsNetCount nets count → n < count
net_below nets a n count number counted =
    let same = net_roots nets number.roots counted.roots number.are counted.are in
    let lt = slice_get_within counted.roots n number.root (ap (λ rs. slice_get rs n) (sym same) ∙ number.at) in
    let is = counted.is in
    omega (arith, lt, is)

one_test : (p q : Bool) → (p ≡ true → q ≡ true) → (q ≡ true → p ≡ true) → p ≡ q
one_test true q there back = sym (there refl)
one_test false true there back = back refl
one_test false false there back = refl

-- regions of one net on one wire have the same cells
pub net_region : (nets : Nets) (net wire : ℕ) (p q : List Strip) → IsRegionOf nets net wire p → IsRegionOf nets net wire q → is_in p ≡ is_in q
net_region nets net wire p q first second = λ i x y. one_test (is_in p x y) (is_in q x y) (λ has. second.whole x y (first.inside x y has)) (λ has. first.whole x y (second.inside x y has)) i
