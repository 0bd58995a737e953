-- The tables of the classes give each number below the size the number of its class.
use Rattle.std.proofs.Common.{◌≡◌, ℕ, ◌<◌, ◌≤◌, Bool, true, nat_lt, List, length, slice_get, slice_index, Some, refl, sym, ap, ◌∙◌, subst, arith}
use Rattle.std.specs.declared.cmp.Ordering.{Ordering}
use Rattle.std.specs.declared.cmp.Ordering.TheVariants.{Less, Equal, Greater}
use Rattle.std.specs.Ordering.{nat_cmp}
use Rattle.std.proofs.lemmas.Cmp.{ranked}
use Rattle.std.proofs.lemmas.Option.{slice_get_within, slice_get-get_or, get_or_from_slice_get}
use Rattle.link_classes.specs.Linked.{Linked}
use Rattle.link_classes.specs.Classes.{AreClasses}
use Rattle.link_classes.specs.Numbering.{IsLeast, AreRoots, IsNumber, IsCount}
use Rattle.link_classes.proofs.Chains.{linked_sym, linked_trans, linked_kept}

pub nat_less : (m n : ℕ) → m < n → nat_cmp m n ≡ Less
nat_less m n lt = by_order (nat_cmp m n) refl
  where
    by_order : (o : Ordering) → nat_cmp m n ≡ o → nat_cmp m n ≡ Less
    by_order Less is = is
    by_order Equal is = let same : m ≡ n = ranked m n Equal (sym is) in absurd (omega (arith, same))
    by_order Greater is = let more : n < m = ranked m n Greater (sym is) in absurd (omega (arith, more))

below_true : (a n : ℕ) → a < n → nat_lt a n ≡ true
below_true a n lt = grind (arith, lt)

true_below : (a n : ℕ) → nat_lt a n ≡ true → a < n
true_below a n is = grind (arith, is)

module _ (size : ℕ) (touch : ℕ → ℕ → Bool) (label least : List ℕ) (h : AreClasses size touch label least) where
  root_at : (k r : ℕ) → slice_get least k ≡ Some r → (k < length least) × (slice_index least k ≡ r)
  root_at k r at = (slice_get_within least k r at, get_or_from_slice_get least k r 0 at)

  has_root : (a : ℕ) → a < size → slice_get least (slice_index label a) ≡ Some (slice_index least (slice_index label a))
  has_root a lt = slice_get-get_or least (slice_index label a) 0 (h.below a lt)

  -- linked numbers are of one class
  pub table_one : (a b : ℕ) → Linked touch a b → slice_index label a ≡ slice_index label b
  table_one a b linked = linked_kept touch (λ x. slice_index label x) h.shared a b linked

  pub table_linked : (a b : ℕ) → a < size → b < size → slice_index label a ≡ slice_index label b → Linked touch a b
  table_linked a b a_lt b_lt same =
      let back : Linked touch a (slice_index least (slice_index label a)) = linked_sym touch (slice_index least (slice_index label a)) a (h.reached a a_lt) in
      linked_trans touch a (slice_index least (slice_index label a)) b back (subst (λ k. Linked touch (slice_index least k) b) (sym same) (h.reached b b_lt))

  table_least : (k r : ℕ) → slice_get least k ≡ Some r → IsLeast nat_cmp (λ x. nat_lt x size) touch r
  table_least k r at =
      let (k_lt, is) = root_at k r at in
      record {
        thing = below_true r size (subst (λ x. x < size) is (h.inside k k_lt));
        least = λ b linked less.
            let lt : b < r = ranked b r Less (sym less) in
            let r_lt : r < size = subst (λ x. x < size) is (h.inside k k_lt) in
            let label_b : slice_index label b ≡ k = sym (table_one r b linked) ∙ ap (λ x. slice_index label x) (sym is) ∙ h.own k k_lt in
            let first : slice_index least (slice_index label b) ≤ b = h.first b (omega (arith, lt, r_lt)) in
            let root : slice_index least (slice_index label b) ≡ r = ap (λ x. slice_index least x) label_b ∙ is in
            omega (arith, lt, first, root);
      }

  pub table_roots : AreRoots nat_cmp (λ x. nat_lt x size) touch least
  table_roots =
      record {
        least = table_least;
        every = λ a is.
            let lt = true_below a size is in
            (slice_index label a, slice_index least (slice_index label a), has_root a lt, linked_sym touch (slice_index least (slice_index label a)) a (h.reached a lt));
        rising = λ j k q r less at_j at_k.
            let (j_lt, is_q) = root_at j q at_j in
            let (k_lt, is_r) = root_at k r at_k in
            nat_less q r (omega (arith, h.rising j k less k_lt, is_q, is_r));
      }

  pub table_number : (a : ℕ) → a < size → IsNumber nat_cmp (λ x. nat_lt x size) touch a (slice_index label a)
  table_number a lt =
      record {
        roots = least;
        are = table_roots;
        root = slice_index least (slice_index label a);
        at = has_root a lt;
        thing = below_true a size lt;
        linked = linked_sym touch (slice_index least (slice_index label a)) a (h.reached a lt);
      }

  pub table_count : IsCount nat_cmp (λ x. nat_lt x size) touch (length least)
  table_count = record { roots = least; are = table_roots; is = refl }
