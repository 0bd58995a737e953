-- The pairs of nets that names join.
use Rattle.std.proofs.Common.{◌≡◌, ◌⊎◌, ℕ, zero, suc, ◌+◌, ◌-◌, ◌<◌, ◌≤◌, ◌==◌, ◌&&◌, ◌||◌, inl, inr, Bool, true, false, cond, List, [], ◌∷◌, ◌++◌, length, get_or, Option, Some, None, slice_get, refl, sym, ap, ◌∙◌, subst, arith}
use Rattle.std.specs.Prelude.{filter, IsPermutation, IsSorted}
use Rattle.std.specs.Option.{option_map}
use Rattle.std.specs.List.{Contains}
use Rattle.std.specs.Ordering.{nat_cmp, is_eq, ordering_index}
use Rattle.std.specs.declared.cmp.Ordering.{Ordering}
use Rattle.std.specs.declared.cmp.Ordering.TheVariants.{Less, Equal, Greater}
use Rattle.std.specs.Cmp.Lexicographic.{slice_cmp}
use Rattle.std.specs.Str.{bytes_eq}
use Rattle.std.proofs.lemmas.Bool.{cases_order, and_parts, and_from, or_cases, or_left, or_right}
use Rattle.std.proofs.lemmas.Bool.Decides.{Decides-eqb}
use Rattle.std.proofs.lemmas.Cmp.{nat_list_cmp_total}
use Rattle.std.proofs.lemmas.Option.{slice_get-map, slice_get-get_or, slice_get_within, get_or_from_slice_get}
use Rattle.std.proofs.lemmas.List.{map-append, append_assoc}
use Rattle.std.proofs.lemmas.List.Folds.{list_any-append}
use Rattle.std.proofs.lemmas.List.Elements.{All-push, All-weaker, All-append, All-nil}
use Rattle.std.proofs.lemmas.List.Sorted.{Contains-permutation, IsPermutation-sym, searchable_from_sorted}
use Rattle.std.proofs.lemmas.Map.Text.{is_eq-slice_cmp}
use Rattle.std.proofs.lemmas.Slice.Eq.{bytes_eq-Decides}
use Rattle.switch_net.specs.declared.NetId.{NetId}
use Rattle.layer_map.specs.Names.{is_among}
use Rattle.layer_map.specs.Plan.{Plan}
use Rattle.layout_extract.specs.Names.{is_joining}
use Rattle.link_classes.specs.Linked.{Linked}
use Rattle.link_classes.specs.Classes.{has_pair}
use Rattle.link_classes.proofs.Chains.{linked_refl, linked_touch, linked_trans, linked_sym, linked_map}
use Rattle.layout_extract.specs.declared.tags.Tag.{Tag}
use Rattle.layout_extract.specs.Tags.{numbers_of, IsPairOf, AreJoins, are_among, AreChained, nets_among, name_order, AreAdjacent}
use Rattle.layout_extract.proofs.Places.{any_at, one_at, push_last}
use Rattle.net_trace.proofs.Lists.{last_or_before}

-- ---- pairs and what they link

pub has_at : (pairs : List (NetId × NetId)) (k : ℕ) (p : NetId × NetId) → slice_get pairs k ≡ Some p → has_pair (numbers_of pairs) p.0.0 p.1.0 ≡ true
has_at pairs k p at =
    any_at (λ (q : ℕ × ℕ). q.0 == p.0.0 && q.1 == p.1.0) (numbers_of pairs) k (p.0.0, p.1.0)
    (slice_get-map (λ (q : NetId × NetId). (q.0.0, q.1.0)) pairs k ∙ ap (λ o. option_map (λ (q : NetId × NetId). (q.0.0, q.1.0)) o) at)
    (and_from (p.0.0 == p.0.0) (p.1.0 == p.1.0) ((Decides-eqb p.0.0 p.0.0).1 refl) ((Decides-eqb p.1.0 p.1.0).1 refl))

has_both : (ps qs : List (NetId × NetId)) (a b : ℕ) → has_pair (numbers_of (ps ++ qs)) a b ≡ (has_pair (numbers_of ps) a b || has_pair (numbers_of qs) a b)
has_both ps qs a b =
    ap (λ l. has_pair l a b) (map-append (λ (q : NetId × NetId). (q.0.0, q.1.0)) ps qs) ∙ list_any-append (λ (p : ℕ × ℕ). p.0 == a && p.1 == b) (numbers_of ps) (numbers_of qs)

pub linked_left : (ps qs : List (NetId × NetId)) (a b : ℕ) → Linked (has_pair (numbers_of ps)) a b → Linked (has_pair (numbers_of (ps ++ qs))) a b
linked_left ps qs a b h = linked_map (has_pair (numbers_of ps)) (has_pair (numbers_of (ps ++ qs))) (λ x. x)
    (λ c d is. linked_touch (has_pair (numbers_of (ps ++ qs))) c d (has_both ps qs c d ∙ or_left (has_pair (numbers_of ps) c d) (has_pair (numbers_of qs) c d) is)) a b h

pub linked_right : (ps qs : List (NetId × NetId)) (a b : ℕ) → Linked (has_pair (numbers_of qs)) a b → Linked (has_pair (numbers_of (ps ++ qs))) a b
linked_right ps qs a b h = linked_map (has_pair (numbers_of qs)) (has_pair (numbers_of (ps ++ qs))) (λ x. x)
    (λ c d is. linked_touch (has_pair (numbers_of (ps ++ qs))) c d (has_both ps qs c d ∙ or_right (has_pair (numbers_of ps) c d) (has_pair (numbers_of qs) c d) is)) a b h

linked_last : (pairs : List (NetId × NetId)) (m n : NetId) → Linked (has_pair (numbers_of (pairs ++ (m, n) ∷ []))) m.0 n.0
linked_last pairs m n = linked_touch (has_pair (numbers_of (pairs ++ (m, n) ∷ []))) m.0 n.0 (has_at (pairs ++ (m, n) ∷ []) (length pairs) (m, n) (push_last pairs (m, n)))

contains_at : {A : Type 0} (xs : List A) (k : ℕ) (x : A) → slice_get xs k ≡ Some x → Contains xs x
contains_at xs k x at = (k, slice_get_within xs k x at, get_or_from_slice_get xs k x x at)

at_contains : {A : Type 0} (xs : List A) (x : A) → Contains xs x → (k : ℕ) × (slice_get xs k ≡ Some x)
at_contains xs x (k, lt, is) = (k, slice_get-get_or xs k x lt ∙ ap (λ y. Some y) is)

-- ---- chains

pub chained_none : (nets : List NetId) → AreChained nets 1 []
chained_none nets = record {
  sound = All-nil (λ p. Contains nets p.0 × Contains nets p.1);
  whole = λ j k m n lt_j lt_k at_j at_k.
      let same : j ≡ k = omega (arith, lt_j, lt_k) in
      subst (λ x. Linked (has_pair []) m.0 x.0) (one_at nets j k m n same at_j at_k) (linked_refl (has_pair []) m.0);
}

module _ (nets : List NetId) (pairs : List (NetId × NetId)) (k : ℕ) (x y : NetId) (some : 1 ≤ k) (before : slice_get nets (k - 1) ≡ Some x) (at : slice_get nets k ≡ Some y) (h : AreChained nets k pairs) where
  to_last : (j : ℕ) (m : NetId) → j < k + 1 → slice_get nets j ≡ Some m → Linked (has_pair (numbers_of (pairs ++ (x, y) ∷ []))) m.0 y.0
  to_last j m lt at_j = elim (last_or_before j k lt) [
    | inl less ↦
        let low : k - 1 < k = omega (arith, some) in
        linked_trans (has_pair (numbers_of (pairs ++ (x, y) ∷ []))) m.0 x.0 y.0
        (linked_left pairs ((x, y) ∷ []) m.0 x.0 (h.whole j (k - 1) m x less low at_j before)) (linked_last pairs x y)
    | inr same ↦ subst (λ z. Linked (has_pair (numbers_of (pairs ++ (x, y) ∷ []))) z.0 y.0) (sym (one_at nets j k m y same at_j at)) (linked_refl (has_pair (numbers_of (pairs ++ (x, y) ∷ []))) y.0)
  ]

  pub chained_more : AreChained nets (k + 1) (pairs ++ (x, y) ∷ [])
  chained_more = record {
    sound = All-push (λ p. Contains nets p.0 × Contains nets p.1) pairs (x, y) h.sound (contains_at nets (k - 1) x before, contains_at nets k y at);
    whole = λ i j m n lt_i lt_j at_i at_j.
        linked_trans (has_pair (numbers_of (pairs ++ (x, y) ∷ []))) m.0 y.0 n.0 (to_last i m lt_i at_i) (linked_sym (has_pair (numbers_of (pairs ++ (x, y) ∷ []))) n.0 y.0 (to_last j n lt_j at_j));
  }

pub chained_whole : (nets : List NetId) (pairs : List (NetId × NetId)) (k : ℕ) → length nets ≤ k → AreChained nets k pairs → AreChained nets (length nets) pairs
chained_whole nets pairs k le h = record {
  sound = h.sound;
  whole = λ i j m n lt_i lt_j. h.whole i j m n (omega (arith, lt_i, le)) (omega (arith, lt_j, le));
}

-- ---- the names of a supply

Filtered : {A : Type 0} → (A → Bool) → List A → A → Type 0
Filtered test xs x = (k : ℕ) × (slice_get (filter test xs) k ≡ Some x)

filtered_by : {A : Type 0} (test : A → Bool) (y : A) (xs : List A) (b : Bool) (k : ℕ) (x : A) → slice_get xs k ≡ Some x → (j : ℕ) × (slice_get xs j ≡ Some x) → (j : ℕ) × (slice_get (cond b (y ∷ xs) xs) j ≡ Some x)
filtered_by test y xs true k x at (j, in_) = (suc j, in_)
filtered_by test y xs false k x at (j, in_) = (j, in_)

filtered_first : {A : Type 0} (test : A → Bool) (y : A) (xs : List A) (b : Bool) → b ≡ true → (j : ℕ) × (slice_get (cond b (y ∷ xs) xs) j ≡ Some y)
filtered_first test y xs true is = (0, refl)
filtered_first test y xs false is = let none : ⊥ = cc in absurd none

pub filtered_at : {A : Type 0} (test : A → Bool) (xs : List A) (k : ℕ) (x : A) → slice_get xs k ≡ Some x → test x ≡ true → (j : ℕ) × (slice_get (filter test xs) j ≡ Some x)
filtered_at test [] k x at pass = let none : ⊥ = cc in absurd none
filtered_at test (y ∷ xs) zero x at pass = subst (λ z. (j : ℕ) × (slice_get (cond (test y) (y ∷ filter test xs) (filter test xs)) j ≡ Some z)) (one_at (y ∷ xs) 0 0 y x refl refl at)
    (filtered_first test y (filter test xs) (test y) (subst (λ z. test z ≡ true) (sym (one_at (y ∷ xs) 0 0 y x refl refl at)) pass))
filtered_at test (y ∷ xs) (suc k) x at pass = let (j, in_) = filtered_at test xs k x at pass in filtered_by test y (filter test xs) (test y) j x in_ (j, in_)

unfiltered_by : {A : Type 0} (test : A → Bool) (y : A) (xs fs : List A) (b : Bool) → test y ≡ b → ((j : ℕ) (x : A) → slice_get fs j ≡ Some x → (k : ℕ) × (slice_get xs k ≡ Some x) × (test x ≡ true))
    → (j : ℕ) (x : A) → slice_get (cond b (y ∷ fs) fs) j ≡ Some x → (k : ℕ) × (slice_get (y ∷ xs) k ≡ Some x) × (test x ≡ true)
unfiltered_by test y xs fs true is ih zero x at = (0, at, subst (λ z. test z ≡ true) (one_at (y ∷ fs) 0 0 y x refl refl at) is)
unfiltered_by test y xs fs true is ih (suc j) x at = let (k, in_, pass) = ih j x at in (suc k, in_, pass)
unfiltered_by test y xs fs false is ih j x at = let (k, in_, pass) = ih j x at in (suc k, in_, pass)

pub unfiltered : {A : Type 0} (test : A → Bool) (xs : List A) (j : ℕ) (x : A) → slice_get (filter test xs) j ≡ Some x → (k : ℕ) × (slice_get xs k ≡ Some x) × (test x ≡ true)
unfiltered test [] j x at = let none : ⊥ = cc in absurd none
unfiltered test (y ∷ xs) j x at = unfiltered_by test y xs (filter test xs) (test y) refl (unfiltered test xs) j x at

module _ (names : List (List ℕ)) (tags : List Tag) where
  abbrev is_one : Tag → Bool
  is_one t = is_among t.name.now names

  in_nets : (j : ℕ) (s : Tag) → slice_get tags j ≡ Some s → is_among s.name.now names ≡ true → (k : ℕ) × (slice_get (nets_among names tags) k ≡ Some s.net)
  in_nets j s at among =
      let (k, in_) = filtered_at is_one tags j s at among in
      (k, slice_get-map (λ (t : Tag). t.net) (filter is_one tags) k ∙ ap (λ o. option_map (λ (t : Tag). t.net) o) in_)

  mapped_back : (o : Option Tag) (n : NetId) → option_map (λ (t : Tag). t.net) o ≡ Some n → (t : Tag) × (o ≡ Some t) × (t.net ≡ n)
  mapped_back None n e = let none : ⊥ = cc in absurd none
  mapped_back (Some t) n e = (t, refl, ap (λ o. elim o [ Some x ↦ x | None ↦ t.net ]) e)

  of_nets : (k : ℕ) (n : NetId) → slice_get (nets_among names tags) k ≡ Some n → (j : ℕ) × (s : Tag) × (slice_get tags j ≡ Some s) × (is_among s.name.now names ≡ true) × (s.net ≡ n)
  of_nets k n at =
      let (s, in_, is) = mapped_back (slice_get (filter is_one tags) k) n (sym (slice_get-map (λ (t : Tag). t.net) (filter is_one tags) k) ∙ at) in
      let (j, at_j, among) = unfiltered is_one tags k s in_ in
      (j, s, at_j, among, is)

  pub supply_joins : (pairs : List (NetId × NetId)) → AreChained (nets_among names tags) (length (nets_among names tags)) pairs → AreJoins (are_among names) tags pairs
  supply_joins pairs h = record {
    sound = All-weaker (λ p. Contains (nets_among names tags) p.0 × Contains (nets_among names tags) p.1) (IsPairOf (are_among names) tags) (λ p both.
        let (a, at_a) = at_contains (nets_among names tags) p.0 both.0 in
        let (b, at_b) = at_contains (nets_among names tags) p.1 both.1 in
        let (j, s, at_j, among_s, s_is) = of_nets a p.0 at_a in
        let (k, t, at_k, among_t, t_is) = of_nets b p.1 at_b in
        record { j = j; k = k; s = s; t = t; at_j = at_j; at_k = at_k; one = sym s_is; other = sym t_is; passes = and_from (is_among s.name.now names) (is_among t.name.now names) among_s among_t }) pairs h.sound;
    whole = λ j k s t at_j at_k passes.
        let (among_s, among_t) = and_parts (is_among s.name.now names) (is_among t.name.now names) passes in
        let (a, at_a) = in_nets j s at_j among_s in
        let (b, at_b) = in_nets k t at_k among_t in
        h.whole a b s.net t.net (slice_get_within (nets_among names tags) a s.net at_a) (slice_get_within (nets_among names tags) b t.net at_b) at_a at_b;
  }

-- ---- one name

pub adjacent_none : (tags : List Tag) → AreAdjacent tags 1 []
adjacent_none tags = record { sound = All-nil (IsPairOf bytes_eq tags); whole = λ k s t lt. absurd (omega (arith, lt)) }

module _ (tags : List Tag) (pairs : List (NetId × NetId)) (k : ℕ) (s t : Tag) (some : 1 ≤ k) (before : slice_get tags (k - 1) ≡ Some s) (at : slice_get tags k ≡ Some t) (h : AreAdjacent tags k pairs) where
  pub adjacent_more : s.name.now ≡ t.name.now → AreAdjacent tags (k + 1) (pairs ++ (s.net, t.net) ∷ [])
  adjacent_more same = record {
    sound = All-push (IsPairOf bytes_eq tags) pairs (s.net, t.net) h.sound
        (record { j = k - 1; k = k; s = s; t = t; at_j = before; at_k = at; one = refl; other = refl; passes = (bytes_eq-Decides s.name.now t.name.now).1 same });
    whole = λ i u v lt at_u at_v is. elim (last_or_before (i + 1) k lt) [
      | inl less ↦ linked_left pairs ((s.net, t.net) ∷ []) u.net.0 v.net.0 (h.whole i u v less at_u at_v is)
      | inr eq ↦
          let back : i ≡ k - 1 = omega (arith, eq) in
          let first = one_at tags i (k - 1) u s back at_u before in
          let second = one_at tags (i + 1) k v t eq at_v at in
          subst (λ z. Linked (has_pair (numbers_of (pairs ++ (s.net, t.net) ∷ []))) z.net.0 v.net.0) (sym first)
          (subst (λ z. Linked (has_pair (numbers_of (pairs ++ (s.net, t.net) ∷ []))) s.net.0 z.net.0) (sym second) (linked_last pairs s.net t.net))
    ];
  }

  pub adjacent_same : (s.name.now ≡ t.name.now → ⊥) → AreAdjacent tags (k + 1) pairs
  adjacent_same apart = record {
    sound = h.sound;
    whole = λ i u v lt at_u at_v is. elim (last_or_before (i + 1) k lt) [
      | inl less ↦ h.whole i u v less at_u at_v is
      | inr eq ↦
          let back : i ≡ k - 1 = omega (arith, eq) in
          let first = one_at tags i (k - 1) u s back at_u before in
          let second = one_at tags (i + 1) k v t eq at_v at in
          absurd (apart (sym (ap (λ (z : Tag). z.name.now) first) ∙ is ∙ ap (λ (z : Tag). z.name.now) second))
    ];
  }

index_equal : (o : Ordering) → ordering_index o ≡ 1 → is_eq o ≡ true
index_equal Less e = absurd (omega (arith, e))
index_equal Equal e = refl
index_equal Greater e = absurd (omega (arith, e))

index_self : (xs : List ℕ) → ordering_index (slice_cmp nat_cmp xs xs) ≡ 1
index_self xs = by_equal (slice_cmp nat_cmp xs xs) (is_eq-slice_cmp xs xs ∙ (bytes_eq-Decides xs xs).1 refl)
  where
    by_equal : (o : Ordering) → is_eq o ≡ true → ordering_index o ≡ 1
    by_equal Less e = let none : ⊥ = cc in absurd none
    by_equal Equal e = refl
    by_equal Greater e = let none : ⊥ = cc in absurd none

module _ (tags : List Tag) (sorted : IsSorted name_order tags) where
  -- what stands between two tags of one name is of that name
  between : (i j k : ℕ) (s u t : Tag) → i ≤ j → j ≤ k → slice_get tags i ≡ Some s → slice_get tags j ≡ Some u → slice_get tags k ≡ Some t → s.name.now ≡ t.name.now → u.name.now ≡ s.name.now
  between i j k s u t low high at_i at_j at_k same =
      let rises = searchable_from_sorted nat_list_cmp_total (λ (z : Tag). z.name.now) tags s.name.now sorted in
      let lt_j = slice_get_within tags j u at_j in
      let lt_k = slice_get_within tags k t at_k in
      let low_is : ordering_index (slice_cmp nat_cmp s.name.now s.name.now) ≤ ordering_index (slice_cmp nat_cmp u.name.now s.name.now) =
      subst (λ z. ordering_index (slice_cmp nat_cmp z.name.now s.name.now) ≤ ordering_index (slice_cmp nat_cmp u.name.now s.name.now)) (get_or_from_slice_get tags i s s at_i)
      (subst (λ z. ordering_index (slice_cmp nat_cmp (get_or tags i s).name.now s.name.now) ≤ ordering_index (slice_cmp nat_cmp z.name.now s.name.now)) (get_or_from_slice_get tags j u s at_j) (rises i j s low lt_j)) in
      let high_is : ordering_index (slice_cmp nat_cmp u.name.now s.name.now) ≤ ordering_index (slice_cmp nat_cmp t.name.now s.name.now) =
      subst (λ z. ordering_index (slice_cmp nat_cmp z.name.now s.name.now) ≤ ordering_index (slice_cmp nat_cmp t.name.now s.name.now)) (get_or_from_slice_get tags j u s at_j)
      (subst (λ z. ordering_index (slice_cmp nat_cmp (get_or tags j s).name.now s.name.now) ≤ ordering_index (slice_cmp nat_cmp z.name.now s.name.now)) (get_or_from_slice_get tags k t s at_k) (rises j k s high lt_k)) in
      let self_is = index_self s.name.now in
      let end_is : ordering_index (slice_cmp nat_cmp t.name.now s.name.now) ≡ 1 = subst (λ z. ordering_index (slice_cmp nat_cmp z s.name.now) ≡ 1) same self_is in
      let one : ordering_index (slice_cmp nat_cmp u.name.now s.name.now) ≡ 1 = omega (arith, low_is, high_is, self_is, end_is) in
      (bytes_eq-Decides u.name.now s.name.now).0 (sym (is_eq-slice_cmp u.name.now s.name.now) ∙ index_equal (slice_cmp nat_cmp u.name.now s.name.now) one)

  module _ (pairs : List (NetId × NetId)) (h : AreAdjacent tags (length tags) pairs) where
    from_first : (d i : ℕ) (s t : Tag) → slice_get tags i ≡ Some s → slice_get tags (i + d) ≡ Some t → s.name.now ≡ t.name.now → Linked (has_pair (numbers_of pairs)) s.net.0 t.net.0
    from_first zero i s t at_i at_k same =
        let eq : i ≡ i + 0 = omega arith in
        subst (λ z. Linked (has_pair (numbers_of pairs)) s.net.0 z.net.0) (one_at tags i (i + 0) s t eq at_i at_k) (linked_refl (has_pair (numbers_of pairs)) s.net.0)
    from_first (suc d) i s t at_i at_k same =
        let lt_k = slice_get_within tags (i + suc d) t at_k in
        let lt : i + 1 < length tags = omega (arith, lt_k) in
        let u = get_or tags (i + 1) s in
        let at_u : slice_get tags (i + 1) ≡ Some u = slice_get-get_or tags (i + 1) s lt in
        let low : i ≤ i + 1 = omega arith in
        let high : i + 1 ≤ i + suc d = omega arith in
        let middle = between i (i + 1) (i + suc d) s u t low high at_i at_u at_k same in
        let shift : i + suc d ≡ (i + 1) + d = omega arith in
        linked_trans (has_pair (numbers_of pairs)) s.net.0 u.net.0 t.net.0 (h.whole i s u lt at_i at_u (sym middle))
        (from_first d (i + 1) u t at_u (ap (λ n. slice_get tags n) (sym shift) ∙ at_k) (middle ∙ same))

    in_order : (i k : ℕ) (s t : Tag) → i ≤ k → slice_get tags i ≡ Some s → slice_get tags k ≡ Some t → s.name.now ≡ t.name.now → Linked (has_pair (numbers_of pairs)) s.net.0 t.net.0
    in_order i k s t le at_i at_k same =
        let eq : k ≡ i + (k - i) = omega (arith, le) in
        from_first (k - i) i s t at_i (ap (λ n. slice_get tags n) (sym eq) ∙ at_k) same

    pub adjacent_joins : AreJoins bytes_eq tags pairs
    adjacent_joins = record {
      sound = h.sound;
      whole = λ i k s t at_i at_k passes.
          let same = (bytes_eq-Decides s.name.now t.name.now).0 passes in
          elim (le_or i k) [
            | inl le ↦ in_order i k s t le at_i at_k same
            | inr ge ↦ linked_sym (has_pair (numbers_of pairs)) t.net.0 s.net.0 (in_order k i t s ge at_k at_i (sym same))
          ];
    }
      where
        le_or : (i k : ℕ) → (i ≤ k) ⊎ (k ≤ i)
        le_or i k = elim (cases_order i k) [
          | inl same ↦ inl (omega (arith, same))
          | inr (inl less) ↦ inl (omega (arith, less))
          | inr (inr more) ↦ inr (omega (arith, more))
        ]

pub adjacent_whole : (tags : List Tag) (pairs : List (NetId × NetId)) (k : ℕ) → length tags ≤ k → AreAdjacent tags k pairs → AreAdjacent tags (length tags) pairs
adjacent_whole tags pairs k le h = record { sound = h.sound; whole = λ i s t lt. h.whole i s t (omega (arith, lt, le)) }

-- ---- all together

-- the tags may stand in another order
pub joins_permuted : (test : List ℕ → List ℕ → Bool) (tags sorted : List Tag) (pairs : List (NetId × NetId)) → IsPermutation tags sorted → AreJoins test sorted pairs → AreJoins test tags pairs
joins_permuted test tags sorted pairs moved h = record {
  sound = All-weaker (IsPairOf test sorted) (IsPairOf test tags) (λ p q.
      let (j, at_j) = at_contains tags q.s (Contains-permutation sorted tags q.s (IsPermutation-sym tags sorted moved) (contains_at sorted q.j q.s q.at_j)) in
      let (k, at_k) = at_contains tags q.t (Contains-permutation sorted tags q.t (IsPermutation-sym tags sorted moved) (contains_at sorted q.k q.t q.at_k)) in
      record { j = j; k = k; s = q.s; t = q.t; at_j = at_j; at_k = at_k; one = q.one; other = q.other; passes = q.passes }) pairs h.sound;
  whole = λ j k s t at_j at_k passes.
      let (a, at_a) = at_contains sorted s (Contains-permutation tags sorted s moved (contains_at tags j s at_j)) in
      let (b, at_b) = at_contains sorted t (Contains-permutation tags sorted t moved (contains_at tags k t at_k)) in
      h.whole a b s t at_a at_b passes;
}

pub joins_append : (p q : List ℕ → List ℕ → Bool) (tags : List Tag) (ps qs : List (NetId × NetId)) → AreJoins p tags ps → AreJoins q tags qs → AreJoins (λ s t. p s t || q s t) tags (ps ++ qs)
joins_append p q tags ps qs g h = record {
  sound = All-append (IsPairOf (λ s t. p s t || q s t) tags) ps qs
      (All-weaker (IsPairOf p tags) (IsPairOf (λ s t. p s t || q s t) tags) (λ x w.
      record { j = w.j; k = w.k; s = w.s; t = w.t; at_j = w.at_j; at_k = w.at_k; one = w.one; other = w.other; passes = or_left (p w.s.name.now w.t.name.now) (q w.s.name.now w.t.name.now) w.passes }) ps g.sound)
      (All-weaker (IsPairOf q tags) (IsPairOf (λ s t. p s t || q s t) tags) (λ x w.
      record { j = w.j; k = w.k; s = w.s; t = w.t; at_j = w.at_j; at_k = w.at_k; one = w.one; other = w.other; passes = or_right (p w.s.name.now w.t.name.now) (q w.s.name.now w.t.name.now) w.passes }) qs h.sound);
  whole = λ j k s t at_j at_k passes. elim (or_cases (p s.name.now t.name.now) (q s.name.now t.name.now) passes) [
    | inl one ↦ linked_left ps qs s.net.0 t.net.0 (g.whole j k s t at_j at_k one)
    | inr other ↦ linked_right ps qs s.net.0 t.net.0 (h.whole j k s t at_j at_k other)
  ];
}

pub supply_of : (names : List (List ℕ)) (nets : List NetId) (tags : List Tag) (pairs : List (NetId × NetId)) → nets ≡ nets_among names tags → AreChained nets (length nets) pairs → AreJoins (are_among names) tags pairs
supply_of names nets tags pairs is h = supply_joins names tags pairs (subst (λ ns. AreChained ns (length ns) pairs) is h)

pub all_joins : (plan : Plan) (tags sorted : List Tag) (high low : List (List ℕ)) (ps hs ls one two : List (NetId × NetId)) → high ≡ plan.high → low ≡ plan.low → IsPermutation tags sorted → AreJoins bytes_eq sorted ps
    → AreJoins (are_among high) tags hs → AreJoins (are_among low) tags ls → one ≡ ps ++ hs → two ≡ one ++ ls → AreJoins (is_joining plan) tags two
all_joins plan tags sorted high low ps hs ls one two high_is low_is moved same h l one_is two_is =
    subst (λ ws. AreJoins (is_joining plan) tags ws) (sym (two_is ∙ ap (λ x. x ++ ls) one_is ∙ append_assoc ps hs ls))
    (joins_append bytes_eq (λ s t. are_among plan.high s t || are_among plan.low s t) tags ps (hs ++ ls) (joins_permuted bytes_eq tags sorted ps moved same)
    (joins_append (are_among plan.high) (are_among plan.low) tags hs ls (subst (λ ns. AreJoins (are_among ns) tags hs) high_is h) (subst (λ ns. AreJoins (are_among ns) tags ls) low_is l)))
