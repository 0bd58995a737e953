-- The lists of spots, pairs and names, one step at a time.
use Rattle.std.proofs.Common.{◌≡◌, ℕ, ◌+◌, ◌<◌, ◌≤◌, nat_le, inl, inr, Bool, true, false, List, [], ◌∷◌, ◌++◌, length, Option, Some, None, slice_get, if◌then◌else◌, refl, sym, ap, ◌∙◌, subst, arith}
use Rattle.std.specs.Option.{MatchOption}
use Rattle.std.proofs.lemmas.Bool.Decides.{nat_tests}
use Rattle.plane_geom.specs.declared.shapes.Point.{Point}
use Rattle.cif_flatten.specs.declared.flat.Mark.{Mark}
use Rattle.layer_map.specs.declared.map.WireId.{WireId}
use Rattle.layout_extract.specs.declared.bindings.Binding.{Binding}
use Rattle.layout_extract.specs.declared.bindings.Binding.TheVariants.{Deep, Unbound, Ambiguous, Bound}
use Rattle.layout_extract.specs.declared.tags.Spot.{Spot}
use Rattle.layout_extract.specs.Tags.{HasNoAmbiguous, HasAmbiguousAt, first_with, IsSpotOf, HasSpot, AreSpotsOf}
use Rattle.layout_extract.proofs.Places.{one_at, push_last, push_cases}
use Rattle.net_trace.proofs.Lists.{last_or_before}
use Rattle.net_trace.proofs.VertexLists.{get_left}

abbrev IsFirst : List Mark → List Binding → ℕ → Option ℕ → Type 0
IsFirst marks bindings upto first = MatchOption first (HasNoAmbiguous bindings upto) (HasAmbiguousAt marks bindings upto)

-- ---- the first ambiguous label

module _ (marks : List Mark) (bindings : List Binding) (i : ℕ) (m : Mark) (at : slice_get marks i ≡ Some m) where
  still : (b : Binding) → slice_get bindings i ≡ Some b → (b ≡ Ambiguous → ⊥) → (first : Option ℕ) → IsFirst marks bindings i first → IsFirst marks bindings (i + 1) first
  still b is other None h = record {
    none = λ k lt two. elim (last_or_before k i lt) [
      | inl less ↦ h.none k less two
      | inr same ↦ other (one_at bindings i k b Ambiguous (sym same) is two)
    ];
  }
  still b is other (Some place) h = let lt = h.early in record {
    k = h.k;
    mark = h.mark;
    early = omega (arith, lt);
    at = h.at;
    is = h.is;
    two = h.two;
    first = λ j n lt at_j two. elim (last_or_before j i lt) [
      | inl less ↦ h.first j n less at_j two
      | inr same ↦ absurd (other (one_at bindings i j b Ambiguous (sym same) is two))
    ];
  }

  here : (place : ℕ) → slice_get bindings i ≡ Some Ambiguous → m.pos ≡ place → ((j : ℕ) (n : Mark) → j < i → slice_get marks j ≡ Some n → slice_get bindings j ≡ Some Ambiguous → place ≤ n.pos) → HasAmbiguousAt marks bindings (i + 1) place
  here place is same least = record {
    k = i;
    mark = m;
    early = omega arith;
    at = at;
    is = same;
    two = is;
    first = λ j n lt at_j two. elim (last_or_before j i lt) [
      | inl less ↦ least j n less at_j two
      | inr eq ↦ let p : n.pos ≡ place = ap (λ (x : Mark). x.pos) (sym (one_at marks i j m n (sym eq) at at_j)) ∙ same in omega (arith, p)
    ];
  }

  by_test : (place : ℕ) (b : Bool) → nat_le place m.pos ≡ b → slice_get bindings i ≡ Some Ambiguous → HasAmbiguousAt marks bindings i place → IsFirst marks bindings (i + 1) (if b then Some place else Some m.pos)
  by_test place true le is h = let lt = h.early in record {
    k = h.k;
    mark = h.mark;
    early = omega (arith, lt);
    at = h.at;
    is = h.is;
    two = h.two;
    first = λ j n lt at_j two. elim (last_or_before j i lt) [
      | inl less ↦ h.first j n less at_j two
      | inr eq ↦ let p : n.pos ≡ m.pos = ap (λ (x : Mark). x.pos) (sym (one_at marks i j m n (sym eq) at at_j)) in grind (arith, nat_tests, p, le)
    ];
  }
  by_test place false gt is h = here m.pos is refl (λ j n lt at_j two. let p = h.first j n lt at_j two in grind (arith, nat_tests, p, gt))

  pub first_more : (first : Option ℕ) (b : Binding) → slice_get bindings i ≡ Some b → IsFirst marks bindings i first → IsFirst marks bindings (i + 1) (first_with first b m.pos)
  first_more None Deep is h = still Deep is (λ e. let none : ⊥ = cc in none) None h
  first_more None Unbound is h = still Unbound is (λ e. let none : ⊥ = cc in none) None h
  first_more None (Bound w c) is h = still (Bound w c) is (λ e. let none : ⊥ = cc in none) None h
  first_more None Ambiguous is h = here m.pos is refl (λ j n lt at_j two. absurd (h.none j lt two))
  first_more (Some place) Deep is h = still Deep is (λ e. let none : ⊥ = cc in none) (Some place) h
  first_more (Some place) Unbound is h = still Unbound is (λ e. let none : ⊥ = cc in none) (Some place) h
  first_more (Some place) (Bound w c) is h = still (Bound w c) is (λ e. let none : ⊥ = cc in none) (Some place) h
  first_more (Some place) Ambiguous is h = by_test place (nat_le place m.pos) refl is h

  -- ---- spots

  earlier : (s : Spot) → IsSpotOf marks bindings i s → IsSpotOf marks bindings (i + 1) s
  earlier s h = let lt = h.early in record { k = h.k; mark = h.mark; early = omega (arith, lt); at = h.at; is = h.is; name = h.name }

  pub spots_same : (spots : List Spot) (b : Binding) → slice_get bindings i ≡ Some b → ((w : WireId) (c : Point) → b ≡ Bound w c → ⊥) → AreSpotsOf marks bindings i spots → AreSpotsOf marks bindings (i + 1) spots
  spots_same spots b is other h = record {
    each = λ j s at_j. earlier s (h.each j s at_j);
    all = λ k n w c lt at_k bound. elim (last_or_before k i lt) [
      | inl less ↦ h.all k n w c less at_k bound
      | inr same ↦ absurd (other w c (one_at bindings i k b (Bound w c) (sym same) is bound))
    ];
  }

  kept_spot : (spots : List Spot) (s : Spot) (name : List ℕ) (w : WireId) (c : Point) → HasSpot spots name w c → HasSpot (spots ++ s ∷ []) name w c
  kept_spot spots s name w c h = record { j = h.j; spot = h.spot; at = get_left spots (s ∷ []) h.j h.spot h.at; name_is = h.name_is; wire_is = h.wire_is; cell_is = h.cell_is }

  pub spots_more : (spots : List Spot) (s : Spot) → slice_get bindings i ≡ Some (Bound s.wire s.cell) → m.name ≡ s.name.now → AreSpotsOf marks bindings i spots → AreSpotsOf marks bindings (i + 1) (spots ++ s ∷ [])
  spots_more spots s is name h = record {
    each = λ j t at_j. elim (push_cases spots s j t at_j) [
      | inl old ↦ earlier t (h.each j t old)
      | inr (same, eq) ↦ subst (λ u. IsSpotOf marks bindings (i + 1) u) eq (record { k = i; mark = m; early = omega arith; at = at; is = is; name = name })
    ];
    all = λ k n w c lt at_k bound. elim (last_or_before k i lt) [
      | inl less ↦ kept_spot spots s n.name w c (h.all k n w c less at_k bound)
      | inr same ↦
          let one = one_at bindings i k (Bound s.wire s.cell) (Bound w c) (sym same) is bound in
          let mark = one_at marks i k m n (sym same) at at_k in
          record {
            j = length spots;
            spot = s;
            at = push_last spots s;
            name_is = sym name ∙ ap (λ (x : Mark). x.name) mark;
            wire_is = ap (λ (b : Binding). elim b [ Deep ↦ w | Unbound ↦ w | Ambiguous ↦ w | Bound u d ↦ u ]) one;
            cell_is = ap (λ (b : Binding). elim b [ Deep ↦ c | Unbound ↦ c | Ambiguous ↦ c | Bound u d ↦ d ]) one;
          }
    ];
  }
