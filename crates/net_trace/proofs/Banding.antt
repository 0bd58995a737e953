-- Two places pass all pairs of strips of which the one lies on the other.
use Rattle.std.proofs.Common.{◌≡◌, ℕ, ◌+◌, ◌<◌, ◌≤◌, ◌⊎◌, Bool, true, false, List, [], ◌∷◌, ◌++◌, length, refl, sym, ap, ◌∙◌, subst, arith, inl, inr, slice_get, get_or, Some, ◌==◌, ◌&&◌, ◌||◌}
use Rattle.std.specs.List.{All}
use Rattle.std.proofs.lemmas.Bool.{cases_order, and_from, eq-eqb}
use Rattle.std.proofs.lemmas.Int.{ints, by_lt_z}
use Rattle.std.proofs.lemmas.List.Elements.{All-nil, All-push}
use Rattle.std.proofs.lemmas.List.Folds.{list_any-append}
use Rattle.std.proofs.lemmas.Option.{slice_get_within, slice_get-get_or, get_or_from_slice_get}
use Rattle.link_classes.specs.Classes.{has_pair}
use Rattle.mask_region.specs.Strips.{IsStrip}
use Rattle.net_trace.specs.declared.wiring.Vertex.{Vertex}
use Rattle.net_trace.specs.Wirings.{IsBehind, AreOrdered, is_below, is_done, IsBelowPair, AreBands}
use Rattle.net_trace.proofs.Lists.{not_both_ways}

-- All pairs with a place before one of these are among those found.
pub record AreBandsTo (vertices : List Vertex) (lower upper : ℕ) (pairs : List (ℕ × ℕ)) : Type 0 where
  pub order : lower ≤ upper
  pub in_range : upper ≤ length vertices
  pub sound : All (IsBelowPair vertices) pairs
  pub whole : (p q : ℕ) (u v : Vertex) → (p < lower) ⊎ (q < upper) → slice_get vertices p ≡ Some u → slice_get vertices q ≡ Some v → is_below u v ≡ true → has_pair pairs p q ≡ true

-- ---- strips

done_later : (u v w : Vertex) → is_done u v ≡ true → IsBehind v w → is_below u w ≡ false
done_later u v w done (inl later) = grind (arith, ints, done, later)
done_later u v w done (inr (same, f)) =
    by_lt_z v.strip.y0 w.strip.y0
    (λ up. grind (arith, ints, done, same))
    (λ level. let equal : v.strip.y0 ≡ w.strip.y0 = omega (arith, ints, f.later) in let right = f.right equal in grind (arith, ints, done, same))

kept_later : (u v w : Vertex) → is_done u v ≡ false → IsStrip w.strip → IsBehind u w → is_below w v ≡ false
kept_later u v w done strip (inl later) = grind (arith, ints, done, later)
kept_later u v w done strip (inr (same, f)) =
    by_lt_z u.strip.y0 w.strip.y0
    (λ up. let apart = f.apart up in let high = strip.high in grind (arith, ints, done, same))
    (λ level. let equal : u.strip.y0 ≡ w.strip.y0 = omega (arith, ints, f.later) in let right = f.right equal in let band = f.band equal in grind (arith, ints, done, same))

not_done_self : (u : Vertex) → IsStrip u.strip → is_done u u ≡ false
not_done_self u strip = let high = strip.high in grind (arith, ints)

-- ---- pairs

pub has_push : (pairs : List (ℕ × ℕ)) (e : ℕ × ℕ) (p q : ℕ) → has_pair pairs p q ≡ true → has_pair (pairs ++ e ∷ []) p q ≡ true
has_push pairs e p q has = list_any-append (λ (x : ℕ × ℕ). x.0 == p && x.1 == q) pairs (e ∷ []) ∙ ap (λ b. b || has_pair (e ∷ []) p q) has

pub has_last : (pairs : List (ℕ × ℕ)) (p q : ℕ) → has_pair (pairs ++ (p, q) ∷ []) p q ≡ true
has_last pairs p q =
    let own : (p == p && q == q) ≡ true = and_from (p == p) (q == q) (eq-eqb p p refl) (eq-eqb q q refl) in
    list_any-append (λ (x : ℕ × ℕ). x.0 == p && x.1 == q) pairs ((p, q) ∷ []) ∙ both (has_pair pairs p q) (p == p && q == q) own
  where
    both : (a b : Bool) → b ≡ true → (a || (b || false)) ≡ true
    both true b h = refl
    both false true h = refl
    both false false h = h

-- All pairs with a place before one of these are among those found, and so is the pair of the two places.
pub record AreBandsHere (vertices : List Vertex) (lower upper : ℕ) (pairs : List (ℕ × ℕ)) : Type 0 where
  pub to : AreBandsTo vertices lower upper pairs
  pub own : (u v : Vertex) → slice_get vertices lower ≡ Some u → slice_get vertices upper ≡ Some v → is_below u v ≡ true → has_pair pairs lower upper ≡ true

at_index : (vertices : List Vertex) (i : ℕ) (d u : Vertex) → slice_get vertices i ≡ Some u → get_or vertices i d ≡ u
at_index vertices i d u at = get_or_from_slice_get vertices i u d at

below_moved : (u u' v v' : Vertex) → u ≡ u' → v ≡ v' → is_below u' v' ≡ true → is_below u v ≡ true
below_moved u u' v v' eu ev h = subst (λ (x : Vertex). is_below x v ≡ true) (sym eu) (subst (λ (x : Vertex). is_below u' x ≡ true) (sym ev) h)

pub bands_none : (vertices : List Vertex) → AreBandsTo vertices 0 0 []
bands_none vertices = record {
  order = omega arith;
  in_range = omega arith;
  sound = All-nil (IsBelowPair vertices);
  whole = λ p q u v before at_p at_q below. elim before [ inl lt ↦ absurd (omega (arith, lt)) | inr lt ↦ absurd (omega (arith, lt)) ];
}

module _ (vertices : List Vertex) (lower upper : ℕ) (d e : Vertex) (in_range : upper < length vertices) where
  pub here_added : (pairs new : List (ℕ × ℕ)) → AreBandsTo vertices lower upper pairs → new ≡ pairs ++ (lower, upper) ∷ [] → is_below (get_or vertices lower d) (get_or vertices upper e) ≡ true
      → AreBandsHere vertices lower upper new
  here_added pairs new h is below = subst (λ l. AreBandsHere vertices lower upper l) (sym is) (record {
    to = record {
      order = h.order;
      in_range = h.in_range;
      sound = All-push (IsBelowPair vertices) pairs (lower, upper) h.sound (record {
        lower = get_or vertices lower d;
        upper = get_or vertices upper e;
        first = slice_get-get_or vertices lower d (omega (arith, h.order, in_range));
        second = slice_get-get_or vertices upper e in_range;
        below = below;
      });
      whole = λ p q u v before at_p at_q on. has_push pairs (lower, upper) p q (h.whole p q u v before at_p at_q on);
    };
    own = λ u v at_u at_v on. has_last pairs lower upper;
  })

  pub here_same : (pairs new : List (ℕ × ℕ)) → AreBandsTo vertices lower upper pairs → new ≡ pairs → is_below (get_or vertices lower d) (get_or vertices upper e) ≡ false
      → AreBandsHere vertices lower upper new
  here_same pairs new h is below = subst (λ l. AreBandsHere vertices lower upper l) (sym is) (record {
    to = h;
    own = λ u v at_u at_v on. not_both_ways (is_below (get_or vertices lower d) (get_or vertices upper e))
        (below_moved (get_or vertices lower d) u (get_or vertices upper e) v (at_index vertices lower d u at_u) (at_index vertices upper e v at_v) on) below;
  })

  module _ (ordered : AreOrdered vertices) (pairs : List (ℕ × ℕ)) (h : AreBandsHere vertices lower upper pairs) where
    lower_at : slice_get vertices lower ≡ Some (get_or vertices lower d)
    lower_at = slice_get-get_or vertices lower d (omega (arith, h.to.order, in_range))

    upper_at : slice_get vertices upper ≡ Some (get_or vertices upper e)
    upper_at = slice_get-get_or vertices upper e in_range

    apart : is_done (get_or vertices lower d) (get_or vertices upper e) ≡ true → lower < upper
    apart done = elim (cases_order lower upper) [
      | inl same ↦ absurd (not_both_ways (is_done (get_or vertices lower d) (get_or vertices lower d))
          (subst (λ (x : Vertex). is_done (get_or vertices lower d) x ≡ true) (sym (at_index vertices lower d (get_or vertices upper e) (ap (λ i. slice_get vertices i) same ∙ upper_at))) done)
          (not_done_self (get_or vertices lower d) (ordered.strip lower (get_or vertices lower d) lower_at)))
      | inr (inl less) ↦ less
      | inr (inr more) ↦ absurd (omega (arith, more, h.to.order))
    ]

    at_lower : (p q : ℕ) (u v : Vertex) → is_done (get_or vertices lower d) (get_or vertices upper e) ≡ true → p ≡ lower → slice_get vertices p ≡ Some u → slice_get vertices q ≡ Some v → is_below u v ≡ true → has_pair pairs p q ≡ true
    at_lower p q u v done same at_p at_q on =
        let at_u : slice_get vertices lower ≡ Some u = ap (λ i. slice_get vertices i) (sym same) ∙ at_p in
        elim (cases_order q upper) [
          | inl level ↦ subst (λ i. has_pair pairs i q ≡ true) (sym same) (subst (λ i. has_pair pairs lower i ≡ true) (sym level) (h.own u v at_u (ap (λ i. slice_get vertices i) (sym level) ∙ at_q) on))
          | inr (inl less) ↦ h.to.whole p q u v (inr less) at_p at_q on
          | inr (inr more) ↦ not_both_ways (is_below u v) on
              (done_later u (get_or vertices upper e) v (subst (λ (x : Vertex). is_done x (get_or vertices upper e) ≡ true) (at_index vertices lower d u at_u) done) (ordered.behind upper q (get_or vertices upper e) v more upper_at at_q))
        ]

    pub next_lower : is_done (get_or vertices lower d) (get_or vertices upper e) ≡ true → AreBandsTo vertices (lower + 1) upper pairs
    next_lower done = record {
      order = omega (arith, apart done);
      in_range = h.to.in_range;
      sound = h.to.sound;
      whole = λ p q u v before at_p at_q on. elim before [
        | inr up ↦ h.to.whole p q u v (inr up) at_p at_q on
        | inl low ↦ elim (cases_order p lower) [
          | inl same ↦ at_lower p q u v done same at_p at_q on
          | inr (inl less) ↦ h.to.whole p q u v (inl less) at_p at_q on
          | inr (inr more) ↦ absurd (omega (arith, low, more))
        ]
      ];
    }

    at_upper : (p q : ℕ) (u v : Vertex) → is_done (get_or vertices lower d) (get_or vertices upper e) ≡ false → q ≡ upper → slice_get vertices p ≡ Some u → slice_get vertices q ≡ Some v → is_below u v ≡ true → has_pair pairs p q ≡ true
    at_upper p q u v done same at_p at_q on =
        let at_v : slice_get vertices upper ≡ Some v = ap (λ i. slice_get vertices i) (sym same) ∙ at_q in
        elim (cases_order p lower) [
          | inl level ↦ subst (λ i. has_pair pairs p i ≡ true) (sym same) (subst (λ i. has_pair pairs i upper ≡ true) (sym level) (h.own u v (ap (λ i. slice_get vertices i) (sym level) ∙ at_p) at_v on))
          | inr (inl less) ↦ h.to.whole p q u v (inl less) at_p at_q on
          | inr (inr more) ↦ not_both_ways (is_below u v) on
              (kept_later (get_or vertices lower d) v u (subst (λ (x : Vertex). is_done (get_or vertices lower d) x ≡ false) (at_index vertices upper e v at_v) done) (ordered.strip p u at_p) (ordered.behind lower p (get_or vertices lower d) u more lower_at at_p))
        ]

    pub next_upper : is_done (get_or vertices lower d) (get_or vertices upper e) ≡ false → AreBandsTo vertices lower (upper + 1) pairs
    next_upper done = record {
      order = omega (arith, h.to.order);
      in_range = omega (arith, in_range);
      sound = h.to.sound;
      whole = λ p q u v before at_p at_q on. elim before [
        | inl low ↦ h.to.whole p q u v (inl low) at_p at_q on
        | inr up ↦ elim (cases_order q upper) [
          | inl same ↦ at_upper p q u v done same at_p at_q on
          | inr (inl less) ↦ h.to.whole p q u v (inr less) at_p at_q on
          | inr (inr more) ↦ absurd (omega (arith, up, more))
        ]
      ];
    }

pub bands_all : (vertices : List Vertex) (lower upper : ℕ) (pairs : List (ℕ × ℕ)) → length vertices ≤ upper → AreBandsTo vertices lower upper pairs → AreBands vertices pairs
bands_all vertices lower upper pairs all h = record {
  sound = h.sound;
  whole = λ p q u v at_p at_q on. h.whole p q u v (inr (omega (arith, all, slice_get_within vertices q v at_q))) at_p at_q on;
}
