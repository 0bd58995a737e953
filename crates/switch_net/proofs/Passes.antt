-- One transistor more of a pass over the transistors, and what a pass that marks nothing shows.
use Rattle.std.proofs.Common.{arith, ◌≡◌, inl, inr, ℕ, ◌<◌, ◌≤◌, ◌+◌, Bool, true, false, ◌&&◌, ◌||◌, ◌==◌, not, List, [], length, get_or, take, refl, sym, ◌∙◌, ap, subst}
use Rattle.std.specs.List.{All}
use Rattle.std.proofs.lemmas.Bool.{false≢true, and_parts, and_from, or_cases, or_parts, or_left, eqb-true, eq-eqb, cases_Bool, not-true}
use Rattle.std.proofs.lemmas.List.Elements.{All-more}
use Rattle.std.proofs.lemmas.List.Folds.{Any-from_list_any, list_any_at}
use Rattle.link_classes.specs.Linked.{Linked}
use Rattle.link_classes.proofs.Chains.{linked_refl, linked_touch, linked_trans, linked_sym, linked_kept}
use Rattle.switch_net.specs.declared.fets.Fet.{Fet}
use Rattle.switch_net.specs.Switches.{Switches, net_count, value, is_supply, is_terminal}
use Rattle.switch_net.specs.Conduction.{is_conducting, is_across, is_joined}
use Rattle.switch_net.specs.Spreads.{room, is_joining, IsEven, IsGrown, IsJoined, IsSpread, IsFlooding, IsFlooded}
use Rattle.switch_net.proofs.Steps.{joined_parts, joined_from}

-- ---- one transistor

joining_parts : (c : Switches) (v : ℕ → Bool) (f : Fet) → is_joining c v f ≡ true → (is_conducting v f ≡ true) × (is_supply c f.a.0 ≡ false) × (is_supply c f.b.0 ≡ false)
joining_parts c v f is =
    let (on, plain) = and_parts (is_conducting v f) (not (is_supply c f.a.0) && not (is_supply c f.b.0)) is in
    let (a_plain, b_plain) = and_parts (not (is_supply c f.a.0)) (not (is_supply c f.b.0)) plain in
    (on, not-true (is_supply c f.a.0) a_plain, not-true (is_supply c f.b.0) b_plain)

-- the terminals of a transistor that joins are joined
fet_joins : (c : Switches) (v : ℕ → Bool) (k : ℕ) (d : Fet) → k < length c.fets → is_joining c v (get_or c.fets k d) ≡ true
    → is_joined c c.fets v (get_or c.fets k d).a.0 (get_or c.fets k d).b.0 ≡ true
fet_joins c v k d lt is =
    let f : Fet = get_or c.fets k d in
    let (on, a_plain, b_plain) = joining_parts c v f is in
    let same : (f.a.0 == f.a.0 && f.b.0 == f.b.0) ≡ true = and_from (f.a.0 == f.a.0) (f.b.0 == f.b.0) (eq-eqb f.a.0 f.a.0 refl) (eq-eqb f.b.0 f.b.0 refl) in
    let across : is_across f f.a.0 f.b.0 ≡ true = or_left (f.a.0 == f.a.0 && f.b.0 == f.b.0) (f.a.0 == f.b.0 && f.b.0 == f.a.0) same in
    joined_from c c.fets v f.a.0 f.b.0 (list_any_at (λ g. is_conducting v g && is_across g f.a.0 f.b.0) c.fets k d lt (and_from (is_conducting v f) (is_across f f.a.0 f.b.0) on across)) a_plain b_plain

-- ---- a pass

-- before the first transistor
pub spread_none : (c : Switches) (v : ℕ → Bool) (marks : List Bool) → IsSpread c v [] marks marks false
spread_none c v marks = record {
  each = refl;
  kept = λ n is. is;
  linked = λ n is. (n, is, linked_refl (is_joined c c.fets v) n);
  less = λ is. absurd (false≢true is);
  idle = λ is. (refl, none);
} where
  none : All (IsEven c v marks) []
  none k d lt = absurd (omega (arith, lt))

room_kept : (c : Switches) (v : ℕ → Bool) (fets : List Fet) (old new : List Bool) (grown : Bool) → IsSpread c v fets old new grown → room new ≤ room old
room_kept c v fets old new grown h = elim (cases_Bool grown) [
  | inl done ↦ omega (arith, h.less done)
  | inr idle ↦ omega (arith, ap room (h.idle idle).0)
]

module _ (c : Switches) (v : ℕ → Bool) (k : ℕ) (d : Fet) (old mid new : List Bool) (grown more : Bool) (lt : k < length c.fets)
    (before : IsSpread c v (take k c.fets) old mid grown) (step : IsJoined c v (get_or c.fets k d) mid new more) where
  abbrev f : Fet
  f = get_or c.fets k d

  each : length new ≡ length old
  each = step.each ∙ before.each

  kept : (n : ℕ) → value old n ≡ true → value new n ≡ true
  kept n is = elim (cases_Bool more) [
    | inl done ↦ (step.done done).is n ∙ or_left (value mid n) (is_terminal n f) (before.kept n is)
    | inr idle ↦ ap (λ marks. value marks n) (step.idle idle).0 ∙ before.kept n is
  ]

  abbrev Source : ℕ → Type 0
  Source n = (m : ℕ) × (value old m ≡ true) × Linked (is_joined c c.fets v) m n

  further : (n p : ℕ) → Linked (is_joined c c.fets v) n p → Source n → Source p
  further n p leads source = let (m, is, linked) = source in (m, is, linked_trans (is_joined c c.fets v) m n p linked leads)

  -- from a marked terminal to the net that is a terminal
  from_ends : (is : more ≡ true) (n : ℕ) → is_terminal n f ≡ true → Source n
  from_ends is n terminal =
      let grow : IsGrown c v f mid new = step.done is in
      let over : Linked (is_joined c c.fets v) f.a.0 f.b.0 = linked_touch (is_joined c c.fets v) f.a.0 f.b.0 (fet_joins c v k d lt grow.joins) in
      elim (or_cases (f.a.0 == n) (f.b.0 == n) terminal) [
        | inl at_a ↦ subst Source (eqb-true f.a.0 n at_a) (elim (or_cases (value mid f.a.0) (value mid f.b.0) grow.uneven) [
          | inl a_marked ↦ before.linked f.a.0 a_marked
          | inr b_marked ↦ further f.b.0 f.a.0 (linked_sym (is_joined c c.fets v) f.a.0 f.b.0 over) (before.linked f.b.0 b_marked)
        ])
        | inr at_b ↦ subst Source (eqb-true f.b.0 n at_b) (elim (or_cases (value mid f.a.0) (value mid f.b.0) grow.uneven) [
          | inl a_marked ↦ further f.a.0 f.b.0 over (before.linked f.a.0 a_marked)
          | inr b_marked ↦ before.linked f.b.0 b_marked
        ])
      ]

  linked : (n : ℕ) → value new n ≡ true → Source n
  linked n is = elim (cases_Bool more) [
    | inl done ↦ elim (or_cases (value mid n) (is_terminal n f) (sym ((step.done done).is n) ∙ is)) [
      | inl marked ↦ before.linked n marked
      | inr terminal ↦ from_ends done n terminal
    ]
    | inr idle ↦ before.linked n (sym (ap (λ marks. value marks n) (step.idle idle).0) ∙ is)
  ]

  less : (more || grown) ≡ true → room new < room old
  less is = elim (cases_Bool more) [
    | inl done ↦ omega (arith, (step.done done).less, room_kept c v (take k c.fets) old mid grown before)
    | inr idle ↦ elim (or_cases more grown is) [
      | inl done ↦ omega (arith, (step.done done).less, room_kept c v (take k c.fets) old mid grown before)
      | inr done ↦ omega (arith, ap room (step.idle idle).0, before.less done)
    ]
  ]

  idle : (more || grown) ≡ false → (new ≡ old) × All (IsEven c v old) (take (k + 1) c.fets)
  idle is =
      let (still, unmarked) = or_parts more grown is in
      let (same, even) = before.idle unmarked in
      let (now, last) = step.idle still in
      (now ∙ same, All-more (IsEven c v old) c.fets k d lt even (subst (λ marks. IsEven c v marks f) same last))

  -- one transistor more
  pub spread_more : IsSpread c v (take (k + 1) c.fets) old new (more || grown)
  spread_more = record { each = each; kept = kept; linked = linked; less = less; idle = idle }

-- the same, where the list of transistors is read as another one
pub spread_next : (c : Switches) (v : ℕ → Bool) (fets : List Fet) (k : ℕ) (d : Fet) (old mid new : List Bool) (grown more now : Bool) → fets ≡ c.fets → k < length fets
    → IsSpread c v (take k c.fets) old mid grown → IsJoined c v (get_or fets k d) mid new more → now ≡ (more || grown) → IsSpread c v (take (k + 1) c.fets) old new now
spread_next c v fets k d old mid new grown more now same lt before step is =
    subst (IsSpread c v (take (k + 1) c.fets) old new) (sym is)
    (spread_more c v k d old mid new grown more (omega (arith, lt, ap length same)) before (subst (λ fs. IsJoined c v (get_or fs k d) mid new more) same step))

-- ---- all passes

pub flooding_start : (c : Switches) (v : ℕ → Bool) (start : ℕ) (marks : List Bool) → length marks ≡ net_count c → ((n : ℕ) → value marks n ≡ (start == n)) → IsFlooding c v start marks
flooding_start c v start marks each is = record {
  each = each;
  first = is start ∙ eq-eqb start start refl;
  linked = λ n marked. subst (λ m. Linked (is_joined c c.fets v) start m) (eqb-true start n (sym (is n) ∙ marked)) (linked_refl (is_joined c c.fets v) start);
}

pub flooding_more : (c : Switches) (v : ℕ → Bool) (start : ℕ) (old new : List Bool) (grown : Bool) → IsFlooding c v start old → IsSpread c v c.fets old new grown → IsFlooding c v start new
flooding_more c v start old new grown before pass = record {
  each = pass.each ∙ before.each;
  first = pass.kept start before.first;
  linked = λ n is. let (m, marked, linked) = pass.linked n is in linked_trans (is_joined c c.fets v) start m n (before.linked m marked) linked;
}

-- joined nets are both marked or both not, where each transistor is even
even_joined : (c : Switches) (v : ℕ → Bool) (marks : List Bool) → All (IsEven c v marks) c.fets → (a b : ℕ) → is_joined c c.fets v a b ≡ true → value marks a ≡ value marks b
even_joined c v marks even a b is =
    let (step, a_plain, b_plain) = joined_parts c c.fets v a b is in
    let (k, f, lt, at, leads) = Any-from_list_any (λ g. is_conducting v g && is_across g a b) c.fets step in
    let (on, across) = and_parts (is_conducting v f) (is_across f a b) leads in
    let f_even : IsEven c v marks f = subst (IsEven c v marks) at (even k f lt) in
    elim (or_cases (f.a.0 == a && f.b.0 == b) (f.a.0 == b && f.b.0 == a) across) [
      | inl forth ↦
          let (at_a, at_b) = and_parts (f.a.0 == a) (f.b.0 == b) forth in
          same_ends f a b (eqb-true f.a.0 a at_a) (eqb-true f.b.0 b at_b) on a_plain b_plain f_even
      | inr back ↦
          let (at_b, at_a) = and_parts (f.a.0 == b) (f.b.0 == a) back in
          sym (same_ends f b a (eqb-true f.a.0 b at_b) (eqb-true f.b.0 a at_a) on b_plain a_plain f_even)
    ]
  where
    same_ends : (f : Fet) (x y : ℕ) → f.a.0 ≡ x → f.b.0 ≡ y → is_conducting v f ≡ true → is_supply c x ≡ false → is_supply c y ≡ false → IsEven c v marks f → value marks x ≡ value marks y
    same_ends f x y at_x at_y on x_plain y_plain f_even =
        let ends : (not (is_supply c f.a.0) && not (is_supply c f.b.0)) ≡ true = and_from (not (is_supply c f.a.0)) (not (is_supply c f.b.0)) (ap (λ n. not (is_supply c n)) at_x ∙ ap not x_plain) (ap (λ n. not (is_supply c n)) at_y ∙ ap not y_plain) in
        sym (ap (value marks) at_x) ∙ f_even.even (and_from (is_conducting v f) (not (is_supply c f.a.0) && not (is_supply c f.b.0)) on ends) ∙ ap (value marks) at_y

-- after a pass that marks nothing, exactly what is linked to the start is marked
pub flooded : (c : Switches) (v : ℕ → Bool) (start : ℕ) (old new : List Bool) (grown : Bool) → IsFlooding c v start old → IsSpread c v c.fets old new grown → grown ≡ false → IsFlooded c v start new
flooded c v start old new grown before pass still =
    let (same, even) = pass.idle still in
    let now : IsFlooding c v start new = flooding_more c v start old new grown before pass in
    record {
      marked = λ n. record {
        onto = now.linked n;
        back = λ linked. sym (linked_kept (is_joined c c.fets v) (value new) (even_joined c v new (subst (λ marks. All (IsEven c v marks) c.fets) (sym same) even)) start n linked) ∙ now.first;
      };
    }
