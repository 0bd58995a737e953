-- Rows of ends, passed and pushed one by one.
use Rattle.std.proofs.Common.{◌≡◌, ℕ, zero, suc, ◌+◌, ◌-◌, ◌<◌, ◌≤◌, ◌^◌, Bool, true, false, cond, not, List, [], ◌∷◌, ◌++◌, length, take, refl, sym, ap, ◌∙◌, subst, ◌⊎◌, inl, inr, arith}
use mathlib.Core.Bool.{beq}
use Rattle.std.specs.Prelude.{ℤ, pos, ◌-ℤ◌, ◌≤ℤ◌, ◌<ℤ◌, int_lt, Option, None, Some, IfSome}
use Rattle.std.specs.List.{All}
use Rattle.std.proofs.lemmas.Bool.{cases_lt}
use Rattle.std.proofs.lemmas.Int.{ints, by_lt_z}
use Rattle.std.proofs.lemmas.List.{take_more, take_all, length-take-le, get_or_append_left, get_or_push, length_push}
use Rattle.std.proofs.lemmas.List.Elements.{All-nil, All-more, All-weaker, All-push, All-get_or}
use Rattle.plane_geom.specs.Bounds.{IsWithin}
use Rattle.plane_geom.specs.Ends.{is_odd, flips}
use Rattle.plane_geom.proofs.Ends.{odd_more, flips-push, flips-push_behind, flips-up_to, up_further}
use Rattle.mask_region.specs.Joins.{joined}
use Rattle.mask_region.specs.declared.ends.Joining.{Joining}
use Rattle.mask_region.specs.Rows.{end_at, IsRising, IsRow, IsNextEnd, Turns, IsPast, IsTurned, IsSkipped, IsCommon, IsSameEnd}

-- ---- one more end

weaken_up_to : (ends : List ℤ) (x : ℤ) → All (λ t. t <ℤ x) ends → All (λ t. t ≤ℤ x) ends
weaken_up_to ends x h = All-weaker (λ t. t <ℤ x) (λ t. t ≤ℤ x) (λ t lt. omega (arith, ints)) ends h

-- At x the row is turned on or off.
turned_now : (b s : Bool) (x z : ℤ) → x ≤ℤ z → s ≡ b → cond (int_lt z x) s (not s) ≡ not b
turned_now b s x z h e = grind (arith, ints)

turns-push : (ends : List ℤ) (x : ℤ) → All (λ t. t <ℤ x) ends → Turns ends (ends ++ x ∷ []) x (not (is_odd (length ends)))
turns-push ends x before =
    record {
      kept = λ z h. flips-push_behind ends x z h;
      now = λ z h. flips-push ends x z ∙ turned_now (is_odd (length ends)) (flips ends z) x z h (flips-up_to ends z (up_further ends x z h (weaken_up_to ends x before)));
    }

turns-stay : (ends : List ℤ) (x : ℤ) → All (λ t. t <ℤ x) ends → Turns ends ends x (is_odd (length ends))
turns-stay ends x before = record { kept = λ z h. refl; now = λ z h. flips-up_to ends z (up_further ends x z h (weaken_up_to ends x before)) }

pub rising-push : (ends : List ℤ) (x : ℤ) → IsRising ends → IsWithin (2 ^ 25) x → All (λ t. t <ℤ x) ends → IsRising (ends ++ x ∷ [])
rising-push ends x rising near before =
    record {
      each = λ k h. elim (cases_lt (k + 1) (length ends)) [
        | inl lt ↦ rw (get_or_append_left ends (x ∷ []) (pos 0) k (omega arith), get_or_append_left ends (x ∷ []) (pos 0) (k + 1) lt) (rising.each k lt)
        | inr le ↦
            let last : length ends ≡ k + 1 = omega (arith, length_push ends x) in
            rw (get_or_append_left ends (x ∷ []) (pos 0) k (omega arith), get_or_push ends x (pos 0) (k + 1) last)
            (All-get_or (λ t. t <ℤ x) ends k (pos 0) (omega arith) before)
      ];
      within = All-push (IsWithin (2 ^ 25)) ends x rising.within near;
    }

-- ---- the steps of the code

pub past_more : (ends : List ℤ) (k : ℕ) (x : ℤ) → k < length ends → IsRising ends → x ≡ end_at ends k → All (λ t. t <ℤ x) (take k ends) → IsPast ends k x (k + 1)
past_more ends k x h rising same before =
    let here : end_at ends k ≤ℤ x = omega (arith, ints, same) in
    let longer : take (k + 1) ends ≡ take k ends ++ x ∷ [] = take_more ends k (pos 0) h ∙ ap (λ t. take k ends ++ t ∷ []) (sym same) in
    let odd : not (is_odd (length (take k ends))) ≡ is_odd (k + 1) = rw (length-take-le k ends (omega arith)) (sym (odd_more k)) in
    let turns : Turns (take k ends) (take k ends ++ x ∷ []) x (not (is_odd (length (take k ends)))) = turns-push (take k ends) x before in
    record {
      in_range = omega arith;
      from = omega arith;
      on = λ a b. omega arith;
      ahead = λ next. rw same (rising.each k next);
      up_to = All-more (λ t. t ≤ℤ x) ends k (pos 0) h (weaken_up_to (take k ends) x before) here;
      turns = rw (longer, ← odd) turns;
    }

pub past_none : (ends : List ℤ) (k : ℕ) (x : ℤ) → k ≤ length ends → (k < length ends → x <ℤ end_at ends k) → All (λ t. t <ℤ x) (take k ends) → IsPast ends k x k
past_none ends k x in_range ahead before =
    let P : ℕ → Type 0 = λ n. Turns (take k ends) (take k ends) x (is_odd n) in
    record {
      in_range = in_range;
      from = omega arith;
      on = λ h same. absurd (let up : x <ℤ end_at ends k = ahead h in omega (arith, ints, same));
      ahead = ahead;
      up_to = weaken_up_to (take k ends) x before;
      turns = subst P (length-take-le k ends in_range) (turns-stay (take k ends) x before);
    }

pub turned_more : (ends made : List ℤ) (x : ℤ) (on : Bool) → made ≡ ends ++ x ∷ [] → is_odd (length ends) ≡ not on → IsRising ends → IsWithin (2 ^ 25) x → All (λ t. t <ℤ x) ends → IsTurned ends made x on
turned_more ends made x on e odd rising near before =
    let turns : Turns ends (ends ++ x ∷ []) x (not (is_odd (length ends))) = turns-push ends x before in
    let now : not (is_odd (length ends)) ≡ on = grind (arith, odd) in
    let whole : is_odd (length (ends ++ x ∷ [])) ≡ on = rw (length_push ends x) (odd_more (length ends) ∙ now) in
    rw e
    (record {
      rising = rising-push ends x rising near before;
      up_to = All-push (λ t. t ≤ℤ x) ends x (weaken_up_to ends x before) (omega (arith, ints));
      whole = whole;
      turns = rw (← now) turns;
    })

pub turned_none : (ends : List ℤ) (x : ℤ) (on : Bool) → is_odd (length ends) ≡ on → IsRising ends → All (λ t. t <ℤ x) ends → IsTurned ends ends x on
turned_none ends x on odd rising before =
    record {
      rising = rising;
      up_to = weaken_up_to ends x before;
      whole = odd;
      turns = rw (← odd) (turns-stay ends x before);
    }

-- ---- the joined row

-- The first i and j ends of two rows are joined into a third.
pub record AreJoinedRows (op : Joining) (a b : List ℤ) (i j : ℕ) (out : List ℤ) : Type 0 where
  pub a_row : IsRow a
  pub b_row : IsRow b
  pub a_in : i ≤ length a
  pub b_in : j ≤ length b
  pub a_before : (x : ℤ) → IsNextEnd a i b j x → All (λ t. t <ℤ x) (take i a)
  pub b_before : (x : ℤ) → IsNextEnd a i b j x → All (λ t. t <ℤ x) (take j b)
  pub out_before : (x : ℤ) → IsNextEnd a i b j x → All (λ t. t <ℤ x) out
  pub rising : IsRising out
  pub whole : is_odd (length out) ≡ joined op (is_odd i) (is_odd j)
  pub cells : (z : ℤ) → flips out z ≡ joined op (flips (take i a) z) (flips (take j b) z)

not_same : (p q : Bool) → not (beq p q) ≡ true → p ≡ not q
not_same true true h = cc
not_same true false h = refl
not_same false true h = refl
not_same false false h = cc

pub odd_other : (n m : ℕ) (on : Bool) → n ≡ m → not (beq (is_odd n) on) ≡ true → is_odd m ≡ not on
odd_other n m on e h = rw (← e) (not_same (is_odd n) on h)

same_now : (p q : Bool) → not (beq p q) ≡ false → p ≡ q
same_now true true h = refl
same_now true false h = cc
same_now false true h = cc
same_now false false h = refl

pub odd_same : (n m : ℕ) (on : Bool) → n ≡ m → not (beq (is_odd n) on) ≡ false → is_odd m ≡ on
odd_same n m on e h = rw (← e) (same_now (is_odd n) on h)

-- The next end lies behind the one that was passed.
next_later : (a : List ℤ) (i0 i : ℕ) (b : List ℤ) (j0 j : ℕ) (x y : ℤ) → IsPast a i0 x i → IsPast b j0 x j → IsNextEnd a i b j y → x <ℤ y
next_later a i0 i b j0 j x y pa pb n = elim n.one [ inl p ↦ rw p.1 (pa.ahead p.0) | inr p ↦ rw p.1 (pb.ahead p.0) ]

further : (ends : List ℤ) (x y : ℤ) → x <ℤ y → All (λ t. t ≤ℤ x) ends → All (λ t. t <ℤ y) ends
further ends x y up h = All-weaker (λ t. t ≤ℤ x) (λ t. t <ℤ y) (λ t le. omega (arith, ints)) ends h

pub joined_more : (op : Joining) (a b : List ℤ) (i j : ℕ) (out : List ℤ) (x : ℤ) (i2 j2 : ℕ) (out2 : List ℤ) → AreJoinedRows op a b i j out
    → IsPast a i x i2 → IsPast b j x j2 → IsTurned out out2 x (joined op (is_odd i2) (is_odd j2)) → AreJoinedRows op a b i2 j2 out2
joined_more op a b i j out x i2 j2 out2 h pa pb t =
    record {
      a_row = h.a_row;
      b_row = h.b_row;
      a_in = pa.in_range;
      b_in = pb.in_range;
      a_before = λ y n. further (take i2 a) x y (next_later a i i2 b j j2 x y pa pb n) pa.up_to;
      b_before = λ y n. further (take j2 b) x y (next_later a i i2 b j j2 x y pa pb n) pb.up_to;
      out_before = λ y n. further out2 x y (next_later a i i2 b j j2 x y pa pb n) t.up_to;
      rising = t.rising;
      whole = t.whole;
      cells = λ z. by_lt_z z x
          (λ lt. t.turns.kept z lt ∙ h.cells z ∙ (λ k. joined op (sym (pa.turns.kept z lt) k) (sym (pb.turns.kept z lt) k)))
          (λ le. t.turns.now z le ∙ (λ k. joined op (sym (pa.turns.now z le) k) (sym (pb.turns.now z le) k)));
    }

-- ---- ends that change nothing

pub skip_second_one : (op : Joining) (a b : List ℤ) (i j : ℕ) (out : List ℤ) → AreJoinedRows op a b i j out → j < length b → (i < length a → end_at b j <ℤ end_at a i)
    → ((p q : Bool) → joined op (is_odd i) p ≡ joined op (is_odd i) q) → AreJoinedRows op a b i (j + 1) out
skip_second_one op a b i j out h lt below settled =
    let x : ℤ = end_at b j in
    let next : IsNextEnd a i b j x = record { in_a = λ l. (let b : end_at b j <ℤ end_at a i = below l in omega (arith, ints)); in_b = λ l. omega (arith, ints); one = inr (lt, refl) } in
    joined_more op a b i j out x i (j + 1) out h (past_none a i x h.a_in below (h.a_before x next)) (past_more b j x lt h.b_row.rising refl (h.b_before x next))
    (turned_none out x (joined op (is_odd i) (is_odd (j + 1))) (h.whole ∙ settled (is_odd j) (is_odd (j + 1))) h.rising (h.out_before x next))

pub skip_first_one : (op : Joining) (a b : List ℤ) (i j : ℕ) (out : List ℤ) → AreJoinedRows op a b i j out → i < length a → (j < length b → end_at a i <ℤ end_at b j)
    → ((p q : Bool) → joined op p (is_odd j) ≡ joined op q (is_odd j)) → AreJoinedRows op a b (i + 1) j out
skip_first_one op a b i j out h lt below settled =
    let x : ℤ = end_at a i in
    let next : IsNextEnd a i b j x = record { in_a = λ l. omega (arith, ints); in_b = λ l. (let b : end_at a i <ℤ end_at b j = below l in omega (arith, ints)); one = inl (lt, refl) } in
    joined_more op a b i j out x (i + 1) j out h (past_more a i x lt h.a_row.rising refl (h.a_before x next)) (past_none b j x h.b_in below (h.b_before x next))
    (turned_none out x (joined op (is_odd (i + 1)) (is_odd j)) (h.whole ∙ settled (is_odd i) (is_odd (i + 1))) h.rising (h.out_before x next))

-- what lies below the later end lies below the earlier one's limit
skipped_before : (ends : List ℤ) (k : ℕ) (other : List ℤ) (l n : ℕ) → IsRising ends → IsSkipped ends k other l (k + suc n) → IsSkipped ends k other l (k + n)
skipped_before ends k other l n rising h =
    record {
      in_range = omega (arith, h.in_range);
      from = omega arith;
      below = λ some in_other.
          let last : end_at ends (k + suc n - 1) <ℤ end_at other l = h.below (omega arith) in_other in
          let rise : end_at ends (k + n - 1) <ℤ end_at ends (k + n - 1 + 1) = rising.each (k + n - 1) (omega (arith, h.in_range)) in
          let same : k + n - 1 + 1 ≡ k + suc n - 1 = omega arith in
          let up : end_at ends (k + n - 1) <ℤ end_at ends (k + suc n - 1) = rw (← same) rise in
          omega (arith, ints);
    }

skip_second_by : (n : ℕ) (op : Joining) (a b : List ℤ) (i j : ℕ) (out : List ℤ) → AreJoinedRows op a b i j out → IsSkipped b j a i (j + n)
    → (j < j + n → (p q : Bool) → joined op (is_odd i) p ≡ joined op (is_odd i) q) → AreJoinedRows op a b i (j + n) out
skip_second_by zero op a b i j out h skipped settled =
    let P : ℕ → Type 0 = λ m. AreJoinedRows op a b i m out in
    let same : j ≡ j + 0 = omega arith in
    subst P same h
skip_second_by (suc n) op a b i j out h skipped settled =
    let before : AreJoinedRows op a b i (j + n) out = skip_second_by n op a b i j out h (skipped_before b j a i n h.b_row.rising skipped) (λ some. settled (omega arith)) in
    let same : j + suc n - 1 ≡ j + n = omega arith in
    let one : j + n + 1 ≡ j + suc n = omega arith in
    let P : ℕ → Type 0 = λ m. AreJoinedRows op a b i m out in
    subst P one
    (skip_second_one op a b i (j + n) out before (omega (arith, skipped.in_range)) (λ l. rw (← same) (skipped.below (omega arith) l)) (settled (omega arith)))

skip_first_by : (n : ℕ) (op : Joining) (a b : List ℤ) (i j : ℕ) (out : List ℤ) → AreJoinedRows op a b i j out → IsSkipped a i b j (i + n)
    → (i < i + n → (p q : Bool) → joined op p (is_odd j) ≡ joined op q (is_odd j)) → AreJoinedRows op a b (i + n) j out
skip_first_by zero op a b i j out h skipped settled =
    let P : ℕ → Type 0 = λ m. AreJoinedRows op a b m j out in
    let same : i ≡ i + 0 = omega arith in
    subst P same h
skip_first_by (suc n) op a b i j out h skipped settled =
    let before : AreJoinedRows op a b (i + n) j out = skip_first_by n op a b i j out h (skipped_before a i b j n h.a_row.rising skipped) (λ some. settled (omega arith)) in
    let same : i + suc n - 1 ≡ i + n = omega arith in
    let one : i + n + 1 ≡ i + suc n = omega arith in
    let P : ℕ → Type 0 = λ m. AreJoinedRows op a b m j out in
    subst P one
    (skip_first_one op a b (i + n) j out before (omega (arith, skipped.in_range)) (λ l. rw (← same) (skipped.below (omega arith) l)) (settled (omega arith)))

pub skip_second : (op : Joining) (a b : List ℤ) (i j : ℕ) (out : List ℤ) (r : ℕ) → AreJoinedRows op a b i j out → IsSkipped b j a i r
    → (j < r → (p q : Bool) → joined op (is_odd i) p ≡ joined op (is_odd i) q) → AreJoinedRows op a b i r out
skip_second op a b i j out r h skipped settled =
    let same : j + (r - j) ≡ r = omega (arith, skipped.from) in
    let P : ℕ → Type 0 = λ m. AreJoinedRows op a b i m out in
    let Q : ℕ → Type 0 = λ m. IsSkipped b j a i m in
    subst P same (skip_second_by (r - j) op a b i j out h (subst Q (sym same) skipped) (λ some. settled (omega arith)))

pub skip_first : (op : Joining) (a b : List ℤ) (i j : ℕ) (out : List ℤ) (r : ℕ) → AreJoinedRows op a b i j out → IsSkipped a i b j r
    → (i < r → (p q : Bool) → joined op p (is_odd j) ≡ joined op q (is_odd j)) → AreJoinedRows op a b r j out
skip_first op a b i j out r h skipped settled =
    let same : i + (r - i) ≡ r = omega (arith, skipped.from) in
    let P : ℕ → Type 0 = λ m. AreJoinedRows op a b m j out in
    let Q : ℕ → Type 0 = λ m. IsSkipped a i b j m in
    subst P same (skip_first_by (r - i) op a b i j out h (subst Q (sym same) skipped) (λ some. settled (omega arith)))

-- ---- rows that are alike

-- Where k ends lie at z or before and the others behind, their number tells whether the row is on.
behind : (n : ℕ) (ends : List ℤ) (k : ℕ) (z : ℤ) → IsRising ends → (k < length ends → z <ℤ end_at ends k) → k + n ≤ length ends → flips (take (k + n) ends) z ≡ flips (take k ends) z
behind zero ends k z rising up le =
    let same : k + 0 ≡ k = omega arith in
    ap (λ m. flips (take m ends) z) same
behind (suc n) ends k z rising up le =
    let more : take (k + n + 1) ends ≡ take (k + n) ends ++ end_at ends (k + n) ∷ [] = take_more ends (k + n) (pos 0) (omega (arith, le)) in
    let one : k + suc n ≡ k + n + 1 = omega arith in
    let first : z <ℤ end_at ends k = up (omega (arith, le)) in
    ap (λ m. flips (take m ends) z) one ∙ ap (λ l. flips l z) more
    ∙ flips-push_behind (take (k + n) ends) (end_at ends (k + n)) z (far_up n ends k z rising first (omega (arith, le)))
    ∙ behind n ends k z rising up (omega (arith, le))
  where
    far_up : (n : ℕ) (ends : List ℤ) (k : ℕ) (z : ℤ) → IsRising ends → z <ℤ end_at ends k → k + n < length ends → z <ℤ end_at ends (k + n)
    far_up zero ends k z rising first lt = let same : k + 0 ≡ k = omega arith in rw same first
    far_up (suc n) ends k z rising first lt =
        let one : k + suc n ≡ k + n + 1 = omega arith in
        let before : z <ℤ end_at ends (k + n) = far_up n ends k z rising first (omega (arith, lt)) in
        let rise : end_at ends (k + n) <ℤ end_at ends (k + n + 1) = rising.each (k + n) (omega (arith, lt)) in
        let up : z <ℤ end_at ends (k + n + 1) = omega (arith, ints) in
        rw one up

-- ends behind z change nothing at z
flips_take : (ends : List ℤ) (k : ℕ) (z : ℤ) → IsRising ends → k ≤ length ends → (k < length ends → z <ℤ end_at ends k) → flips ends z ≡ flips (take k ends) z
flips_take ends k z rising in_range up =
    let all : k + (length ends - k) ≡ length ends = omega (arith, in_range) in
    ap (λ l. flips l z) (sym (take_all (length ends) ends (omega arith)))
    ∙ ap (λ m. flips (take m ends) z) (sym all)
    ∙ behind (length ends - k) ends k z rising up (omega (arith, all))

pub flips_at : (ends : List ℤ) (k : ℕ) (z : ℤ) → IsRising ends → k ≤ length ends → All (λ t. t ≤ℤ z) (take k ends) → (k < length ends → z <ℤ end_at ends k) → flips ends z ≡ is_odd k
flips_at ends k z rising in_range up_to up =
    flips_take ends k z rising in_range up ∙ flips-up_to (take k ends) z up_to ∙ ap is_odd (length-take-le k ends in_range)

-- Where the last of the first k ends lies at x or before, they all do.
pub up_to_last : (ends : List ℤ) (k : ℕ) (x : ℤ) → IsRising ends → k ≤ length ends → (0 < k → end_at ends (k - 1) ≤ℤ x) → All (λ t. t ≤ℤ x) (take k ends)
up_to_last ends zero x rising in_range last = All-nil (λ t. t ≤ℤ x)
up_to_last ends (suc k) x rising in_range last =
    let here : end_at ends (suc k - 1) ≤ℤ x = last (omega arith) in
    let same : suc k - 1 ≡ k = omega arith in
    let at : end_at ends k ≤ℤ x = rw (← same) here in
    let one : k + 1 ≡ suc k = omega arith in
    let P : ℕ → Type 0 = λ m. All (λ t. t ≤ℤ x) (take m ends) in
    subst P one
    (All-more (λ t. t ≤ℤ x) ends k (pos 0) (omega (arith, in_range))
    (up_to_last ends k x rising (omega (arith, in_range)) (λ some. before_at k rising in_range at some)) at)
  where
    before_at : (k : ℕ) → IsRising ends → suc k ≤ length ends → end_at ends k ≤ℤ x → 0 < k → end_at ends (k - 1) ≤ℤ x
    before_at k rising in_range at some =
        let rise : end_at ends (k - 1) <ℤ end_at ends (k - 1 + 1) = rising.each (k - 1) (omega (arith, in_range, some)) in
        let same : k - 1 + 1 ≡ k = omega (arith, some) in
        let P : ℕ → Type 0 = λ m. end_at ends (k - 1) <ℤ end_at ends m in
        let up : end_at ends (k - 1) <ℤ end_at ends k = subst P same rise in
        omega (arith, ints)

-- Up to the next end of the two, the rows are alike or the other row is as it should be.
pub record AreAlikeSoFar (old new other : List ℤ) (on : Bool) (i j : ℕ) : Type 0 where
  pub old_row : IsRow old
  pub new_row : IsRow new
  pub old_in : i ≤ length old
  pub new_in : j ≤ length new
  pub old_before : (x : ℤ) → IsNextEnd old i new j x → All (λ t. t <ℤ x) (take i old)
  pub new_before : (x : ℤ) → IsNextEnd old i new j x → All (λ t. t <ℤ x) (take j new)
  pub cells : (z : ℤ) → (i < length old → z <ℤ end_at old i) → (j < length new → z <ℤ end_at new j) → (flips old z ≡ flips new z) ⊎ (flips other z ≡ on)

pub common_more : (a b : List ℤ) (k : ℕ) → IsCommon a b k → IsSameEnd a b k → IsCommon a b (k + 1)
common_more a b k h one =
    record {
      in_a = omega (arith, one.in_a);
      in_b = omega (arith, one.in_b);
      same = take_more a k (pos 0) one.in_a ∙ (λ i. h.same i ++ one.same i ∷ []) ∙ sym (take_more b k (pos 0) one.in_b);
    }

-- All ends before another lie left of it.
pub rising_before : (ends : List ℤ) (k : ℕ) → IsRising ends → k < length ends → All (λ t. t <ℤ end_at ends k) (take k ends)
rising_before ends k rising lt =
    All-weaker (λ t. t ≤ℤ (end_at ends k -ℤ pos 1)) (λ t. t <ℤ end_at ends k) (λ t le. omega (arith, ints)) (take k ends)
    (up_to_last ends k (end_at ends k -ℤ pos 1) rising (omega (arith, lt))
    (λ some.
    let rise : end_at ends (k - 1) <ℤ end_at ends (k - 1 + 1) = rising.each (k - 1) (omega (arith, lt, some)) in
    let same : k - 1 + 1 ≡ k = omega (arith, some) in
    let P : ℕ → Type 0 = λ m. end_at ends (k - 1) <ℤ end_at ends m in
    let up : end_at ends (k - 1) <ℤ end_at ends k = subst P same rise in
    omega (arith, ints)))

pub alike_start : (old new other : List ℤ) (on : Bool) (k : ℕ) → IsRow old → IsRow new → IsCommon old new k → AreAlikeSoFar old new other on k k
alike_start old new other on k is_old is_new common =
    record {
      old_row = is_old;
      new_row = is_new;
      old_in = common.in_a;
      new_in = common.in_b;
      old_before = λ x n. elim n.one [
        | inl p ↦ rw p.1 (rising_before old k is_old.rising p.0)
        | inr p ↦ rw (p.1, common.same) (rising_before new k is_new.rising p.0)
      ];
      new_before = λ x n. elim n.one [
        | inl p ↦ rw (p.1, ← common.same) (rising_before old k is_old.rising p.0)
        | inr p ↦ rw p.1 (rising_before new k is_new.rising p.0)
      ];
      cells = λ z below_old below_new.
          inl (flips_take old k z is_old.rising common.in_a below_old ∙ ap (λ l. flips l z) common.same ∙ sym (flips_take new k z is_new.rising common.in_b below_new));
    }

pub alike_more : (old new other : List ℤ) (on : Bool) (i j : ℕ) (x : ℤ) (i2 j2 : ℕ) → AreAlikeSoFar old new other on i j → IsNextEnd old i new j x → IsPast old i x i2 → IsPast new j x j2
    → ((z : ℤ) → x ≤ℤ z → (i2 < length old → z <ℤ end_at old i2) → (j2 < length new → z <ℤ end_at new j2) → (is_odd i2 ≡ is_odd j2) ⊎ (flips other z ≡ on))
    → AreAlikeSoFar old new other on i2 j2
alike_more old new other on i j x i2 j2 h next past_old past_new here =
    record {
      old_row = h.old_row;
      new_row = h.new_row;
      old_in = past_old.in_range;
      new_in = past_new.in_range;
      old_before = λ y n. further (take i2 old) x y (next_later old i i2 new j j2 x y past_old past_new n) past_old.up_to;
      new_before = λ y n. further (take j2 new) x y (next_later old i i2 new j j2 x y past_old past_new n) past_new.up_to;
      cells = λ z below_old below_new. by_lt_z z x
          (λ lt. h.cells z (λ l. (let le : x ≤ℤ end_at old i = next.in_a l in omega (arith, ints))) (λ l. (let le : x ≤ℤ end_at new j = next.in_b l in omega (arith, ints))))
          (λ le.
          let is_old = flips_at old i2 z h.old_row.rising past_old.in_range (up_further (take i2 old) x z le past_old.up_to) below_old in
          let is_new = flips_at new j2 z h.new_row.rising past_new.in_range (up_further (take j2 new) x z le past_new.up_to) below_new in
          elim (here z le below_old below_new) [ inl same ↦ inl (is_old ∙ same ∙ sym is_new) | inr settled ↦ inr settled ]);
    }

pub alike_end : (old new other : List ℤ) (on : Bool) (i j : ℕ) (x : ℤ) → AreAlikeSoFar old new other on i j → length old ≤ i → length new ≤ j → (flips old x ≡ flips new x) ⊎ (flips other x ≡ on)
alike_end old new other on i j x h all_old all_new = h.cells x (λ l. absurd (omega (arith, all_old))) (λ l. absurd (omega (arith, all_new)))

pub all_on : (ends : List ℤ) (k : ℕ) (left z : ℤ) (on : Bool) → IsRising ends → k ≤ length ends → is_odd k ≡ on → (0 < k → end_at ends (k - 1) ≤ℤ left) → left ≤ℤ z → (k < length ends → z <ℤ end_at ends k)
    → flips ends z ≡ on
all_on ends k left z on rising in_range odd last low up =
    flips_at ends k z rising in_range (up_further (take k ends) left z low (up_to_last ends k left rising in_range last)) up ∙ odd

pub before_next : (next : Option ℤ) (old : List ℤ) (i : ℕ) (new : List ℤ) (j : ℕ) (z : ℤ) → IfSome next (λ x. IsNextEnd old i new j x) → (i < length old → z <ℤ end_at old i) → (j < length new → z <ℤ end_at new j)
    → IfSome next (λ x. z <ℤ x)
before_next None old i new j z n below_old below_new = tt
before_next (Some x) old i new j z n below_old below_new = elim n.one [ inl p ↦ rw p.1 (below_old p.0) | inr p ↦ rw p.1 (below_new p.0) ]
