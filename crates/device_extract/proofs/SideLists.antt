-- The four sides of each line, and the terminals that lie there.
use Rattle.std.proofs.Common.{◌≡◌, ℕ, zero, suc, ◌+◌, ◌<◌, ◌⊎◌, true, ◌&&◌, List, [], ◌∷◌, ◌++◌, length, refl, sym, ap, ◌∙◌, subst, arith, inl, inr, slice_get, Some}
use Rattle.std.specs.Prelude.{ℤ, pos, neg_ℤ, ◌+ℤ◌, ◌-ℤ◌}
use Rattle.std.specs.List.{All}
use Rattle.std.specs.Ordering.{int_eq}
use Rattle.std.proofs.lemmas.Bool.{cases_order, and_parts}
use Rattle.std.proofs.lemmas.Int.{ints}
use Rattle.std.proofs.lemmas.List.Elements.{All-nil, All-push}
use Rattle.link_classes.proofs.UniqueNumbers.{some_one, no_some}
use Rattle.layer_map.specs.Plan as layers
use Rattle.layer_map.specs.declared.map.WireId.{WireId}
use Rattle.mask_region.specs.declared.strips.Strip.{Strip}
use Rattle.mask_region.specs.Strips.{is_in}
use Rattle.mask_region.proofs.Within.{or_cases}
use Rattle.net_trace.specs.Touching.{Nets, is_in_wire, is_step, is_beside}
use Rattle.net_trace.proofs.VertexLists.{get_left, get_right, get_append}
use Rattle.device_extract.specs.declared.sides.Side.{Side}
use Rattle.device_extract.specs.Contacts.{IsStep, IsSideOf, HasSide, AreSides, AreTouched}

-- ---- steps

step_right : IsStep (pos 1) (pos 0)
step_right = record { one = inl (refl, inl refl) }

step_left : IsStep (neg_ℤ (pos 1)) (pos 0)
step_left = record { one = inl (refl, inr refl) }

step_up : IsStep (pos 0) (pos 1)
step_up = record { one = inr (refl, inl refl) }

step_down : IsStep (pos 0) (neg_ℤ (pos 1))
step_down = record { one = inr (refl, inr refl) }

-- from a cell to one beside it leads a step
pub step_between : (x y i j : ℤ) → is_beside x y i j ≡ true → IsStep (i -ℤ x) (j -ℤ y)
step_between x y i j beside = elim (or_cases (int_eq y j && is_step x i) (int_eq x i && is_step y j) beside) [
  | inl row ↦ let (level, next) = and_parts (int_eq y j) (is_step x i) row in record { one = inl (equal y j level, along x i next) }
  | inr column ↦ let (level, next) = and_parts (int_eq x i) (is_step y j) column in record { one = inr (equal x i level, along y j next) }
] where
  same : (p q : ℤ) → int_eq p q ≡ true → p ≡ q
  same p q h = grind (arith, ints, h)

  equal : (p q : ℤ) → int_eq p q ≡ true → q -ℤ p ≡ pos 0
  equal p q h = omega (arith, ints, same p q h)

  along : (p q : ℤ) → is_step p q ≡ true → (q -ℤ p ≡ pos 1) ⊎ (q -ℤ p ≡ neg_ℤ (pos 1))
  along p q h = elim (or_cases (int_eq q (p +ℤ pos 1)) (int_eq p (q +ℤ pos 1)) h) [
    | inl up ↦ inl (omega (arith, ints, same q (p +ℤ pos 1) up))
    | inr down ↦ inr (omega (arith, ints, same p (q +ℤ pos 1) down))
  ]

-- a step leads to a cell beside the first
pub step_beside : (x y right up : ℤ) → IsStep right up → is_beside (x -ℤ right) (y -ℤ up) x y ≡ true
step_beside x y right up h = by_step h.one
  where
    by_step : ((up ≡ pos 0) × ((right ≡ pos 1) ⊎ (right ≡ neg_ℤ (pos 1)))) ⊎ ((right ≡ pos 0) × ((up ≡ pos 1) ⊎ (up ≡ neg_ℤ (pos 1)))) → is_beside (x -ℤ right) (y -ℤ up) x y ≡ true
    by_step (inl (level, inl next)) = grind (arith, ints, level, next)
    by_step (inl (level, inr next)) = grind (arith, ints, level, next)
    by_step (inr (level, inl next)) = grind (arith, ints, level, next)
    by_step (inr (level, inr next)) = grind (arith, ints, level, next)

-- ---- the list of sides

pub sides_none : (fets : List layers.Fet) (sides : List Side) → sides ≡ [] → AreSides fets 0 sides
sides_none fets sides is = subst (AreSides fets 0) (sym is) (record { sound = All-nil (IsSideOf fets); whole = λ line fet right up lt. absurd (omega (arith, lt)) })

-- The list has the sides of the lines before this one, and those of this line that were added.
pub record AreSidesTo (fets : List layers.Fet) (n : ℕ) (added : List (ℤ × ℤ)) (sides : List Side) : Type 0 where
  pub sound : All (IsSideOf fets) sides
  pub whole : (line : ℕ) (fet : layers.Fet) (right up : ℤ) → line < n → slice_get fets line ≡ Some fet → IsStep right up → HasSide sides line fet.diff right up
  pub here : (fet : layers.Fet) (k : ℕ) (right up : ℤ) → slice_get fets n ≡ Some fet → slice_get added k ≡ Some (right, up) → HasSide sides n fet.diff right up

has_more : (sides : List Side) (s : Side) (line diff : ℕ) (right up : ℤ) → HasSide sides line diff right up → HasSide (sides ++ s ∷ []) line diff right up
has_more sides s line diff right up h = record {
  k = h.k;
  side = h.side;
  at = get_left sides (s ∷ []) h.k h.side h.at;
  line_is = h.line_is;
  diff_is = h.diff_is;
  right_is = h.right_is;
  up_is = h.up_is;
}

-- the side of this line with this step
pub record IsSideAt (n diff : ℕ) (right up : ℤ) (s : Side) : Type 0 where
  pub line_is : s.line ≡ n
  pub diff_is : s.diff.0 ≡ diff
  pub right_is : s.right ≡ right
  pub up_is : s.up ≡ up

has_last : (sides : List Side) (s : Side) (line diff : ℕ) (right up : ℤ) → IsSideAt line diff right up s → HasSide (sides ++ s ∷ []) line diff right up
has_last sides s line diff right up h = record { k = length sides + 0; side = s; at = get_right sides (s ∷ []) 0; line_is = h.line_is; diff_is = h.diff_is; right_is = h.right_is; up_is = h.up_is }

module _ (fets : List layers.Fet) (n : ℕ) (fet : layers.Fet) (at : slice_get fets n ≡ Some fet) where
  side_more : (added : List (ℤ × ℤ)) (sides new : List Side) (s : Side) (right up : ℤ) → AreSidesTo fets n added sides → IsSideAt n fet.diff right up s → IsStep right up → new ≡ sides ++ s ∷ [] → AreSidesTo fets n (added ++ (right, up) ∷ []) new
  side_more added sides new s right up h is step more = subst (AreSidesTo fets n (added ++ (right, up) ∷ [])) (sym more) (record {
    sound = All-push (IsSideOf fets) sides s h.sound (record {
      fet = fet;
      at = ap (λ m. slice_get fets m) is.line_is ∙ at;
      diff = is.diff_is;
      step = subst (λ (a : ℤ). IsStep a s.up) (sym is.right_is) (subst (λ (b : ℤ). IsStep right b) (sym is.up_is) step);
    });
    whole = λ line f a b lt at_f st. has_more sides s line f.diff a b (h.whole line f a b lt at_f st);
    here = λ f k a b at_f at_k.
        let line_one : fet ≡ f = some_one fet f (sym at ∙ at_f) in
        elim (get_append added ((right, up) ∷ []) k (a, b) at_k) [
          | inl old ↦ has_more sides s n f.diff a b (h.here f k a b at_f old.1)
          | inr last ↦ has_last sides s n f.diff a b (by_last f line_one last.0 a b last.2)
        ];
  }) where
    by_last : (f : layers.Fet) → fet ≡ f → (j : ℕ) (a b : ℤ) → slice_get {X = ℤ × ℤ} ((right, up) ∷ []) j ≡ Some (a, b) → IsSideAt n f.diff a b s
    by_last f one zero a b at_j =
        let same : (right, up) ≡ (a, b) = some_one (right, up) (a, b) at_j in
        record { line_is = is.line_is; diff_is = is.diff_is ∙ ap (λ (g : layers.Fet). g.diff) one; right_is = is.right_is ∙ ap (λ (p : ℤ × ℤ). p.0) same; up_is = is.up_is ∙ ap (λ (p : ℤ × ℤ). p.1) same }
    by_last f one (suc j) a b at_j = no_some (a, b) at_j

  to_start : (sides : List Side) → AreSides fets n sides → AreSidesTo fets n [] sides
  to_start sides h = record { sound = h.sound; whole = h.whole; here = λ f k a b at_f at_k. no_some (a, b) at_k }

  to_end : (sides : List Side) → AreSidesTo fets n ((pos 1, pos 0) ∷ (neg_ℤ (pos 1), pos 0) ∷ (pos 0, pos 1) ∷ (pos 0, neg_ℤ (pos 1)) ∷ []) sides → AreSides fets (n + 1) sides
  to_end sides h = record {
    sound = h.sound;
    whole = λ line f a b lt at_f st. elim (cases_order line n) [
      | inl same ↦ subst (λ m. HasSide sides m f.diff a b) (sym same) (by_step f (ap (λ m. slice_get fets m) (sym same) ∙ at_f) a b st.one)
      | inr (inl less) ↦ h.whole line f a b less at_f st
      | inr (inr more) ↦ absurd (omega (arith, lt, more))
    ];
  } where
    moved : (f : layers.Fet) (a b c d : ℤ) → c ≡ a → d ≡ b → HasSide sides n f.diff a b → HasSide sides n f.diff c d
    moved f a b c d first second k = subst (λ (z : ℤ). HasSide sides n f.diff z d) (sym first) (subst (λ (z : ℤ). HasSide sides n f.diff a z) (sym second) k)

    by_step : (f : layers.Fet) → slice_get fets n ≡ Some f → (a b : ℤ) → ((b ≡ pos 0) × ((a ≡ pos 1) ⊎ (a ≡ neg_ℤ (pos 1)))) ⊎ ((a ≡ pos 0) × ((b ≡ pos 1) ⊎ (b ≡ neg_ℤ (pos 1)))) → HasSide sides n f.diff a b
    by_step f at_f a b (inl (level, inl next)) = moved f (pos 1) (pos 0) a b next level (h.here f 0 (pos 1) (pos 0) at_f refl)
    by_step f at_f a b (inl (level, inr next)) = moved f (neg_ℤ (pos 1)) (pos 0) a b next level (h.here f 1 (neg_ℤ (pos 1)) (pos 0) at_f refl)
    by_step f at_f a b (inr (level, inl next)) = moved f (pos 0) (pos 1) a b level next (h.here f 2 (pos 0) (pos 1) at_f refl)
    by_step f at_f a b (inr (level, inr next)) = moved f (pos 0) (neg_ℤ (pos 1)) a b level next (h.here f 3 (pos 0) (neg_ℤ (pos 1)) at_f refl)

  pub sides_more : (sides one two three four : List Side) (p q r s : Side) → AreSides fets n sides
      → IsSideAt n fet.diff (pos 1) (pos 0) p → IsSideAt n fet.diff (neg_ℤ (pos 1)) (pos 0) q → IsSideAt n fet.diff (pos 0) (pos 1) r → IsSideAt n fet.diff (pos 0) (neg_ℤ (pos 1)) s
      → one ≡ sides ++ p ∷ [] → two ≡ one ++ q ∷ [] → three ≡ two ++ r ∷ [] → four ≡ three ++ s ∷ [] → AreSides fets (n + 1) four
  sides_more sides one two three four p q r s h is_p is_q is_r is_s first second third fourth =
      to_end four
      (side_more ((pos 1, pos 0) ∷ (neg_ℤ (pos 1), pos 0) ∷ (pos 0, pos 1) ∷ []) three four s (pos 0) (neg_ℤ (pos 1))
      (side_more ((pos 1, pos 0) ∷ (neg_ℤ (pos 1), pos 0) ∷ []) two three r (pos 0) (pos 1)
      (side_more ((pos 1, pos 0) ∷ []) one two q (neg_ℤ (pos 1)) (pos 0)
      (side_more [] sides one p (pos 1) (pos 0) (to_start sides h) is_p step_right first) is_q step_left second) is_r step_up third) is_s step_down fourth)

-- ---- the cells of a side

pub touched_is : (channels wires : List (List Strip)) (plane nets : Nets) (side : Side) (channel wire shifted region : List Strip) → plane.wires ≡ channels → nets.wires ≡ wires → slice_get channels side.line ≡ Some channel → slice_get wires side.diff.0 ≡ Some wire
    → ((x y : ℤ) → is_in shifted x y ≡ is_in channel (x -ℤ side.right) (y -ℤ side.up)) → ((x y : ℤ) → is_in region x y ≡ (is_in shifted x y && is_in wire x y)) → AreTouched plane nets side region
touched_is channels wires plane nets side channel wire shifted region is_plane is_nets at_channel at_wire moved met = record {
  cells = λ x y. met x y ∙ (λ i. (moved x y ∙ ap (λ o. is_in_wire o (x -ℤ side.right) (y -ℤ side.up)) (sym (ap (λ (ws : List (List Strip)). slice_get ws side.line) is_plane ∙ at_channel))) i
      && ap (λ o. is_in_wire o x y) (sym (ap (λ (ws : List (List Strip)). slice_get ws side.diff.0) is_nets ∙ at_wire)) i);
}

pub side_at : (s : Side) (n : ℕ) (diff : WireId) (right up : ℤ) (d : ℕ) → s ≡ record { line = n; diff = diff; right = right; up = up } → diff.0 ≡ d → IsSideAt n d right up s
side_at s n diff right up d is same = record {
  line_is = ap (λ (x : Side). x.line) is;
  diff_is = ap (λ (x : Side). x.diff.0) is ∙ same;
  right_is = ap (λ (x : Side). x.right) is;
  up_is = ap (λ (x : Side). x.up) is;
}
