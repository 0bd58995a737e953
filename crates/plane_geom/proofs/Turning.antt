-- How turns and places move points.
use Rattle.std.proofs.Common.{◌≡◌, ℕ, ◌+◌, Bool, true, false, cond, List, [], ◌∷◌, ◌++◌, refl, sym, ap, ◌∙◌, arith}
use Rattle.std.specs.Prelude.{◌==◌, int_lt, nat_abs, ℤ, pos, neg_ℤ, ◌+ℤ◌, ◌↔◌, IsTrue, IsSome, IfSome, Option}
use Rattle.std.specs.Bool.{then_some}
use Rattle.std.proofs.lemmas.Int.{ints}
use Rattle.std.proofs.lemmas.Bool.{false≢true}
use Rattle.plane_geom.specs.declared.shapes.Point.{Point}
use Rattle.plane_geom.specs.declared.places.Turn.{Turn}
use Rattle.plane_geom.specs.declared.places.Place.{Place}
use Rattle.plane_geom.specs.Bounds.{IsWithin, IsPointWithin}
use Rattle.plane_geom.specs.Placement.{Step, shift, negate_x, negate_y, exchange, moved, moved_once, step_if, turn_steps, placed, IsPlaceOf, IsShiftWithin}

-- steps one after the other
pub moved-append : (before after : List Step) (p : Point) → moved (before ++ after) p ≡ moved after (moved before p)
moved-append [] after p = refl
moved-append (s ∷ before) after p = moved-append before after (moved_once s p)

abbrev pub negated_if : Bool → ℤ → ℤ
negated_if b z = cond b (neg_ℤ z) z

-- what a turn makes of the two coordinates
abbrev pub turned_with : Bool → Bool → Bool → Point → Point
turned_with swap neg_x neg_y p = record { x = negated_if neg_x (cond swap p.y p.x); y = negated_if neg_y (cond swap p.x p.y) }

turned_cases : (swap neg_x neg_y : Bool) (p : Point) → moved (step_if swap exchange (step_if neg_x negate_x (step_if neg_y negate_y []))) p ≡ turned_with swap neg_x neg_y p
turned_cases true true true p = refl
turned_cases true true false p = refl
turned_cases true false true p = refl
turned_cases true false false p = refl
turned_cases false true true p = refl
turned_cases false true false p = refl
turned_cases false false true p = refl
turned_cases false false false p = refl

pub turned_is : (t : Turn) (p : Point) → moved (turn_steps t) p ≡ turned_with t.swap t.neg_x t.neg_y p
turned_is t p = turned_cases t.swap t.neg_x t.neg_y p

abbrev pub plus : Point → Point → Point
plus p q = record { x = p.x +ℤ q.x; y = p.y +ℤ q.y }

pub placed_is : (a : Place) (p : Point) → placed a p ≡ plus (moved (turn_steps a.turn) p) (record { x = a.dx; y = a.dy })
placed_is a p = moved-append (turn_steps a.turn) (shift a.dx a.dy ∷ []) p

-- A turn keeps how far a point is from 0.
negated-within : (bound : ℕ) (b : Bool) (z : ℤ) → IsWithin bound z → IsWithin bound (negated_if b z)
negated-within bound true z h = record { low = omega (arith, ints, h.low, h.high); high = omega (arith, ints, h.low, h.high) }
negated-within bound false z h = h

pub turned-within : (bound : ℕ) (swap neg_x neg_y : Bool) (p : Point) → IsPointWithin bound p → IsPointWithin bound (turned_with swap neg_x neg_y p)
turned-within bound true neg_x neg_y p h = record { x = negated-within bound neg_x p.y h.y; y = negated-within bound neg_y p.x h.x }
turned-within bound false neg_x neg_y p h = record { x = negated-within bound neg_x p.x h.x; y = negated-within bound neg_y p.y h.y }

-- A turn of a sum is the sum of the turned points.
negated-plus : (b : Bool) (z w : ℤ) → negated_if b (z +ℤ w) ≡ negated_if b z +ℤ negated_if b w
negated-plus true z w = omega (arith, ints)
negated-plus false z w = refl

turned_with-plus : (swap neg_x neg_y : Bool) (p q : Point) → turned_with swap neg_x neg_y (plus p q) ≡ plus (turned_with swap neg_x neg_y p) (turned_with swap neg_x neg_y q)
turned_with-plus true neg_x neg_y p q = λ i. record { x = negated-plus neg_x p.y q.y i; y = negated-plus neg_y p.x q.x i }
turned_with-plus false neg_x neg_y p q = λ i. record { x = negated-plus neg_x p.x q.x i; y = negated-plus neg_y p.y q.y i }

pub turned-plus : (t : Turn) (p q : Point) → moved (turn_steps t) (plus p q) ≡ plus (moved (turn_steps t) p) (moved (turn_steps t) q)
turned-plus t p q = rw (turned_is t (plus p q), turned_is t p, turned_is t q) (turned_with-plus t.swap t.neg_x t.neg_y p q)

add-assoc : (a b c : ℤ) → (a +ℤ b) +ℤ c ≡ a +ℤ (b +ℤ c)
add-assoc a b c = omega (arith, ints)

pub plus-assoc : (p q r : Point) → plus (plus p q) r ≡ plus p (plus q r)
plus-assoc p q r = λ i. record { x = add-assoc p.x q.x r.x i; y = add-assoc p.y q.y r.y i }

-- First one place, then the next: the turns one after the other, and the first shift, turned by the next, with its own.
pub placed-then : (first next made : Place) (d : Point)
    → ((p : Point) → moved (turn_steps made.turn) p ≡ moved (turn_steps next.turn) (moved (turn_steps first.turn) p))
    → d ≡ moved (turn_steps next.turn) (record { x = first.dx; y = first.dy })
    → made.dx ≡ d.x +ℤ next.dx → made.dy ≡ d.y +ℤ next.dy
    → (p : Point) → placed made p ≡ placed next (placed first p)
placed-then first next made d turns d_is dx dy p =
    let turned : Point = moved (turn_steps first.turn) p in
    let first_shift : Point = record { x = first.dx; y = first.dy } in
    let next_shift : Point = record { x = next.dx; y = next.dy } in
    let shift_is : ◌≡◌ {A = Point} (record { x = made.dx; y = made.dy }) (plus d next_shift) = λ i. record { x = dx i; y = dy i } in
    placed_is made p
    ∙ ap (λ q. plus q (record { x = made.dx; y = made.dy })) (turns p)
    ∙ ap (λ q. plus (moved (turn_steps next.turn) turned) q) shift_is
    ∙ sym (plus-assoc (moved (turn_steps next.turn) turned) d next_shift)
    ∙ ap (λ q. plus q next_shift) (ap (λ q. plus (moved (turn_steps next.turn) turned) q) d_is ∙ sym (turned-plus next.turn turned first_shift))
    ∙ ap (λ q. plus (moved (turn_steps next.turn) q) next_shift) (sym (placed_is first p))
    ∙ sym (placed_is next (placed first p))

pub turned_near : (bound : ℕ) (t : Turn) (p : Point) → IsPointWithin bound p → IsPointWithin bound (moved (turn_steps t) p)
turned_near bound t p h = rw turned_is (turned-within bound t.swap t.neg_x t.neg_y p h)

pub turned_near_is : (bound : ℕ) (t : Turn) (p q : Point) → q ≡ moved (turn_steps t) p → IsPointWithin bound p → IsPointWithin bound q
turned_near_is bound t p q e h = rw e (turned_near bound t p h)

within-sum : (m n : ℕ) (z a b : ℤ) → IsWithin m a → IsWithin n b → z ≡ a +ℤ b → IsWithin (m + n) z
within-sum m n z a b p q e = record { low = omega (arith, ints, p.low, q.low); high = omega (arith, ints, p.high, q.high) }

-- The shift of two places is at most the sum of their shifts.
pub shifts-near : (m n : ℕ) (next made : Place) (d : Point) → IsPointWithin m d → IsShiftWithin n next → made.dx ≡ d.x +ℤ next.dx → made.dy ≡ d.y +ℤ next.dy → IsShiftWithin (m + n) made
shifts-near m n next made d a b dx dy =
    record { dx = within-sum m n made.dx d.x next.dx a.x b.dx dx; dy = within-sum m n made.dy d.y next.dy a.y b.dy dy }

-- ---- a point in range, or none

pub point_is : (p q : Point) → p.x ≡ q.x → p.y ≡ q.y → p ≡ q
point_is p q ex ey = λ i. record { x = ex i; y = ey i }

-- the point where turn and shift take it is where the place takes it
pub applied : (a : Place) (p turned made : Point) → turned ≡ moved (turn_steps a.turn) p → made.x ≡ turned.x +ℤ a.dx → made.y ≡ turned.y +ℤ a.dy → made ≡ placed a p
applied a p turned made e ex ey =
    point_is made (plus turned (record { x = a.dx; y = a.dy })) ex ey ∙ ap (λ q. plus q (record { x = a.dx; y = a.dy })) e ∙ sym (placed_is a p)

pub some_within : (bound : ℕ) (to made : Point) (b : Bool) (r : Option Point) → made ≡ to → IsTrue b ↔ IsPointWithin bound made → r ≡ then_some b made → IsSome r ↔ IsPointWithin bound to
some_within bound to made true r e f h = rw (h, ← e) (λ _. f.0 refl, λ _. refl)
some_within bound to made false r e f h = rw (h, ← e) (λ x. absurd (false≢true x), λ w. f.1 w)

pub some_is : (to made : Point) (b : Bool) (r : Option Point) → made ≡ to → r ≡ then_some b made → IfSome r (λ q. q ≡ to)
some_is to made true r e h = rw h e
some_is to made false r e h = rw h tt

-- ---- one place for the same steps

-- what a coordinate of the turned point (1, 2) tells of the turn
exchanged : ℤ → Bool
exchanged z = nat_abs z == 2

negated : ℤ → Bool
negated z = int_lt z (pos 0)

exchanged_is : (swap neg : Bool) → exchanged (negated_if neg (cond swap (pos 2) (pos 1))) ≡ swap
unfolding exchanged
exchanged_is true true = refl
exchanged_is true false = refl
exchanged_is false true = refl
exchanged_is false false = refl

negated_x : (swap neg : Bool) → negated (negated_if neg (cond swap (pos 2) (pos 1))) ≡ neg
unfolding negated
negated_x true true = refl
negated_x true false = refl
negated_x false true = refl
negated_x false false = refl

negated_y : (swap neg : Bool) → negated (negated_if neg (cond swap (pos 1) (pos 2))) ≡ neg
unfolding negated
negated_y true true = refl
negated_y true false = refl
negated_y false true = refl
negated_y false false = refl

-- where a place takes a point, as numbers
placed_at : (a : Place) (p : Point) → placed a p ≡ plus (turned_with a.turn.swap a.turn.neg_x a.turn.neg_y p) (record { x = a.dx; y = a.dy })
placed_at a p = placed_is a p ∙ ap (λ q. plus q (record { x = a.dx; y = a.dy })) (turned_is a.turn p)

origin : Point
origin = record { x = pos 0; y = pos 0 }

pair : Point
pair = record { x = pos 1; y = pos 2 }

still : (b c : Bool) (z : ℤ) → negated_if b (cond c (pos 0) (pos 0)) +ℤ z ≡ z
still true true z = omega (arith, ints)
still true false z = omega (arith, ints)
still false true z = omega (arith, ints)
still false false z = omega (arith, ints)

cancelled : (a b c d : ℤ) → a +ℤ c ≡ b +ℤ d → c ≡ d → a ≡ b
cancelled a b c d e f = omega (arith, ints)

-- Two places that move all points alike are one place.
pub place_unique : (a b : Place) → ((p : Point) → placed a p ≡ placed b p) → a ≡ b
unfolding origin pair
place_unique a b same =
    let at_origin = sym (placed_at a origin) ∙ same origin ∙ placed_at b origin in
    let dx : a.dx ≡ b.dx = sym (still a.turn.neg_x a.turn.swap a.dx) ∙ ap (λ (p : Point). p.x) at_origin ∙ still b.turn.neg_x b.turn.swap b.dx in
    let dy : a.dy ≡ b.dy = sym (still a.turn.neg_y a.turn.swap a.dy) ∙ ap (λ (p : Point). p.y) at_origin ∙ still b.turn.neg_y b.turn.swap b.dy in
    let at_pair = sym (placed_at a pair) ∙ same pair ∙ placed_at b pair in
    let x = cancelled _ _ _ _ (ap (λ (p : Point). p.x) at_pair) dx in
    let y = cancelled _ _ _ _ (ap (λ (p : Point). p.y) at_pair) dy in
    let swap = sym (exchanged_is a.turn.swap a.turn.neg_x) ∙ ap exchanged x ∙ exchanged_is b.turn.swap b.turn.neg_x in
    let neg_x = sym (negated_x a.turn.swap a.turn.neg_x) ∙ ap negated x ∙ negated_x b.turn.swap b.turn.neg_x in
    let neg_y = sym (negated_y a.turn.swap a.turn.neg_y) ∙ ap negated y ∙ negated_y b.turn.swap b.turn.neg_y in
    λ i. record { turn = record { swap = swap i; neg_x = neg_x i; neg_y = neg_y i }; dx = dx i; dy = dy i }

pub IsPlaceOf-unique : (steps : List Step) (a b : Place) → IsPlaceOf steps a → IsPlaceOf steps b → a ≡ b
IsPlaceOf-unique steps a b p q = place_unique a b (λ r. p.moves r ∙ sym (q.moves r))

-- steps one after the other, each with its place
pub IsPlaceOf-append : (before after : List Step) (a b made : Place) → IsPlaceOf before a → IsPlaceOf after b → ((p : Point) → placed made p ≡ placed b (placed a p)) → IsPlaceOf (before ++ after) made
IsPlaceOf-append before after a b made p q then =
    record { moves = λ r. then r ∙ ap (placed b) (p.moves r) ∙ q.moves (moved before r) ∙ sym (moved-append before after r) }
