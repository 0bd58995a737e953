-- The edges of a polygon that a row crosses.
use Rattle.std.proofs.Common.{◌≡◌, ℕ, ◌+◌, ◌<◌, ◌≤◌, Bool, true, false, cond, not, ◌&&◌, List, [], ◌∷◌, ◌++◌, length, drop, refl, sym, ap, ◌∙◌, subst, arith}
use Rattle.std.specs.Prelude.{ℤ, pos, ◌≤ℤ◌, int_lt, count_by}
use Rattle.std.specs.Int.{int_min}
use Rattle.std.specs.List.{All, AllByRecursion, list_all}
use Rattle.std.proofs.lemmas.Bool.{and_parts}
use Rattle.std.proofs.lemmas.Int.{ints, clamps, by_lt_z}
use Rattle.std.proofs.lemmas.List.{drop_more, drop_all, length_push}
use Rattle.std.proofs.lemmas.List.Elements.{All-nil, All-push, All-get_or}
use Rattle.std.proofs.lemmas.List.Sums.{sum_by_push}
use Rattle.plane_geom.specs.declared.shapes.Point.{Point}
use Rattle.plane_geom.specs.declared.shapes.Rect.{Rect}
use Rattle.plane_geom.specs.Ends.{is_odd, flips}
use Rattle.plane_geom.specs.Covering.{edges_from, outline, is_vertical, is_along, spans, is_crossed, polygon_covers, HoldsAround, IsOutline}
use Rattle.plane_geom.proofs.Counting.{count_cons}
use Rattle.plane_geom.proofs.Ends.{odd_more}
use Rattle.plane_geom.proofs.Lists.{all_push}
use Rattle.shape_cut.specs.Slabs.{count_up_to, IsAcross, AreCrossings}
use Rattle.shape_cut.proofs.Segments.{no_point, point_at}

-- whether the edge is vertical and spans the row
abbrev pub is_upright : ℤ → Point × Point → Bool
is_upright y e = is_vertical e && spans y e

-- the edges that are left, from a point through others to the last
abbrev pub edges_left : Point → List Point → Point → List (Point × Point)
edges_left from left last = edges_from from (left ++ last ∷ [])

-- The ends are the crossings, but for the edges that are left.
pub record AreCrossingsBut (points : List Point) (first : Point) (left : List Point) (y : ℤ) (from : Point) (ends : List ℤ) : Type 0 where
  pub count : (x : ℤ) → count_up_to x ends + count_by (is_crossed x y) (edges_left from left first) ≡ count_by (is_crossed x y) (outline points)
  pub many : length ends + count_by (is_upright y) (edges_left from left first) ≡ count_by (is_upright y) (outline points)
  pub across : (r : Rect) → All (HoldsAround r (pos 0)) points → All (IsAcross r) ends
  pub low : (r : Rect) → All (HoldsAround r (pos 0)) points → 0 < length ends → r.y0 ≤ℤ y
  pub held : (r : Rect) → All (HoldsAround r (pos 0)) points → HoldsAround r (pos 0) from
  pub first_held : (r : Rect) → All (HoldsAround r (pos 0)) points → HoldsAround r (pos 0) first

-- the ends after an edge
abbrev pub crossed_by : Point → Point → ℤ → List ℤ → List ℤ
crossed_by p q y ends = cond (is_upright y (p, q)) (ends ++ p.x ∷ []) ends

crossed_is : (x y : ℤ) (e : Point × Point) → is_crossed x y e ≡ (is_upright y e && not (int_lt x e.0.x))
crossed_is x y e = go (is_vertical e) (spans y e) (not (int_lt x e.0.x))
  where
    go : (p q r : Bool) → (p && q && r) ≡ ((p && q) && r)
    go true q r = refl
    go false q r = refl

count_push : (x : ℤ) (ends : List ℤ) (t : ℤ) → count_up_to x (ends ++ t ∷ []) ≡ count_up_to x ends + cond (not (int_lt x t)) 1 0
count_push x ends t = sum_by_push (λ s. cond (not (int_lt x s)) 1 0) ends t

count_step : (b c : Bool) (x : ℤ) (ends : List ℤ) (t : ℤ) (n : ℕ) → c ≡ (b && not (int_lt x t)) → count_up_to x (cond b (ends ++ t ∷ []) ends) + n ≡ count_up_to x ends + (cond c 1 0 + n)
count_step true c x ends t n e = rw (e, count_push x ends t) (omega arith)
count_step false c x ends t n e = rw e (omega arith)

many_step : (b : Bool) (ends : List ℤ) (t : ℤ) (n : ℕ) → length (cond b (ends ++ t ∷ []) ends) + n ≡ length ends + (cond b 1 0 + n)
many_step true ends t n = rw (length_push ends t) (omega arith)
many_step false ends t n = omega arith

across_step : (b : Bool) (r : Rect) (ends : List ℤ) (p : Point) → HoldsAround r (pos 0) p → All (IsAcross r) ends → All (IsAcross r) (cond b (ends ++ p.x ∷ []) ends)
across_step true r ends p held h = All-push (IsAcross r) ends p.x h (record { left = omega (arith, ints, held.left); right = omega (arith, ints, held.right) })
across_step false r ends p held h = h

spans_low : (y : ℤ) (p q : Point) → spans y (p, q) ≡ true → int_min p.y q.y ≤ℤ y
spans_low y p q h = grind (arith, ints, h)

low_step : (b : Bool) (r : Rect) (y : ℤ) (ends : List ℤ) (p q : Point) → (b ≡ true → int_min p.y q.y ≤ℤ y) → HoldsAround r (pos 0) p → HoldsAround r (pos 0) q → (0 < length ends → r.y0 ≤ℤ y)
    → 0 < length (cond b (ends ++ p.x ∷ []) ends) → r.y0 ≤ℤ y
low_step true r y ends p q span hp hq h some = let low : int_min p.y q.y ≤ℤ y = span refl in omega (arith, ints, clamps, low, hp.below, hq.below)
low_step false r y ends p q span hp hq h some = h some

edge_more : (points : List Point) (first to : Point) (rest : List (Point × Point)) (y : ℤ) (from : Point) (ends made : List ℤ)
    → made ≡ crossed_by from to y ends
    → ((x : ℤ) → count_up_to x ends + count_by (is_crossed x y) ((from, to) ∷ rest) ≡ count_by (is_crossed x y) (outline points))
    → (x : ℤ) → count_up_to x made + count_by (is_crossed x y) rest ≡ count_by (is_crossed x y) (outline points)
edge_more points first to rest y from ends made e h x =
    ap (λ l. count_up_to x l + count_by (is_crossed x y) rest) e
    ∙ count_step (is_upright y (from, to)) (is_crossed x y (from, to)) x ends from.x (count_by (is_crossed x y) rest) (crossed_is x y (from, to))
    ∙ ap (λ n. count_up_to x ends + n) (sym (count_cons (is_crossed x y) (from, to) rest))
    ∙ h x

many_more : (points : List Point) (to : Point) (rest : List (Point × Point)) (y : ℤ) (from : Point) (ends made : List ℤ) → made ≡ crossed_by from to y ends
    → length ends + count_by (is_upright y) ((from, to) ∷ rest) ≡ count_by (is_upright y) (outline points) → length made + count_by (is_upright y) rest ≡ count_by (is_upright y) (outline points)
many_more points to rest y from ends made e h =
    ap (λ l. length l + count_by (is_upright y) rest) e
    ∙ many_step (is_upright y (from, to)) ends from.x (count_by (is_upright y) rest)
    ∙ ap (λ n. length ends + n) (sym (count_cons (is_upright y) (from, to) rest))
    ∙ h

-- ---- the steps of the code

outline_from : (points : List Point) → 0 < length points → edges_left (point_at points 0) (drop 1 points) (point_at points 0) ≡ outline points
outline_from [] h = absurd (omega arith)
outline_from (p ∷ ps) h = refl

pub crossings_start : (points : List Point) (y : ℤ) (first : Point) (ends : List ℤ) → 0 < length points → first ≡ point_at points 0 → ends ≡ [] → AreCrossingsBut points first (drop 1 points) y first ends
crossings_start points y first ends some is none =
    rw (is, none)
    (record {
      count = λ x. zero_add _ ∙ ap (count_by (is_crossed x y)) (outline_from points some);
      many = zero_add _ ∙ ap (count_by (is_upright y)) (outline_from points some);
      across = λ r h. All-nil (IsAcross r);
      low = λ r h none. absurd (omega arith);
      held = λ r h. All-get_or (HoldsAround r (pos 0)) points 0 no_point some h;
      first_held = λ r h. All-get_or (HoldsAround r (pos 0)) points 0 no_point some h;
    })
  where
    zero_add : (n : ℕ) → 0 + n ≡ n
    zero_add n = omega arith

pub crossings_more : (points : List Point) (k : ℕ) (first : Point) (y : ℤ) (from : Point) (ends made : List ℤ) → k < length points → made ≡ crossed_by from (point_at points k) y ends
    → AreCrossingsBut points first (drop k points) y from ends → AreCrossingsBut points first (drop (k + 1) points) y (point_at points k) made
crossings_more points k first y from ends made lt e h =
    let to : Point = point_at points k in
    let here : edges_left from (drop k points) first ≡ (from, to) ∷ edges_left to (drop (k + 1) points) first = ap (λ l. edges_left from l first) (drop_more points k no_point lt) in
    let holds : (r : Rect) → All (HoldsAround r (pos 0)) points → HoldsAround r (pos 0) to = λ r all. All-get_or (HoldsAround r (pos 0)) points k no_point lt all in
    let P : Rect → List ℤ → Type 0 = λ r l. All (IsAcross r) l in
    record {
      count = edge_more points first to (edges_left to (drop (k + 1) points) first) y from ends made e (λ x. ap (λ l. count_up_to x ends + count_by (is_crossed x y) l) (sym here) ∙ h.count x);
      many = many_more points to (edges_left to (drop (k + 1) points) first) y from ends made e (ap (λ l. length ends + count_by (is_upright y) l) (sym here) ∙ h.many);
      across = λ r all. rw e (across_step (is_upright y (from, to)) r ends from (h.held r all) (h.across r all));
      low = λ r all some. low_step (is_upright y (from, to)) r y ends from to (λ up. spans_low y from to (and_parts (is_vertical (from, to)) (spans y (from, to)) up).1) (h.held r all) (holds r all) (h.low r all) (subst (λ l. 0 < length l) e some);
      held = holds;
      first_held = h.first_held;
    }

pub crossings_end : (points : List Point) (k : ℕ) (first : Point) (y : ℤ) (from : Point) (ends made : List ℤ) → length points ≤ k → made ≡ crossed_by from first y ends
    → AreCrossingsBut points first (drop k points) y from ends → AreCrossings points (outline points) y made
crossings_end points k first y from ends made le e h =
    let here : edges_left from (drop k points) first ≡ (from, first) ∷ [] = ap (λ l. edges_left from l first) (drop_all k points le) in
    record {
      count = λ x. add_zero _ ∙ edge_more points first first [] y from ends made e (λ z. ap (λ l. count_up_to z ends + count_by (is_crossed z y) l) (sym here) ∙ h.count z) x;
      many = add_zero _ ∙ many_more points first [] y from ends made e (ap (λ l. length ends + count_by (is_upright y) l) (sym here) ∙ h.many);
      across = λ r all. rw e (across_step (is_upright y (from, first)) r ends from (h.held r all) (h.across r all));
      low = λ r all some. low_step (is_upright y (from, first)) r y ends from first (λ up. spans_low y from first (and_parts (is_vertical (from, first)) (spans y (from, first)) up).1) (h.held r all) (h.first_held r all) (h.low r all) (subst (λ l. 0 < length l) e some);
    }
  where
    add_zero : (n : ℕ) → n ≡ n + 0
    add_zero n = omega arith

-- ---- a closed outline is crossed an even number of times

abbrev differ : Bool → Bool → Bool
differ true b = not b
differ false b = b

is_below : ℤ → Point → Bool
is_below y p = int_lt y p.y

spans_differ : (y : ℤ) (p q : Point) → spans y (p, q) ≡ differ (int_lt y p.y) (int_lt y q.y)
spans_differ y p q = by_lt_z y p.y (λ a. by_lt_z y q.y (λ b. grind (arith, ints)) (λ b. grind (arith, ints))) (λ a. by_lt_z y q.y (λ b. grind (arith, ints)) (λ b. grind (arith, ints)))

upright_along : (y : ℤ) (p q : Point) → is_along (p, q) ≡ true → is_upright y (p, q) ≡ spans y (p, q)
upright_along y p q h = grind (arith, ints, h)

last_of : Point → List Point → Point
last_of p [] = p
last_of p (q ∷ qs) = last_of q qs

telescope : (a b c : Bool) → differ (differ a b) (differ b c) ≡ differ a c
telescope true true true = refl
telescope true true false = refl
telescope true false true = refl
telescope true false false = refl
telescope false true true = refl
telescope false true false = refl
telescope false false true = refl
telescope false false false = refl

differ_same : (b : Bool) → differ b b ≡ false
differ_same true = refl
differ_same false = refl

odd_step : (b : Bool) (n : ℕ) → is_odd (cond b 1 0 + n) ≡ differ b (is_odd n)
odd_step true n = grind (arith)
odd_step false n = grind (arith)

even_from : (y : ℤ) (p : Point) (ps : List Point) → list_all is_along (edges_from p ps) ≡ true → is_odd (count_by (is_upright y) (edges_from p ps)) ≡ differ (int_lt y p.y) (int_lt y (last_of p ps).y)
unfolding last_of
even_from y p [] h = sym (differ_same (int_lt y p.y))
even_from y p (q ∷ qs) h =
    let here : is_upright y (p, q) ≡ differ (int_lt y p.y) (int_lt y q.y) = upright_along y p q (and_parts (is_along (p, q)) (list_all is_along (edges_from q qs)) h).0 ∙ spans_differ y p q in
    let rest = even_from y q qs (and_parts (is_along (p, q)) (list_all is_along (edges_from q qs)) h).1 in
    ap is_odd (count_cons (is_upright y) (p, q) (edges_from q qs))
    ∙ odd_step (is_upright y (p, q)) (count_by (is_upright y) (edges_from q qs))
    ∙ (λ i. differ (here i) (rest i))
    ∙ telescope (int_lt y p.y) (int_lt y q.y) (int_lt y (last_of q qs).y)

last-push : (p : Point) (ps : List Point) (t : Point) → last_of p (ps ++ t ∷ []) ≡ t
unfolding last_of
last-push p [] t = refl
last-push p (q ∷ qs) t = last-push q qs t

pub outline_even : (points : List Point) (y : ℤ) → IsOutline points → is_odd (count_by (is_upright y) (outline points)) ≡ false
outline_even [] y h = absurd (let some = h.some in omega arith)
outline_even (p ∷ ps) y h =
    even_from y p (ps ++ p ∷ []) h.along ∙ ap (λ q. differ (int_lt y p.y) (int_lt y q.y)) (last-push p ps p) ∙ differ_same (int_lt y p.y)

flip_step : (b f : Bool) (n : ℕ) → f ≡ is_odd n → cond b f (not f) ≡ is_odd (cond (not b) 1 0 + n)
flip_step true f n e = e ∙ ap is_odd (zero_add n)
  where
    zero_add : (n : ℕ) → n ≡ 0 + n
    zero_add n = omega arith
flip_step false f n e = ap not e ∙ sym (odd_more n) ∙ ap is_odd (add_one n)
  where
    add_one : (n : ℕ) → n + 1 ≡ 1 + n
    add_one n = omega arith

-- The set of the ends is told by how many of them lie at or before a number.
pub flips_count : (ends : List ℤ) (x : ℤ) → flips ends x ≡ is_odd (count_up_to x ends)
flips_count [] x = refl
flips_count (t ∷ ts) x = flip_step (int_lt x t) (flips ts x) (count_up_to x ts) (flips_count ts x) ∙ ap is_odd (sym (count_cons (λ s. not (int_lt x s)) t ts))

-- ---- rows that the same edges span

crossed_same : (x y z : ℤ) (p q : Point) → int_lt z p.y ≡ int_lt y p.y → int_lt z q.y ≡ int_lt y q.y → is_crossed x z (p, q) ≡ is_crossed x y (p, q)
crossed_same x y z p q a b = ap (λ s. is_vertical (p, q) && s && not (int_lt x p.x)) (spans_differ z p q ∙ (λ i. differ (a i) (b i)) ∙ sym (spans_differ y p q))

count_same : (x y z : ℤ) (p : Point) (ps : List Point) → int_lt z p.y ≡ int_lt y p.y → AllByRecursion (λ q. int_lt z q.y ≡ int_lt y q.y) ps
    → count_by (is_crossed x z) (edges_from p ps) ≡ count_by (is_crossed x y) (edges_from p ps)
count_same x y z p [] here rest = refl
count_same x y z p (q ∷ qs) here rest =
    count_cons (is_crossed x z) (p, q) (edges_from q qs)
    ∙ (λ i. cond (crossed_same x y z p q here rest.0 i) 1 0 + count_same x y z q qs rest.0 rest.1 i)
    ∙ sym (count_cons (is_crossed x y) (p, q) (edges_from q qs))

pub covers_same : (points : List Point) (x y z : ℤ) → AllByRecursion (λ q. int_lt z q.y ≡ int_lt y q.y) points → polygon_covers points x z ≡ polygon_covers points x y
covers_same [] x y z h = refl
covers_same (p ∷ ps) x y z h = ap is_odd (count_same x y z p (ps ++ p ∷ []) h.0 (all_push (λ q. int_lt z q.y ≡ int_lt y q.y) ps p h.1 h.0))

crossed_none : (x z : ℤ) (b : Bool) (p q : Point) → int_lt z p.y ≡ b → int_lt z q.y ≡ b → is_crossed x z (p, q) ≡ false
crossed_none x z b p q a c =
    ap (λ s. is_vertical (p, q) && s && not (int_lt x p.x)) (spans_differ z p q ∙ (λ i. differ (a i) (c i)) ∙ differ_same b) ∙ none (is_vertical (p, q)) (not (int_lt x p.x))
  where
    none : (v r : Bool) → (v && false && r) ≡ false
    none true r = refl
    none false r = refl

count_none_from : (x z : ℤ) (b : Bool) (p : Point) (ps : List Point) → int_lt z p.y ≡ b → AllByRecursion (λ q. int_lt z q.y ≡ b) ps → count_by (is_crossed x z) (edges_from p ps) ≡ 0
count_none_from x z b p [] here rest = refl
count_none_from x z b p (q ∷ qs) here rest =
    count_cons (is_crossed x z) (p, q) (edges_from q qs) ∙ (λ i. cond (crossed_none x z b p q here rest.0 i) 1 0 + count_none_from x z b q qs rest.0 rest.1 i)

-- A row that has all corners on one side crosses nothing.
pub covers_none : (points : List Point) (x z : ℤ) (b : Bool) → AllByRecursion (λ q. int_lt z q.y ≡ b) points → polygon_covers points x z ≡ false
covers_none [] x z b h = refl
covers_none (p ∷ ps) x z b h = ap is_odd (count_none_from x z b p (ps ++ p ∷ []) h.0 (all_push (λ q. int_lt z q.y ≡ b) ps p h.1 h.0))
