-- A file without fault is flattened to some lists, and these lie within the range.
use Rattle.std.proofs.Common.{◌≡◌, ◌⊎◌, inl, inr, ℕ, zero, suc, ◌+◌, ◌^◌, ◌<◌, map, List, [], ◌∷◌, ◌++◌, refl, sym, ap, ◌∙◌, subst, arith}
use Rattle.std.specs.Prelude.{ℤ, pos, neg_ℤ, slice_index_or}
use Rattle.std.specs.List.{All, AllByRecursion, Contains}
use Rattle.std.specs.Vec.{with_items}
use Rattle.std.proofs.lemmas.Int.{ints, by_lt_z}
use Rattle.std.proofs.lemmas.List.{length-map, map-append, with_items_is}
use Rattle.std.proofs.lemmas.List.Elements.{All-nil, All-cons, All-append, All-head, All-tail, All-contains_itself}
use Rattle.plane_geom.specs.declared.shapes.Point.{Point}
use Rattle.plane_geom.specs.declared.shapes.Rect.{Rect}
use Rattle.plane_geom.specs.declared.shapes.Shape.{Shape}
use Rattle.plane_geom.specs.declared.shapes.Shape.TheVariants.{Block, Polygon, Wire}
use Rattle.plane_geom.specs.Bounds.{IsWithin, IsPointWithin, IsRectWithin}
use Rattle.plane_geom.specs.Covering.{polygon, wire, figure_of, moved_figure, rect_round, IsWellFormed, IsReach}
use Rattle.plane_geom.specs.Placement.{Step, moved}
use Rattle.cif_reader.specs.declared.file.What.{What}
use Rattle.cif_reader.specs.declared.file.What.TheVariants.{Draw, Call, Mark}
use Rattle.cif_reader.specs.File.{Contents, IsKeptWhat, IsFile}
use Rattle.cif_flatten.specs.declared.flat.Draw.{Draw as Draw'}
use Rattle.cif_flatten.specs.declared.flat.Mark.{Mark as Mark'}
use Rattle.cif_flatten.specs.declared.refusal.FlattenRefusal.TheVariants.{Recursive, OutOfRange}
use Rattle.cif_flatten.specs.Flat.{Lists, IsFlatWithin}
use Rattle.cif_flatten.specs.Unfolding.{Placed, Drawn, Marked, drawn_by, marked_by, drawn, marked, in_place, IsUnfolding}
use Rattle.cif_flatten.specs.Faults.{CallsThrough, IsRecursive, IsNested, corners, PlacedPoints, reaching, IsInRange, IsOutOfRange}
use Rattle.cif_flatten.specs.Flattening.{IsSound, drawn_of, marked_of, IsFlattened, HasFlattening}
use Rattle.cif_flatten.proofs.Cases.{not_less}
use Rattle.cif_flatten.proofs.Existing.{some_unfolding}
use Rattle.cif_flatten.proofs.Ranges.{unmapped}
use Rattle.cif_flatten.proofs.Shapes.{range, round_range, reach_within, formed_moved}
use Rattle.cif_flatten.proofs.Walked.{PlacedKept, in_place_kept, unfolds_kept}

-- ---- no symbol calls itself

-- The least symbol that calls itself would be a fault.
none_below : (file : Contents) → ((n : ℕ) → IsRecursive file n → ⊥) → (bound n : ℕ) → n < bound → CallsThrough file.symbols n n → ⊥
none_below file none zero n small h = absurd (omega (arith, small))
none_below file none (suc bound) n small h = none n
    (record {
      itself = h;
      least = λ other through. not_less other n
          (λ less. none_below file none bound other (omega (arith, small, less)) through);
    })

sound_nested : (file : Contents) → IsSound file → IsNested file.symbols
sound_nested file sound = record { none = λ n h. none_below file (λ m r. sound.none (Recursive m) r) (n + 1) n (omega arith) h }

-- ---- the lists

moved_shape : List Step → Shape → Shape
moved_shape steps (Block r) = Block (rect_round (moved steps (record { x = r.x0; y = r.y0 })) (moved steps (record { x = r.x1; y = r.y1 })))
moved_shape steps (Polygon points) = Polygon (with_items points (map (moved steps) points.items))
moved_shape steps (Wire half path) = Wire half (with_items path (map (moved steps) path.items))

moved_is : (steps : List Step) (shape : Shape) → figure_of (moved_shape steps shape) ≡ moved_figure steps (figure_of shape)
unfolding moved_shape
moved_is steps (Block r) = refl
moved_is steps (Polygon points) = ap polygon
    (with_items_is points (map (moved steps) points.items) (length-map points.items (moved steps) ∙ sym points.ok.0))
moved_is steps (Wire half path) = ap (wire half)
    (with_items_is path (map (moved steps) path.items) (length-map path.items (moved steps) ∙ sym path.ok.0))

draws_by : List Step → ℕ → What → List Draw'
draws_by steps place (Draw layer shape) = record { layer = layer; shape = moved_shape steps shape; pos = place } ∷ []
draws_by steps place (Call number there) = []
draws_by steps place (Mark name at layer) = []

draws_by_are : (steps : List Step) (place : ℕ) (what : What) → map drawn_of (draws_by steps place what) ≡ drawn_by steps place what
unfolding draws_by
draws_by_are steps place (Draw layer shape) = ap (λ f. record { layer = layer; figure = f; pos = place } ∷ []) (moved_is steps shape)
draws_by_are steps place (Call number there) = refl
draws_by_are steps place (Mark name at layer) = refl

marks_by : List Step → ℕ → ℕ → What → List Mark'
marks_by steps depth place (Draw layer shape) = []
marks_by steps depth place (Call number there) = []
marks_by steps depth place (Mark name at layer) =
    record { name = name; at = moved steps at; layer = layer; depth = depth; pos = place } ∷ []

marks_by_are : (steps : List Step) (depth place : ℕ) (what : What)
    → map marked_of (marks_by steps depth place what) ≡ marked_by steps depth place what
unfolding marks_by
marks_by_are steps depth place (Draw layer shape) = refl
marks_by_are steps depth place (Call number there) = refl
marks_by_are steps depth place (Mark name at layer) = refl

all_draws : List Placed → List Draw'
all_draws [] = []
all_draws (c ∷ placed) = draws_by c.steps c.item.pos c.item.what ++ all_draws placed

draws_are : (placed : List Placed) → map drawn_of (all_draws placed) ≡ drawn placed
unfolding all_draws
draws_are [] = refl
draws_are (c ∷ placed) = map-append drawn_of (draws_by c.steps c.item.pos c.item.what) (all_draws placed)
    ∙ (λ i. draws_by_are c.steps c.item.pos c.item.what i ++ draws_are placed i)

all_marks : List Placed → List Mark'
all_marks [] = []
all_marks (c ∷ placed) = marks_by c.steps c.depth c.item.pos c.item.what ++ all_marks placed

marks_are : (placed : List Placed) → map marked_of (all_marks placed) ≡ marked placed
unfolding all_marks
marks_are [] = refl
marks_are (c ∷ placed) = map-append marked_of (marks_by c.steps c.depth c.item.pos c.item.what) (all_marks placed)
    ∙ (λ i. marks_by_are c.steps c.depth c.item.pos c.item.what i ++ marks_are placed i)

-- A file without fault is flattened to some lists.
pub some_flattening : (file : Contents) → IsSound file → HasFlattening file
some_flattening file sound =
    let u = some_unfolding file (sound_nested file sound) in
    record {
      lists = record { draws = all_draws u.placed; marks = all_marks u.placed };
      flat = record { sound = sound; placed = u.placed; unfolded = u.unfolded; draws = draws_are u.placed; marks = marks_are u.placed };
    }

-- ---- nothing reaches out of the range

within_or_not : (z : ℤ) → IsWithin (2 ^ 24) z ⊎ (IsWithin (2 ^ 24) z → ⊥)
within_or_not z = by_lt_z z (neg_ℤ (pos (2 ^ 24))) (λ less. inr (λ h. omega (arith, ints, less, h.low)))
    (λ low. by_lt_z (pos (2 ^ 24)) z (λ less. inr (λ h. omega (arith, ints, less, h.high)))
    (λ high. inl (record { low = low; high = high })))

by_doubt : {P : Type 0} → P ⊎ (P → ⊥) → ((P → ⊥) → ⊥) → P
by_doubt (inl p) h = p
by_doubt (inr none) h = absurd (h none)

point_surely : (p : Point) → ((IsPointWithin (2 ^ 24) p → ⊥) → ⊥) → IsPointWithin (2 ^ 24) p
point_surely p h = record {
  x = by_doubt (within_or_not p.x) (λ none. h (λ k. none k.x));
  y = by_doubt (within_or_not p.y) (λ none. h (λ k. none k.y));
}

range_surely : (r : PlacedPoints) → ((IsInRange r → ⊥) → ⊥) → IsInRange r
range_surely r h = λ k d lt. point_surely (slice_index_or r.points k d) (λ none. h (λ all. none (all k d lt)))

-- The least of what reaches out would be a fault.
none_out : (file : Contents) (placed : List Placed) → IsUnfolding file placed → ((place : ℕ) → IsOutOfRange file place → ⊥)
    → (bound : ℕ) (r : PlacedPoints) → r.pos < bound → Contains (reaching placed) r → (IsInRange r → ⊥) → ⊥
none_out file placed u none zero r small one out = absurd (omega (arith, small))
none_out file placed u none (suc bound) r small one out =
    none r.pos (record {
      placed = placed;
      unfolded = u;
      reach = r;
      one = one;
      at = refl;
      out = out;
      least = λ k d lt other.
          let s : PlacedPoints = slice_index_or (reaching placed) k d in
          not_less s.pos r.pos
          (λ less. none_out file placed u none bound s (omega (arith, small, less))
          (All-contains_itself (reaching placed) k d lt) other);
    })

all_in_range : (file : Contents) (placed : List Placed) → IsUnfolding file placed → IsSound file → All IsInRange (reaching placed)
all_in_range file placed u sound = λ k d lt.
    let r : PlacedPoints = slice_index_or (reaching placed) k d in
    range_surely r (λ out. none_out file placed u (λ place o. sound.none (OutOfRange place) o) (r.pos + 1) r (omega arith)
    (All-contains_itself (reaching placed) k d lt) out)

-- ---- shapes and labels

record IsDrawnWithin (d : Drawn) : Type 0 where
  formed : IsWellFormed d.figure
  reach : (r : Rect) → IsReach d.figure r → IsRectWithin (2 ^ 24) r

drawn_formed : (steps : List Step) (place : ℕ) (what : What) → IsKeptWhat what
    → All (λ (d : Drawn). IsWellFormed d.figure) (drawn_by steps place what)
drawn_formed steps place (Draw layer shape) h = All-cons (λ (d : Drawn). IsWellFormed d.figure) _ []
    (formed_moved steps (figure_of shape) h.formed) (All-nil (λ (d : Drawn). IsWellFormed d.figure))
drawn_formed steps place (Call number there) h = All-nil (λ (d : Drawn). IsWellFormed d.figure)
drawn_formed steps place (Mark name at layer) h = All-nil (λ (d : Drawn). IsWellFormed d.figure)

all_formed : (placed : List Placed) → AllByRecursion PlacedKept placed → All (λ (d : Drawn). IsWellFormed d.figure) (drawn placed)
all_formed [] h = All-nil (λ (d : Drawn). IsWellFormed d.figure)
all_formed (c ∷ placed) h = All-append (λ (d : Drawn). IsWellFormed d.figure) (drawn_by c.steps c.item.pos c.item.what) (drawn placed)
    (drawn_formed c.steps c.item.pos c.item.what h.0) (all_formed placed h.1)

all_left : {X : Type 0} (P : X → Type 0) (xs ys : List X) → All P (xs ++ ys) → All P xs
all_left P [] ys h = All-nil P
all_left P (x ∷ xs) ys h = All-cons P x xs (All-head P x (xs ++ ys) h) (all_left P xs ys (All-tail P x (xs ++ ys) h))

all_right : {X : Type 0} (P : X → Type 0) (xs ys : List X) → All P (xs ++ ys) → All P ys
all_right P [] ys h = h
all_right P (x ∷ xs) ys h = all_right P xs ys (All-tail P x (xs ++ ys) h)

within_range : (d : Drawn) → IsWellFormed d.figure → All (IsPointWithin (2 ^ 24)) (corners d.figure) → IsDrawnWithin d
within_range d formed near = record {
  formed = formed;
  reach = λ r k. reach_within d.figure r formed near k.round (k.least range (round_range d.figure formed near));
}

abbrev points_of_drawn : Drawn → PlacedPoints
points_of_drawn d = record { pos = d.pos; points = corners d.figure }

abbrev points_of_marked : Marked → PlacedPoints
points_of_marked m = record { pos = m.pos; points = m.at ∷ [] }

-- What a file is flattened to lies within the range.
pub flattened_within : (file : Contents) (lists : Lists) → IsFile file → IsFlattened file lists → IsFlatWithin (2 ^ 24) lists
flattened_within file lists kept flat =
    let placed = flat.placed in
    let ins = all_in_range file placed flat.unfolded flat.sound in
    let shapes = unmapped IsInRange points_of_drawn (drawn placed)
    (all_left IsInRange (map points_of_drawn (drawn placed)) (map points_of_marked (marked placed)) ins) in
    let labels = unmapped IsInRange points_of_marked (marked placed)
    (all_right IsInRange (map points_of_drawn (drawn placed)) (map points_of_marked (marked placed)) ins) in
    let formed = all_formed placed
    (unfolds_kept file.symbols (in_place [] 0 file.top) placed kept.symbols (in_place_kept [] 0 file.top kept.top) flat.unfolded) in
    let all_drawn : All IsDrawnWithin (drawn placed) = λ k d lt. within_range (slice_index_or (drawn placed) k d) (formed k d lt)
    (shapes k d lt) in
    let all_marked : All (λ (m : Marked). IsPointWithin (2 ^ 24) m.at) (marked placed) =
    λ k d lt. All-head (IsPointWithin (2 ^ 24)) (slice_index_or (marked placed) k d).at [] (labels k d lt) in
    let draws = unmapped IsDrawnWithin drawn_of lists.draws (subst (All IsDrawnWithin) (sym flat.draws) all_drawn) in
    record {
      draws = λ k d lt. let w = draws k d lt in record { formed = w.formed; reach = w.reach };
      marks = unmapped (λ (m : Marked). IsPointWithin (2 ^ 24) m.at) marked_of lists.marks
          (subst (All (λ (m : Marked). IsPointWithin (2 ^ 24) m.at)) (sym flat.marks) all_marked);
    }
