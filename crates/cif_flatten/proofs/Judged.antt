-- Why a file is not unfolded, and when it is.
use Rattle.std.proofs.Common.{◌≡◌, ◌⊎◌, inr, ℕ, ◌^◌, ◌<◌, ◌≤◌, map, List, [], ◌∷◌, ◌++◌, refl, sym, ap, ◌∙◌, subst, arith, Result, Err}
use Rattle.std.specs.Prelude.{Option, Some, None, IfNone, IsSome, flat_map}
use Rattle.std.specs.List.{All, Contains}
use Rattle.std.proofs.lemmas.List.Elements.{All-append, All-map, All-weaker, All-cons, All-nil, All-head, All-tail, All-contains, All-contains_itself}
use Rattle.std.proofs.lemmas.List.Folds.{flat_map-map}
use Rattle.plane_geom.specs.Bounds.{IsPointWithin}
use Rattle.plane_geom.specs.Covering.{Figure, block, polygon, wire, figure_of, moved_figure, rect_round}
use Rattle.plane_geom.specs.Placement.{Step, moved}
use Rattle.cif_reader.specs.declared.file.Symbol.{Symbol}
use Rattle.cif_reader.specs.declared.file.What.{What}
use Rattle.cif_reader.specs.declared.file.What.TheVariants.{Draw, Call, Mark}
use Rattle.cif_reader.specs.File.{Contents}
use Rattle.cif_flatten.specs.declared.calls.UndefinedCall.{UndefinedCall}
use Rattle.cif_flatten.specs.declared.flat.Draw.{Draw as Draw'}
use Rattle.cif_flatten.specs.declared.refusal.FlattenRefusal.{FlattenRefusal}
use Rattle.cif_flatten.specs.declared.refusal.FlattenRefusal.TheVariants.{Undefined, Recursive, TooManyCalls, TooManyEdges, OutOfRange, TooFine, NoMemory}
use Rattle.cif_flatten.specs.declared.sizes.Size.{Size}
use Rattle.cif_flatten.specs.declared.unfolding.Command.{Command}
use Rattle.cif_flatten.specs.Flat.{Lists}
use Rattle.cif_flatten.specs.Unfolding.{Placed, Drawn, Marked, drawn_by, marked_by, drawn, marked, calls_among, weight_among}
use Rattle.cif_flatten.specs.FileSize.{IsFileSize}
use Rattle.cif_flatten.specs.Faults.{undefined_calls, IsFirst, IsFirstIfAny, IsNested, Recurses, HasManyCalls, HasMuchWeight, most_calls, most_weight, most_fineness, corners, PlacedPoints, reaching, IsInRange, IsOutOfRange, IsTooFine, all_corners, fineness}
use Rattle.cif_flatten.specs.Flattening.{HasFault, row, IsFirstFault, IsSound, drawn_of, marked_of, IsFlattened}
use Rattle.cif_flatten.specs.Unrolling.{placed_of, IsAlike, AreAlike, IsUnrolled, reach_by, IsIn, IsOutAt, IsLeastOut, corners_of}
use Rattle.cif_flatten.proofs.Ranges.{unmapped, all_front, all_back}
use Rattle.cif_flatten.proofs.Unfoldings.{one_of_file}

pub some_size : (symbols : List Symbol) (size : Option Size) → IfNone size (Recurses symbols) → IsNested symbols → IsSome size
some_size symbols None h n = absurd (n.none h.number h.itself)
some_size symbols (Some size) h n = refl

-- ---- no earlier fault

none_first : (calls : List UndefinedCall) (call : UndefinedCall) → calls ≡ [] → IsFirst calls call → ⊥
none_first [] call is h = omega (arith, h.one.1)
none_first (c ∷ calls) call is h = absurd (not_nil c calls is)
  where
    not_nil : (c : UndefinedCall) (cs : List UndefinedCall) → c ∷ cs ≡ [] → ⊥
    not_nil c cs e = cc

pub passes : (n : ℕ) (file : Contents) → (1 < n → undefined_calls file ≡ []) → (2 < n → IsNested file.symbols) → (3 < n → HasManyCalls file → ⊥) → (4 < n → HasMuchWeight file → ⊥)
    → (5 < n → (place : ℕ) → IsOutOfRange file place → ⊥) → (6 < n → IsTooFine file → ⊥) → (other : FlattenRefusal) → row other < n → HasFault file other → ⊥
passes n file a b c d e f (Undefined place symbol) lt h = none_first (undefined_calls file) (record { pos = place; symbol = symbol }) (a lt) h
passes n file a b c d e f (Recursive symbol) lt h = (b lt).none symbol h.itself
passes n file a b c d e f TooManyCalls lt h = c lt h
passes n file a b c d e f TooManyEdges lt h = d lt h
passes n file a b c d e f (OutOfRange place) lt h = e lt place h
passes n file a b c d e f TooFine lt h = f lt h
passes n file a b c d e f NoMemory lt h = h

every_row : (r : FlattenRefusal) (file : Contents) → HasFault file r → row r < 7
every_row (Undefined place symbol) file h = omega arith
every_row (Recursive symbol) file h = omega arith
every_row TooManyCalls file h = omega arith
every_row TooManyEdges file h = omega arith
every_row (OutOfRange place) file h = omega arith
every_row TooFine file h = omega arith
every_row NoMemory file h = absurd h

pub all_pass : (file : Contents) → undefined_calls file ≡ [] → IsNested file.symbols → (HasManyCalls file → ⊥) → (HasMuchWeight file → ⊥) → ((place : ℕ) → IsOutOfRange file place → ⊥) → (IsTooFine file → ⊥) → IsSound file
all_pass file a b c d e f = record { none = λ r h. passes 7 file (λ _. a) (λ _. b) (λ _. c) (λ _. d) (λ _. e) (λ _. f) r (every_row r file h) h }

pub not_before : {P : Type 0} (m n : ℕ) → n ≤ m → m < n → P
not_before m n le lt = absurd (omega (arith, le, lt))

err_is : {T : Type 0} (r s : FlattenRefusal) → ◌≡◌ {A = Result T FlattenRefusal} (Err r) (Err s) → r ≡ s
err_is r s h = cc

pub refuse : {T : Type 0} (file : Contents) (r s : FlattenRefusal) → ◌≡◌ {A = Result T FlattenRefusal} (Err r) (Err s) → IsFirstFault file r → (s ≡ NoMemory) ⊎ IsFirstFault file s
refuse file r s e h = inr (subst (IsFirstFault file) (err_is r s e) h)

pub none_undefined : (file : Contents) (call : Option UndefinedCall) → IsFirstIfAny (undefined_calls file) call → call ≡ None → undefined_calls file ≡ []
none_undefined file call h is = subst (IsFirstIfAny (undefined_calls file)) is h

pub nested_of : (symbols : List Symbol) (r : Option ℕ) → IfNone r (IsNested symbols) → r ≡ None → IsNested symbols
nested_of symbols r h is = subst (λ o. IfNone o (IsNested symbols)) is h

-- ---- calls and weight

pub many_calls : (file : Contents) (size : Size) → IsFileSize file size → 65536 < size.calls → HasManyCalls file
unfolding most_calls
many_calls file size s lt = record { placed = s.placed; unfolded = s.unfolded; many = omega (arith, s.calls, lt) }

pub much_weight : (file : Contents) (size : Size) → IsFileSize file size → 32768 < size.weight → HasMuchWeight file
unfolding most_weight
much_weight file size s lt = record { placed = s.placed; unfolded = s.unfolded; much = omega (arith, s.weight, lt) }

pub few_is : (n : ℕ) → n ≤ 65536 → n ≤ most_calls
unfolding most_calls
few_is n h = h

pub light_is : (n : ℕ) → n ≤ 32768 → n ≤ most_weight
unfolding most_weight
light_is n h = h

pub not_many : (file : Contents) (size : Size) → IsFileSize file size → size.calls ≤ 65536 → HasManyCalls file → ⊥
unfolding most_calls
not_many file size s few h = omega (arith, s.calls, few, h.many, ap calls_among (one_of_file file s.placed h.placed s.unfolded h.unfolded))

pub not_much : (file : Contents) (size : Size) → IsFileSize file size → size.weight ≤ 32768 → HasMuchWeight file → ⊥
unfolding most_weight
not_much file size s few h = omega (arith, s.weight, few, h.much, ap weight_among (one_of_file file s.placed h.placed s.unfolded h.unfolded))

-- ---- what is placed alike is drawn alike

figure_alike : (s t : List Step) (f : Figure) → moved s ≡ moved t → moved_figure s f ≡ moved_figure t f
figure_alike s t (block r) h = ap (λ m. block (rect_round (m (record { x = r.x0; y = r.y0 })) (m (record { x = r.x1; y = r.y1 })))) h
figure_alike s t (polygon points) h = ap (λ m. polygon (map m points)) h
figure_alike s t (wire half path) h = ap (λ m. wire half (map m path)) h

drawn_same : (s t : List Step) (place : ℕ) (what : What) → moved s ≡ moved t → drawn_by s place what ≡ drawn_by t place what
drawn_same s t place (Draw layer shape) h = ap (λ f. record { layer = layer; figure = f; pos = place } ∷ []) (figure_alike s t (figure_of shape) h)
drawn_same s t place (Call number there) h = refl
drawn_same s t place (Mark name at layer) h = refl

marked_same : (s t : List Step) (depth place : ℕ) (what : What) → moved s ≡ moved t → marked_by s depth place what ≡ marked_by t depth place what
marked_same s t depth place (Draw layer shape) h = refl
marked_same s t depth place (Call number there) h = refl
marked_same s t depth place (Mark name at layer) h = ap (λ m. record { name = name; at = m at; layer = layer; depth = depth; pos = place } ∷ []) h

drawn_one : (a b : Placed) → IsAlike a b → drawn_by a.steps a.item.pos a.item.what ≡ drawn_by b.steps b.item.pos b.item.what
drawn_one a b h = drawn_same a.steps b.steps a.item.pos a.item.what h.moves ∙ (λ i. drawn_by b.steps (h.item i).pos (h.item i).what)

marked_one : (a b : Placed) → IsAlike a b → marked_by a.steps a.depth a.item.pos a.item.what ≡ marked_by b.steps b.depth b.item.pos b.item.what
marked_one a b h = marked_same a.steps b.steps a.depth a.item.pos a.item.what h.moves ∙ (λ i. marked_by b.steps (h.depth i) (h.item i).pos (h.item i).what)

pub drawn_alike : (xs ys : List Placed) → AreAlike xs ys → drawn xs ≡ drawn ys
drawn_alike [] [] h = refl
drawn_alike [] (y ∷ ys) h = absurd h
drawn_alike (x ∷ xs) [] h = absurd h
drawn_alike (x ∷ xs) (y ∷ ys) h = λ i. drawn_one x y h.0 i ++ drawn_alike xs ys h.1 i

pub marked_alike : (xs ys : List Placed) → AreAlike xs ys → marked xs ≡ marked ys
marked_alike [] [] h = refl
marked_alike [] (y ∷ ys) h = absurd h
marked_alike (x ∷ xs) [] h = absurd h
marked_alike (x ∷ xs) (y ∷ ys) h = λ i. marked_one x y h.0 i ++ marked_alike xs ys h.1 i

abbrev drawn_reach : Drawn → PlacedPoints
drawn_reach d = record { pos = d.pos; points = corners d.figure }

abbrev marked_reach : Marked → PlacedPoints
marked_reach m = record { pos = m.pos; points = m.at ∷ [] }

reaching_alike : (xs ys : List Placed) → AreAlike xs ys → reaching xs ≡ reaching ys
reaching_alike xs ys h = λ i. map drawn_reach (drawn_alike xs ys h i) ++ map marked_reach (marked_alike xs ys h i)

-- ---- all that commands reach

abbrev DrawnAll : (PlacedPoints → Type 0) → Placed → Type 0
DrawnAll P c = All (λ (d : Drawn). P (drawn_reach d)) (drawn_by c.steps c.item.pos c.item.what)

abbrev MarkedAll : (PlacedPoints → Type 0) → Placed → Type 0
MarkedAll P c = All (λ (m : Marked). P (marked_reach m)) (marked_by c.steps c.depth c.item.pos c.item.what)

all_drawn : (P : PlacedPoints → Type 0) (cs : List Placed) → All (DrawnAll P) cs → All (λ (d : Drawn). P (drawn_reach d)) (drawn cs)
all_drawn P [] h = All-nil (λ (d : Drawn). P (drawn_reach d))
all_drawn P (c ∷ cs) h = All-append (λ (d : Drawn). P (drawn_reach d)) (drawn_by c.steps c.item.pos c.item.what) (drawn cs) (All-head (DrawnAll P) c cs h) (all_drawn P cs (All-tail (DrawnAll P) c cs h))

all_marked : (P : PlacedPoints → Type 0) (cs : List Placed) → All (MarkedAll P) cs → All (λ (m : Marked). P (marked_reach m)) (marked cs)
all_marked P [] h = All-nil (λ (m : Marked). P (marked_reach m))
all_marked P (c ∷ cs) h = All-append (λ (m : Marked). P (marked_reach m)) (marked_by c.steps c.depth c.item.pos c.item.what) (marked cs) (All-head (MarkedAll P) c cs h) (all_marked P cs (All-tail (MarkedAll P) c cs h))

all_reaching : (P : PlacedPoints → Type 0) (cs : List Placed) → All (DrawnAll P) cs → All (MarkedAll P) cs → All P (reaching cs)
all_reaching P cs h k = All-append P (map drawn_reach (drawn cs)) (map marked_reach (marked cs)) (All-map P drawn_reach (drawn cs) (all_drawn P cs h)) (All-map P marked_reach (marked cs) (all_marked P cs k))

drawn_parts : (P : PlacedPoints → Type 0) (cs : List Placed) → All (λ (d : Drawn). P (drawn_reach d)) (drawn cs) → All (DrawnAll P) cs
drawn_parts P [] h = All-nil (DrawnAll P)
drawn_parts P (c ∷ cs) h = All-cons (DrawnAll P) c cs (all_front (λ (d : Drawn). P (drawn_reach d)) (drawn_by c.steps c.item.pos c.item.what) (drawn cs) h)
    (drawn_parts P cs (all_back (λ (d : Drawn). P (drawn_reach d)) (drawn_by c.steps c.item.pos c.item.what) (drawn cs) h))

marked_parts : (P : PlacedPoints → Type 0) (cs : List Placed) → All (λ (m : Marked). P (marked_reach m)) (marked cs) → All (MarkedAll P) cs
marked_parts P [] h = All-nil (MarkedAll P)
marked_parts P (c ∷ cs) h = All-cons (MarkedAll P) c cs (all_front (λ (m : Marked). P (marked_reach m)) (marked_by c.steps c.depth c.item.pos c.item.what) (marked cs) h)
    (marked_parts P cs (all_back (λ (m : Marked). P (marked_reach m)) (marked_by c.steps c.depth c.item.pos c.item.what) (marked cs) h))

reaching_drawn : (P : PlacedPoints → Type 0) (cs : List Placed) → All P (reaching cs) → All (DrawnAll P) cs
reaching_drawn P cs h = drawn_parts P cs (unmapped P drawn_reach (drawn cs) (all_front P (map drawn_reach (drawn cs)) (map marked_reach (marked cs)) h))

reaching_marked : (P : PlacedPoints → Type 0) (cs : List Placed) → All P (reaching cs) → All (MarkedAll P) cs
reaching_marked P cs h = marked_parts P cs (unmapped P marked_reach (marked cs) (all_back P (map drawn_reach (drawn cs)) (map marked_reach (marked cs)) h))

-- ---- out of range

in_drawn : (steps : List Step) (place : ℕ) (what : What) → All (IsPointWithin (2 ^ 24)) (reach_by steps what) → All (λ (d : Drawn). IsInRange (drawn_reach d)) (drawn_by steps place what)
in_drawn steps place (Draw layer shape) h = All-cons (λ (d : Drawn). IsInRange (drawn_reach d)) _ [] h (All-nil (λ (d : Drawn). IsInRange (drawn_reach d)))
in_drawn steps place (Call number there) h = All-nil (λ (d : Drawn). IsInRange (drawn_reach d))
in_drawn steps place (Mark name at layer) h = All-nil (λ (d : Drawn). IsInRange (drawn_reach d))

in_marked : (steps : List Step) (depth place : ℕ) (what : What) → All (IsPointWithin (2 ^ 24)) (reach_by steps what) → All (λ (m : Marked). IsInRange (marked_reach m)) (marked_by steps depth place what)
in_marked steps depth place (Draw layer shape) h = All-nil (λ (m : Marked). IsInRange (marked_reach m))
in_marked steps depth place (Call number there) h = All-nil (λ (m : Marked). IsInRange (marked_reach m))
in_marked steps depth place (Mark name at layer) h = All-cons (λ (m : Marked). IsInRange (marked_reach m)) _ [] h (All-nil (λ (m : Marked). IsInRange (marked_reach m)))

all_in : (cs : List Placed) → All IsIn cs → All IsInRange (reaching cs)
all_in cs h = all_reaching IsInRange cs
    (All-weaker IsIn (DrawnAll IsInRange) (λ c w. in_drawn c.steps c.item.pos c.item.what w.all) cs h)
    (All-weaker IsIn (MarkedAll IsInRange) (λ c w. in_marked c.steps c.depth c.item.pos c.item.what w.all) cs h)

pub not_out : (file : Contents) (cs : List Placed) → IsUnrolled file cs → All IsIn cs → (place : ℕ) → IsOutOfRange file place → ⊥
not_out file cs u h place o = o.out (All-contains IsInRange (reaching o.placed) o.reach (subst (All IsInRange) (sym (reaching_alike u.placed cs u.alike) ∙ ap reaching (one_of_file file u.placed o.placed u.unfolded o.unfolded)) (all_in cs h)) o.one)

abbrev LaterReach : ℕ → PlacedPoints → Type 0
LaterReach place r = (IsInRange r → ⊥) → place ≤ r.pos

later_drawn : (steps : List Step) (place at : ℕ) (what : What) → ((All (IsPointWithin (2 ^ 24)) (reach_by steps what) → ⊥) → place ≤ at) → All (λ (d : Drawn). LaterReach place (drawn_reach d)) (drawn_by steps at what)
later_drawn steps place at (Draw layer shape) h = All-cons (λ (d : Drawn). LaterReach place (drawn_reach d)) _ [] h (All-nil (λ (d : Drawn). LaterReach place (drawn_reach d)))
later_drawn steps place at (Call number there) h = All-nil (λ (d : Drawn). LaterReach place (drawn_reach d))
later_drawn steps place at (Mark name point layer) h = All-nil (λ (d : Drawn). LaterReach place (drawn_reach d))

later_marked : (steps : List Step) (depth place at : ℕ) (what : What) → ((All (IsPointWithin (2 ^ 24)) (reach_by steps what) → ⊥) → place ≤ at) → All (λ (m : Marked). LaterReach place (marked_reach m)) (marked_by steps depth at what)
later_marked steps depth place at (Draw layer shape) h = All-nil (λ (m : Marked). LaterReach place (marked_reach m))
later_marked steps depth place at (Call number there) h = All-nil (λ (m : Marked). LaterReach place (marked_reach m))
later_marked steps depth place at (Mark name point layer) h = All-cons (λ (m : Marked). LaterReach place (marked_reach m)) _ [] h (All-nil (λ (m : Marked). LaterReach place (marked_reach m)))

abbrev LaterCommand : ℕ → Placed → Type 0
LaterCommand place c = (IsIn c → ⊥) → place ≤ c.item.pos

all_later : (place : ℕ) (cs : List Placed) → All (LaterCommand place) cs → All (LaterReach place) (reaching cs)
all_later place cs h = all_reaching (LaterReach place) cs
    (All-weaker (LaterCommand place) (DrawnAll (LaterReach place)) (λ c f. later_drawn c.steps place c.item.pos c.item.what (λ out. f (λ w. out w.all))) cs h)
    (All-weaker (LaterCommand place) (MarkedAll (LaterReach place)) (λ c f. later_marked c.steps c.depth place c.item.pos c.item.what (λ out. f (λ w. out w.all))) cs h)

-- what is reached by a command that reaches out
record Out (all : List PlacedPoints) (place : ℕ) : Type 0 where
  reach : PlacedPoints
  there : Contains all reach
  at : reach.pos ≡ place
  out : IsInRange reach → ⊥

out_by : (all : List PlacedPoints) (steps : List Step) (depth place : ℕ) (what : What) → All (λ (d : Drawn). Contains all (drawn_reach d)) (drawn_by steps place what) → All (λ (m : Marked). Contains all (marked_reach m)) (marked_by steps depth place what)
    → (All (IsPointWithin (2 ^ 24)) (reach_by steps what) → ⊥) → Out all place
out_by all steps depth place (Draw layer shape) h k out = record { reach = drawn_reach (record { layer = layer; figure = moved_figure steps (figure_of shape); pos = place }); there = All-head (λ (d : Drawn). Contains all (drawn_reach d)) _ [] h; at = refl; out = out }
out_by all steps depth place (Call number there) h k out = absurd (out (All-nil (IsPointWithin (2 ^ 24))))
out_by all steps depth place (Mark name point layer) h k out =
    record { reach = marked_reach (record { name = name; at = moved steps point; layer = layer; depth = depth; pos = place }); there = All-head (λ (m : Marked). Contains all (marked_reach m)) _ [] k; at = refl; out = out }

out_reach : (cs : List Placed) (c : Placed) → Contains cs c → (IsIn c → ⊥) → Out (reaching cs) c.item.pos
out_reach cs c one out = out_by (reaching cs) c.steps c.depth c.item.pos c.item.what
    (All-contains (DrawnAll (Contains (reaching cs))) cs c (reaching_drawn (Contains (reaching cs)) cs (All-contains_itself (reaching cs))) one)
    (All-contains (MarkedAll (Contains (reaching cs))) cs c (reaching_marked (Contains (reaching cs)) cs (All-contains_itself (reaching cs))) one)
    (λ w. out (record { all = w }))

pub out_of_range : (file : Contents) (cs : List Placed) (place : ℕ) → IsUnrolled file cs → IsOutAt cs place → IsOutOfRange file place
out_of_range file cs place u o =
    let same : reaching cs ≡ reaching u.placed = sym (reaching_alike u.placed cs u.alike) in
    let r : Out (reaching cs) o.command.item.pos = out_reach cs o.command o.one o.out in
    record {
      placed = u.placed;
      unfolded = u.unfolded;
      reach = r.reach;
      one = subst (λ all. Contains all r.reach) same r.there;
      at = r.at ∙ o.at;
      out = r.out;
      least = subst (All (LaterReach place)) same (all_later place cs o.least);
    }

pub unrolled_as : (file : Contents) (items shown : List Command) → IsUnrolled file (map placed_of items) → shown ≡ items → IsUnrolled file (map placed_of shown)
unrolled_as file items shown u is = subst (λ cs. IsUnrolled file (map placed_of cs)) (sym is) u

pub least_some : (cs : List Placed) (least : Option ℕ) (place : ℕ) → IsLeastOut cs least → least ≡ Some place → IsOutAt cs place
least_some cs least place h is = subst (IsLeastOut cs) is h

pub least_none : (cs : List Placed) (least : Option ℕ) → IsLeastOut cs least → least ≡ None → All IsIn cs
least_none cs least h is = subst (IsLeastOut cs) is h

pub each_in : (commands : List Command) → All IsIn (map placed_of commands) → All (λ (c : Command). IsIn (placed_of c)) commands
each_in commands h = unmapped IsIn placed_of commands h

pub inside_from : (items shown other : List Command) (least : Option ℕ) → shown ≡ items → other ≡ items → IsLeastOut (map placed_of shown) least → least ≡ None → All (λ (c : Command). IsIn (placed_of c)) other
inside_from items shown other least a b h is = subst (All (λ (c : Command). IsIn (placed_of c))) (a ∙ sym b) (each_in shown (least_none (map placed_of shown) least h is))

-- ---- too fine

corners_are : (draws : List Draw') (cs placed : List Placed) → map drawn_of draws ≡ drawn cs → AreAlike placed cs → corners_of draws ≡ all_corners placed
corners_are draws cs placed is alike =
    sym (flat_map-map (λ (d : Drawn). corners d.figure) drawn_of draws) ∙ ap (flat_map (λ (d : Drawn). corners d.figure)) (is ∙ sym (drawn_alike placed cs alike))

pub fine : (file : Contents) (cs : List Placed) (draws : List Draw') → IsUnrolled file cs → map drawn_of draws ≡ drawn cs → most_fineness < fineness (corners_of draws) → IsTooFine file
fine file cs draws u is h = record { placed = u.placed; unfolded = u.unfolded; fine = subst (λ points. most_fineness < fineness points) (corners_are draws cs u.placed is u.alike) h }

pub not_fine : (file : Contents) (cs : List Placed) (draws : List Draw') → IsUnrolled file cs → map drawn_of draws ≡ drawn cs → (most_fineness < fineness (corners_of draws) → ⊥) → IsTooFine file → ⊥
not_fine file cs draws u is h f =
    h (subst (λ points. most_fineness < fineness points) (sym (corners_are draws cs u.placed is u.alike ∙ ap all_corners (one_of_file file u.placed f.placed u.unfolded f.unfolded))) f.fine)

-- ---- the layout

pub flattened : (file : Contents) (cs : List Placed) (lists : Lists) → IsUnrolled file cs → map drawn_of lists.draws ≡ drawn cs → map marked_of lists.marks ≡ marked cs → IsSound file → IsFlattened file lists
flattened file cs lists u d m s = record {
  sound = s;
  placed = u.placed;
  unfolded = u.unfolded;
  draws = d ∙ sym (drawn_alike u.placed cs u.alike);
  marks = m ∙ sym (marked_alike u.placed cs u.alike);
}
