-- The steps of the unfolding, and what they keep.
use Rattle.std.proofs.Common.{◌≡◌, ℕ, get_or, ◌+◌, ◌*◌, ◌^◌, ◌<◌, ◌≤◌, length, map, Bool, true, false, cond, List, [], ◌∷◌, ◌++◌, refl, sym, ap, ◌∙◌, subst, arith, Bor, Fits, w32}
use Rattle.std.specs.Prelude.{◌==◌, Option, Some, None, find, ℤ, pos, ◌+ℤ◌, option_copied}
use Rattle.std.specs.List.{All, AllByRecursion}
use Rattle.std.proofs.lemmas.Int.{ints}
use Rattle.std.proofs.lemmas.List.{append-nil, map-append}
use Rattle.std.proofs.lemmas.List.Elements.{All-from_recursion, All-weaker, All-push, All-pop, All-nil}
use Rattle.std.proofs.lemmas.List.Sums.{sum_by-cons}
use Rattle.plane_geom.specs.declared.shapes.Point.{Point}
use Rattle.plane_geom.specs.declared.places.Place.{Place}
use Rattle.plane_geom.specs.Covering.{Figure, block, polygon, wire, figure_of, IsWellFormed}
use Rattle.plane_geom.specs.Placement.{Step, moved, placed, steps_of, IsShiftWithin}
use Rattle.plane_geom.proofs.Turning.{moved-append}
use Rattle.cif_grammar.specs.Words.{limit}
use Rattle.cif_reader.specs.declared.file.Item.{Item}
use Rattle.cif_reader.specs.declared.file.Symbol.{Symbol}
use Rattle.cif_reader.specs.declared.file.What.{What}
use Rattle.cif_reader.specs.declared.file.What.TheVariants.{Draw, Call, Mark}
use Rattle.cif_reader.specs.File.{Contents, has_number, IsKeptWhat, AreKeptItems, AreKeptSymbols, IsFile}
use Rattle.cif_flatten.specs.declared.sizes.Size.{Size}
use Rattle.cif_flatten.specs.declared.unfolding.Command.{Command}
use Rattle.cif_flatten.specs.Unfolding.{Placed, in_place, items_in, items_of, opened, opened_by, Unfolds, call_count, figure_weight, weight, calls_among, weight_among, capped}
use Rattle.cif_flatten.specs.Faults.{most_calls, most_weight}
use Rattle.cif_flatten.specs.FileSize.{IsFileSize}
use Rattle.cif_flatten.specs.Unrolling.{placed_of, waiting, AreAlike, IsUnrolled, Walking, IsNear, IsShallow, AreShallow, IsPlaceable, count_within}
use Rattle.cif_flatten.proofs.Ranges.{callable}
use Rattle.cif_flatten.proofs.Cases.{cons_not_nil}
use Rattle.cif_flatten.proofs.Unrolled.{waiting_push, alike_from, alike_in_place, alike_append, alike_same, Likewise, likewise, calls_alike, length_alike, Unrolled, unroll, count_is, all_unrolled}

-- ---- shifts and depths

near_bound : (m n : ℕ) (place : Place) → m ≤ n → IsShiftWithin m place → IsShiftWithin n place
near_bound m n place le h = record { dx = record { low = omega (arith, ints, h.dx.low, le); high = omega (arith, ints, h.dx.high, le) }; dy = record { low = omega (arith, ints, h.dy.low, le); high = omega (arith, ints, h.dy.high, le) } }

limit_near : limit ≤ 2 ^ 60
unfolding limit
limit_near = omega arith

deep_near : (d n : ℕ) → d + n ≤ most_calls → limit * d ≤ 2 ^ 60
unfolding limit most_calls
deep_near d n h = omega (arith, h)

deeper_is : (d : ℕ) → limit + limit * d ≤ limit * (d + 1)
unfolding limit
deeper_is d = omega arith

call_one : (what : What) (number : ℕ) (place : Place) → what ≡ Call number place → call_count what ≡ 1
call_one what number place is = ap call_count is

pub call_near : (what : What) (number : ℕ) (place : Place) → what ≡ Call number place → IsKeptWhat what → IsShiftWithin (2 ^ 60) place
call_near what number place is h = near_bound limit (2 ^ 60) place limit_near (callable what number place is h)

pub deep_shift : (d n : ℕ) (place : Place) → d + n ≤ most_calls → IsShiftWithin (limit * d) place → IsShiftWithin (2 ^ 60) place
deep_shift d n place few h = near_bound (limit * d) (2 ^ 60) place (deep_near d n few) h

pub deeper_shift : (d : ℕ) (place : Place) → IsShiftWithin (limit + limit * d) place → IsShiftWithin (limit * (d + 1)) place
deeper_shift d place h = near_bound (limit + limit * d) (limit * (d + 1)) place (deeper_is d) h

pub depth_fits : (what : What) (number : ℕ) (place : Place) (d : ℕ) → what ≡ Call number place → d + call_count what ≤ most_calls → Fits w32 (d + 1)
unfolding most_calls
depth_fits what number place d is few = omega (arith, few, call_one what number place is)

pub flat_shift : (place : Place) → place.dx ≡ pos 0 → place.dy ≡ pos 0 → IsShiftWithin (limit * 0) place
flat_shift place f g = record { dx = record { low = omega (arith, ints, f); high = omega (arith, ints, f) }; dy = record { low = omega (arith, ints, g); high = omega (arith, ints, g) } }

pub placeable : (left : ℕ) (c : Command) → IsShallow left c → IsPlaceable c
placeable left c h = record { kept = h.near.kept; shift = deep_shift c.depth left c.place h.few h.near.shift }

-- ---- what symbols keep

pub kept_at : (items : List Item) (i : ℕ) (x : Item) → i < length items → x ≡ get_or items i x → AreKeptItems items → IsKeptWhat x.what
kept_at items i x inside is h = subst (λ (item : Item). IsKeptWhat item.what) (sym is) (All-from_recursion (λ (item : Item). IsKeptWhat item.what) items h i x inside)

kept_case : (b : Bool) (s : Symbol) (r : Option Symbol) → AreKeptItems s.items.items → AreKeptItems (items_in r) → AreKeptItems (items_in (cond b (Some s) r))
kept_case true s r h k = h
kept_case false s r h k = k

found_kept : (n : ℕ) (symbols : List Symbol) → AreKeptSymbols symbols → AreKeptItems (items_of symbols n)
found_kept n [] h = tt
found_kept n (s ∷ symbols) h = kept_case (n == s.number) s (find (has_number n) symbols) h.0 (found_kept n symbols h.1)

items_are : (n : ℕ) (symbols : List Symbol) (r : Option (Bor Symbol)) (b : Bor Symbol) → option_copied r ≡ find (has_number n) symbols → r ≡ Some b → items_of symbols n ≡ b.now.items.items
items_are n symbols r b e is = ap items_in (sym e ∙ ap option_copied is)

pub symbol_kept : (n : ℕ) (symbols : List Symbol) (r : Option (Bor Symbol)) (b : Bor Symbol) (items : List Item) → option_copied r ≡ find (has_number n) symbols → r ≡ Some b → items ≡ b.now.items.items → AreKeptSymbols symbols → AreKeptItems items
symbol_kept n symbols r b items e is same h = subst AreKeptItems (items_are n symbols r b e is ∙ sym same) (found_kept n symbols h)

-- ---- what a command opens

none_case : (symbols : List Symbol) (what : What) (steps : List Step) (depth : ℕ) → ((number : ℕ) (place : Place) → what ≡ Call number place → ⊥) → opened_by symbols steps depth what ≡ []
none_case symbols (Draw layer shape) steps depth h = refl
none_case symbols (Call number place) steps depth h = absurd (h number place refl)
none_case symbols (Mark name at layer) steps depth h = refl

pub none_opened : (symbols : List Symbol) (c : Placed) (ys : List Placed) → ((number : ℕ) (place : Place) → c.item.what ≡ Call number place → ⊥) → AreAlike (opened symbols c ++ ys) ys
none_opened symbols c ys h = alike_from _ _ (ap (λ r. r ++ ys) (none_case symbols c.item.what c.steps c.depth h))

pub undefined_opened : (symbols : List Symbol) (c : Placed) (number : ℕ) (place : Place) (ys : List Placed) (r : Option (Bor Symbol)) → c.item.what ≡ Call number place → option_copied r ≡ find (has_number number) symbols → r ≡ None → AreAlike (opened symbols c ++ ys) ys
undefined_opened symbols c number place ys r is e none = alike_from _ _
    (ap (λ what. opened_by symbols c.steps c.depth what ++ ys) is ∙ ap (λ found. in_place (steps_of place ++ c.steps) (c.depth + 1) (items_in found) ++ ys) (sym e ∙ ap option_copied none))

then_moves : (place made outer : Place) → ((p : Point) → placed made p ≡ placed outer (placed place p)) → moved (steps_of place ++ steps_of outer) ≡ moved (steps_of made)
then_moves place made outer h = λ i p. (moved-append (steps_of place) (steps_of outer) p ∙ sym (h p)) i

pub call_opened : (symbols : List Symbol) (c : Command) (number : ℕ) (place made : Place) (items : List Item) (r : Option (Bor Symbol)) (b : Bor Symbol) (ys zs : List Placed) → c.item.now.what ≡ Call number place
    → option_copied r ≡ find (has_number number) symbols → r ≡ Some b → items ≡ b.now.items.items → ((p : Point) → placed made p ≡ placed c.place (placed place p)) → zs ≡ in_place (steps_of made) (c.depth + 1) items ++ ys
    → AreAlike (opened symbols (placed_of c) ++ ys) zs
call_opened symbols c number place made items r b ys zs is e found same moves whole =
    subst (λ what. AreAlike (opened_by symbols (steps_of c.place) c.depth what ++ ys) zs) (sym is)
    (subst (λ xs. AreAlike (in_place (steps_of place ++ steps_of c.place) (c.depth + 1) xs ++ ys) zs) (same ∙ sym (items_are number symbols r b e found))
    (subst (AreAlike (in_place (steps_of place ++ steps_of c.place) (c.depth + 1) items ++ ys)) (sym whole)
    (alike_append _ _ ys ys (alike_in_place (steps_of place ++ steps_of c.place) (steps_of made) (c.depth + 1) items (then_moves place made c.place moves)) (alike_same ys))))

pub call_shallow : (what : What) (number : ℕ) (place : Place) (d : ℕ) (old now : List Command) → what ≡ Call number place → ((left : ℕ) → d + 1 + left ≤ most_calls → AreShallow left old → AreShallow left now)
    → (left : ℕ) → d + left + call_count what ≤ most_calls → AreShallow left old → AreShallow left now
call_shallow what number place d old now is f left few h = f left (omega (arith, few, call_one what number place is)) h

-- ---- one step

pub popped_shallow : (left : ℕ) (before pending : List Command) (c : Command) → before ≡ pending ++ c ∷ [] → AreShallow left before → AreShallow left pending × IsShallow left c
popped_shallow left before pending c is h = let both = All-pop (IsShallow left) before pending (Some c) is h in (both.0, both.1)

less_shallow : (m n : ℕ) (commands : List Command) → n ≤ m → AreShallow m commands → AreShallow n commands
less_shallow m n commands le h = All-weaker (IsShallow m) (IsShallow n) (λ c k. record { near = k.near; few = omega (arith, k.few, le) }) commands h

pub step_unrolled : (file : Contents) (fuel : ℕ) (commands before pending now : List Command) (c : Command) (w : Walking file fuel commands before) → before ≡ pending ++ c ∷ []
    → AreAlike (opened file.symbols (placed_of c) ++ waiting pending) (waiting now) → Unrolled file (map placed_of commands) (waiting now) (placed_of c) w.unrolling.rest
step_unrolled file fuel commands before pending now c w is h = unroll file (map placed_of commands) (waiting before) (waiting now) (placed_of c) (waiting pending) w.unrolling (ap waiting is ∙ waiting_push pending c) h

pub walk_step : (file : Contents) (fuel : ℕ) (commands more before pending now : List Command) (c : Command) → Walking file fuel commands before → before ≡ pending ++ c ∷ [] → more ≡ commands ++ c ∷ []
    → AreAlike (opened file.symbols (placed_of c) ++ waiting pending) (waiting now)
    → ((left : ℕ) → c.depth + left + call_count c.item.now.what ≤ most_calls → AreShallow left pending → AreShallow left now) → Walking file fuel more now
walk_step file fuel commands more before pending now c w is longer h shallow =
    let r : Unrolled file (map placed_of commands) (waiting now) (placed_of c) w.unrolling.rest = step_unrolled file fuel commands before pending now c w is h in
    let p = popped_shallow (calls_among w.unrolling.rest) before pending c is w.shallow in
    let few : c.depth + calls_among w.unrolling.rest ≤ most_calls = p.1.few in
    record {
      unrolling = record {
        placed = r.unrolling.placed;
        unfolded = r.unrolling.unfolded;
        rest = r.unrolling.rest;
        unfolds = r.unrolling.unfolds;
        alike = subst (λ ds. AreAlike r.unrolling.placed (ds ++ r.unrolling.rest)) (sym (ap (map placed_of) longer ∙ map-append placed_of commands (c ∷ []))) r.unrolling.alike;
      };
      shallow = shallow (calls_among r.unrolling.rest) (omega (arith, few, r.calls)) (less_shallow (calls_among w.unrolling.rest) (calls_among r.unrolling.rest) pending (omega (arith, r.calls)) p.0);
      fuel_left = omega (arith, r.shorter, w.fuel_left);
      placeable = subst (All IsPlaceable) (sym longer) (All-push IsPlaceable commands c w.placeable (placeable (calls_among w.unrolling.rest) c p.1));
    }

pub walk_smaller : (file : Contents) (fuel : ℕ) (commands before pending now : List Command) (c : Command) → Walking file fuel commands before → before ≡ pending ++ c ∷ []
    → AreAlike (opened file.symbols (placed_of c) ++ waiting pending) (waiting now) → count_within fuel file.symbols (waiting now) < count_within fuel file.symbols (waiting before)
walk_smaller file fuel commands before pending now c w is h =
    let r : Unrolled file (map placed_of commands) (waiting now) (placed_of c) w.unrolling.rest = step_unrolled file fuel commands before pending now c w is h in
    omega (arith, r.shorter, w.fuel_left, count_is fuel file.symbols (waiting now) r.unrolling.rest r.unrolling.unfolds (omega (arith, r.shorter, w.fuel_left)), count_is fuel file.symbols (waiting before) w.unrolling.rest w.unrolling.unfolds w.fuel_left)

pub last_near : (file : Contents) (fuel : ℕ) (commands before pending : List Command) (c : Command) → Walking file fuel commands before → before ≡ pending ++ c ∷ [] → IsNear c
last_near file fuel commands before pending c w is = (popped_shallow (calls_among w.unrolling.rest) before pending c is w.shallow).1.near

first_calls : (symbols : List Symbol) (c d : Placed) (rest commands : List Placed) → Unfolds symbols (d ∷ commands) rest → call_count d.item.what ≤ calls_among rest
first_calls symbols c d [] commands u = absurd (cons_not_nil _ _ u)
first_calls symbols c d (e ∷ rest) commands u = omega (arith, ap (λ (x : Placed). call_count x.item.what) u.0, sum_by-cons (λ (c : Placed). call_count c.item.what) e rest)

pub last_few : (file : Contents) (fuel : ℕ) (commands before pending : List Command) (c : Command) → Walking file fuel commands before → before ≡ pending ++ c ∷ [] → c.depth + call_count c.item.now.what ≤ most_calls
last_few file fuel commands before pending c w is =
    omega (
      arith,
      (popped_shallow (calls_among w.unrolling.rest) before pending c is w.shallow).1.few,
      first_calls file.symbols (placed_of c) (placed_of c) w.unrolling.rest (waiting pending) (subst (λ xs. Unfolds file.symbols xs w.unrolling.rest) (ap waiting is ∙ waiting_push pending c) w.unrolling.unfolds),
    )

-- ---- the start

some_weight : (f : Figure) → IsWellFormed f → 1 ≤ figure_weight f
some_weight (block r) h = omega arith
some_weight (polygon points) h = omega (arith, h.some)
some_weight (wire half path) h = omega (arith, h.some)

weighs : (what : What) → IsKeptWhat what → 1 ≤ call_count what + weight what
weighs (Draw layer shape) h = omega (arith, some_weight (figure_of shape) h.formed)
weighs (Call number place) h = omega arith
weighs (Mark name at layer) h = omega arith

abbrev pub PlacedKept : Placed → Type 0
PlacedKept c = IsKeptWhat c.item.what

pub in_place_kept : (steps : List Step) (depth : ℕ) (items : List Item) → AreKeptItems items → AllByRecursion PlacedKept (in_place steps depth items)
in_place_kept steps depth [] h = tt
in_place_kept steps depth (item ∷ items) h = (h.0, in_place_kept steps depth items h.1)

opened_kept : (symbols : List Symbol) (what : What) (steps : List Step) (depth : ℕ) → AreKeptSymbols symbols → AllByRecursion PlacedKept (opened_by symbols steps depth what)
opened_kept symbols (Draw layer shape) steps depth h = tt
opened_kept symbols (Call number place) steps depth h = in_place_kept (steps_of place ++ steps) (depth + 1) (items_of symbols number) (found_kept number symbols h)
opened_kept symbols (Mark name at layer) steps depth h = tt

kept_append : (xs ys : List Placed) → AllByRecursion PlacedKept xs → AllByRecursion PlacedKept ys → AllByRecursion PlacedKept (xs ++ ys)
kept_append [] ys h k = k
kept_append (x ∷ xs) ys h k = (h.0, kept_append xs ys h.1 k)

-- What kept commands unfold to is kept.
pub unfolds_kept : (symbols : List Symbol) (xs p : List Placed) → AreKeptSymbols symbols → AllByRecursion PlacedKept xs → Unfolds symbols xs p → AllByRecursion PlacedKept p
unfolds_kept symbols xs [] s h u = tt
unfolds_kept symbols [] (c ∷ p) s h u = absurd u
unfolds_kept symbols (d ∷ xs) (c ∷ p) s h u =
    (subst PlacedKept (sym u.0) h.0, unfolds_kept symbols (opened symbols d ++ xs) p s (kept_append (opened symbols d) xs (opened_kept symbols d.item.what d.steps d.depth s) h.1) u.1)

more_weight : (c : Placed) (p : List Placed) → 1 ≤ call_count c.item.what + weight c.item.what → length p ≤ calls_among p + weight_among p → length (c ∷ p) ≤ calls_among (c ∷ p) + weight_among (c ∷ p)
more_weight c p h k = omega (arith, h, k, sum_by-cons (λ (c : Placed). call_count c.item.what) c p, sum_by-cons (λ (c : Placed). weight c.item.what) c p)

all_weigh : (symbols : List Symbol) (xs p : List Placed) → AreKeptSymbols symbols → AllByRecursion PlacedKept xs → Unfolds symbols xs p → length p ≤ calls_among p + weight_among p
all_weigh symbols xs [] s h u = omega arith
all_weigh symbols [] (c ∷ p) s h u = absurd u
all_weigh symbols (d ∷ xs) (c ∷ p) s h u = more_weight c p (weighs c.item.what (subst PlacedKept (sym u.0) h.0)) (all_weigh symbols (opened symbols d ++ xs) p s (kept_append (opened symbols d) xs (opened_kept symbols d.item.what d.steps d.depth s) h.1) u.1)

few_calls : (calls n : ℕ) → calls ≡ capped n → calls ≤ most_calls → n ≡ calls
unfolding most_calls
few_calls calls n is few = omega (arith, is, few)

light_weight : (weight n : ℕ) → weight ≡ capped n → weight ≤ most_weight → n ≡ weight
unfolding most_weight
light_weight weight n is few = omega (arith, is, few)

pub unmoved : (place : Place) → ((p : Point) → placed place p ≡ p) → moved [] ≡ moved (steps_of place)
unmoved place h = λ i p. sym (h p) i

pub walk_start : (file : Contents) (size : Size) (pending : List Command) (place : Place) → IsFile file → IsFileSize file size → size.calls ≤ most_calls → size.weight ≤ most_weight → ((p : Point) → placed place p ≡ p)
    → waiting pending ≡ in_place (steps_of place) 0 file.top ++ [] → ((left : ℕ) → 0 + left ≤ most_calls → AreShallow left [] → AreShallow left pending) → Walking file (size.calls + size.weight) [] pending
walk_start file size pending place f s few light h is shallow =
    let r : Likewise file.symbols (in_place (steps_of place) 0 file.top) s.placed = likewise file.symbols (in_place [] 0 file.top) (in_place (steps_of place) 0 file.top) s.placed (alike_in_place [] (steps_of place) 0 file.top (unmoved place h)) s.unfolded in
    let calls = few_calls size.calls (calls_among s.placed) s.calls few in
    let weight = light_weight size.weight (weight_among s.placed) s.weight light in
    let all = all_weigh file.symbols (in_place [] 0 file.top) s.placed f.symbols (in_place_kept [] 0 file.top f.top) s.unfolded in
    record {
      unrolling = record {
        placed = s.placed;
        unfolded = s.unfolded;
        rest = r.other;
        unfolds = subst (λ xs. Unfolds file.symbols xs r.other) (sym (is ∙ append-nil (in_place (steps_of place) 0 file.top))) r.unfolds;
        alike = r.alike;
      };
      shallow = shallow (calls_among r.other) (omega (arith, few, calls, calls_alike s.placed r.other r.alike)) (All-nil (IsShallow (calls_among r.other)));
      fuel_left = omega (arith, all, calls, weight, length_alike s.placed r.other r.alike);
      placeable = All-nil IsPlaceable;
    }

-- the place that moves nothing
abbrev pub still : Place
still = record { turn = record { swap = false; neg_x = false; neg_y = false }; dx = pos 0; dy = pos 0 }

no_more : (z : ℤ) → z +ℤ pos 0 ≡ z
no_more z = omega (arith, ints)

still_is : (p : Point) → placed still p ≡ p
still_is p = λ i. record { x = no_more p.x i; y = no_more p.y i }

pub walk_begin : (file : Contents) (size : Size) (commands old pending : List Command) (items : List Item) → IsFile file → IsFileSize file size → size.calls ≤ most_calls → size.weight ≤ most_weight → commands ≡ [] → old ≡ [] → items ≡ file.top
    → waiting pending ≡ in_place (steps_of still) 0 items ++ waiting old → ((left : ℕ) → 0 + left ≤ most_calls → AreShallow left old → AreShallow left pending) → Walking file (size.calls + size.weight) commands pending
walk_begin file size commands old pending items f s few light none empty top whole shallow =
    subst (λ cs. Walking file (size.calls + size.weight) cs pending) (sym none)
    (walk_start file size pending still f s few light still_is
    (whole ∙ ap (λ o. in_place (steps_of still) 0 items ++ waiting o) empty ∙ ap (λ xs. in_place (steps_of still) 0 xs ++ []) top) (λ left le all. shallow left le (subst (AreShallow left) (sym empty) all)))

none_waiting : (pending : List Command) → length pending ≡ 0 → waiting pending ≡ []
none_waiting [] h = refl
none_waiting (c ∷ pending) h = absurd (omega (arith, h))

pub walk_end : (file : Contents) (fuel : ℕ) (commands pending : List Command) → length pending ≡ 0 → Walking file fuel commands pending → IsUnrolled file (map placed_of commands)
walk_end file fuel commands pending none w = all_unrolled file (map placed_of commands) (waiting pending) (none_waiting pending none) w.unrolling
