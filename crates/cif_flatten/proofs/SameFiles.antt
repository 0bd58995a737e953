-- Files that hold the same are flattened alike.
use Rattle.std.proofs.Common.{◌≡◌, ℕ, ◌+◌, ◌<◌, ◌≤◌, map, Bool, true, false, cond, ◌||◌, List, [], ◌∷◌, ◌++◌, refl, sym, ap, ◌∙◌, subst}
use Rattle.std.specs.Prelude.{◌==◌, Option, Some, find, flat_map}
use Rattle.std.specs.List.{list_any, All, Contains}
use Rattle.std.proofs.lemmas.List.Sums.{sum_by-cons}
use Rattle.plane_geom.specs.Covering.{moved_figure}
use Rattle.plane_geom.specs.Placement.{Step, moved, steps_of}
use Rattle.cif_reader.specs.declared.file.Item.{Item}
use Rattle.cif_reader.specs.declared.file.Symbol.{Symbol}
use Rattle.cif_reader.specs.declared.file.What.{What}
use Rattle.cif_reader.specs.declared.file.What.TheVariants.{Draw, Call, Mark}
use Rattle.cif_reader.specs.File.{Contents, has_number}
use Rattle.cif_reader.specs.Same.{IsSame, AreSame, AreSameSymbols, IsSameFile}
use Rattle.cif_flatten.specs.declared.refusal.FlattenRefusal.{FlattenRefusal}
use Rattle.cif_flatten.specs.declared.refusal.FlattenRefusal.TheVariants.{Undefined, Recursive, TooManyCalls, TooManyEdges, OutOfRange, TooFine, NoMemory}
use Rattle.cif_flatten.specs.Flat.{Lists}
use Rattle.cif_flatten.specs.Unfolding.{Placed, in_place, items_in, items_of, opened, opened_by, Unfolds, IsUnfolding, call_count, figure_weight, weight, calls_among, weight_among, Drawn, Marked, drawn_by, marked_by, drawn, marked}
use Rattle.cif_flatten.specs.Faults.{undefined_by, undefined_among, undefined_in_symbols, undefined_calls, IsFirst, is_call_of, has_call, calls, CallsAlong, CallsThrough, most_calls, most_weight, most_fineness, corners, PlacedPoints, reaching, IsInRange, fineness}
use Rattle.cif_flatten.proofs.Cases.{cons_not_nil}
use Rattle.cif_flatten.specs.Flattening.{HasFault, IsFlattened, IsFirstFault}

-- ---- the other way round

same_back : (a b : What) → IsSame a b → IsSame b a
same_back (Draw on shape) (Draw layer other) h = (sym h.0, sym h.1)
same_back (Draw on shape) (Call number there) h = absurd h
same_back (Draw on shape) (Mark text point layer) h = absurd h
same_back (Call symbol place) (Draw layer other) h = absurd h
same_back (Call symbol place) (Call number there) h = (sym h.0, sym h.1)
same_back (Call symbol place) (Mark text point layer) h = absurd h
same_back (Mark name at on) (Draw layer other) h = absurd h
same_back (Mark name at on) (Call number there) h = absurd h
same_back (Mark name at on) (Mark text point layer) h = (sym h.0, sym h.1, sym h.2)

items_back : (xs ys : List Item) → AreSame xs ys → AreSame ys xs
items_back [] [] h = tt
items_back [] (y ∷ ys) h = absurd h
items_back (x ∷ xs) [] h = absurd h
items_back (x ∷ xs) (y ∷ ys) h = (sym h.0, same_back x.what y.what h.1, items_back xs ys h.2)

symbols_back : (ss ts : List Symbol) → AreSameSymbols ss ts → AreSameSymbols ts ss
symbols_back [] [] h = tt
symbols_back [] (t ∷ ts) h = absurd h
symbols_back (s ∷ ss) [] h = absurd h
symbols_back (s ∷ ss) (t ∷ ts) h = (sym h.0, sym h.1, items_back s.items.items t.items.items h.2, symbols_back ss ts h.3)

pub file_back : (f g : Contents) → IsSameFile f g → IsSameFile g f
file_back f g h = record { symbols = symbols_back f.symbols g.symbols h.symbols; top = items_back f.top g.top h.top }

-- ---- symbols

items_case : (b : Bool) (s t : Symbol) (p q : Option Symbol) → AreSame s.items.items t.items.items → AreSame (items_in p) (items_in q) → AreSame (items_in (cond b (Some s) p)) (items_in (cond b (Some t) q))
items_case true s t p q h k = h
items_case false s t p q h k = k

items_same : (n : ℕ) (ss ts : List Symbol) → AreSameSymbols ss ts → AreSame (items_of ss n) (items_of ts n)
items_same n [] [] h = tt
items_same n [] (t ∷ ts) h = absurd h
items_same n (s ∷ ss) [] h = absurd h
items_same n (s ∷ ss) (t ∷ ts) h = subst (λ m. AreSame (items_of (s ∷ ss) n) (items_in (cond (n == m) (Some t) (find (has_number n) ts)))) h.0
    (items_case (n == s.number) s t (find (has_number n) ss) (find (has_number n) ts) h.2 (items_same n ss ts h.3))

defined_same : (n : ℕ) (ss ts : List Symbol) → AreSameSymbols ss ts → list_any (has_number n) ss ≡ list_any (has_number n) ts
defined_same n [] [] h = refl
defined_same n [] (t ∷ ts) h = absurd h
defined_same n (s ∷ ss) [] h = absurd h
defined_same n (s ∷ ss) (t ∷ ts) h = λ i. (n == h.0 i) || defined_same n ss ts h.3 i

-- ---- calls of undefined symbols

undefined_one : (ss ts : List Symbol) (place : ℕ) (a b : What) → AreSameSymbols ss ts → IsSame a b → undefined_by ss place a ≡ undefined_by ts place b
undefined_one ss ts place (Draw on shape) (Draw layer other) s h = refl
undefined_one ss ts place (Draw on shape) (Call number there) s h = absurd h
undefined_one ss ts place (Draw on shape) (Mark text point layer) s h = absurd h
undefined_one ss ts place (Call symbol p) (Draw layer other) s h = absurd h
undefined_one ss ts place (Call symbol p) (Call number there) s h =
    ap (λ n. undefined_by ss place (Call n p)) h.0 ∙ ap (λ (b : Bool). cond b [] (record { pos = place; symbol = number } ∷ [])) (defined_same number ss ts s)
undefined_one ss ts place (Call symbol p) (Mark text point layer) s h = absurd h
undefined_one ss ts place (Mark name at on) (Draw layer other) s h = absurd h
undefined_one ss ts place (Mark name at on) (Call number there) s h = absurd h
undefined_one ss ts place (Mark name at on) (Mark text point layer) s h = refl

undefined_items : (ss ts : List Symbol) (xs ys : List Item) → AreSameSymbols ss ts → AreSame xs ys → undefined_among ss xs ≡ undefined_among ts ys
undefined_items ss ts [] [] s h = refl
undefined_items ss ts [] (y ∷ ys) s h = absurd h
undefined_items ss ts (x ∷ xs) [] s h = absurd h
undefined_items ss ts (x ∷ xs) (y ∷ ys) s h = λ i. (ap (λ n. undefined_by ss n x.what) h.0 ∙ undefined_one ss ts y.pos x.what y.what s h.1) i ++ undefined_items ss ts xs ys s h.2 i

undefined_symbols : (ss ts : List Symbol) (xs ys : List Symbol) → AreSameSymbols ss ts → AreSameSymbols xs ys → undefined_in_symbols ss xs ≡ undefined_in_symbols ts ys
undefined_symbols ss ts [] [] s h = refl
undefined_symbols ss ts [] (y ∷ ys) s h = absurd h
undefined_symbols ss ts (x ∷ xs) [] s h = absurd h
undefined_symbols ss ts (x ∷ xs) (y ∷ ys) s h = λ i. undefined_items ss ts x.items.items y.items.items s h.2 i ++ undefined_symbols ss ts xs ys s h.3 i

undefined_same : (f g : Contents) → IsSameFile f g → undefined_calls f ≡ undefined_calls g
undefined_same f g h = λ i. undefined_symbols f.symbols g.symbols f.symbols g.symbols h.symbols h.symbols i ++ undefined_items f.symbols g.symbols f.top g.top h.symbols h.top i

-- ---- circles

call_same : (n : ℕ) (a b : What) → IsSame a b → is_call_of n a ≡ is_call_of n b
call_same n (Draw on shape) (Draw layer other) h = refl
call_same n (Draw on shape) (Call number there) h = absurd h
call_same n (Draw on shape) (Mark text point layer) h = absurd h
call_same n (Call symbol place) (Draw layer other) h = absurd h
call_same n (Call symbol place) (Call number there) h = ap (λ m. n == m) h.0
call_same n (Call symbol place) (Mark text point layer) h = absurd h
call_same n (Mark name at on) (Draw layer other) h = absurd h
call_same n (Mark name at on) (Call number there) h = absurd h
call_same n (Mark name at on) (Mark text point layer) h = refl

has_call_same : (n : ℕ) (xs ys : List Item) → AreSame xs ys → has_call n xs ≡ has_call n ys
has_call_same n [] [] h = refl
has_call_same n [] (y ∷ ys) h = absurd h
has_call_same n (x ∷ xs) [] h = absurd h
has_call_same n (x ∷ xs) (y ∷ ys) h = λ i. call_same n x.what y.what h.1 i || has_call_same n xs ys h.2 i

calls_same : (ss ts : List Symbol) (a b : ℕ) → AreSameSymbols ss ts → calls ss a b ≡ calls ts a b
calls_same ss ts a b h = has_call_same b (items_of ss a) (items_of ts a) (items_same a ss ts h)

along_same : (ss ts : List Symbol) (a : ℕ) (cs : List ℕ) (b : ℕ) → AreSameSymbols ss ts → CallsAlong ss a cs b → CallsAlong ts a cs b
along_same ss ts a [] b s h = sym (calls_same ss ts a b s) ∙ h
along_same ss ts a (c ∷ cs) b s h = (sym (calls_same ss ts a c s) ∙ h.0, along_same ss ts c cs b s h.1)

through_same : (ss ts : List Symbol) (a b : ℕ) → AreSameSymbols ss ts → CallsThrough ss a b → CallsThrough ts a b
through_same ss ts a b s h = record { through = h.through; along = along_same ss ts a h.through b s h.along }

-- ---- unfoldings

record SamePlaced (a b : Placed) : Type 0 where
  at : a.item.pos ≡ b.item.pos
  what : IsSame a.item.what b.item.what
  steps : a.steps ≡ b.steps
  depth : a.depth ≡ b.depth

AreSamePlaced : List Placed → List Placed → Type 0
AreSamePlaced [] [] = Unit {0}
AreSamePlaced (a ∷ more) (b ∷ others) = SamePlaced a b × AreSamePlaced more others
AreSamePlaced _ _ = ⊥

in_place_same : (steps : List Step) (depth : ℕ) (xs ys : List Item) → AreSame xs ys → AreSamePlaced (in_place steps depth xs) (in_place steps depth ys)
unfolding AreSamePlaced
in_place_same steps depth [] [] h = tt
in_place_same steps depth [] (y ∷ ys) h = absurd h
in_place_same steps depth (x ∷ xs) [] h = absurd h
in_place_same steps depth (x ∷ xs) (y ∷ ys) h = (record { at = h.0; what = h.1; steps = refl; depth = refl }, in_place_same steps depth xs ys h.2)

append_same : (xs ys us vs : List Placed) → AreSamePlaced xs ys → AreSamePlaced us vs → AreSamePlaced (xs ++ us) (ys ++ vs)
unfolding AreSamePlaced
append_same [] [] us vs h k = k
append_same [] (y ∷ ys) us vs h k = absurd h
append_same (x ∷ xs) [] us vs h k = absurd h
append_same (x ∷ xs) (y ∷ ys) us vs h k = (h.0, append_same xs ys us vs h.1 k)

opened_case : (ss ts : List Symbol) (steps : List Step) (depth : ℕ) (a b : What) → AreSameSymbols ss ts → IsSame a b → AreSamePlaced (opened_by ss steps depth a) (opened_by ts steps depth b)
unfolding AreSamePlaced
opened_case ss ts steps depth (Draw on shape) (Draw layer other) s h = tt
opened_case ss ts steps depth (Draw on shape) (Call number there) s h = absurd h
opened_case ss ts steps depth (Draw on shape) (Mark text point layer) s h = absurd h
opened_case ss ts steps depth (Call symbol place) (Draw layer other) s h = absurd h
opened_case ss ts steps depth (Call symbol place) (Call number there) s h =
    subst (λ n. AreSamePlaced (opened_by ss steps depth (Call symbol place)) (opened_by ts steps depth (Call n there))) h.0
    (subst (λ p. AreSamePlaced (opened_by ss steps depth (Call symbol place)) (opened_by ts steps depth (Call symbol p))) h.1
    (in_place_same (steps_of place ++ steps) (depth + 1) (items_of ss symbol) (items_of ts symbol) (items_same symbol ss ts s)))
opened_case ss ts steps depth (Call symbol place) (Mark text point layer) s h = absurd h
opened_case ss ts steps depth (Mark name at on) (Draw layer other) s h = absurd h
opened_case ss ts steps depth (Mark name at on) (Call number there) s h = absurd h
opened_case ss ts steps depth (Mark name at on) (Mark text point layer) s h = tt

opened_same : (ss ts : List Symbol) (a b : Placed) → AreSameSymbols ss ts → SamePlaced a b → AreSamePlaced (opened ss a) (opened ts b)
opened_same ss ts a b s h =
    subst (λ steps. AreSamePlaced (opened ss a) (opened_by ts steps b.depth b.item.what)) h.steps
    (subst (λ depth. AreSamePlaced (opened ss a) (opened_by ts a.steps depth b.item.what)) h.depth (opened_case ss ts a.steps a.depth a.item.what b.item.what s h.what))

record Unfolded (symbols : List Symbol) (commands placed : List Placed) : Type 0 where
  other : List Placed
  unfolds : Unfolds symbols commands other
  same : AreSamePlaced placed other

unfolded_more : (ts : List Symbol) (c x y : Placed) (ys p : List Placed) → c ≡ x → SamePlaced x y → Unfolded ts (opened ts y ++ ys) p → Unfolded ts (y ∷ ys) (c ∷ p)
unfolding AreSamePlaced
unfolded_more ts c x y ys p e h r = record { other = y ∷ r.other; unfolds = (refl, r.unfolds); same = (subst (λ z. SamePlaced z y) (sym e) h, r.same) }

unfolded_same : (ss ts : List Symbol) (xs ys p : List Placed) → AreSameSymbols ss ts → AreSamePlaced xs ys → Unfolds ss xs p → Unfolded ts ys p
unfolding AreSamePlaced
unfolded_same ss ts [] [] [] s h u = record { other = []; unfolds = refl; same = tt }
unfolded_same ss ts [] (y ∷ ys) [] s h u = absurd h
unfolded_same ss ts (x ∷ xs) ys [] s h u = absurd (cons_not_nil _ _ u)
unfolded_same ss ts [] ys (c ∷ p) s h u = absurd u
unfolded_same ss ts (x ∷ xs) [] (c ∷ p) s h u = absurd h
unfolded_same ss ts (x ∷ xs) (y ∷ ys) (c ∷ p) s h u =
    unfolded_more ts c x y ys p u.0 h.0 (unfolded_same ss ts (opened ss x ++ xs) (opened ts y ++ ys) p s (append_same (opened ss x) (opened ts y) xs ys (opened_same ss ts x y s h.0) h.1) u.1)

file_unfolded : (f g : Contents) (p : List Placed) → IsSameFile f g → IsUnfolding f p → Unfolded g.symbols (in_place [] 0 g.top) p
file_unfolded f g p h u = unfolded_same f.symbols g.symbols (in_place [] 0 f.top) (in_place [] 0 g.top) p h.symbols (in_place_same [] 0 f.top g.top h.top) u

-- ---- what is placed

drawn_what : (steps : List Step) (place : ℕ) (a b : What) → IsSame a b → drawn_by steps place a ≡ drawn_by steps place b
drawn_what steps place (Draw on shape) (Draw layer other) h = λ i. record { layer = h.0 i; figure = moved_figure steps (h.1 i); pos = place } ∷ []
drawn_what steps place (Draw on shape) (Call number there) h = absurd h
drawn_what steps place (Draw on shape) (Mark text point layer) h = absurd h
drawn_what steps place (Call symbol p) (Draw layer other) h = absurd h
drawn_what steps place (Call symbol p) (Call number there) h = refl
drawn_what steps place (Call symbol p) (Mark text point layer) h = absurd h
drawn_what steps place (Mark name at on) (Draw layer other) h = absurd h
drawn_what steps place (Mark name at on) (Call number there) h = absurd h
drawn_what steps place (Mark name at on) (Mark text point layer) h = refl

marked_what : (steps : List Step) (depth place : ℕ) (a b : What) → IsSame a b → marked_by steps depth place a ≡ marked_by steps depth place b
marked_what steps depth place (Draw on shape) (Draw layer other) h = refl
marked_what steps depth place (Draw on shape) (Call number there) h = absurd h
marked_what steps depth place (Draw on shape) (Mark text point layer) h = absurd h
marked_what steps depth place (Call symbol p) (Draw layer other) h = absurd h
marked_what steps depth place (Call symbol p) (Call number there) h = refl
marked_what steps depth place (Call symbol p) (Mark text point layer) h = absurd h
marked_what steps depth place (Mark name at on) (Draw layer other) h = absurd h
marked_what steps depth place (Mark name at on) (Call number there) h = absurd h
marked_what steps depth place (Mark name at on) (Mark text point layer) h = λ i. record { name = h.0 i; at = moved steps (h.1 i); layer = h.2 i; depth = depth; pos = place } ∷ []

drawn_one : (a b : Placed) → SamePlaced a b → drawn_by a.steps a.item.pos a.item.what ≡ drawn_by b.steps b.item.pos b.item.what
drawn_one a b h = drawn_what a.steps a.item.pos a.item.what b.item.what h.what ∙ (λ i. drawn_by (h.steps i) (h.at i) b.item.what)

marked_one : (a b : Placed) → SamePlaced a b → marked_by a.steps a.depth a.item.pos a.item.what ≡ marked_by b.steps b.depth b.item.pos b.item.what
marked_one a b h = marked_what a.steps a.depth a.item.pos a.item.what b.item.what h.what ∙ (λ i. marked_by (h.steps i) (h.depth i) (h.at i) b.item.what)

count_one : (a b : What) → IsSame a b → call_count a ≡ call_count b
count_one (Draw on shape) (Draw layer other) h = refl
count_one (Draw on shape) (Call number there) h = absurd h
count_one (Draw on shape) (Mark text point layer) h = absurd h
count_one (Call symbol p) (Draw layer other) h = absurd h
count_one (Call symbol p) (Call number there) h = refl
count_one (Call symbol p) (Mark text point layer) h = absurd h
count_one (Mark name at on) (Draw layer other) h = absurd h
count_one (Mark name at on) (Call number there) h = absurd h
count_one (Mark name at on) (Mark text point layer) h = refl

weight_one : (a b : What) → IsSame a b → weight a ≡ weight b
weight_one (Draw on shape) (Draw layer other) h = ap figure_weight h.1
weight_one (Draw on shape) (Call number there) h = absurd h
weight_one (Draw on shape) (Mark text point layer) h = absurd h
weight_one (Call symbol p) (Draw layer other) h = absurd h
weight_one (Call symbol p) (Call number there) h = refl
weight_one (Call symbol p) (Mark text point layer) h = absurd h
weight_one (Mark name at on) (Draw layer other) h = absurd h
weight_one (Mark name at on) (Call number there) h = absurd h
weight_one (Mark name at on) (Mark text point layer) h = refl

drawn_same : (xs ys : List Placed) → AreSamePlaced xs ys → drawn xs ≡ drawn ys
unfolding AreSamePlaced
drawn_same [] [] h = refl
drawn_same [] (y ∷ ys) h = absurd h
drawn_same (x ∷ xs) [] h = absurd h
drawn_same (x ∷ xs) (y ∷ ys) h = λ i. drawn_one x y h.0 i ++ drawn_same xs ys h.1 i

marked_same : (xs ys : List Placed) → AreSamePlaced xs ys → marked xs ≡ marked ys
unfolding AreSamePlaced
marked_same [] [] h = refl
marked_same [] (y ∷ ys) h = absurd h
marked_same (x ∷ xs) [] h = absurd h
marked_same (x ∷ xs) (y ∷ ys) h = λ i. marked_one x y h.0 i ++ marked_same xs ys h.1 i

calls_placed : (xs ys : List Placed) → AreSamePlaced xs ys → calls_among xs ≡ calls_among ys
unfolding AreSamePlaced
calls_placed [] [] h = refl
calls_placed [] (y ∷ ys) h = absurd h
calls_placed (x ∷ xs) [] h = absurd h
calls_placed (x ∷ xs) (y ∷ ys) h =
    sum_by-cons (λ (c : Placed). call_count c.item.what) x xs ∙ (λ i. count_one x.item.what y.item.what h.0.what i + calls_placed xs ys h.1 i) ∙ sym (sum_by-cons (λ (c : Placed). call_count c.item.what) y ys)

weight_placed : (xs ys : List Placed) → AreSamePlaced xs ys → weight_among xs ≡ weight_among ys
unfolding AreSamePlaced
weight_placed [] [] h = refl
weight_placed [] (y ∷ ys) h = absurd h
weight_placed (x ∷ xs) [] h = absurd h
weight_placed (x ∷ xs) (y ∷ ys) h =
    sum_by-cons (λ (c : Placed). weight c.item.what) x xs ∙ (λ i. weight_one x.item.what y.item.what h.0.what i + weight_placed xs ys h.1 i) ∙ sym (sum_by-cons (λ (c : Placed). weight c.item.what) y ys)

reaching_same : (xs ys : List Placed) → AreSamePlaced xs ys → reaching xs ≡ reaching ys
reaching_same xs ys h = λ i. map (λ (d : Drawn). record { pos = d.pos; points = corners d.figure }) (drawn_same xs ys h i) ++ map (λ (m : Marked). record { pos = m.pos; points = m.at ∷ [] }) (marked_same xs ys h i)

-- ---- faults

fault_same : (f g : Contents) (r : FlattenRefusal) → IsSameFile f g → HasFault f r → HasFault g r
fault_same f g (Undefined place symbol) s h = subst (λ cs. IsFirst cs (record { pos = place; symbol = symbol })) (undefined_same f g s) h
fault_same f g (Recursive number) s h = record {
  itself = through_same f.symbols g.symbols number number s.symbols h.itself;
  least = λ other through. h.least other (through_same g.symbols f.symbols other other (symbols_back f.symbols g.symbols s.symbols) through);
}
fault_same f g TooManyCalls s h =
    let u : Unfolded g.symbols (in_place [] 0 g.top) h.placed = file_unfolded f g h.placed s h.unfolded in
    record { placed = u.other; unfolded = u.unfolds; many = subst (λ n. most_calls < n) (calls_placed h.placed u.other u.same) h.many }
fault_same f g TooManyEdges s h =
    let u : Unfolded g.symbols (in_place [] 0 g.top) h.placed = file_unfolded f g h.placed s h.unfolded in
    record { placed = u.other; unfolded = u.unfolds; much = subst (λ n. most_weight < n) (weight_placed h.placed u.other u.same) h.much }
fault_same f g (OutOfRange place) s h =
    let u : Unfolded g.symbols (in_place [] 0 g.top) h.placed = file_unfolded f g h.placed s h.unfolded in
    let same : reaching h.placed ≡ reaching u.other = reaching_same h.placed u.other u.same in
    record { placed = u.other; unfolded = u.unfolds; reach = h.reach; one = subst (λ all. Contains all h.reach) same h.one; at = h.at; out = h.out; least = subst (λ all. All (λ (r : PlacedPoints). (IsInRange r → ⊥) → place ≤ r.pos) all) same h.least }
fault_same f g TooFine s h =
    let u : Unfolded g.symbols (in_place [] 0 g.top) h.placed = file_unfolded f g h.placed s h.unfolded in
    record { placed = u.other; unfolded = u.unfolds; fine = subst (λ ds. most_fineness < fineness (flat_map (λ (d : Drawn). corners d.figure) ds)) (drawn_same h.placed u.other u.same) h.fine }
fault_same f g NoMemory s h = h

-- Files that hold the same are flattened to the same lists.
pub same_file : (f g : Contents) (lists : Lists) → IsSameFile f g → IsFlattened f lists → IsFlattened g lists
same_file f g lists s h =
    let u : Unfolded g.symbols (in_place [] 0 g.top) h.placed = file_unfolded f g h.placed s h.unfolded in
    record {
      sound = record { none = λ r k. h.sound.none r (fault_same g f r (file_back f g s) k) };
      placed = u.other;
      unfolded = u.unfolds;
      draws = h.draws ∙ drawn_same h.placed u.other u.same;
      marks = h.marks ∙ marked_same h.placed u.other u.same;
    }

-- Files that hold the same have the same first fault.
pub first_fault_same : (f g : Contents) (r : FlattenRefusal) → IsSameFile f g → IsFirstFault f r → IsFirstFault g r
first_fault_same f g r s h = record { fault = fault_same f g r s h.fault; first = λ other earlier has. h.first other earlier (fault_same g f other (file_back f g s) has) }
