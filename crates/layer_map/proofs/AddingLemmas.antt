-- What a line adds to the map.
use Rattle.std.proofs.Common.{◌≡◌, ℕ, suc, ◌+◌, ◌≤◌, Bool, true, false, cond, if◌then◌else◌, not, ◌&&◌, ◌||◌, List, [], ◌∷◌, ◌++◌, length, Option, Some, None, option_map, refl, sym, ap, ◌∙◌, subst, arith, append_assoc, map, nat_lt, MatchOption, Result, Ok, Err, IfOk}
use Rattle.std.specs.List.{list_any, list_all, position_or_len}
use Rattle.std.specs.Prelude.{Vec, is_some, position}
use Rattle.std.specs.Global.{Global}
use Rattle.std.specs.Str.{bytes_eq}
use Rattle.std.proofs.lemmas.Bool.{lt-ltb, le-ltb, ltb-true, ltb-false}
use Rattle.plane_geom.proofs.Lists.{any_map}
use Rattle.layer_map.specs.declared.map.WireId.{WireId}
use Rattle.layer_map.specs.declared.map.WireLine.{WireLine}
use Rattle.layer_map.specs.declared.map.LabelLine.{LabelLine}
use Rattle.layer_map.specs.Names.{is_among}
use Rattle.layer_map.specs.Plan.{Wire, LabelWires, number_of}
use Rattle.layer_map.specs.Views.{wire_seen, label_seen, numbers_seen}
use Rattle.layer_map.specs.Adding.{numbers_at}
use Rattle.layer_map.specs.Readers.{first_of}
use Rattle.layer_map.proofs.Parsing.{first_is}

-- ---- counting words

-- So many words stood before the rest, and not more than bytes.
pub record IsCounted (ws rest : List (List ℕ)) (count all left : ℕ) : Type 0 where
  pub same : length ws ≡ count + length rest
  pub within : count + left ≤ all

-- ---- places

any_cons : {X : Type 0} (p : X → Bool) (xs : List X) (t : Bool) → list_any p xs ≡ nat_lt (position_or_len p xs) (length xs) → (t || list_any p xs) ≡ nat_lt (cond (not t) (1 + position_or_len p xs) 0) (suc (length xs))
any_cons p xs true h = sym (lt-ltb 0 (suc (length xs)) (omega arith))
any_cons p xs false h = h ∙ less (position_or_len p xs) (length xs) (nat_lt (position_or_len p xs) (length xs)) refl
  where
    less : (a b : ℕ) (t : Bool) → nat_lt a b ≡ t → nat_lt a b ≡ nat_lt (1 + a) (suc b)
    less a b true e = e ∙ sym (lt-ltb (1 + a) (suc b) (omega (arith, ltb-true a b e)))
    less a b false e = e ∙ sym (le-ltb (1 + a) (suc b) (omega (arith, ltb-false a b e)))

pub any_by_place : {X : Type 0} (p : X → Bool) (xs : List X) → list_any p xs ≡ nat_lt (position_or_len p xs) (length xs)
any_by_place p [] = sym (le-ltb 0 0 (omega arith))
any_by_place p (x ∷ xs) = any_cons p xs (p x) (any_by_place p xs)

pub has_place : {X : Type 0} (p : X → Bool) (xs : List X) → is_some (position p xs) ≡ list_any p xs
has_place p xs = by_test (nat_lt (position_or_len p xs) (length xs)) (position_or_len p xs) ∙ sym (any_by_place p xs)
  where
    by_test : (t : Bool) (n : ℕ) → is_some (cond t (Some n) None) ≡ t
    by_test true n = refl
    by_test false n = refl

-- ---- numbers of wires

abbrev pub has_name : List ℕ → WireLine → Bool
has_name n w = bytes_eq w.name n

-- The numbers so far are those of the words before the rest.
pub record IsNumbered (wires : List WireLine) (ws rest : List (List ℕ)) (numbers : List ℕ) : Type 0 where
  pub same : numbers_at wires ws ≡ option_map (λ xs. numbers ++ xs) (numbers_at wires rest)

some_place : {X : Type 0} (p : X → Bool) (xs : List X) (k : ℕ) (t : Bool) → nat_lt (position_or_len p xs) (length xs) ≡ t → ◌≡◌ {A = Option ℕ} (Some k) (cond t (Some (position_or_len p xs)) None) → (t ≡ true) × (k ≡ position_or_len p xs)
some_place p xs k true e h = (refl, cc)
some_place p xs k false e h = absurd (cc)

no_place : {X : Type 0} (p : X → Bool) (xs : List X) (t : Bool) → nat_lt (position_or_len p xs) (length xs) ≡ t → ◌≡◌ {A = Option ℕ} None (cond t (Some (position_or_len p xs)) None) → t ≡ false
no_place p xs true e h = absurd (cc)
no_place p xs false e h = refl

-- A place that is found is that of one that passes.
pub found_place : {X : Type 0} (p : X → Bool) (xs : List X) (k : ℕ) → ◌≡◌ {A = Option ℕ} (Some k) (cond (nat_lt (position_or_len p xs) (length xs)) (Some (position_or_len p xs)) None) → (list_any p xs ≡ true) × (k ≡ position_or_len p xs)
found_place p xs k h =
    let got = some_place p xs k (nat_lt (position_or_len p xs) (length xs)) refl h in
    (any_by_place p xs ∙ got.0, got.1)

pub lacking_place : {X : Type 0} (p : X → Bool) (xs : List X) → ◌≡◌ {A = Option ℕ} None (cond (nat_lt (position_or_len p xs) (length xs)) (Some (position_or_len p xs)) None) → list_any p xs ≡ false
lacking_place p xs h = any_by_place p xs ∙ no_place p xs (nat_lt (position_or_len p xs) (length xs)) refl h

pub lacking_wire : (n : List ℕ) (wires : List WireLine) → ◌≡◌ {A = Option ℕ} None (cond (nat_lt (position_or_len (has_name n) wires) (length wires)) (Some (position_or_len (has_name n) wires)) None) → ◌≡◌ {A = Option WireId} None (if list_any (has_name n) wires then Some (record { 0 = position_or_len (has_name n) wires }) else None)
lacking_wire n wires h = ap {B = Option WireId} (λ t. if t then Some (record { 0 = position_or_len (has_name n) wires }) else None) (sym (lacking_place (has_name n) wires h))

pub found_wire : (n : List ℕ) (wires : List WireLine) (k : ℕ) → ◌≡◌ {A = Option ℕ} (Some k) (cond (nat_lt (position_or_len (has_name n) wires) (length wires)) (Some (position_or_len (has_name n) wires)) None) → ◌≡◌ {A = Option WireId} (Some (record { 0 = k })) (if list_any (has_name n) wires then Some (record { 0 = position_or_len (has_name n) wires }) else None)
found_wire n wires k h =
    let got = found_place (has_name n) wires k h in
    (λ i. Some (record { 0 = got.1 i })) ∙ ap {B = Option WireId} (λ t. if t then Some (record { 0 = position_or_len (has_name n) wires }) else None) (sym got.0)

-- ---- the numbers of words

all_false : (wires : List WireLine) (n : List ℕ) (ns : List (List ℕ)) → list_any (has_name n) wires ≡ false → numbers_at wires (n ∷ ns) ≡ None
all_false wires n ns h = ap {B = Option (List ℕ)} (λ t. if t && list_all (λ m. list_any (has_name m) wires) ns then Some (map (λ m. position_or_len (has_name m) wires) (n ∷ ns)) else None) h

one_number : (wires : List WireLine) (n : List ℕ) (ns : List (List ℕ)) (t : Bool) → (if t then Some (position_or_len (has_name n) wires ∷ map (λ m. position_or_len (has_name m) wires) ns) else None) ≡ option_map (λ xs. position_or_len (has_name n) wires ∷ xs) (if t then Some (map (λ m. position_or_len (has_name m) wires) ns) else None)
one_number wires n ns true = refl
one_number wires n ns false = refl

numbers_more : (wires : List WireLine) (n : List ℕ) (ns : List (List ℕ)) → list_any (has_name n) wires ≡ true → numbers_at wires (n ∷ ns) ≡ option_map (λ xs. position_or_len (has_name n) wires ∷ xs) (numbers_at wires ns)
numbers_more wires n ns h = ap {B = Option (List ℕ)} (λ t. if t && list_all (λ m. list_any (has_name m) wires) ns then Some (map (λ m. position_or_len (has_name m) wires) (n ∷ ns)) else None) h ∙ one_number wires n ns (list_all (λ m. list_any (has_name m) wires) ns)

appended : (front : List ℕ) (k : ℕ) (o : Option (List ℕ)) → option_map (λ xs. front ++ xs) (option_map (λ xs. k ∷ xs) o) ≡ option_map (λ xs. (front ++ (k ∷ [])) ++ xs) o
appended front k None = refl
appended front k (Some xs) = ap Some (sym (append_assoc front (k ∷ []) xs))

-- ---- the same of plain wires

place_map : {X Y : Type 0} (f : X → Y) (p : Y → Bool) (xs : List X) → position_or_len p (map f xs) ≡ position_or_len (λ x. p (f x)) xs
place_map f p [] = refl
place_map f p (x ∷ xs) = ap (λ n. cond (not (p (f x))) (1 + n) 0) (place_map f p xs)

pub names_any : (n : List ℕ) (wires : List WireLine) → is_among n (map (λ w. w.name) (map wire_seen wires)) ≡ list_any (has_name n) wires
names_any n wires = any_map (λ other. bytes_eq other n) (λ (w : Wire). w.name) (map wire_seen wires) ∙ any_map (λ w. bytes_eq w.name n) wire_seen wires

pub number_same : (n : List ℕ) (wires : List WireLine) → number_of (map wire_seen wires) n ≡ position_or_len (has_name n) wires
number_same n wires = place_map wire_seen (λ w. bytes_eq w.name n) wires

pub numbered_more : (wires : List WireLine) (ws rest next : List (List ℕ)) (n : List ℕ) (k : ℕ) (front longer : List ℕ) → IsNumbered wires ws rest front → ◌≡◌ {A = Option (List ℕ × List (List ℕ))} (Some (n, next)) (first_of rest) → (is_among n (map (λ w. w.name) (map wire_seen wires)) ≡ true) × (k ≡ number_of (map wire_seen wires) n) → longer ≡ front ++ (k ∷ []) → IsNumbered wires ws next longer
numbered_more wires ws rest next n k front longer h e w l =
    let known = sym (names_any n wires) ∙ w.0 in
    let number = w.1 ∙ number_same n wires in
    record { same = h.same ∙ ap (λ r. option_map (λ xs. front ++ xs) (numbers_at wires r)) (first_is rest next n e) ∙ ap (option_map (λ xs. front ++ xs)) (numbers_more wires n next known) ∙ appended front (position_or_len (has_name n) wires) (numbers_at wires next) ∙ ap (λ ys. option_map (λ xs. ys ++ xs) (numbers_at wires next)) (sym (l ∙ ap (λ m. front ++ (m ∷ [])) number)) }

pub numbered_not : (wires : List WireLine) (ws rest next : List (List ℕ)) (n : List ℕ) (front : List ℕ) → IsNumbered wires ws rest front → ◌≡◌ {A = Option (List ℕ × List (List ℕ))} (Some (n, next)) (first_of rest) → is_among n (map (λ w. w.name) (map wire_seen wires)) ≡ false → None ≡ numbers_at wires ws
numbered_not wires ws rest next n front h e w = sym (h.same ∙ ap (λ r. option_map (λ xs. front ++ xs) (numbers_at wires r)) (first_is rest next n e) ∙ ap (option_map (λ xs. front ++ xs)) (all_false wires n next (sym (names_any n wires) ∙ w)))

pub layers_any : (n : List ℕ) (labels : List LabelLine) → is_among n (map (λ l. l.layer) (map label_seen labels)) ≡ list_any (λ l. bytes_eq l.layer n) labels
layers_any n labels = any_map (λ other. bytes_eq other n) (λ (l : LabelWires). l.layer) (map label_seen labels) ∙ any_map (λ l. bytes_eq l.layer n) label_seen labels

pub wire_seen_so : (n : List ℕ) (wires : List WireLine) (t : Bool) (o : Option WireId) → list_any (has_name n) wires ≡ t → o ≡ (if t then Some (record { 0 = position_or_len (has_name n) wires }) else None) → MatchOption o (is_among n (map (λ w. w.name) (map wire_seen wires)) ≡ false) (λ w. (is_among n (map (λ w. w.name) (map wire_seen wires)) ≡ true) × (w.0 ≡ number_of (map wire_seen wires) n))
wire_seen_so n wires true o e h = subst (λ p. MatchOption p (is_among n (map (λ w. w.name) (map wire_seen wires)) ≡ false) (λ w. (is_among n (map (λ w. w.name) (map wire_seen wires)) ≡ true) × (w.0 ≡ number_of (map wire_seen wires) n))) (sym h) (names_any n wires ∙ e, sym (number_same n wires))
wire_seen_so n wires false o e h = subst (λ p. MatchOption p (is_among n (map (λ w. w.name) (map wire_seen wires)) ≡ false) (λ w. (is_among n (map (λ w. w.name) (map wire_seen wires)) ≡ true) × (w.0 ≡ number_of (map wire_seen wires) n))) (sym h) (names_any n wires ∙ e)

all_same : (wires : List WireLine) (names : List (List ℕ)) → list_all (λ n. is_among n (map (λ w. w.name) (map wire_seen wires))) names ≡ list_all (λ n. list_any (has_name n) wires) names
all_same wires [] = refl
all_same wires (n ∷ ns) = λ i. names_any n wires i && all_same wires ns i

numbers_same : (wires : List WireLine) (names : List (List ℕ)) → map (number_of (map wire_seen wires)) names ≡ map (λ n. position_or_len (has_name n) wires) names
numbers_same wires [] = refl
numbers_same wires (n ∷ ns) = λ i. number_same n wires i ∷ numbers_same wires ns i

pub wires_seen_so : {V : Type 0} (numbers : V → List ℕ) (wires : List WireLine) (names : List (List ℕ)) (t : Bool) (o : Option V) → list_all (λ n. list_any (has_name n) wires) names ≡ t → option_map numbers o ≡ (if t then Some (map (λ n. position_or_len (has_name n) wires) names) else None) → MatchOption o (list_all (λ n. is_among n (map (λ w. w.name) (map wire_seen wires))) names ≡ false) (λ v. (list_all (λ n. is_among n (map (λ w. w.name) (map wire_seen wires))) names ≡ true) × (numbers v ≡ map (number_of (map wire_seen wires)) names))
wires_seen_so numbers wires names true None e h = absurd (cc)
wires_seen_so numbers wires names true (Some v) e h = let same : numbers v ≡ map (λ n. position_or_len (has_name n) wires) names = cc in (all_same wires names ∙ e, same ∙ sym (numbers_same wires names))
wires_seen_so numbers wires names false None e h = all_same wires names ∙ e
wires_seen_so numbers wires names false (Some v) e h = absurd (cc)

pub all_found : {E : Type 0} (r : Result (Option (Vec WireId Global)) E) (wires : List WireLine) (names : List (List ℕ)) → IfOk r (λ o. option_map (λ (v : Vec WireId Global). numbers_seen v.items) o ≡ numbers_at wires names) → IfOk r (λ o. MatchOption o (list_all (λ n. is_among n (map (λ w. w.name) (map wire_seen wires))) names ≡ false) (λ v. (list_all (λ n. is_among n (map (λ w. w.name) (map wire_seen wires))) names ≡ true) × (numbers_seen v.items ≡ map (number_of (map wire_seen wires)) names)))
all_found (Ok o) wires names h = wires_seen_so (λ (v : Vec WireId Global). numbers_seen v.items) wires names (list_all (λ n. list_any (has_name n) wires) names) o refl h
all_found (Err e) wires names h = h
