-- The search for what a symbol calls through others.
use Rattle.std.proofs.Common.{◌≡◌, ◌⊎◌, inl, inr, ℕ, zero, suc, add-one, get_or, ◌+◌, ◌<◌, ◌≤◌, length, map, take, Bool, true, false, cond, ◌||◌, List, [], ◌∷◌, ◌++◌, refl, sym, ap, ◌∙◌, subst, arith, eqb-true, eq-eqb, append_assoc}
use Rattle.std.specs.Prelude.{◌==◌, nat_eq, Option, Some, None, is_some, find, slice_get, min, nat_lt, IsSome, IfSome, IfNone, IfOk, Result, Ok, Err}
use Rattle.std.specs.List.{IsDistinct, AllByRecursion}
use Rattle.std.specs.Map.{lookup}
use Rattle.std.proofs.Math.Seq.{take-suc}
use Rattle.std.proofs.lemmas.Cmp.{nat_eq_equiv}
use Rattle.std.proofs.lemmas.Bool.Decides.{nat_tests}
use Rattle.std.proofs.lemmas.List.{append-nil, length-map}
use Rattle.std.proofs.lemmas.Map.Steps.{length-le_from_keys}
use Rattle.std.proofs.lemmas.List.Folds.{list_any-append}
use Rattle.std.proofs.lemmas.Option.{none-some, slice_get_within, same_Some}
use Rattle.std.proofs.lemmas.Bool.{false≢true, or_left, or_right, or_parts}
use Rattle.indexmap.specs.IndexSet.{insert_key}
use Rattle.cif_reader.specs.declared.file.Item.{Item}
use Rattle.cif_reader.specs.declared.file.Symbol.{Symbol}
use Rattle.cif_reader.specs.declared.file.What.{What}
use Rattle.cif_reader.specs.declared.file.What.TheVariants.{Draw, Call, Mark}
use Rattle.cif_flatten.specs.Unfolding.{items_in, items_of}
use Rattle.cif_flatten.specs.Faults.{is_call_of, has_call, calls, CallsAlong, CallsThrough, IsRecursive, IsNested}
use Rattle.cif_reader.specs.File.{Contents, has_number}
use Rattle.cif_reader.proofs.Numbered.{some_any}
use Rattle.cif_flatten.specs.Sizes.{called_by}
use Rattle.cif_flatten.specs.Reaching.{has, is_defined, Grown, Searched, IsLeastAmong, IsLesser}
use Rattle.cif_flatten.proofs.Cases.{or_case, min_case}

below_none : (j : ℕ) → j < 0 → ⊥
below_none j h = omega (arith, h)

pub call_is : (n : ℕ) (what : What) → is_call_of n what ≡ true → called_by what ≡ Some n
call_is n (Draw layer shape) h = absurd (false≢true h)
call_is n (Call called place) h = ap (λ k. Some k) (sym (eqb-true n called h))
call_is n (Mark name at layer) h = absurd (false≢true h)

is_call : (n : ℕ) (what : What) → called_by what ≡ Some n → is_call_of n what ≡ true
is_call n (Draw layer shape) h = absurd (none-some n h)
is_call n (Call called place) h = eq-eqb n called (sym (same_Some called n h))
is_call n (Mark name at layer) h = absurd (none-some n h)

pub one_call : (n : ℕ) (item : Item) → has_call n (item ∷ []) ≡ true → called_by item.what ≡ Some n
one_call n item h = or_case (is_call_of n item.what) false h (call_is n item.what) (λ no_more. absurd (false≢true no_more))

call_one : (n : ℕ) (item : Item) → called_by item.what ≡ Some n → has_call n (item ∷ []) ≡ true
call_one n item h = or_left (is_call_of n item.what) false (is_call n item.what h)

has_left : (xs ys : List ℕ) (n : ℕ) → has xs n ≡ true → has (xs ++ ys) n ≡ true
has_left xs ys n h = list_any-append (nat_eq n) xs ys ∙ or_left (has xs n) (has ys n) h

has_right : (xs ys : List ℕ) (n : ℕ) → has ys n ≡ true → has (xs ++ ys) n ≡ true
has_right xs ys n h = list_any-append (nat_eq n) xs ys ∙ or_right (has xs n) (has ys n) h

has_case : {P : Type 0} (xs ys : List ℕ) (n : ℕ) → has (xs ++ ys) n ≡ true → (has xs n ≡ true → P) → (has ys n ≡ true → P) → P
has_case xs ys n h f g = or_case (has xs n) (has ys n) (sym (list_any-append (nat_eq n) xs ys) ∙ h) f g

-- ---- what items add

pub grown_nil : (symbols : List Symbol) (found : List ℕ) → Grown symbols [] found found
grown_nil symbols found = record { more = []; kept = sym (append-nil found); all = λ n h d. absurd (false≢true h); only = λ n h. inl h; distinct = λ d. d }

pub grown_none : (symbols : List Symbol) (item : Item) (found : List ℕ) → ((n : ℕ) → called_by item.what ≡ Some n → is_defined symbols n ≡ true → ⊥) → Grown symbols (item ∷ []) found found
grown_none symbols item found none = record { more = []; kept = sym (append-nil found); all = λ n h d. absurd (none n (one_call n item h) d); only = λ n h. inl h; distinct = λ d. d }

other_way : (m n : ℕ) → nat_eq m n ≡ false → nat_eq n m ≡ false
other_way m n h = grind (arith, nat_tests)

all_other : (x n : ℕ) (xs : List ℕ) → AllByRecursion (λ y. nat_eq x y ≡ false) xs → nat_eq x n ≡ false → AllByRecursion (λ y. nat_eq x y ≡ false) (xs ++ n ∷ [])
all_other x n [] h k = (k, tt)
all_other x n (y ∷ xs) h k = (h.0, all_other x n xs h.1 k)

distinct_more : (xs : List ℕ) (n : ℕ) → has xs n ≡ false → IsDistinct nat_eq xs → IsDistinct nat_eq (xs ++ n ∷ [])
unfolding IsDistinct
distinct_more [] n h d = (tt, tt)
distinct_more (x ∷ xs) n h d = (all_other x n xs d.0 (other_way n x (or_parts (nat_eq n x) (has xs n) h).0), distinct_more xs n (or_parts (nat_eq n x) (has xs n) h).1 d.1)

grown_case : (symbols : List Symbol) (item : Item) (n : ℕ) (found now : List ℕ) (b : Bool) → called_by item.what ≡ Some n → is_defined symbols n ≡ true → has found n ≡ b → now ≡ cond b found (found ++ n ∷ []) → Grown symbols (item ∷ []) found now
grown_case symbols item n found now true call defined there is = record {
  more = [];
  kept = is ∙ sym (append-nil found);
  all = λ m h d. subst (λ k. has now k ≡ true) (same_Some n m (sym call ∙ one_call m item h)) (ap (λ xs. has xs n) is ∙ there);
  only = λ m h. inl (sym (ap (λ xs. has xs m) is) ∙ h);
  distinct = λ d. subst (IsDistinct nat_eq) (sym is) d;
}
grown_case symbols item n found now false call defined there is = record {
  more = n ∷ [];
  kept = is;
  all = λ m h d. subst (λ k. has now k ≡ true) (same_Some n m (sym call ∙ one_call m item h)) (ap (λ xs. has xs n) is ∙ has_right found (n ∷ []) n (or_left (nat_eq n n) false (eq-eqb n n refl)));
  only = λ m h. has_case found (n ∷ []) m (sym (ap (λ xs. has xs m) is) ∙ h) (λ l. inl l)
      (λ r. or_case (nat_eq m n) false r (λ e. inr (call_one m item (call ∙ ap (λ k. Some k) (sym (eqb-true m n e))), ap (is_defined symbols) (eqb-true m n e) ∙ defined)) (λ no_more. absurd (false≢true no_more)));
  distinct = λ d. subst (IsDistinct nat_eq) (sym is) (distinct_more found n there d);
}

pub grown_one : (symbols : List Symbol) (item : Item) (n : ℕ) (found now : List ℕ) → called_by item.what ≡ Some n → is_defined symbols n ≡ true → now ≡ insert_key nat_eq found n → Grown symbols (item ∷ []) found now
grown_one symbols item n found now call defined is = grown_case symbols item n found now (has found n) call defined refl is

calls_here : (n : ℕ) (xs ys : List Item) → (has_call n xs || has_call n ys) ≡ true → has_call n (xs ++ ys) ≡ true
calls_here n xs ys h = list_any-append (λ (item : Item). is_call_of n item.what) xs ys ∙ h

only_left : (symbols : List Symbol) (xs ys : List Item) (a : List ℕ) (n : ℕ) → (has a n ≡ true) ⊎ ((has_call n xs ≡ true) × (is_defined symbols n ≡ true)) → (has a n ≡ true) ⊎ ((has_call n (xs ++ ys) ≡ true) × (is_defined symbols n ≡ true))
only_left symbols xs ys a n (inl h) = inl h
only_left symbols xs ys a n (inr h) = inr (calls_here n xs ys (or_left (has_call n xs) (has_call n ys) h.0), h.1)

only_case : (symbols : List Symbol) (xs ys : List Item) (a : List ℕ) (n : ℕ) {Q : Type 0} → Q ⊎ ((has_call n ys ≡ true) × (is_defined symbols n ≡ true)) → (Q → (has a n ≡ true) ⊎ ((has_call n xs ≡ true) × (is_defined symbols n ≡ true)))
    → (has a n ≡ true) ⊎ ((has_call n (xs ++ ys) ≡ true) × (is_defined symbols n ≡ true))
only_case symbols xs ys a n (inl h) f = only_left symbols xs ys a n (f h)
only_case symbols xs ys a n (inr h) f = inr (calls_here n xs ys (or_right (has_call n xs) (has_call n ys) h.0), h.1)

pub grown_append : (symbols : List Symbol) (xs ys : List Item) (a b c : List ℕ) → Grown symbols xs a b → Grown symbols ys b c → Grown symbols (xs ++ ys) a c
grown_append symbols xs ys a b c g h = record {
  more = g.more ++ h.more;
  kept = h.kept ∙ ap (λ r. r ++ h.more) g.kept ∙ append_assoc a g.more h.more;
  all = λ n k d. or_case (has_call n xs) (has_call n ys) (sym (list_any-append (λ (item : Item). is_call_of n item.what) xs ys) ∙ k)
      (λ l. ap (λ r. has r n) h.kept ∙ has_left b h.more n (g.all n l d)) (λ r. h.all n r d);
  only = λ n k. only_case symbols xs ys a n (h.only n k) (g.only n);
  distinct = λ d. h.distinct (g.distinct d);
}

pub grown_step : (symbols : List Symbol) (xs : List Item) (i : ℕ) (d : Item) (a b c : List ℕ) → i < length xs → Grown symbols (take i xs) a b → Grown symbols (get_or xs i d ∷ []) b c → Grown symbols (take (i + 1) xs) a c
grown_step symbols xs i d a b c inside g h = subst (λ zs. Grown symbols zs a c) (sym (ap (λ n. take n xs) (add-one i) ∙ take-suc xs i d inside)) (grown_append symbols (take i xs) (get_or xs i d ∷ []) a b c g h)

-- ---- the search from one symbol

along_more : (symbols : List Symbol) (a : ℕ) (cs : List ℕ) (k n : ℕ) → CallsAlong symbols a cs k → calls symbols k n ≡ true → CallsAlong symbols a (cs ++ k ∷ []) n
along_more symbols a [] k n h e = (h, e)
along_more symbols a (c ∷ cs) k n h e = (h.0, along_more symbols c cs k n h.1 e)

pub through_more : (symbols : List Symbol) (a k n : ℕ) → CallsThrough symbols a k → calls symbols k n ≡ true → CallsThrough symbols a n
through_more symbols a k n h e = record { through = h.through ++ k ∷ []; along = along_more symbols a h.through k n h.along e }

reached_first : (symbols : List Symbol) (start n : ℕ) → (has [] n ≡ true) ⊎ ((calls symbols start n ≡ true) × (is_defined symbols n ≡ true)) → CallsThrough symbols start n × (is_defined symbols n ≡ true)
reached_first symbols start n (inl h) = absurd (false≢true h)
reached_first symbols start n (inr h) = (record { through = []; along = h.0 }, h.1)

pub distinct_none : IsDistinct nat_eq []
unfolding IsDistinct
distinct_none = tt

pub search_start : (symbols : List Symbol) (start : ℕ) (found : List ℕ) → Grown symbols (items_of symbols start) [] found → Searched symbols start found 0
search_start symbols start found g = record {
  reached = λ n h. reached_first symbols start n (g.only n h);
  first = λ n h d. g.all n h d;
  next = λ j k n less at h d. absurd (below_none j less);
  distinct = g.distinct distinct_none;
}

reached_next : (symbols : List Symbol) (start k n : ℕ) {Q : Type 0} → CallsThrough symbols start k → (Q → CallsThrough symbols start n × (is_defined symbols n ≡ true)) → Q ⊎ ((calls symbols k n ≡ true) × (is_defined symbols n ≡ true))
    → CallsThrough symbols start n × (is_defined symbols n ≡ true)
reached_next symbols start k n through f (inl h) = f h
reached_next symbols start k n through f (inr h) = (through_more symbols start k n through h.0, h.1)

kept_has : (symbols : List Symbol) (items : List Item) (a b : List ℕ) → Grown symbols items a b → (n : ℕ) → has a n ≡ true → has b n ≡ true
kept_has symbols items a b g n h = ap (λ xs. has xs n) g.kept ∙ has_left a g.more n h

has_at : (xs : List ℕ) (i k : ℕ) → slice_get xs i ≡ Some k → has xs k ≡ true
has_at [] i k h = absurd (none-some k h)
has_at (x ∷ xs) zero k h = or_left (nat_eq k x) (has xs k) (eq-eqb k x (sym (same_Some x k h)))
has_at (x ∷ xs) (suc i) k h = or_right (nat_eq k x) (has xs k) (has_at xs i k h)

get_front : (xs ys : List ℕ) (i : ℕ) → i < length xs → slice_get (xs ++ ys) i ≡ slice_get xs i
get_front [] ys i h = absurd (below_none i h)
get_front (x ∷ xs) ys zero h = refl
get_front (x ∷ xs) ys (suc i) h = get_front xs ys i (omega (arith, h))

next_case : (symbols : List Symbol) (start place k : ℕ) (a b : List ℕ) → Searched symbols start a place → slice_get a place ≡ Some k → Grown symbols (items_of symbols k) a b → (j m n : ℕ) → (j < place) ⊎ (j ≡ place) → slice_get b j ≡ Some m → calls symbols m n ≡ true → is_defined symbols n ≡ true → has b n ≡ true
next_case symbols start place k a b s at g j m n (inl less) here h d =
    let inside : j < length a = omega (arith, less, slice_get_within a place k at) in
    kept_has symbols (items_of symbols k) a b g n (s.next j m n less (sym (get_front a g.more j inside) ∙ sym (ap (λ xs. slice_get xs j) g.kept) ∙ here) h d)
next_case symbols start place k a b s at g j m n (inr is) here h d =
    let same : k ≡ m = same_Some k m (sym at ∙ sym (get_front a g.more place (slice_get_within a place k at)) ∙ sym (ap (λ xs. slice_get xs place) g.kept) ∙ ap (slice_get b) (sym is) ∙ here) in
    g.all n (subst (λ q. calls symbols q n ≡ true) (sym same) h) d

less_case : (j place : ℕ) (b : Bool) → nat_lt j place ≡ b → j < place + 1 → (j < place) ⊎ (j ≡ place)
less_case j place true e h = inl (grind (arith, nat_tests))
less_case j place false e h = inr (grind (arith, nat_tests))

less_or_same : (j place : ℕ) → j < place + 1 → (j < place) ⊎ (j ≡ place)
less_or_same j place h = less_case j place (nat_lt j place) refl h

pub search_step : (symbols : List Symbol) (start place k : ℕ) (a b : List ℕ) → Searched symbols start a place → slice_get a place ≡ Some k → Grown symbols (items_of symbols k) a b → Searched symbols start b (place + 1)
search_step symbols start place k a b s at g = record {
  reached = λ n h. reached_next symbols start k n (s.reached k (has_at a place k at)).0 (s.reached n) (g.only n h);
  first = λ n h d. kept_has symbols (items_of symbols k) a b g n (s.first n h d);
  next = λ j m n less here h d. next_case symbols start place k a b s at g j m n (less_or_same j place less) here h d;
  distinct = g.distinct s.distinct;
}

skip_case : (symbols : List Symbol) (start place : ℕ) (a : List ℕ) → Searched symbols start a place → slice_get a place ≡ None → (j m n : ℕ) → (j < place) ⊎ (j ≡ place) → slice_get a j ≡ Some m → calls symbols m n ≡ true → is_defined symbols n ≡ true → has a n ≡ true
skip_case symbols start place a s none j m n (inl less) here h d = s.next j m n less here h d
skip_case symbols start place a s none j m n (inr is) here h d = absurd (none-some m (sym none ∙ ap (slice_get a) (sym is) ∙ here))

pub search_skip : (symbols : List Symbol) (start place : ℕ) (a : List ℕ) → Searched symbols start a place → slice_get a place ≡ None → Searched symbols start a (place + 1)
search_skip symbols start place a s none = record {
  reached = s.reached;
  first = s.first;
  next = λ j m n less here h d. skip_case symbols start place a s none j m n (less_or_same j place less) here h d;
  distinct = s.distinct;
}

-- ---- what a whole search has found

record At (xs : List ℕ) (k : ℕ) : Type 0 where
  place : ℕ
  inside : place < length xs
  is : slice_get xs place ≡ Some k

more_at : (x : ℕ) (xs : List ℕ) (k : ℕ) → At xs k → At (x ∷ xs) k
more_at x xs k h = record { place = suc h.place; inside = omega (arith, h.inside); is = h.is }

has_place : (xs : List ℕ) (k : ℕ) → has xs k ≡ true → At xs k
has_place [] k h = absurd (false≢true h)
has_place (x ∷ xs) k h = or_case (nat_eq k x) (has xs k) h (λ e. record { place = 0; inside = omega arith; is = ap (λ n. Some n) (sym (eqb-true k x e)) }) (λ r. more_at x xs k (has_place xs k r))

items_case : (n : ℕ) (s : Option Symbol) → has_call n (items_in s) ≡ true → is_some s ≡ true
items_case n None h = absurd (false≢true h)
items_case n (Some s) h = refl

pub defined_caller : (symbols : List Symbol) (k n : ℕ) → calls symbols k n ≡ true → is_defined symbols k ≡ true
defined_caller symbols k n h = sym (some_any (has_number k) symbols) ∙ items_case n (find (has_number k) symbols) h

pub first_defined : (symbols : List Symbol) (c : ℕ) (cs : List ℕ) (b : ℕ) → CallsAlong symbols c cs b → is_defined symbols c ≡ true
first_defined symbols c [] b h = defined_caller symbols c b h
first_defined symbols c (d ∷ cs) b h = defined_caller symbols c d h.0

along_found : (symbols : List Symbol) (found : List ℕ) → ((k n : ℕ) → has found k ≡ true → calls symbols k n ≡ true → is_defined symbols n ≡ true → has found n ≡ true) → (a : ℕ) (cs : List ℕ) (b : ℕ)
    → ((n : ℕ) → calls symbols a n ≡ true → is_defined symbols n ≡ true → has found n ≡ true) → CallsAlong symbols a cs b → is_defined symbols b ≡ true → has found b ≡ true
along_found symbols found closed a [] b f h d = f b h d
along_found symbols found closed a (c ∷ cs) b f h d = along_found symbols found closed c cs b (λ n. closed c n (f c h.0 (first_defined symbols c cs b h.1))) h.1 d

entry : Symbol → ℕ × Symbol
entry s = (s.number, s)

lookup_case : (t rest : Bool) (s : Symbol) (r : Option Symbol) → (t || rest) ≡ true → (rest ≡ true → IsSome r) → IsSome (cond t (Some s) r)
lookup_case true rest s r h f = refl
lookup_case false rest s r h f = f h

defined_lookup : (q : ℕ) (symbols : List Symbol) → is_defined symbols q ≡ true → IsSome (lookup (nat_eq q) (map entry symbols))
unfolding entry
defined_lookup q [] h = absurd (false≢true h)
defined_lookup q (s ∷ symbols) h = lookup_case (nat_eq q s.number) (is_defined symbols q) s (lookup (nat_eq q) (map entry symbols)) h (defined_lookup q symbols)

-- Different symbols that are defined are no more than all symbols.
pub few_defined : (symbols : List Symbol) (numbers : List ℕ) → IsDistinct nat_eq numbers → ((n : ℕ) → has numbers n ≡ true → is_defined symbols n ≡ true) → length numbers ≤ length symbols
few_defined symbols numbers distinct defined = subst (λ n. length numbers ≤ n) (length-map symbols entry) (length-le_from_keys nat_eq_equiv numbers (map entry symbols) distinct (λ q h. defined_lookup q symbols (defined q h)))

few_found : (symbols : List Symbol) (start : ℕ) (found : List ℕ) (place : ℕ) → Searched symbols start found place → length found ≤ length symbols
few_found symbols start found place s = few_defined symbols found s.distinct (λ q h. (s.reached q h).1)

closed : (symbols : List Symbol) (start : ℕ) (found : List ℕ) (place : ℕ) → Searched symbols start found place → length found ≤ place → (k n : ℕ) → At found k → calls symbols k n ≡ true → is_defined symbols n ≡ true → has found n ≡ true
closed symbols start found place s all k n at c d = s.next at.place k n (omega (arith, all, at.inside)) at.is c d

pub search_end : (symbols : List Symbol) (start : ℕ) (found : List ℕ) (place : ℕ) → Searched symbols start found place → length symbols ≤ place → has found start ≡ false → CallsThrough symbols start start → ⊥
search_end symbols start found place s all none through =
    let few : length found ≤ length symbols = few_found symbols start found place s in
    false≢true (sym none ∙ along_found symbols found (λ k n h c d. closed symbols start found place s (omega (arith, few, all)) k n (has_place found k h) c d) start through.through start s.first through.along (first_defined symbols start through.through start through.along))

-- ---- the least

none_same : (symbols : List Symbol) (n : ℕ) (some : List Symbol) (m : ℕ) → ((k : ℕ) → is_defined some k ≡ true → CallsThrough symbols k k → ⊥) → (CallsThrough symbols n n → ⊥) → (is_defined some m ≡ true) ⊎ (m ≡ n) → CallsThrough symbols m m → ⊥
none_same symbols n some m h none (inl d) t = h m d t
none_same symbols n some m h none (inr e) t = none (subst (λ q. CallsThrough symbols q q) e t)

some_same : (symbols : List Symbol) (n : ℕ) (some : List Symbol) (l m : ℕ) → ((k : ℕ) → is_defined some k ≡ true → CallsThrough symbols k k → l ≤ k) → (CallsThrough symbols n n → ⊥) → (is_defined some m ≡ true) ⊎ (m ≡ n) → CallsThrough symbols m m → l ≤ m
some_same symbols n some l m h none (inl d) t = h m d t
some_same symbols n some l m h none (inr e) t = absurd (none (subst (λ q. CallsThrough symbols q q) e t))

least_same : (symbols : List Symbol) (n : ℕ) (some more : List Symbol) (least : Option ℕ) → ((m : ℕ) → is_defined more m ≡ true → (is_defined some m ≡ true) ⊎ (m ≡ n)) → IsLeastAmong symbols some least → (CallsThrough symbols n n → ⊥) → IsLeastAmong symbols more least
least_same symbols n some more None new h none = λ m d t. none_same symbols n some m h none (new m d) t
least_same symbols n some more (Some l) new h none = (h.0, λ m d t. some_same symbols n some l m h.1 none (new m d) t)

no_lesser : (least : Option ℕ) (n : ℕ) → IsLesser least n None → ⊥
no_lesser None n h = h
no_lesser (Some l) n h = h

least_only : (symbols : List Symbol) (n : ℕ) (some : List Symbol) (m r : ℕ) → r ≡ n → IsLeastAmong symbols some None → (is_defined some m ≡ true) ⊎ (m ≡ n) → CallsThrough symbols m m → r ≤ m
least_only symbols n some m r is h (inl d) t = absurd (h m d t)
least_only symbols n some m r is h (inr e) t = omega (arith, is, e)

least_both : (symbols : List Symbol) (n : ℕ) (some : List Symbol) (l m r : ℕ) → r ≡ min l n → ((k : ℕ) → is_defined some k ≡ true → CallsThrough symbols k k → l ≤ k) → (is_defined some m ≡ true) ⊎ (m ≡ n) → CallsThrough symbols m m → r ≤ m
least_both symbols n some l m r is h (inl d) t = omega (arith, is, h m d t)
least_both symbols n some l m r is h (inr e) t = omega (arith, is, e)

lesser_one : (symbols : List Symbol) (l n r : ℕ) → (r ≡ l) ⊎ (r ≡ n) → CallsThrough symbols l l → CallsThrough symbols n n → CallsThrough symbols r r
lesser_one symbols l n r (inl e) h k = subst (λ q. CallsThrough symbols q q) (sym e) h
lesser_one symbols l n r (inr e) h k = subst (λ q. CallsThrough symbols q q) (sym e) k

lesser_through : (symbols : List Symbol) (l n r : ℕ) → r ≡ min l n → CallsThrough symbols l l → CallsThrough symbols n n → CallsThrough symbols r r
lesser_through symbols l n r is h k = lesser_one symbols l n r (min_case l n r is) h k

pub new_number : (symbols : List Symbol) (i : ℕ) (d : Symbol) → i < length symbols → (m : ℕ) → is_defined (take (i + 1) symbols) m ≡ true → (is_defined (take i symbols) m ≡ true) ⊎ (m ≡ (get_or symbols i d).number)
new_number symbols i d inside m h =
    or_case (is_defined (take i symbols) m) ((m == (get_or symbols i d).number) || false)
    (sym (ap (λ k. is_defined (take k symbols) m) (add-one i) ∙ ap (λ xs. is_defined xs m) (take-suc symbols i d inside) ∙ list_any-append (has_number m) (take i symbols) (get_or symbols i d ∷ [])) ∙ h)
    (λ l. inl l) (λ r. or_case (m == (get_or symbols i d).number) false r (λ e. inr (eqb-true m (get_or symbols i d).number e)) (λ no_more. absurd (false≢true no_more)))

least_case : (symbols : List Symbol) (n : ℕ) (some more : List Symbol) (least result : Option ℕ) (counts : Bool) → ((m : ℕ) → is_defined more m ≡ true → (is_defined some m ≡ true) ⊎ (m ≡ n)) → IsLeastAmong symbols some least
    → (counts ≡ true → CallsThrough symbols n n) → (counts ≡ false → CallsThrough symbols n n → ⊥) → (counts ≡ false → result ≡ least) → (counts ≡ true → IsLesser least n result) → IsLeastAmong symbols more result
least_case symbols n some more least result false new h itself none same less = subst (IsLeastAmong symbols more) (sym (same refl)) (least_same symbols n some more least new h (none refl))
least_case symbols n some more least None true new h itself none same less = absurd (no_lesser least n (less refl))
least_case symbols n some more None (Some r) true new h itself none same less = (subst (λ k. CallsThrough symbols k k) (sym (less refl)) (itself refl), λ m d t. least_only symbols n some m r (less refl) h (new m d) t)
least_case symbols n some more (Some l) (Some r) true new h itself none same less = (lesser_through symbols l n r (less refl) h.0 (itself refl), λ m d t. least_both symbols n some l m r (less refl) h.1 (new m d) t)

pub least_step : (symbols : List Symbol) (i : ℕ) (d : Symbol) (least result : Option ℕ) (counts : Bool) → i < length symbols → IsLeastAmong symbols (take i symbols) least
    → (counts ≡ true → CallsThrough symbols (get_or symbols i d).number (get_or symbols i d).number) → (counts ≡ false → CallsThrough symbols (get_or symbols i d).number (get_or symbols i d).number → ⊥)
    → (counts ≡ false → result ≡ least) → (counts ≡ true → IsLesser least (get_or symbols i d).number result) → IsLeastAmong symbols (take (i + 1) symbols) result
least_step symbols i d least result counts inside h itself none same less = least_case symbols (get_or symbols i d).number (take i symbols) (take (i + 1) symbols) least result counts (λ m e. new_number symbols i d inside m e) h itself none same less

pub least_nested : (symbols : List Symbol) → IsLeastAmong symbols symbols None → IsNested symbols
least_nested symbols h = record { none = λ n through. h n (first_defined symbols n through.through n through.along) through }

pub least_recursive : (file : Contents) (m : ℕ) → IsLeastAmong file.symbols file.symbols (Some m) → IsRecursive file m
least_recursive file m h = record { itself = h.0; least = λ n through. h.1 n (first_defined file.symbols n through.through n through.along) through }

pub recursive_found : {E : Type 0} (file : Contents) (r : Result (Option ℕ) E) → IfOk r (λ f. IsLeastAmong file.symbols file.symbols f) → IfOk r (λ f. IfSome f (λ n. IsRecursive file n))
recursive_found file (Ok None) h = tt
recursive_found file (Ok (Some m)) h = least_recursive file m h
recursive_found file (Err e) h = tt

pub nested_found : {E : Type 0} (file : Contents) (r : Result (Option ℕ) E) → IfOk r (λ f. IsLeastAmong file.symbols file.symbols f) → IfOk r (λ f. IfNone f (IsNested file.symbols))
nested_found file (Ok None) h = least_nested file.symbols h
nested_found file (Ok (Some m)) h = tt
nested_found file (Err e) h = tt
