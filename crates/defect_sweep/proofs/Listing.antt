-- Lists of pairs, row by row.
use Rattle.std.proofs.Common.{◌≡◌, ℕ, zero, suc, ◌+◌, ◌-◌, ◌<◌, ◌≤◌, nat_lt, List, [], ◌∷◌, ◌++◌, length, get_or, map, filter, refl, sym, ap, ◌∙◌, subst, arith}
use Rattle.std.specs.Prelude.{flat_map, sum_by}
use Rattle.std.specs.List.{range_with_len, AllByRecursion}
use Rattle.std.proofs.lemmas.List.{map-append, append-nil, length-append}
use Rattle.std.proofs.lemmas.List.Elements.{filter-append}
use Rattle.std.proofs.lemmas.List.Folds.{fold-map}
use Rattle.std.proofs.lemmas.List.FromFn.{map-range_with_len_more, fill_by_all}
use Rattle.std.proofs.lemmas.List.Sums.{sum_by-cons}
use Rattle.std.proofs.lemmas.Grind.{flat_map-append}
use Rattle.switch_net.specs.Pairs.{NetPair}
use Rattle.defect_sweep.specs.Counting.{BridgeCount, count_of, pair_of, pairs_with, pairs_below, listed}
use Rattle.net_trace.proofs.Lists.{range_more}

-- ---- numbers in a row

pub all_range : (Q : ℕ → Type 0) (a n : ℕ) → ((k : ℕ) → a ≤ k → k < a + n → Q k) → AllByRecursion Q (range_with_len a n)
all_range Q a zero each = tt
all_range Q a (suc n) each = (each a (omega arith) (omega arith), all_range Q (a + 1) n (λ k low high. each k (omega (arith, low)) (omega (arith, high))))

-- ---- what agrees on a list

pub map_agree : {X Y : Type 0} (f g : X → Y) (xs : List X) → AllByRecursion (λ x. f x ≡ g x) xs → map f xs ≡ map g xs
map_agree f g [] same = refl
map_agree f g (x ∷ xs) same = λ i. same.0 i ∷ map_agree f g xs same.1 i

pub sum_agree : {X : Type 0} (f g : X → ℕ) (xs : List X) → AllByRecursion (λ x. f x ≡ g x) xs → sum_by f xs ≡ sum_by g xs
sum_agree f g [] same = refl
sum_agree f g (x ∷ xs) same = omega (arith, sum_by-cons f x xs, sum_by-cons g x xs, same.0, sum_agree f g xs same.1)

all_append : {X : Type 0} (P : X → Type 0) (xs ys : List X) → AllByRecursion P xs → AllByRecursion P ys → AllByRecursion P (xs ++ ys)
all_append P [] ys first second = second
all_append P (x ∷ xs) ys first second = (first.0, all_append P xs ys first.1 second)

all_flat : {X Y : Type 0} (P : Y → Type 0) (f : X → List Y) (xs : List X) → AllByRecursion (λ x. AllByRecursion P (f x)) xs → AllByRecursion P (flat_map f xs)
all_flat P f [] each = tt
all_flat P f (x ∷ xs) each = all_append P (f x) (flat_map f xs) each.0 (all_flat P f xs each.1)

all_map : {X Y : Type 0} (P : Y → Type 0) (f : X → Y) (xs : List X) → AllByRecursion (λ x. P (f x)) xs → AllByRecursion P (map f xs)
all_map P f [] each = tt
all_map P f (x ∷ xs) each = (each.0, all_map P f xs each.1)

-- Each pair of a list of pairs is one of two nets.
pub all_pairs : (P : NetPair → Type 0) (nets : ℕ) → ((a b : ℕ) → a < b → b < nets → P (pair_of a b)) → AllByRecursion P (pairs_below nets)
all_pairs P nets each =
    all_flat P (λ a. pairs_with nets a) (range_with_len 0 nets)
    (all_range (λ a. AllByRecursion P (pairs_with nets a)) 0 nets
    (λ a low high. all_map P (λ b. pair_of a b) (range_with_len (a + 1) (nets - (a + 1)))
    (all_range (λ b. P (pair_of a b)) (a + 1) (nets - (a + 1)) (λ b more less. each a b (omega (arith, more)) (omega (arith, less))))))

-- the same counts on each wire
pub count_agree : (wires : ℕ) (pair : NetPair) (f g : ℕ → ℕ) → ((wire : ℕ) → wire < wires → f wire ≡ g wire) → count_of wires pair f ≡ count_of wires pair g
count_agree wires pair f g same =
    let all = all_range (λ wire. f wire ≡ g wire) 0 wires (λ wire low high. same wire (omega (arith, high))) in
    let each = all_range (λ wire. (record { 0 = wire }, f wire) ≡ (record { 0 = wire }, g wire)) 0 wires (λ wire low high. ap (λ n. (record { 0 = wire }, n)) (same wire (omega (arith, high)))) in
    let sums = sum_agree f g (range_with_len 0 wires) all in
    let lists = map_agree (λ wire. (record { 0 = wire }, f wire)) (λ wire. (record { 0 = wire }, g wire)) (range_with_len 0 wires) each in
    λ i. record { pair = pair; total = sums i; on = filter (λ c. nat_lt 0 c.1) (lists i) }

-- the same counts of each pair
pub listed_agree : (nets wires : ℕ) (f g : NetPair → ℕ → ℕ) → ((a b wire : ℕ) → a < b → b < nets → wire < wires → f (pair_of a b) wire ≡ g (pair_of a b) wire)
    → listed (map (λ pair. count_of wires pair (f pair)) (pairs_below nets)) ≡ listed (map (λ pair. count_of wires pair (g pair)) (pairs_below nets))
listed_agree nets wires f g same =
    ap listed
    (map_agree (λ pair. count_of wires pair (f pair)) (λ pair. count_of wires pair (g pair)) (pairs_below nets)
    (all_pairs (λ pair. count_of wires pair (f pair) ≡ count_of wires pair (g pair)) nets
    (λ a b before within. count_agree wires (pair_of a b) (f (pair_of a b)) (g (pair_of a b)) (λ wire lt. same a b wire before within lt))))

-- a sum over a list, by the places of its elements
pub sum_places : {X : Type 0} (f : X → ℕ) (xs : List X) (d : X) → sum_by (λ k. f (get_or xs k d)) (range_with_len 0 (length xs)) ≡ sum_by f xs
sum_places f xs d =
    sym (fold-map (λ a x. a + f x) (λ k. get_or xs k d) 0 (range_with_len 0 (length xs)))
    ∙ ap (λ ys. sum_by f ys) (sym (fill_by_all (λ k. get_or xs k d) xs (length xs) d refl (λ k lt. refl)))

-- ---- rows

module _ (count : NetPair → BridgeCount) where
  -- the counts above 0 of a net with each of the next k nets
  abbrev pub row : ℕ → ℕ → List BridgeCount
  row a k = listed (map count (map (λ b. pair_of a b) (range_with_len (a + 1) k)))

  listed_more : (xs : List NetPair) (pair : NetPair) → listed (map count (xs ++ pair ∷ [])) ≡ listed (map count xs) ++ listed (count pair ∷ [])
  listed_more xs pair = ap listed (map-append count xs (pair ∷ [])) ∙ filter-append (λ c. nat_lt 0 c.total) (map count xs) (count pair ∷ [])

  pub row_more : (a k b : ℕ) → (a + 1) + k ≡ b → row a (k + 1) ≡ row a k ++ listed (count (pair_of a b) ∷ [])
  row_more a k b e =
      ap (λ xs. listed (map count xs)) (map-range_with_len_more (λ b. pair_of a b) (a + 1) k b e)
      ∙ listed_more (map (λ b. pair_of a b) (range_with_len (a + 1) k)) (pair_of a b)

  row_longer : (a k d : ℕ) → length (row a k) ≤ length (row a (k + d))
  row_longer a k zero = omega (arith, ap (λ n. length (row a n)) k_zero)
    where
      k_zero : k + zero ≡ k
      k_zero = omega arith
  row_longer a k (suc d) =
      omega (arith, row_longer a k d, ap length (row_more a (k + d) _ refl), length-append (row a (k + d)) (listed (count (pair_of a ((a + 1) + (k + d))) ∷ [])), ap (λ n. length (row a n)) (next d))
    where
      next : (d : ℕ) → k + suc d ≡ (k + d) + 1
      next d = omega arith

  pub row_up : (a k n : ℕ) → k ≤ n → length (row a k) ≤ length (row a n)
  row_up a k n le = subst (λ m. length (row a k) ≤ length (row a m)) (omega (arith, le)) (row_longer a k (n - k))

  -- the counts above 0 of the first k nets, of so many in all
  abbrev pub rows : ℕ → ℕ → List BridgeCount
  rows nets k = listed (map count (flat_map (λ a. pairs_with nets a) (range_with_len 0 k)))

  pub rows_more : (nets k : ℕ) → rows nets (k + 1) ≡ rows nets k ++ row k (nets - (k + 1))
  rows_more nets k =
      let with : ℕ → List NetPair = λ a. pairs_with nets a in
      ap (λ xs. listed (map count (flat_map with xs))) (range_more 0 k k (omega arith))
      ∙ ap (λ xs. listed (map count xs)) (flat_map-append with (range_with_len 0 k) (k ∷ []) ∙ ap (λ xs. flat_map with (range_with_len 0 k) ++ xs) (append-nil (with k)))
      ∙ ap listed (map-append count (flat_map with (range_with_len 0 k)) (with k))
      ∙ filter-append (λ c. nat_lt 0 c.total) (map count (flat_map with (range_with_len 0 k))) (map count (with k))

  rows_longer : (nets k d : ℕ) → length (rows nets k) ≤ length (rows nets (k + d))
  rows_longer nets k zero = omega (arith, ap (λ n. length (rows nets n)) k_zero)
    where
      k_zero : k + zero ≡ k
      k_zero = omega arith
  rows_longer nets k (suc d) =
      omega (arith, rows_longer nets k d, ap length (rows_more nets (k + d)), length-append (rows nets (k + d)) (row (k + d) (nets - ((k + d) + 1))), ap (λ n. length (rows nets n)) (next d))
    where
      next : (d : ℕ) → k + suc d ≡ (k + d) + 1
      next d = omega arith

  pub rows_up : (nets k n : ℕ) → k ≤ n → length (rows nets k) ≤ length (rows nets n)
  rows_up nets k n le = subst (λ m. length (rows nets k) ≤ length (rows nets m)) (omega (arith, le)) (rows_longer nets k (n - k))
