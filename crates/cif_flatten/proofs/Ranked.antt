-- Ranks that never rise along calls, and fall from the symbols before the least.
use Rattle.std.proofs.Common.{◌≡◌, ◌⊎◌, inl, inr, ℕ, add-one, get_or, ◌+◌, ◌<◌, ◌≤◌, length, take, Bool, true, false, List, [], ◌∷◌, ◌++◌, refl, sym, ap, ◌∙◌, subst, arith}
use Rattle.std.specs.Prelude.{Option, Some, None, not, nat_lt}
use Rattle.std.proofs.Math.Seq.{take-suc}
use Rattle.std.proofs.lemmas.Bool.Decides.{nat_tests}
use Rattle.std.proofs.lemmas.List.Folds.{list_any-append}
use Rattle.std.proofs.lemmas.Option.{none-some, same_Some}
use Rattle.std.proofs.lemmas.Bool.{false≢true}
use Rattle.cif_reader.specs.declared.file.Item.{Item}
use Rattle.cif_reader.specs.declared.file.Symbol.{Symbol}
use Rattle.cif_reader.specs.File.{Contents}
use Rattle.cif_flatten.specs.Unfolding.{items_of}
use Rattle.cif_flatten.specs.Faults.{is_call_of, has_call, calls, CallsAlong, CallsThrough, IsRecursive}
use Rattle.cif_flatten.specs.Sizes.{called_by}
use Rattle.cif_flatten.specs.Reaching.{is_defined, IsLesser}
use Rattle.cif_flatten.specs.Ranking.{IsHeight, NeverRises, IsBefore, FallsBefore}
use Rattle.cif_flatten.proofs.Cases.{or_case, not_less}
use Rattle.cif_flatten.proofs.Circling.{one_call, defined_caller, new_number}

-- ---- the height of items

pub height_nil : (rank : ℕ → ℕ) → IsHeight rank [] 0
height_nil rank = λ n h. absurd (false≢true h)

pub height_none : (rank : ℕ → ℕ) (item : Item) → None ≡ called_by item.what → IsHeight rank (item ∷ []) 0
height_none rank item none = λ n h. absurd (none-some n (none ∙ one_call n item h))

pub height_one : (rank : ℕ → ℕ) (item : Item) (m : ℕ) → Some m ≡ called_by item.what → IsHeight rank (item ∷ []) (rank m)
height_one rank item m is = λ n h.
    let same : m ≡ n = same_Some m n (is ∙ one_call n item h) in
    omega (arith, ap rank same)

height_append : (rank : ℕ → ℕ) (xs ys : List Item) (h k m : ℕ) → h ≤ m → k ≤ m → IsHeight rank xs h → IsHeight rank ys k → IsHeight rank (xs ++ ys) m
height_append rank xs ys h k m low high f g = λ n e.
    or_case (has_call n xs) (has_call n ys) (sym (list_any-append (λ (item : Item). is_call_of n item.what) xs ys) ∙ e)
    (λ l. omega (arith, low, f n l)) (λ r. omega (arith, high, g n r))

pub height_step : (rank : ℕ → ℕ) (xs : List Item) (i : ℕ) (d : Item) (h k m : ℕ) → i < length xs → h ≤ m → k ≤ m → IsHeight rank (take i xs) h → IsHeight rank (get_or xs i d ∷ []) k → IsHeight rank (take (i + 1) xs) m
height_step rank xs i d h k m inside low high f g =
    subst (λ zs. IsHeight rank zs m) (sym (ap (λ n. take n xs) (add-one i) ∙ take-suc xs i d inside)) (height_append rank (take i xs) (get_or xs i d ∷ []) h k m low high f g)

-- ---- ranks that never rise

rises_case : (symbols : List Symbol) (rank : ℕ → ℕ) (some : List Symbol) (n h a b : ℕ) → NeverRises symbols rank some → IsHeight rank (items_of symbols n) h → h ≤ rank n → (is_defined some a ≡ true) ⊎ (a ≡ n) → calls symbols a b ≡ true → rank b ≤ rank a
rises_case symbols rank some n h a b never height low (inl d) e = never a b d e
rises_case symbols rank some n h a b never height low (inr is) e = omega (arith, low, height b (subst (λ k. calls symbols k b ≡ true) is e), ap rank is)

number_here : (symbols : List Symbol) (i : ℕ) (s : Symbol) → i < length symbols → s ≡ get_or symbols i s → (m : ℕ) → is_defined (take (i + 1) symbols) m ≡ true → (is_defined (take i symbols) m ≡ true) ⊎ (m ≡ s.number)
number_here symbols i s inside at m h = subst (λ (x : Symbol). (is_defined (take i symbols) m ≡ true) ⊎ (m ≡ x.number)) (sym at) (new_number symbols i s inside m h)

pub rises_step : (symbols : List Symbol) (rank : ℕ → ℕ) (i : ℕ) (s : Symbol) (h r : ℕ) → i < length symbols → s ≡ get_or symbols i s → NeverRises symbols rank (take i symbols) → IsHeight rank (items_of symbols s.number) h
    → r ≡ rank s.number → h ≤ r → NeverRises symbols rank (take (i + 1) symbols)
rises_step symbols rank i s h r inside at never height is low = λ a b defined e.
    rises_case symbols rank (take i symbols) s.number h a b never height (omega (arith, is, low)) (number_here symbols i s inside at a defined) e

along_falls : (symbols : List Symbol) (rank : ℕ → ℕ) → NeverRises symbols rank symbols → (a : ℕ) (cs : List ℕ) (b : ℕ) → CallsAlong symbols a cs b → rank b ≤ rank a
along_falls symbols rank never a [] b h = never a b (defined_caller symbols a b h) h
along_falls symbols rank never a (c ∷ cs) b h = omega (arith, never a c (defined_caller symbols a c h.0) h.0, along_falls symbols rank never c cs b h.1)

-- ---- ranks that fall before the least

falls_case : (symbols : List Symbol) (rank : ℕ → ℕ) (some : List Symbol) (n h a b : ℕ) (least : Option ℕ) → FallsBefore symbols rank some least → IsHeight rank (items_of symbols n) h → h < rank n → (is_defined some a ≡ true) ⊎ (a ≡ n)
    → IsBefore a least → calls symbols a b ≡ true → rank b < rank a
falls_case symbols rank some n h a b least falls height low (inl d) before e = falls a b d before e
falls_case symbols rank some n h a b least falls height low (inr is) before e = omega (arith, low, height b (subst (λ k. calls symbols k b ≡ true) is e), ap rank is)

-- what is before the lesser of two numbers is before both
before_first : (least result : Option ℕ) (n a : ℕ) → IsLesser least n result → IsBefore a result → IsBefore a least
before_first None result n a less before = tt
before_first (Some l) None n a less before = absurd less
before_first (Some l) (Some r) n a less before = omega (arith, less, before)

not_before : (least result : Option ℕ) (n : ℕ) → IsLesser least n result → IsBefore n result → ⊥
not_before None None n less before = less
not_before (Some l) None n less before = less
not_before None (Some r) n less before = omega (arith, less, before)
not_before (Some l) (Some r) n less before = omega (arith, less, before)

lesser_case : (symbols : List Symbol) (rank : ℕ → ℕ) (some : List Symbol) (n a b : ℕ) (least result : Option ℕ) → FallsBefore symbols rank some least → IsLesser least n result → (is_defined some a ≡ true) ⊎ (a ≡ n)
    → IsBefore a result → calls symbols a b ≡ true → rank b < rank a
lesser_case symbols rank some n a b least result falls less (inl d) before e = falls a b d (before_first least result n a less before) e
lesser_case symbols rank some n a b least result falls less (inr is) before e = absurd (not_before least result n less (subst (λ k. IsBefore k result) is before))

falls_more : (symbols : List Symbol) (rank : ℕ → ℕ) (some more : List Symbol) (n h : ℕ) (least result : Option ℕ) (counts : Bool) → ((m : ℕ) → is_defined more m ≡ true → (is_defined some m ≡ true) ⊎ (m ≡ n)) → FallsBefore symbols rank some least
    → IsHeight rank (items_of symbols n) h → (counts ≡ false → h < rank n) → (counts ≡ false → result ≡ least) → (counts ≡ true → IsLesser least n result) → FallsBefore symbols rank more result
falls_more symbols rank some more n h least result false new falls height low same less = λ a b d before e.
    falls_case symbols rank some n h a b least falls height (low refl) (new a d) (subst (IsBefore a) (same refl) before) e
falls_more symbols rank some more n h least result true new falls height low same less = λ a b d before e.
    lesser_case symbols rank some n a b least result falls (less refl) (new a d) before e

is_lower : (h r k : ℕ) → r ≡ k → not (nat_lt h r) ≡ false → h < k
is_lower h r k is e = grind (arith, nat_tests)

pub falls_step : (symbols : List Symbol) (rank : ℕ → ℕ) (i : ℕ) (s : Symbol) (h r : ℕ) (least result : Option ℕ) → i < length symbols → s ≡ get_or symbols i s → FallsBefore symbols rank (take i symbols) least
    → IsHeight rank (items_of symbols s.number) h → r ≡ rank s.number → (not (nat_lt h r) ≡ false → result ≡ least) → (not (nat_lt h r) ≡ true → IsLesser least s.number result) → FallsBefore symbols rank (take (i + 1) symbols) result
falls_step symbols rank i s h r least result inside at falls height is same less =
    falls_more symbols rank (take i symbols) (take (i + 1) symbols) s.number h least result (not (nat_lt h r)) (number_here symbols i s inside at) falls height (is_lower h r (rank s.number) is) same less

first_falls : (symbols : List Symbol) (rank : ℕ → ℕ) (n : ℕ) → NeverRises symbols rank symbols → FallsBefore symbols rank symbols (Some n) → (a : ℕ) (cs : List ℕ) (b : ℕ) → a < n → CallsAlong symbols a cs b → rank b < rank a
first_falls symbols rank n never falls a [] b less h = falls a b (defined_caller symbols a b h) less h
first_falls symbols rank n never falls a (c ∷ cs) b less h = omega (arith, falls a c (defined_caller symbols a c h.0) less h.0, along_falls symbols rank never c cs b h.1)

below_itself : (k : ℕ) → k < k → ⊥
below_itself k h = omega (arith, h)

pub ranked_recursive : (file : Contents) (rank : ℕ → ℕ) (n : ℕ) → NeverRises file.symbols rank file.symbols → FallsBefore file.symbols rank file.symbols (Some n) → CallsThrough file.symbols n n → IsRecursive file n
ranked_recursive file rank n never falls itself = record {
  itself = itself;
  least = λ other through. not_less other n (λ less. below_itself (rank other) (first_falls file.symbols rank n never falls other through.through other less through.along));
}
