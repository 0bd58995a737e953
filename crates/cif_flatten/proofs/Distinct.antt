-- Different numbers, counted on a sorted list.
use Rattle.std.proofs.Common.{◌≡◌, ◌+◌, ℤ, length, Bool, true, false, cond, ◌||◌, List, [], ◌∷◌, refl, sym, ap, ◌∙◌, arith}
use Rattle.std.specs.Ordering.{int_cmp, int_eq}
use Rattle.std.specs.List.{list_any, IsDistinct, AllByRecursion, dedup}
use Rattle.std.specs.List.Sorted.{IsSorted, IsPermutation}
use Rattle.std.proofs.lemmas.Cmp.{int_cmp_total, int_eq_equiv}
use Rattle.std.proofs.lemmas.Bool.Decides.{Decides-int_eq}
use Rattle.std.proofs.lemmas.List.Kept.{IsStrictlySortedBy-dedup, Contains-dedup, Contains-from_dedup}
use Rattle.std.proofs.lemmas.List.Sorted.{list_any-IsPermutation}
use Rattle.std.proofs.lemmas.Map.Keys.{IsDistinct-from_sorted}
use Rattle.std.proofs.lemmas.Map.Made.{length-from_same_keys}
use Rattle.std.proofs.lemmas.Map.Views.{list_any-from_Contains, Contains-from_any}
use Rattle.std.proofs.lemmas.Bool.{or_parts}
use Rattle.cif_flatten.specs.Faults.{count_distinct}

has : List ℤ → ℤ → Bool
has zs z = list_any (int_eq z) zs

-- each number once, where it stands last
once : List ℤ → List ℤ
once [] = []
once (z ∷ zs) = cond (list_any (int_eq z) zs) (once zs) (z ∷ once zs)

once_case : (z : ℤ) (zs : List ℤ) (b : Bool) → list_any (int_eq z) zs ≡ b → length (once zs) ≡ count_distinct zs → length (cond b (once zs) (z ∷ once zs)) ≡ cond b (count_distinct zs) (count_distinct zs + 1)
once_case z zs true e h = h
once_case z zs false e h = omega (arith, h)

length-once : (zs : List ℤ) → length (once zs) ≡ count_distinct zs
unfolding once
length-once [] = refl
length-once (z ∷ zs) = once_case z zs (list_any (int_eq z) zs) refl (length-once zs)

or_true : (a b : Bool) → (a ≡ true → b ≡ true) → b ≡ (a || b)
or_true true b h = h refl
or_true false b h = refl

has_case : (q z : ℤ) (zs : List ℤ) (b : Bool) → list_any (int_eq z) zs ≡ b → list_any (int_eq q) (once zs) ≡ list_any (int_eq q) zs
    → list_any (int_eq q) (cond b (once zs) (z ∷ once zs)) ≡ (int_eq q z || list_any (int_eq q) zs)
has_case q z zs true e h = h ∙ or_true (int_eq q z) (list_any (int_eq q) zs) (λ same. ap (λ w. list_any (int_eq w) zs) ((Decides-int_eq q z).0 same) ∙ e)
has_case q z zs false e h = ap (λ r. int_eq q z || r) h

has_once : (q : ℤ) (zs : List ℤ) → list_any (int_eq q) (once zs) ≡ list_any (int_eq q) zs
unfolding once
has_once q [] = refl
has_once q (z ∷ zs) = has_case q z zs (list_any (int_eq z) zs) refl (has_once q zs)

none_is : (z : ℤ) (ys : List ℤ) → list_any (int_eq z) ys ≡ false → AllByRecursion (λ y. int_eq z y ≡ false) ys
none_is z [] h = tt
none_is z (y ∷ ys) h = ((or_parts (int_eq z y) (list_any (int_eq z) ys) h).0, none_is z ys (or_parts (int_eq z y) (list_any (int_eq z) ys) h).1)

distinct_case : (z : ℤ) (zs : List ℤ) (b : Bool) → list_any (int_eq z) zs ≡ b → IsDistinct int_eq (once zs) → IsDistinct int_eq (cond b (once zs) (z ∷ once zs))
unfolding IsDistinct
distinct_case z zs true e h = h
distinct_case z zs false e h = (none_is z (once zs) (has_once z zs ∙ e), h)

distinct_none : IsDistinct int_eq []
unfolding IsDistinct
distinct_none = tt

distinct_once : (zs : List ℤ) → IsDistinct int_eq (once zs)
unfolding once IsDistinct
distinct_once [] = distinct_none
distinct_once (z ∷ zs) = distinct_case z zs (list_any (int_eq z) zs) refl (distinct_once zs)

both_ways : (a b : Bool) → (a ≡ true → b ≡ true) → (b ≡ true → a ≡ true) → a ≡ b
both_ways true b f g = sym (f refl)
both_ways false true f g = g refl
both_ways false false f g = refl

has_dedup : (q : ℤ) (zs : List ℤ) → list_any (int_eq q) (dedup int_eq zs) ≡ list_any (int_eq q) zs
has_dedup q zs = both_ways (list_any (int_eq q) (dedup int_eq zs)) (list_any (int_eq q) zs)
    (λ h. list_any-from_Contains int_eq_equiv q zs (Contains-from_dedup int_eq zs q (Contains-from_any (λ x y. (Decides-int_eq x y).0) q (dedup int_eq zs) h)))
    (λ h. list_any-from_Contains int_eq_equiv q (dedup int_eq zs) (Contains-dedup int_eq_equiv (λ x y. (Decides-int_eq x y).0) zs q (Contains-from_any (λ x y. (Decides-int_eq x y).0) q zs h)))

-- A sorted list without those that stand twice is as long as there are different numbers.
pub counted : (numbers sorted kept : List ℤ) → IsPermutation numbers sorted → IsSorted int_cmp sorted → kept ≡ dedup int_eq sorted → length kept ≡ count_distinct numbers
counted numbers sorted kept moved up is =
    ap (λ l. length l) is
    ∙ length-from_same_keys int_eq_equiv (dedup int_eq sorted) (once numbers) (IsDistinct-from_sorted int_cmp (dedup int_eq sorted) (IsStrictlySortedBy-dedup int_cmp_total (λ x y. refl) sorted up)) (distinct_once numbers)
    (λ q. has_dedup q sorted ∙ sym (list_any-IsPermutation (int_eq q) numbers sorted moved) ∙ sym (has_once q numbers))
    ∙ length-once numbers
