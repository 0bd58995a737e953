-- Where parts of a text end.
use Rattle.std.proofs.Common.{◌≡◌, ◌≢◌, ℕ, ◌+◌, ◌-◌, ◌≤◌, Bool, List, [], ◌∷◌, length, take, drop, sym, ap, ◌∙◌, arith}
use Rattle.std.specs.List.{slice_split, position_or_len}
use Rattle.std.proofs.lemmas.List.{length-drop, take_all, length-take}
use Rattle.std.proofs.lemmas.List.Sums.{fails_before_first}
use Rattle.std.proofs.lemmas.List.Splits.{slice_split_none, slice_split_first}
use Rattle.clause_base.specs.TextWords.{placed}

pub last_part : (cuts : ℕ → Bool) (at n : ℕ) (xs : List ℕ) → n ≡ length xs → n ≡ position_or_len cuts xs → placed at (slice_split cuts xs) ≡ record { at = at; text = xs } ∷ []
last_part cuts at n xs all is = ap (placed at) (slice_split_none cuts xs (λ k d lt. fails_before_first cuts xs k d (omega (arith, lt, all, is))))

all_behind : (n : ℕ) (xs : List ℕ) → take (length xs - n) (drop n xs) ≡ drop n xs
all_behind n xs = take_all (length xs - n) (drop n xs) (omega (arith, length-drop n xs))

length_taken : (n : ℕ) (xs : List ℕ) → n ≤ length xs → length (take n xs) ≡ n
length_taken n xs few = omega (arith, length-take n xs, few)

pub first_part : (cuts : ℕ → Bool) (at n : ℕ) (xs : List ℕ) → n ≤ length xs → n ≢ length xs → n ≡ position_or_len cuts xs
    → placed at (slice_split cuts xs) ≡ record { at = at; text = take n xs } ∷ placed (at + n + 1) (slice_split cuts (take (length xs - (n + 1)) (drop (n + 1) xs)))
first_part cuts at n xs few some is =
    ap (placed at) (slice_split_first cuts xs 0 (omega (arith, few, some, is)))
    ∙ (λ i. record { at = at; text = take (sym is i) xs } ∷ placed (at + length (take (sym is i) xs) + 1) (slice_split cuts (drop (sym is i + 1) xs)))
    ∙ (λ i. record { at = at; text = take n xs } ∷ placed (at + length_taken n xs few i + 1) (slice_split cuts (sym (all_behind (n + 1) xs) i)))
