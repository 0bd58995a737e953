-- What is behind a reference that may be none.
use Rattle.std.proofs.Common.{◌≡◌, ℕ, ◌<◌, length, get_or, List, refl, subst, inl, inr, Bor, sym, ◌∙◌, arith}
use Rattle.std.specs.Prelude.{Option, Some, None, is_some, IfSome, option_copied, slice_get, ◌≤◌}
use Rattle.std.proofs.lemmas.Option.{get_or_from_slice_get, slice_get_cases, none-some}

pub some_copied : {X : Type 0} (r : Option (Bor X)) → is_some r ≡ is_some (option_copied r)
some_copied None = refl
some_copied (Some b) = refl

pub here : {X : Type 0} (xs : List X) (i : ℕ) (x : X) → Some x ≡ slice_get xs i → x ≡ get_or xs i x
here xs i x h = sym (get_or_from_slice_get xs i x x (sym h))

pub not_past : {X : Type 0} (xs : List X) (i : ℕ) → None ≡ slice_get xs i → length xs ≤ i
not_past xs i h = elim (slice_get_cases xs i).1 [ inl found ↦ absurd (none-some _ (h ∙ found.2)) | inr past ↦ past.0 ]

pub no_end : {X : Type 0} {n : ℕ} (xs : List X) (i : ℕ) → None ≡ slice_get xs i → i < n → n ≡ length xs → ⊥
no_end xs i h less is = omega (arith, not_past xs i h, less, is)

pub of_some : {X : Type 0} (P : X → Type 0) (r : Option X) (x : X) → r ≡ Some x → IfSome r P → P x
of_some P r x is h = subst (λ s. IfSome s P) is h
