-- Results that are the same error.
use Rattle.std.proofs.Common.{◌≡◌, Result, Ok, Err, ap, sym, ◌∙◌}

error_of : {T E : Type 0} → E → Result T E → E
error_of a (Ok x) = a
error_of a (Err e) = e

-- the same error in a result of another type
pub same_error : {T U E : Type 0} (a b : E) (r s : Result T E) (p q : Result U E) → r ≡ Err a → s ≡ Err b → p ≡ Err a → q ≡ Err b → r ≡ s → p ≡ q
unfolding error_of
same_error {T} {U} {E} a b r s p q er es ep eq e =
    ep ∙ ap (λ x. Err x) (ap (λ x. error_of a x) (sym er ∙ e ∙ es)) ∙ sym eq
