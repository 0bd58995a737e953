-- Tests that are joined.
use Rattle.std.proofs.Common.{◌≡◌, Bool, true, false, ◌||◌, ◌&&◌, refl, sym, ap, ◌∙◌}

or_four : (a b c d : Bool) → ((a || b) || (c || d)) ≡ (a || (b || (c || (d || false))))
or_four true b c d = refl
or_four false true c d = refl
or_four false false true d = refl
or_four false false false true = refl
or_four false false false false = refl

pub else_of_four : (a b c d e f : Bool) → e ≡ false → e ≡ (a || b) → f ≡ (c || d) → f ≡ (a || (b || (c || (d || false))))
else_of_four a b c d e f none p q = q ∙ ap (λ x. x || (c || d)) (sym none ∙ p) ∙ or_four a b c d

and_four : (a b c d : Bool) → ((a && b) && (c && d)) ≡ (a && (b && (c && (d && true))))
and_four false b c d = refl
and_four true false c d = refl
and_four true true false d = refl
and_four true true true false = refl
and_four true true true true = refl

pub then_of_four : (a b c d e f : Bool) → e ≡ true → e ≡ (a && b) → f ≡ (c && d) → f ≡ (a && (b && (c && (d && true))))
then_of_four a b c d e f all p q = q ∙ ap (λ x. x && (c && d)) (sym all ∙ p) ∙ and_four a b c d

pub or_two : (a b c : Bool) → ((a || (b || false)) || c) ≡ (a || (b || c))
or_two true b c = refl
or_two false true c = refl
or_two false false c = refl

pub and_two : (a b c : Bool) → ((a && (b && true)) && c) ≡ (a && (b && c))
and_two false b c = refl
and_two true false c = refl
and_two true true c = refl
