-- Steps along conducting transistors lead both ways.
use Rattle.std.proofs.Common.{◌≡◌, inl, inr, ℕ, Bool, true, false, ◌&&◌, ◌==◌, not, List, [], ◌∷◌, ◌∙◌, ap}
use Rattle.std.specs.List.{list_any}
use Rattle.std.proofs.Math.Bool.{or_comm}
use Rattle.std.proofs.lemmas.Bool.{and_parts, and_from, or_cases, or_left, or_right, not-true}
use Rattle.link_classes.specs.Linked.{AreTouching}
use Rattle.switch_net.specs.declared.fets.Fet.{Fet}
use Rattle.switch_net.specs.Switches.{Switches, is_supply}
use Rattle.switch_net.specs.Conduction.{is_conducting, is_step, is_joined}

-- where one test implies another, so does that some element passes it
pub any_mapped : {X : Type 0} (p q : X → Bool) (xs : List X) → ((x : X) → p x ≡ true → q x ≡ true) → list_any p xs ≡ true → list_any q xs ≡ true
any_mapped p q [] maps is = is
any_mapped p q (x ∷ xs) maps is = elim (or_cases (p x) (list_any p xs) is) [
  | inl here ↦ or_left (q x) (list_any q xs) (maps x here)
  | inr later ↦ or_right (q x) (list_any q xs) (any_mapped p q xs maps later)
]

-- a step leads back too
pub step_back : (fets : List Fet) (v : ℕ → Bool) (a b : ℕ) → is_step fets v a b ≡ is_step fets v b a
step_back fets v a b = ap (λ test. list_any test fets) (λ i f. is_conducting v f && or_comm (f.a.0 == a && f.b.0 == b) (f.a.0 == b && f.b.0 == a) i)

-- nets that are joined are one step apart, and neither is a supply
pub joined_parts : (c : Switches) (fets : List Fet) (v : ℕ → Bool) (a b : ℕ) → is_joined c fets v a b ≡ true → (is_step fets v a b ≡ true) × (is_supply c a ≡ false) × (is_supply c b ≡ false)
joined_parts c fets v a b is =
    let (step, plain) = and_parts (is_step fets v a b) (not (is_supply c a) && not (is_supply c b)) is in
    let (a_plain, b_plain) = and_parts (not (is_supply c a)) (not (is_supply c b)) plain in
    (step, not-true (is_supply c a) a_plain, not-true (is_supply c b) b_plain)

pub joined_from : (c : Switches) (fets : List Fet) (v : ℕ → Bool) (a b : ℕ) → is_step fets v a b ≡ true → is_supply c a ≡ false → is_supply c b ≡ false → is_joined c fets v a b ≡ true
joined_from c fets v a b step a_plain b_plain =
    and_from (is_step fets v a b) (not (is_supply c a) && not (is_supply c b)) step (and_from (not (is_supply c a)) (not (is_supply c b)) (ap not a_plain) (ap not b_plain))

-- the same of nets of which one is joined to the other
pub touching_parts : (c : Switches) (fets : List Fet) (v : ℕ → Bool) (a b : ℕ) → AreTouching (is_joined c fets v) a b → (is_step fets v a b ≡ true) × (is_supply c a ≡ false) × (is_supply c b ≡ false)
touching_parts c fets v a b (inl is) = joined_parts c fets v a b is
touching_parts c fets v a b (inr is) = let (step, b_plain, a_plain) = joined_parts c fets v b a is in (step_back fets v a b ∙ step, a_plain, b_plain)
