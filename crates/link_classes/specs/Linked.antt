-- Linked things: a relation of touching, and the classes that lists of touching things make.
use Rattle.std.specs.Prelude.{◌≡◌, ◌⊎◌, Bool, true, List, [], ◌∷◌}

-- one of the two touches the other
abbrev pub AreTouching : {A : Type 0} → (A → A → Bool) → A → A → Type 0
AreTouching touch a b = (touch a b ≡ true) ⊎ (touch b a ≡ true)

-- From the first to the last, each touches the next.
abbrev pub IsChain : {A : Type 0} → (A → A → Bool) → A → List A → A → Type 0
IsChain touch a [] b = a ≡ b
IsChain touch a (c ∷ cs) b = AreTouching touch a c × IsChain touch c cs b

-- Two things are linked where a list of things leads from the one to the other, in which each touches the next.
pub record Linked {A : Type 0} (touch : A → A → Bool) (a b : A) : Type 0 where
  pub chain : List A
  pub leads : IsChain touch a chain b
