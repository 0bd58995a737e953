-- Unfoldings, joined and taken apart.
use Rattle.std.proofs.Common.{◌≡◌, List, [], ◌∷◌, ◌++◌, refl, sym, ap, ◌∙◌, subst, append_assoc}
use Rattle.cif_reader.specs.declared.file.Symbol.{Symbol}
use Rattle.cif_reader.specs.File.{Contents}
use Rattle.cif_flatten.specs.Unfolding.{Placed, in_place, opened, Unfolds, IsUnfolding}
use Rattle.cif_flatten.proofs.Cases.{cons_not_nil}

pub unfolds_append : (symbols : List Symbol) (xs ys p q : List Placed) → Unfolds symbols xs p → Unfolds symbols ys q → Unfolds symbols (xs ++ ys) (p ++ q)
unfolds_append symbols xs ys [] q h k = subst (λ r. Unfolds symbols (r ++ ys) q) (sym h) k
unfolds_append symbols [] ys (c ∷ p) q h k = absurd h
unfolds_append symbols (d ∷ xs) ys (c ∷ p) q h k =
    (h.0, subst (λ r. Unfolds symbols r (p ++ q)) (append_assoc (opened symbols d) xs ys) (unfolds_append symbols (opened symbols d ++ xs) ys p q h.1 k))

-- The unfolding of commands that follow one another, in its two parts.
pub record Split (symbols : List Symbol) (xs ys placed : List Placed) : Type 0 where
  pub left : List Placed
  pub right : List Placed
  pub first : Unfolds symbols xs left
  pub second : Unfolds symbols ys right
  pub whole : placed ≡ left ++ right

more_split : (symbols : List Symbol) (c d : Placed) (xs ys placed : List Placed) → c ≡ d → Split symbols (opened symbols d ++ xs) ys placed → Split symbols (d ∷ xs) ys (c ∷ placed)
more_split symbols c d xs ys placed e s = record { left = c ∷ s.left; right = s.right; first = (e, s.first); second = s.second; whole = ap (λ r. c ∷ r) s.whole }

pub unfolds_split : (symbols : List Symbol) (xs ys placed : List Placed) → Unfolds symbols (xs ++ ys) placed → Split symbols xs ys placed
unfolds_split symbols [] ys placed h = record { left = []; right = placed; first = refl; second = h; whole = refl }
unfolds_split symbols (d ∷ xs) ys [] h = absurd (cons_not_nil _ _ h)
unfolds_split symbols (d ∷ xs) ys (c ∷ placed) h =
    more_split symbols c d xs ys placed h.0 (unfolds_split symbols (opened symbols d ++ xs) ys placed (subst (λ r. Unfolds symbols r placed) (sym (append_assoc (opened symbols d) xs ys)) h.1))

-- Commands have one unfolding.
pub one_unfolding : (symbols : List Symbol) (xs p q : List Placed) → Unfolds symbols xs p → Unfolds symbols xs q → p ≡ q
one_unfolding symbols xs [] [] h k = refl
one_unfolding symbols [] [] (c ∷ q) h k = absurd k
one_unfolding symbols (d ∷ xs) [] (c ∷ q) h k = absurd (cons_not_nil _ _ h)
one_unfolding symbols [] (c ∷ p) q h k = absurd h
one_unfolding symbols (d ∷ xs) (c ∷ p) [] h k = absurd (cons_not_nil _ _ k)
one_unfolding symbols (d ∷ xs) (c ∷ p) (e ∷ q) h k =
    ap (λ x. x ∷ p) (h.0 ∙ sym k.0) ∙ ap (λ r. e ∷ r) (one_unfolding symbols (opened symbols d ++ xs) p q h.1 k.1)

pub one_of_file : (file : Contents) (p q : List Placed) → IsUnfolding file p → IsUnfolding file q → p ≡ q
one_of_file file p q h k = one_unfolding file.symbols (in_place [] 0 file.top) p q h k
