-- A code for formulas, by which the prover tells values that hold them apart: the words of a postfix notation.
use Rattle.std.specs.Prelude.{◌≡◌, ℕ, zero, suc, List, [], ◌∷◌, ◌++◌, refl}
use Rattle.std.specs.Coded.{Coded, code_by, coded_ℕ, coded_list}
use Rattle.std.proofs.Common.{ap, sym, ◌∙◌, append_assoc}
use Rattle.std.proofs.lemmas.List.{append-nil}
use Rattle.layer_map.specs.Truth.{Formula, on, neither, both, either}

abbrev pub postfix : Formula → List (List ℕ)
postfix (on name) = (zero ∷ name) ∷ []
postfix (neither f) = postfix f ++ ((suc zero ∷ []) ∷ [])
postfix (both f g) = postfix f ++ (postfix g ++ ((suc (suc zero) ∷ []) ∷ []))
postfix (either f g) = postfix f ++ (postfix g ++ ((suc (suc (suc zero)) ∷ []) ∷ []))

abbrev pub pushed : List ℕ → List Formula → List Formula
pushed (zero ∷ name) stack = on name ∷ stack
pushed (suc zero ∷ name) (f ∷ stack) = neither f ∷ stack
pushed (suc (suc zero) ∷ name) (g ∷ f ∷ stack) = both f g ∷ stack
pushed (suc (suc (suc n)) ∷ name) (g ∷ f ∷ stack) = either f g ∷ stack
pushed _ stack = stack

abbrev pub pushed_all : List (List ℕ) → List Formula → List Formula
pushed_all [] stack = stack
pushed_all (w ∷ ws) stack = pushed_all ws (pushed w stack)

abbrev pub top : List Formula → Formula
top [] = on []
top (f ∷ stack) = f

pub pushes : (f : Formula) (ws : List (List ℕ)) (stack : List Formula) → pushed_all (postfix f ++ ws) stack ≡ pushed_all ws (f ∷ stack)
pushes (on name) ws stack = refl
pushes (neither f) ws stack = ap (λ w. pushed_all w stack) (append_assoc (postfix f) ((suc zero ∷ []) ∷ []) ws) ∙ pushes f ((suc zero ∷ []) ∷ ws) stack
pushes (both f g) ws stack =
    ap (λ w. pushed_all w stack) (append_assoc (postfix f) (postfix g ++ ((suc (suc zero) ∷ []) ∷ [])) ws ∙ ap (λ w. postfix f ++ w) (append_assoc (postfix g) ((suc (suc zero) ∷ []) ∷ []) ws)) ∙ pushes f (postfix g ++ ((suc (suc zero) ∷ []) ∷ ws)) stack ∙ pushes g ((suc (suc zero) ∷ []) ∷ ws) (f ∷ stack)
pushes (either f g) ws stack =
    ap (λ w. pushed_all w stack) (append_assoc (postfix f) (postfix g ++ ((suc (suc (suc zero)) ∷ []) ∷ [])) ws ∙ ap (λ w. postfix f ++ w) (append_assoc (postfix g) ((suc (suc (suc zero)) ∷ []) ∷ []) ws)) ∙ pushes f (postfix g ++ ((suc (suc (suc zero)) ∷ []) ∷ ws)) stack ∙ pushes g ((suc (suc (suc zero)) ∷ []) ∷ ws) (f ∷ stack)

pub back : (f : Formula) → top (pushed_all (postfix f) []) ≡ f
back f = ap (λ w. top (pushed_all w [])) (sym (append-nil (postfix f))) ∙ ap top (pushes f [] [])

abbrev pub formula_code : Coded Formula
formula_code = code_by (List (List ℕ)) (coded_list (coded_list coded_ℕ)) postfix (λ w. top (pushed_all w [])) back
