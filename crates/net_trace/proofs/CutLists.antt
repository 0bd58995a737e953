-- Lists of cuts that grow.
use Rattle.std.proofs.Common.{◌≡◌, ℕ, ◌+◌, ◌<◌, ◌≤◌, List, [], ◌∷◌, ◌++◌, length, map, take, get_or, refl, sym, ap, ◌∙◌, arith}
use Rattle.std.proofs.lemmas.List.{take_more, take_all, length-take-le, length-map}
use Rattle.mask_region.specs.declared.strips.Strip.{Strip}
use Rattle.net_trace.specs.Touching.{Cut, cuts_with}

cuts_push : (rs : List (List Strip)) (ls : List (List ℕ)) (r : List Strip) (l : List ℕ) → length rs ≡ length ls → cuts_with (rs ++ r ∷ []) (ls ++ l ∷ []) ≡ cuts_with rs ls ++ record { region = r; wires = l } ∷ []
cuts_push [] [] r l same = refl
cuts_push [] (m ∷ ls) r l same = absurd (omega (arith, same))
cuts_push (q ∷ rs) [] r l same = absurd (omega (arith, same))
cuts_push (q ∷ rs) (m ∷ ls) r l same = ap (λ cs. record { region = q; wires = m } ∷ cs) (cuts_push rs ls r l (omega (arith, same)))

map_push : {A B : Type 0} (f : A → B) (xs : List A) (x : A) → map f (xs ++ x ∷ []) ≡ map f xs ++ f x ∷ []
map_push f [] x = refl
map_push f (y ∷ xs) x = ap (λ l. f y ∷ l) (map_push f xs x)

module _ {A : Type 0} (wires : A → List ℕ) where
  pub cuts_more : (cuts new : List Cut) (regions : List (List Strip)) (lines : List A) (k : ℕ) (r d : List Strip) (line e : A) (listed : List ℕ) → length regions ≡ length lines → k < length lines
      → cuts ≡ cuts_with (take k regions) (map wires (take k lines)) → r ≡ get_or regions k d → line ≡ get_or lines k e → listed ≡ wires line → new ≡ cuts ++ record { region = r; wires = listed } ∷ []
      → new ≡ cuts_with (take (k + 1) regions) (map wires (take (k + 1) lines))
  cuts_more cuts new regions lines k r d line e listed same lt h is_r is_line is_listed is =
      is ∙ ap (λ l. l ++ record { region = r; wires = listed } ∷ []) h ∙ ap (λ (w : List ℕ). cuts_with (take k regions) (map wires (take k lines)) ++ record { region = r; wires = w } ∷ []) is_listed
      ∙ sym (cuts_push (take k regions) (map wires (take k lines)) r (wires line) lengths)
      ∙ ap (λ l. cuts_with (take k regions ++ r ∷ []) l) (sym (map_push wires (take k lines) line))
      ∙ ap (λ l. cuts_with l (map wires (take k lines ++ line ∷ []))) (ap (λ q. take k regions ++ q ∷ []) is_r ∙ sym (take_more regions k d (omega (arith, lt, same))))
      ∙ ap (λ l. cuts_with (take (k + 1) regions) (map wires l)) (ap (λ q. take k lines ++ q ∷ []) is_line ∙ sym (take_more lines k e lt))
    where
      lengths : length (take k regions) ≡ length (map wires (take k lines))
      lengths = length-take-le k regions (omega (arith, lt, same)) ∙ sym (length-map (take k lines) wires ∙ length-take-le k lines (omega (arith, lt)))

  pub cuts_all : (cuts : List Cut) (regions : List (List Strip)) (lines : List A) (k : ℕ) → length regions ≡ length lines → length lines ≤ k
      → cuts ≡ cuts_with (take k regions) (map wires (take k lines)) → cuts ≡ cuts_with regions (map wires lines)
  cuts_all cuts regions lines k same le h =
      h ∙ ap (λ l. cuts_with l (map wires (take k lines))) (take_all k regions (omega (arith, le, same))) ∙ ap (λ l. cuts_with regions (map wires l)) (take_all k lines le)
