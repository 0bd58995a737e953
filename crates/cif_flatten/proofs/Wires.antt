-- The corners of wires, segment by segment.
use Rattle.std.proofs.Common.{◌≡◌, ℕ, zero, suc, get_or, ◌+◌, ◌<◌, ◌≤◌, length, drop, add-one, true, false, List, [], ◌∷◌, ◌++◌, refl, sym, ap, ◌∙◌, subst, arith, append_assoc}
use Rattle.std.specs.Prelude.{◌==◌, flat_map, ℤ}
use Rattle.std.specs.List.{All}
use Rattle.std.proofs.Math.Seq.{drop-cons}
use Rattle.std.proofs.lemmas.List.{append-nil}
use Rattle.std.proofs.lemmas.List.Elements.{All-tail}
use Rattle.plane_geom.specs.declared.shapes.Point.{Point}
use Rattle.plane_geom.specs.declared.shapes.Rect.{Rect}
use Rattle.plane_geom.specs.Covering.{edges_from, segments, widened}
use Rattle.cif_flatten.proofs.Ranges.{widened_corners}
use Rattle.cif_flatten.specs.Faults.{rect_corners}

pub rest_near : (P : Point → Type 0) (path : List Point) (p : Point) (rest : List Point) (i : ℕ) (d : Point) → path ≡ p ∷ rest → All P path → i < length rest → P (get_or rest i d)
rest_near P path p rest i d is h inside = All-tail P p rest (subst (All P) is h) i d inside

edge_more : (half : ℤ) (from : Point) (rest : List Point) (i : ℕ) (d : Point) → i < length rest
    → flat_map (widened_corners half) (edges_from from (drop i rest)) ≡ widened_corners half (from, get_or rest i d) ++ flat_map (widened_corners half) (edges_from (get_or rest i d) (drop (i + 1) rest))
edge_more half from rest i d inside =
    let one : flat_map (widened_corners half) (edges_from from (drop i rest)) ≡ flat_map (widened_corners half) (edges_from from (get_or rest i d ∷ drop (suc i) rest)) = ap (λ xs. flat_map (widened_corners half) (edges_from from xs)) (drop-cons rest i d inside) in
    let other : widened_corners half (from, get_or rest i d) ++ flat_map (widened_corners half) (edges_from (get_or rest i d) (drop (suc i) rest)) ≡ widened_corners half (from, get_or rest i d) ++ flat_map (widened_corners half) (edges_from (get_or rest i d) (drop (i + 1) rest)) =
    ap (λ n. widened_corners half (from, get_or rest i d) ++ flat_map (widened_corners half) (edges_from (get_or rest i d) (drop n rest))) (sym (add-one i)) in
    one ∙ other

pub wire_step : (half : ℤ) (points now whole : List Point) (from : Point) (rest : List Point) (i : ℕ) (d : Point) (rect : Rect) → i < length rest → rect ≡ widened half (from, get_or rest i d) → now ≡ points ++ rect_corners rect
    → points ++ flat_map (λ s. rect_corners (widened half s)) (edges_from from (drop i rest)) ≡ whole → now ++ flat_map (λ s. rect_corners (widened half s)) (edges_from (get_or rest i d) (drop (i + 1) rest)) ≡ whole
wire_step half points now whole from rest i d rect inside wide is h =
    let more : List Point = flat_map (widened_corners half) (edges_from (get_or rest i d) (drop (i + 1) rest)) in
    let here : List Point = widened_corners half (from, get_or rest i d) in
    let longer : now ≡ points ++ here = is ∙ ap (λ w. points ++ rect_corners w) wide in
    let apart : (points ++ here) ++ more ≡ points ++ (here ++ more) = append_assoc points here more in
    ap (λ r. r ++ more) longer ∙ apart ∙ ap (λ r. points ++ r) (sym (edge_more half from rest i d inside)) ∙ h

none_left : (rest : List Point) (i : ℕ) → length rest ≤ i → drop i rest ≡ []
none_left [] zero h = refl
none_left [] (suc i) h = refl
none_left (p ∷ rest) zero h = absurd (omega (arith, h))
none_left (p ∷ rest) (suc i) h = none_left rest i (omega (arith, h))

some_segments : (p : Point) (rest : List Point) → (length rest == 0) ≡ false → segments (p ∷ rest) ≡ edges_from p rest
some_segments p [] h = absurd (true_false h)
  where
    true_false : true ≡ false → ⊥
    true_false e = cc
some_segments p (q ∷ rest) h = refl

pub wire_end : (half given : ℤ) (points old path : List Point) (p from : Point) (rest : List Point) (i : ℕ) → given ≡ half → path ≡ p ∷ rest → (length rest == 0) ≡ false → length rest ≤ i
    → points ++ flat_map (λ s. rect_corners (widened given s)) (edges_from from (drop i rest)) ≡ old ++ flat_map (λ s. rect_corners (widened given s)) (edges_from p rest)
    → points ≡ old ++ flat_map (λ s. rect_corners (widened half s)) (segments path)
wire_end half given points old path p from rest i same is some whole h =
    sym (append-nil points)
    ∙ ap (λ xs. points ++ flat_map (widened_corners given) (edges_from from xs)) (sym (none_left rest i whole))
    ∙ h
    ∙ (λ j. old ++ flat_map (widened_corners (same j)) (sym (some_segments p rest some) j))
    ∙ ap (λ xs. old ++ flat_map (widened_corners half) (segments xs)) (sym is)
