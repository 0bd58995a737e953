-- The regions of all wires: where each begins in the list of all strips.
use Rattle.std.proofs.Common.{◌≡◌, ℕ, ◌+◌, ◌<◌, ◌≤◌, ◌⊎◌, List, [], ◌∷◌, ◌++◌, length, take, get_or, refl, sym, ap, ◌∙◌, subst, arith, inl, inr, slice_get, slice_index, Some}
use Rattle.std.specs.Prelude.{ℤ}
use Rattle.std.proofs.lemmas.Bool.{cases_order}
use Rattle.std.proofs.lemmas.List.{get_or_push, get_or_append_left, length_push, take_more, take_all, length-take-le}
use Rattle.std.proofs.lemmas.Option.{slice_get_read, get_or_from_slice_get, slice_get_within, slice_get-get_or}
use Rattle.link_classes.proofs.UniqueNumbers.{some_one}
use Rattle.mask_region.specs.declared.strips.Strip.{Strip}
use Rattle.mask_region.specs.Strips.{Banded, HasCellAt}
use Rattle.net_trace.specs.declared.wiring.Vertex.{Vertex}
use Rattle.net_trace.specs.Nets.{node_at}
use Rattle.net_trace.specs.Wirings.{strips_of, vertices_of, start_of, AreStarts, AreAllBanded, IsVertexAt}
use Rattle.net_trace.proofs.VertexLists.{vertices_more}
use Rattle.net_trace.proofs.VertexFacts.{found_at}

pub found_index : (wires : List (List Strip)) (starts : List ℕ) (w k start : ℕ) (r : List Strip) (x y : ℤ) → AreStarts wires starts (length wires) → w < length wires → r ≡ get_or wires w r
    → HasCellAt r x y k → start ≡ get_or starts w start → IsVertexAt (vertices_of 0 wires) (node_at w x y) (start + k)
found_index wires starts w k start r x y h lt is cell begins =
    let at : slice_get wires w ≡ Some r = slice_get_read wires (length wires) w r refl lt is in
    let begin : start ≡ start_of wires w = begins ∙ same_default starts w start 0 (omega (arith, lt, h.each)) ∙ h.at w lt in
    subst (λ n. IsVertexAt (vertices_of 0 wires) (node_at w x y) (n + k)) (sym begin) (found_at wires w r x y k at cell)
  where
    same_default : (xs : List ℕ) (i d e : ℕ) → i < length xs → get_or xs i d ≡ get_or xs i e
    same_default xs i d e lt = get_or_from_slice_get xs i (get_or xs i e) d (slice_get-get_or xs i e lt)

-- The strips of the first wires are in the list, and their starts.
pub record AreLaid (wires : List (List Strip)) (vertices : List Vertex) (starts : List ℕ) (n : ℕ) : Type 0 where
  pub in_range : n ≤ length wires
  pub all : vertices ≡ vertices_of 0 (take n wires)
  pub begun : AreStarts wires starts n
  pub banded : (w : ℕ) (r : List Strip) → w < n → slice_get wires w ≡ Some r → Banded r

pub laid_none : (wires : List (List Strip)) → AreLaid wires [] [] 0
laid_none wires = record {
  in_range = omega arith;
  all = refl;
  begun = record { each = refl; at = λ w lt. absurd (omega (arith, lt)) };
  banded = λ w r lt at. absurd (omega (arith, lt));
}

pub laid_more : (wires : List (List Strip)) (vertices more : List Vertex) (starts begun : List ℕ) (n : ℕ) (r : List Strip) → AreLaid wires vertices starts n → n < length wires → r ≡ get_or wires n r → Banded r
    → begun ≡ starts ++ length vertices ∷ [] → more ≡ vertices ++ strips_of n r → AreLaid wires more begun (n + 1)
laid_more wires vertices more starts begun n r h lt is banded starts_is more_is = record {
  in_range = omega (arith, lt);
  all = more_is ∙ ap (λ l. l ++ strips_of n r) h.all ∙ sym (vertices_more 0 (take n wires) r ∙ ap (λ m. vertices_of 0 (take n wires) ++ strips_of m r) count) ∙ ap (λ l. vertices_of 0 l) (sym taken);
  begun = record {
    each = ap (λ l. length l) starts_is ∙ length_push starts (length vertices) ∙ ap (λ m. m + 1) h.begun.each;
    at = λ w less. ap (λ l. slice_index l w) starts_is ∙ by_place w less (cases_order w n);
  };
  banded = λ w q less at. wire_banded w q less at (cases_order w n);
} where
  count : 0 + length (take n wires) ≡ n
  count = omega (arith, length-take-le n wires (omega (arith, lt)))

  taken : take (n + 1) wires ≡ take n wires ++ r ∷ []
  taken = take_more wires n r lt ∙ ap (λ q. take n wires ++ q ∷ []) (sym is)

  by_place : (w : ℕ) → w < n + 1 → (w ≡ n) ⊎ ((w < n) ⊎ (n < w)) → slice_index (starts ++ length vertices ∷ []) w ≡ start_of wires w
  by_place w less (inl same) = get_or_push starts (length vertices) 0 w (h.begun.each ∙ sym same) ∙ ap (λ l. length l) h.all ∙ ap (λ m. start_of wires m) (sym same)
  by_place w less (inr (inl before)) = get_or_append_left starts (length vertices ∷ []) 0 w (omega (arith, before, h.begun.each)) ∙ h.begun.at w before
  by_place w less (inr (inr after)) = absurd (omega (arith, less, after))

  wire_banded : (w : ℕ) (q : List Strip) → w < n + 1 → slice_get wires w ≡ Some q → (w ≡ n) ⊎ ((w < n) ⊎ (n < w)) → Banded q
  wire_banded w q less at (inl same) = subst Banded (some_one r q (sym (slice_get_read wires (length wires) n r refl lt is) ∙ ap (λ m. slice_get wires m) (sym same) ∙ at)) banded
  wire_banded w q less at (inr (inl before)) = h.banded w q before at
  wire_banded w q less at (inr (inr after)) = absurd (omega (arith, less, after))

pub laid_all : (wires : List (List Strip)) (vertices : List Vertex) (starts : List ℕ) (n : ℕ) → AreLaid wires vertices starts n → length wires ≤ n
    → (vertices ≡ vertices_of 0 wires) × AreStarts wires starts (length wires) × AreAllBanded wires
laid_all wires vertices starts n h le =
    let whole : n ≡ length wires = omega (arith, h.in_range, le) in
    (h.all ∙ ap (λ l. vertices_of 0 l) (take_all n wires le), subst (λ m. AreStarts wires starts m) whole h.begun, record { each = λ w r at. h.banded w r (omega (arith, le, slice_get_within wires w r at)) at })

pub moved_list : (from to : List (List Strip)) (w : ℕ) (r : List Strip) → from ≡ to → w < length from → r ≡ get_or from w r → (w < length to) × (r ≡ get_or to w r)
moved_list from to w r same lt is = (subst (λ (l : List (List Strip)). w < length l) same lt, subst (λ (l : List (List Strip)). r ≡ get_or l w r) same is)

pub wire_at : (from to : List (List Strip)) (w : ℕ) (r : List Strip) → from ≡ to → w < length from → r ≡ get_or from w r → slice_get to w ≡ Some r
wire_at from to w r same lt is = let at = moved_list from to w r same lt is in slice_get_read to (length to) w r refl at.0 at.1
