-- The counts of bindings.
use Rattle.std.proofs.Common.{◌≡◌, ◌+◌, Bool, true, false, List, [], ◌∷◌, is_some, not, ◌&&◌, refl, sym, ap, ◌∙◌, if◌then◌else◌}
use Rattle.std.specs.Prelude.{count_by}
use Rattle.std.specs.List.{AllZip}
use Rattle.std.proofs.lemmas.Bool.{and_from, and_left}
use Rattle.plane_geom.proofs.Counting.{count_cons}
use Rattle.cif_flatten.specs.declared.flat.Mark.{Mark}
use Rattle.layer_map.specs.Plan.{Plan}
use Rattle.net_trace.specs.Touching.{Nets}
use Rattle.layout_extract.specs.declared.bindings.Binding.{Binding}
use Rattle.layout_extract.specs.declared.bindings.Binding.TheVariants.{Deep, Unbound, Ambiguous, Bound}
use Rattle.layout_extract.specs.Labels.{label_wire, is_shallow, count_bound, count_unbound, count_deep}
use Rattle.layout_extract.specs.Binding.{IsBinding, HasWire}
use Rattle.layout_extract.specs.Tags.{is_deep, is_unbound, is_bound}

count_zip : {A B : Type 0} (R : A → B → Type 0) (p : A → Bool) (q : B → Bool) (same : (x : A) (y : B) → R x y → p x ≡ q y) (xs : List A) (ys : List B) → AllZip R xs ys → count_by p xs ≡ count_by q ys
count_zip R p q same [] [] h = refl
count_zip R p q same [] (y ∷ ys) h = absurd h
count_zip R p q same (x ∷ xs) [] h = absurd h
count_zip R p q same (x ∷ xs) (y ∷ ys) h =
    count_cons p x xs ∙ ap (λ n. (if p x then 1 else 0) + n) (count_zip R p q same xs ys h.1) ∙ ap (λ b. (if b then 1 else 0) + count_by q ys) (same x y h.0) ∙ sym (count_cons q y ys)

module _ (nets : Nets) (plan : Plan) where
  wired : (m : Mark) → HasWire nets plan m → (is_shallow m && is_some (label_wire nets plan m)) ≡ true
  wired m h = and_from (is_shallow m) (is_some (label_wire nets plan m)) h.shallow (ap (λ o. is_some o) h.is)

  unwired : (m : Mark) → HasWire nets plan m → (is_shallow m && not (is_some (label_wire nets plan m))) ≡ false
  unwired m h = ap (λ b. b && not (is_some (label_wire nets plan m))) h.shallow ∙ ap (λ o. not (is_some o)) h.is

  bound_is : (m : Mark) (b : Binding) → IsBinding nets plan m b → (is_shallow m && is_some (label_wire nets plan m)) ≡ is_bound b
  bound_is m Deep is = and_left (is_shallow m) (is_some (label_wire nets plan m)) is
  bound_is m Unbound is = ap (λ b. b && is_some (label_wire nets plan m)) is.shallow ∙ ap (λ o. is_some o) is.none
  bound_is m Ambiguous is = wired m is.0
  bound_is m (Bound w c) is = wired m is.0

  unbound_is : (m : Mark) (b : Binding) → IsBinding nets plan m b → (is_shallow m && not (is_some (label_wire nets plan m))) ≡ is_unbound b
  unbound_is m Deep is = and_left (is_shallow m) (not (is_some (label_wire nets plan m))) is
  unbound_is m Unbound is = ap (λ b. b && not (is_some (label_wire nets plan m))) is.shallow ∙ ap (λ o. not (is_some o)) is.none
  unbound_is m Ambiguous is = unwired m is.0
  unbound_is m (Bound w c) is = unwired m is.0

  deep_is : (m : Mark) (b : Binding) → IsBinding nets plan m b → not (is_shallow m) ≡ is_deep b
  deep_is m Deep is = ap (λ b. not b) is
  deep_is m Unbound is = ap (λ b. not b) is.shallow
  deep_is m Ambiguous is = ap (λ b. not b) is.0.shallow
  deep_is m (Bound w c) is = ap (λ b. not b) is.0.shallow

  module _ (marks : List Mark) (bindings : List Binding) (zip : AllZip (IsBinding nets plan) marks bindings) where
    pub bound_counted : count_by is_bound bindings ≡ count_bound nets plan marks
    bound_counted = sym (count_zip (IsBinding nets plan) (λ m. is_shallow m && is_some (label_wire nets plan m)) is_bound bound_is marks bindings zip)

    pub unbound_counted : count_by is_unbound bindings ≡ count_unbound nets plan marks
    unbound_counted = sym (count_zip (IsBinding nets plan) (λ m. is_shallow m && not (is_some (label_wire nets plan m))) is_unbound unbound_is marks bindings zip)

    pub deep_counted : count_by is_deep bindings ≡ count_deep marks
    deep_counted = sym (count_zip (IsBinding nets plan) (λ m. not (is_shallow m)) is_deep deep_is marks bindings zip)
