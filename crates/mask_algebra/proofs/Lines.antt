-- The masks of the lines of a map, one by one.
use Rattle.std.proofs.Common.{◌≡◌, ℕ, ◌+◌, ◌<◌, ◌^◌, List, [], ◌∷◌, ◌++◌, refl, length, map, take, get_or, subst, sym, ap, ◌∙◌}
use Rattle.std.specs.List.{AllByRecursion, AllZip}
use Rattle.std.proofs.lemmas.List.{map-append, take_more}
use Rattle.std.proofs.lemmas.List.Elements.{All-push}
use Rattle.cif_flatten.specs.declared.flat.Draw.{Draw}
use Rattle.layer_map.specs.Truth.{Formula}
use Rattle.mask_region.specs.declared.strips.Strip.{Strip}
use Rattle.mask_region.specs.Strips.{AreStripsWithin}
use Rattle.mask_algebra.specs.Masks.{IsMask, AreMasks}
use Rattle.mask_algebra.specs.Layers.{AreMade}

zip_push : (draws : List Draw) (fs : List Formula) (rs : List (List Strip)) (f : Formula) (r : List Strip) → AllZip (IsMask draws) fs rs → IsMask draws f r → AllZip (IsMask draws) (fs ++ f ∷ []) (rs ++ r ∷ [])
zip_push draws [] [] f r h m = (m, h)
zip_push draws [] (s ∷ rs) f r h m = absurd h
zip_push draws (g ∷ fs) [] f r h m = absurd h
zip_push draws (g ∷ fs) (s ∷ rs) f r h m = (h.0, zip_push draws fs rs f r h.1 m)

pub made_more : {L : Type 0} (canvas next draws : List Draw) (formula : L → Formula) (lines : List L) (k : ℕ) (d : L) (regions : List (List Strip)) (r : List Strip) → k < length lines → d ≡ get_or lines k d
    → AreMade canvas draws (map formula (take k lines)) regions → next ≡ canvas → IsMask canvas (formula d) r → AreStripsWithin (2 ^ 24) r → AreMade next draws (map formula (take (k + 1) lines)) (regions ++ r ∷ [])
made_more canvas next draws formula lines k d regions r lt is h same mask near =
    record {
      same = same ∙ h.same;
      masks = record {
        each = subst (λ fs. AllZip (IsMask draws) fs (regions ++ r ∷ []))
            (sym (ap (map formula) (take_more lines k d lt) ∙ map-append formula (take k lines) (get_or lines k d ∷ [])))
            (zip_push draws (map formula (take k lines)) regions (formula (get_or lines k d)) r h.masks.each (subst (λ ds. IsMask ds (formula (get_or lines k d)) r) h.same (subst (λ l. IsMask canvas (formula l) r) is mask)));
      };
      near = record { each = All-push (AreStripsWithin (2 ^ 24)) regions r h.near.each near };
    }

-- ---- the lines as contracts see them

map_map : {A B C : Type 0} (f : B → C) (g : A → B) (xs : List A) → map f (map g xs) ≡ map (λ x. f (g x)) xs
map_map f g [] = refl
map_map f g (x ∷ xs) = ap (λ ys. f (g x) ∷ ys) (map_map f g xs)

pub masks_seen : {A B : Type 0} (draws given : List Draw) (seen : A → B) (formula : B → Formula) (lines : List A) (plan : List B) (made regions : List (List Strip)) → given ≡ draws → map seen lines ≡ plan → made ≡ regions
    → AreMasks given (map (λ l. formula (seen l)) lines) regions → AreMasks draws (map formula plan) made
masks_seen draws given seen formula lines plan made regions same lines_are made_are h =
    subst (λ ds. AreMasks ds (map formula plan) made) same
    (subst (λ rs. AreMasks given (map formula plan) rs) (sym made_are)
    (subst (λ fs. AreMasks given fs regions) (sym (map_map formula seen lines) ∙ ap (map formula) lines_are) h))

all_seen : {A B : Type 0} (P : B → Type 0) (Q : A → Type 0) (seen : A → B) → ((a : A) → P (seen a) → Q a) → (lines : List A) → AllByRecursion P (map seen lines) → AllByRecursion Q lines
all_seen P Q seen each [] h = tt
all_seen P Q seen each (l ∷ lines) h = (each l h.0, all_seen P Q seen each lines h.1)

-- What holds of each line that contracts see holds of each line.
pub lines_all : {A B : Type 0} (P : B → Type 0) (Q : A → Type 0) (seen : A → B) → ((a : A) → P (seen a) → Q a) → (lines : List A) (plan : List B) → map seen lines ≡ plan → AllByRecursion P plan → AllByRecursion Q lines
lines_all P Q seen each lines plan are h = all_seen P Q seen each lines (subst (AllByRecursion P) (sym are) h)
