-- The transformations of a call.
use Rattle.std.proofs.Common.{◌≡◌, ℕ, suc, zero, ◌+◌, ◌<◌, ◌≤◌, Bool, false, ◌||◌, ◌&&◌, List, [], ◌∷◌, ◌++◌, length, get_or, drop, take, map, refl, sym, ap, subst, ◌∙◌, arith, add-one, append_assoc, append-nil}
use Rattle.std.specs.Prelude.{ℤ, flat_map}
use Rattle.std.specs.List.{list_any, list_all}
use Rattle.std.proofs.lemmas.List.{take_all, drop_all}
use Rattle.std.proofs.Math.Seq.{drop-cons}
use Rattle.std.proofs.lemmas.Bool.{or_parts}
use Rattle.plane_geom.proofs.Lists.{any_map}
use Rattle.cif_reader.specs.Faults.{is_large, of_transform}
use Rattle.std.proofs.lemmas.List.Folds.{list_all-map, list_any-append, list_all-append}
use Rattle.plane_geom.specs.declared.shapes.Point.{Point}
use Rattle.plane_geom.specs.declared.places.Place.{Place}
use Rattle.plane_geom.specs.Placement.{moved, placed, IsPlaceOf}
use Rattle.plane_geom.proofs.Turning.{moved-append, IsPlaceOf-append}
use Rattle.cif_grammar.specs.declared.spelled.Transformation.{Transformation}
use Rattle.cif_grammar.specs.Seen.{transform_of}
use Rattle.cif_reader.specs.declared.measure.Scale.{Scale}
use Rattle.cif_reader.specs.Measure.{is_whole, is_turn, has_turns, shifts_once, steps_once, steps_of}
use Rattle.cif_reader.specs.Near.{turns_once}

pub turns_map : (ts : List Transformation) → list_all (λ t. is_turn (transform_of t)) ts ≡ has_turns (map transform_of ts)
turns_map ts = sym (list_all-map is_turn transform_of ts)

-- ---- tests of all that a list of lists has

pub any_flat : {X Y : Type 0} (t : Y → Bool) (f : X → List Y) (xs : List X) → list_any t (flat_map f xs) ≡ list_any (λ x. list_any t (f x)) xs
any_flat t f [] = refl
any_flat t f (x ∷ xs) = list_any-append t (f x) (flat_map f xs) ∙ ap (λ r. list_any t (f x) || r) (any_flat t f xs)

pub all_flat : {X Y : Type 0} (t : Y → Bool) (f : X → List Y) (xs : List X) → list_all t (flat_map f xs) ≡ list_all (λ x. list_all t (f x)) xs
all_flat t f [] = refl
all_flat t f (x ∷ xs) = list_all-append t (f x) (flat_map f xs) ∙ ap (λ r. list_all t (f x) && r) (all_flat t f xs)

pub shifts_map : (s : Scale) (ts : List Transformation) → list_all (λ t. list_all (is_whole s) (shifts_once (transform_of t))) ts ≡ list_all (is_whole s) (flat_map shifts_once (map transform_of ts))
shifts_map s ts = sym (all_flat (is_whole s) shifts_once (map transform_of ts) ∙ list_all-map (λ t. list_all (is_whole s) (shifts_once t)) transform_of ts)

pub none_at : {X : Type 0} (t : X → Bool) (xs : List X) (i : ℕ) (d : X) → list_any t xs ≡ false → i < length xs → t (get_or xs i d) ≡ false
none_at t [] i d h lt = absurd (omega arith)
none_at t (x ∷ xs) zero d h lt = (or_parts (t x) (list_any t xs) h).0
none_at t (x ∷ xs) (suc i) d h lt = none_at t xs i d (or_parts (t x) (list_any t xs) h).1 (omega arith)

-- No number of a transformation is large where none of all is.
pub one_small : (ts : List Transformation) (i : ℕ) (d : Transformation) → list_any is_large (flat_map of_transform (map transform_of ts)) ≡ false → i < length ts → list_any is_large (of_transform (transform_of (get_or ts i d))) ≡ false
one_small ts i d h lt =
    none_at (λ t. list_any is_large (of_transform (transform_of t))) ts i d
    (sym (any_flat is_large of_transform (map transform_of ts) ∙ any_map (λ t. list_any is_large (of_transform t)) transform_of ts) ∙ h) lt

-- ---- the composed shift, step by step

point_is : (p : Point) (x y : ℤ) → x ≡ p.x → y ≡ p.y → p ≡ record { x = x; y = y }
point_is p x y ex ey = λ i. record { x = sym ex i; y = sym ey i }

pub shift_step : (ts : List Transformation) (i : ℕ) (d : Transformation) (x y x' y' : ℤ) (end : Point) → i < length ts
    → end ≡ moved (steps_of (λ z. z) (map transform_of (drop i ts))) (record { x = x; y = y })
    → x' ≡ (moved (steps_once (λ z. z) (transform_of (get_or ts i d))) (record { x = x; y = y })).x
    → y' ≡ (moved (steps_once (λ z. z) (transform_of (get_or ts i d))) (record { x = x; y = y })).y
    → end ≡ moved (steps_of (λ z. z) (map transform_of (drop (i + 1) ts))) (record { x = x'; y = y' })
shift_step ts i d x y x' y' end h e ex ey =
    let t : Transformation = get_or ts i d in
    let rest : List Transformation = drop (suc i) ts in
    e ∙ ap (λ r. moved (steps_of (λ z. z) (map transform_of r)) (record { x = x; y = y })) (drop-cons ts i d h)
    ∙ moved-append (steps_once (λ z. z) (transform_of t)) (steps_of (λ z. z) (map transform_of rest)) (record { x = x; y = y })
    ∙ ap (moved (steps_of (λ z. z) (map transform_of rest))) (point_is (moved (steps_once (λ z. z) (transform_of t)) (record { x = x; y = y })) x' y' ex ey)
    ∙ ap (λ n. moved (steps_of (λ z. z) (map transform_of (drop n ts))) (record { x = x'; y = y' })) (sym (add-one i))

pub shift_end : (ts : List Transformation) (i : ℕ) (x y : ℤ) (end : Point) → length ts ≤ i → end ≡ moved (steps_of (λ z. z) (map transform_of (drop i ts))) (record { x = x; y = y }) → end ≡ record { x = x; y = y }
shift_end ts i x y end h e = e ∙ ap (λ r. moved (steps_of (λ z. z) (map transform_of r)) (record { x = x; y = y })) (drop_all i ts h)

-- ---- turns, one after the other

turns_more : (ts : List Transformation) (i : ℕ) (d : Transformation) → i < length ts → flat_map turns_once (map transform_of (take (i + 1) ts)) ≡ flat_map turns_once (map transform_of (take i ts)) ++ turns_once (transform_of (get_or ts i d))
turns_more [] i d h = absurd (omega arith)
turns_more (t ∷ ts) zero d h = append-nil (turns_once (transform_of t))
turns_more (t ∷ ts) (suc i) d h =
    ap (λ n. flat_map turns_once (map transform_of (take n (t ∷ ts)))) (add-one (suc i))
    ∙ ap (λ n. turns_once (transform_of t) ++ flat_map turns_once (map transform_of (take n ts))) (sym (add-one i))
    ∙ ap (λ r. turns_once (transform_of t) ++ r) (turns_more ts i d (omega arith))
    ∙ sym (append_assoc (turns_once (transform_of t)) (flat_map turns_once (map transform_of (take i ts))) (turns_once (transform_of (get_or ts i d))))

pub turn_step : (ts : List Transformation) (i : ℕ) (d : Transformation) (a b made : Place) → i < length ts
    → IsPlaceOf (flat_map turns_once (map transform_of (take i ts))) a → IsPlaceOf (turns_once (transform_of (get_or ts i d))) b
    → ((p : Point) → placed made p ≡ placed b (placed a p)) → IsPlaceOf (flat_map turns_once (map transform_of (take (i + 1) ts))) made
turn_step ts i d a b made h pa pb then =
    subst (λ ss. IsPlaceOf ss made) (sym (turns_more ts i d h)) (IsPlaceOf-append (flat_map turns_once (map transform_of (take i ts))) (turns_once (transform_of (get_or ts i d))) a b made pa pb then)

pub turn_end : (ts : List Transformation) (i : ℕ) (a : Place) → length ts ≤ i → IsPlaceOf (flat_map turns_once (map transform_of (take i ts))) a → IsPlaceOf (flat_map turns_once (map transform_of ts)) a
turn_end ts i a h p = subst (λ r. IsPlaceOf (flat_map turns_once (map transform_of r)) a) (take_all i ts h) p
