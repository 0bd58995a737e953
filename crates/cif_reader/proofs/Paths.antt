-- Points one by one, and the path that they make.
use Rattle.std.proofs.Common.{◌≡◌, ℕ, suc, zero, ◌+◌, ◌<◌, ◌≤◌, Bool, true, false, ◌||◌, ◌&&◌, List, [], ◌∷◌, ◌++◌, length, get_or, add-one, take, map, refl, sym, ap, subst, ◌∙◌, arith, Option, if◌then◌else◌}
use Rattle.std.specs.Prelude.{pos, ◌*ℤ◌, flat_map, is_some, Some, None}
use Rattle.std.specs.List.{list_any, list_all}
use Rattle.std.specs.Ordering.{int_eq}
use Rattle.std.proofs.lemmas.List.{take_all}
use Rattle.std.proofs.lemmas.Bool.{or_parts}
use Rattle.std.proofs.lemmas.Bool.Decides.{Decides-int_eq}
use Rattle.plane_geom.specs.declared.shapes.Point.{Point}
use Rattle.plane_geom.specs.Covering.{is_along, edges_from, segments}
use Rattle.cif_grammar.specs.declared.spelled.Spot.{Spot}
use Rattle.cif_reader.specs.declared.measure.Scale.{Scale}
use Rattle.cif_reader.specs.Measure.{point_of, doubled, scaled_point, is_far, is_whole}
use Rattle.cif_reader.specs.Near.{is_spot_far, is_spot_whole, end_along}
use Rattle.cif_reader.proofs.Transforming.{none_at}
use Rattle.cif_reader.proofs.Bools.{or_two, and_two}

-- ---- the measures of points

pub any_doubled : (s : Scale) (ps : List Spot) → list_any (is_spot_far s) ps ≡ list_any (is_far s) (flat_map doubled (map point_of ps))
any_doubled s [] = refl
any_doubled s (p ∷ ps) =
    ap (λ r. is_spot_far s p || r) (any_doubled s ps)
    ∙ or_two (is_far s (pos 2 *ℤ (point_of p).x)) (is_far s (pos 2 *ℤ (point_of p).y)) (list_any (is_far s) (flat_map doubled (map point_of ps)))

pub all_doubled : (s : Scale) (ps : List Spot) → list_all (is_spot_whole s) ps ≡ list_all (is_whole s) (flat_map doubled (map point_of ps))
all_doubled s [] = refl
all_doubled s (p ∷ ps) =
    ap (λ r. is_spot_whole s p && r) (all_doubled s ps)
    ∙ and_two (is_whole s (pos 2 *ℤ (point_of p).x)) (is_whole s (pos 2 *ℤ (point_of p).y)) (list_all (is_whole s) (flat_map doubled (map point_of ps)))

pub far_path : (s : Scale) (p : Spot) (ps : List Spot) (e f : Bool) → e ≡ false → e ≡ is_spot_far s p → f ≡ list_any (is_spot_far s) ps → f ≡ list_any (is_far s) (flat_map doubled (map point_of (p ∷ ps)))
far_path s p ps e f none here rest = rest ∙ ap (λ x. x || list_any (is_spot_far s) ps) (sym none ∙ here) ∙ any_doubled s (p ∷ ps)

pub whole_path : (s : Scale) (p : Spot) (ps : List Spot) (e f : Bool) → e ≡ true → e ≡ is_spot_whole s p → f ≡ list_all (is_spot_whole s) ps → f ≡ list_all (is_whole s) (flat_map doubled (map point_of (p ∷ ps)))
whole_path s p ps e f all here rest = rest ∙ ap (λ x. x && list_all (is_spot_whole s) ps) (sym all ∙ here) ∙ all_doubled s (p ∷ ps)

-- No point of a path that isn't far is.
pub spot_near : (s : Scale) (p : Spot) (ps : List Spot) (i : ℕ) (d : Spot) → list_any (is_far s) (flat_map doubled (map point_of (p ∷ ps))) ≡ false → i < length ps → is_spot_far s (get_or ps i d) ≡ false
spot_near s p ps i d h lt = none_at (is_spot_far s) ps i d (or_parts (is_spot_far s p) (list_any (is_spot_far s) ps) (any_doubled s (p ∷ ps) ∙ h)).1 lt

-- the same of a list that is lent
pub lent_near : (s : Scale) (p : Spot) (ps lent : List Spot) (i : ℕ) (d : Spot) → lent ≡ ps → list_any (is_far s) (flat_map doubled (map point_of (p ∷ ps))) ≡ false → i < length lent → is_spot_far s (get_or lent i d) ≡ false
lent_near s p ps lent i d e h lt = spot_near s p lent i d (ap (λ r. list_any (is_far s) (flat_map doubled (map point_of (p ∷ r)))) e ∙ h) lt

pub first_near : (s : Scale) (p : Spot) (ps : List Spot) → list_any (is_far s) (flat_map doubled (map point_of (p ∷ ps))) ≡ false → is_spot_far s p ≡ false
first_near s p ps h = (or_parts (is_spot_far s p) (list_any (is_spot_far s) ps) (any_doubled s (p ∷ ps) ∙ h)).0

-- ---- edges

abbrev pub ends_along : Spot → Option Spot → Bool
ends_along first None = false
ends_along first (Some last) = is_along (point_of last, point_of first)

step_closing : (first : Spot) (t : Bool) (r : Option Spot) (rest : Bool) → rest ≡ ends_along first r → (t && rest) ≡ ends_along first (if t then r else None)
step_closing first true r rest h = h
step_closing first false r rest h = refl

-- the closing edge
pub closing_along : (first p : Spot) (qs : List Spot) → list_all is_along (edges_from (point_of p) (map point_of qs ++ point_of first ∷ [])) ≡ ends_along first (end_along p qs)
closing_along first p [] = last_only (is_along (point_of p, point_of first)) where
  last_only : (t : Bool) → (t && true) ≡ t
  last_only true = refl
  last_only false = refl
closing_along first p (q ∷ qs) = step_closing first (is_along (point_of p, point_of q)) (end_along q qs) _ (closing_along first q qs)

step_some : (t : Bool) (r : Option Spot) (rest : Bool) → rest ≡ is_some r → (t && rest) ≡ is_some (if t then r else None)
step_some true r rest h = h
step_some false r rest h = refl

pub edges_along : (p : Spot) (qs : List Spot) → list_all is_along (edges_from (point_of p) (map point_of qs)) ≡ is_some (end_along p qs)
edges_along p [] = refl
edges_along p (q ∷ qs) = step_some (is_along (point_of p, point_of q)) (end_along q qs) _ (edges_along q qs)

pub segments_along : (p : Spot) (qs : List Spot) → is_some (end_along p qs) ≡ list_all is_along (segments (map point_of (p ∷ qs)))
segments_along p [] = sym (still (int_eq (point_of p).x (point_of p).x) (int_eq (point_of p).y (point_of p).y) ((Decides-int_eq (point_of p).x (point_of p).x).1 refl)) where
  still : (a b : Bool) → a ≡ true → ((a || b) && true) ≡ true
  still true b h = refl
  still false b h = absurd (cc)
segments_along p (q ∷ qs) = sym (edges_along p (q ∷ qs))

-- ---- points in mask units

map_more : (f : Spot → Point) (ps : List Spot) (i : ℕ) (d : Spot) → i < length ps → map f (take (i + 1) ps) ≡ map f (take i ps) ++ f (get_or ps i d) ∷ []
map_more f [] i d h = absurd (omega arith)
map_more f (p ∷ ps) zero d h = refl
map_more f (p ∷ ps) (suc i) d h = rw (add-one (suc i)) (rw (add-one i) at (ap (λ r. f p ∷ r) (map_more f ps i d (omega arith))))

pub path_more : (s : Scale) (p : Spot) (ps lent : List Spot) (i : ℕ) (d : Spot) (made more : List Point) (q : Point) → lent ≡ ps → i < length lent → made ≡ map (λ r. scaled_point s (point_of r)) (p ∷ take i ps) → q ≡ scaled_point s (point_of (get_or lent i d)) → more ≡ made ++ q ∷ [] → more ≡ map (λ r. scaled_point s (point_of r)) (p ∷ take (i + 1) ps)
path_more s p ps lent i d made more q e h is next grown =
    let f : Spot → Point = λ r. scaled_point s (point_of r) in
    grown ∙ ap (λ r. made ++ r ∷ []) next ∙ ap (λ r. r ++ f (get_or lent i d) ∷ []) is ∙ ap (λ r. (f p ∷ map f (take i r)) ++ f (get_or lent i d) ∷ []) (sym e)
    ∙ sym (ap (λ r. f p ∷ r) (map_more f lent i d h)) ∙ ap (λ r. f p ∷ map f (take (i + 1) r)) e

maps_twice : (s : Scale) (ps : List Spot) → map (λ q. scaled_point s (point_of q)) ps ≡ map (scaled_point s) (map point_of ps)
maps_twice s [] = refl
maps_twice s (p ∷ ps) = ap (λ r. scaled_point s (point_of p) ∷ r) (maps_twice s ps)

pub path_end : (s : Scale) (p : Spot) (ps lent : List Spot) (i : ℕ) (made : List Point) → lent ≡ ps → length lent ≤ i → made ≡ map (λ q. scaled_point s (point_of q)) (p ∷ take i ps) → made ≡ map (scaled_point s) (map point_of (p ∷ ps))
path_end s p ps lent i made e h is = is ∙ ap (λ r. map (λ q. scaled_point s (point_of q)) (p ∷ r)) (take_all i ps (subst (λ r. length r ≤ i) e h)) ∙ maps_twice s (p ∷ ps)
