-- What stands behind a word is no longer than what begins with it, and shorter where the word has a byte.
use Rattle.std.proofs.Common.{◌≡◌, ℕ, ◌<◌, ◌≤◌, ◌==◌, Bool, true, false, cond, List, [], ◌∷◌, length, Option, Some, None, option_map, ap, arith}
use Rattle.std.specs.List.{prefix_len}
use Rattle.std.specs.Char.{is_ascii_digit}
use Rattle.std.proofs.lemmas.List.{length-drop}
use Rattle.plane_geom.proofs.Options.{bind_some, map_some, guarded}
use Rattle.cif_grammar.specs.declared.spelled.Number.{Number}
use Rattle.cif_grammar.specs.declared.spelled.Signed.{Signed}
use Rattle.cif_grammar.specs.declared.spelled.Spot.{Spot}
use Rattle.cif_grammar.specs.Words.{is_blank, is_sep, skip}
use Rattle.cif_grammar.specs.Grammar.{Transform, translate, mirror_x, mirror_y, rotate}
use Rattle.cif_grammar.specs.Readers.{behind, digits_at, sized_at, signed_in, signed_at, point_at, next_point_at, mirror_in, transform_in, transform_at}

pair_is : {A B : Type 0} (a c : A) (b d : B) → ◌≡◌ {A = Option (A × B)} (Some (a, b)) (Some (c, d)) → (a ≡ c) × (b ≡ d)
pair_is {A} {B} a c b d h =
    let same : ◌≡◌ {A = A × B} (a, b) (c, d) = cc in
    (ap (λ (x : A × B). x.0) same, ap (λ (x : A × B). x.1) same)

pub skip_shorter : (test : ℕ → Bool) (bytes : List ℕ) → length (skip test bytes) ≤ length bytes
skip_shorter test bytes = omega (arith, length-drop (prefix_len test bytes) bytes)

behind_shorter : (test : ℕ → Bool) (bytes rest : List ℕ) → behind test bytes ≡ Some rest → length rest < length bytes
behind_shorter test [] rest h = cc
behind_shorter test (b ∷ bs) rest h = let got = guarded (test b) bs rest h in omega (arith, ap length got.1)

digits_case : (t : Bool) (n m : Number) (back rest : List ℕ) → cond {A = Option (Number × List ℕ)} t None (Some (n, back)) ≡ Some (m, rest) → back ≡ rest
digits_case true n m back rest h = cc
digits_case false n m back rest h = (pair_is n m back rest h).1

digits_shorter : (total : ℕ) (bytes : List ℕ) (n : Number) (rest : List ℕ) → digits_at total bytes ≡ Some (n, rest) → length rest ≤ length bytes
unfolding digits_at
digits_shorter total bytes n rest h =
    let same = digits_case (prefix_len is_ascii_digit bytes == 0) _ n (skip is_ascii_digit bytes) rest h in
    omega (arith, ap length same, skip_shorter is_ascii_digit bytes)

sized_shorter : (total : ℕ) (minus : Bool) (bytes : List ℕ) (s : Signed) (rest : List ℕ) → sized_at total minus bytes ≡ Some (s, rest) → length rest ≤ length bytes
sized_shorter total minus bytes s rest h =
    let n = bind_some (digits_at total bytes) _ (s, rest) h in
    let same = pair_is _ s n.0.1 rest n.2 in
    omega (arith, ap length same.1, digits_shorter total bytes n.0.0 n.0.1 n.1)

signed_case : (total : ℕ) (b : ℕ) (bs : List ℕ) (t : Bool) (s : Signed) (rest : List ℕ) → cond {A = Option (Signed × List ℕ)} t (sized_at total true bs) (sized_at total false (b ∷ bs)) ≡ Some (s, rest) → length rest ≤ length (b ∷ bs)
signed_case total b bs true s rest h = omega (arith, sized_shorter total true bs s rest h)
signed_case total b bs false s rest h = sized_shorter total false (b ∷ bs) s rest h

signed_in_shorter : (total : ℕ) (bytes : List ℕ) (s : Signed) (rest : List ℕ) → signed_in total bytes ≡ Some (s, rest) → length rest ≤ length bytes
signed_in_shorter total [] s rest h = cc
signed_in_shorter total (b ∷ bs) s rest h = signed_case total b bs (b == 45) s rest h

signed_shorter : (total : ℕ) (bytes : List ℕ) (s : Signed) (rest : List ℕ) → signed_at total bytes ≡ Some (s, rest) → length rest ≤ length bytes
unfolding signed_at
signed_shorter total bytes s rest h = omega (arith, skip_shorter is_sep bytes, signed_in_shorter total (skip is_sep bytes) s rest h)

pub point_shorter : (total : ℕ) (bytes : List ℕ) (p : Spot) (rest : List ℕ) → point_at total bytes ≡ Some (p, rest) → length rest ≤ length bytes
unfolding point_at
point_shorter total bytes p rest h =
    let x = bind_some (signed_at total bytes) _ (p, rest) h in
    let sep = bind_some (behind is_sep x.0.1) _ (p, rest) x.2 in
    let y = bind_some (signed_at total sep.0) _ (p, rest) sep.2 in
    let same = pair_is _ p y.0.1 rest y.2 in
    omega (arith, signed_shorter total bytes x.0.0 x.0.1 x.1, behind_shorter is_sep x.0.1 sep.0 sep.1, signed_shorter total sep.0 y.0.0 y.0.1 y.1, ap length same.1)

pub next_point_shorter : (total : ℕ) (bytes : List ℕ) (p : Spot) (rest : List ℕ) → next_point_at total bytes ≡ Some (p, rest) → length rest < length bytes
unfolding next_point_at
next_point_shorter total bytes p rest h =
    let sep = bind_some (behind is_sep bytes) _ (p, rest) h in
    omega (arith, behind_shorter is_sep bytes sep.0 sep.1, point_shorter total sep.0 p rest sep.2)

mirror_case : (bs : List ℕ) (x y : Bool) (t : Transform) (rest : List ℕ) → cond {A = Option (Transform × List ℕ)} x (Some (mirror_x, bs)) (cond y (Some (mirror_y, bs)) None) ≡ Some (t, rest) → bs ≡ rest
mirror_case bs true y t rest h = (pair_is _ t bs rest h).1
mirror_case bs false true t rest h = (pair_is _ t bs rest h).1
mirror_case bs false false t rest h = cc

mirror_shorter : (bytes : List ℕ) (t : Transform) (rest : List ℕ) → mirror_in bytes ≡ Some (t, rest) → length rest ≤ length bytes
mirror_shorter [] t rest h = cc
mirror_shorter (b ∷ bs) t rest h = omega (arith, ap length (mirror_case bs (b == 88) (b == 89) t rest h))

placed_shorter : (total : ℕ) (make : Spot → Transform) (bytes : List ℕ) (t : Transform) (rest : List ℕ) → option_map {U = Transform × List ℕ} (λ p. (make p.0, p.1)) (point_at total bytes) ≡ Some (t, rest) → length rest ≤ length bytes
placed_shorter total make bytes t rest h =
    let p = map_some (λ (p : Spot × List ℕ). (make p.0, p.1)) (point_at total bytes) (t, rest) h in
    omega (arith, point_shorter total bytes p.0.0 p.0.1 p.1, ap (λ (x : Transform × List ℕ). length x.1) p.2)

transform_case : (total : ℕ) (bs : List ℕ) (x y z : Bool) (t : Transform) (rest : List ℕ) → cond {A = Option (Transform × List ℕ)} x (option_map (λ p. (translate p.0, p.1)) (point_at total bs)) (cond y (mirror_in (skip is_blank bs)) (cond z (option_map (λ d. (rotate d.0, d.1)) (point_at total bs)) None)) ≡ Some (t, rest) → length rest ≤ length bs
transform_case total bs true y z t rest h = placed_shorter total translate bs t rest h
transform_case total bs false true z t rest h = omega (arith, skip_shorter is_blank bs, mirror_shorter (skip is_blank bs) t rest h)
transform_case total bs false false true t rest h = placed_shorter total rotate bs t rest h
transform_case total bs false false false t rest h = cc

transform_in_shorter : (total : ℕ) (bytes : List ℕ) (t : Transform) (rest : List ℕ) → transform_in total bytes ≡ Some (t, rest) → length rest < length bytes
transform_in_shorter total [] t rest h = cc
transform_in_shorter total (b ∷ bs) t rest h = omega (arith, transform_case total bs (b == 84) (b == 77) (b == 82) t rest h)

pub transform_shorter : (total : ℕ) (bytes : List ℕ) (t : Transform) (rest : List ℕ) → transform_at total bytes ≡ Some (t, rest) → length rest < length bytes
unfolding transform_at
transform_shorter total bytes t rest h = omega (arith, skip_shorter is_blank bytes, transform_in_shorter total (skip is_blank bytes) t rest h)
