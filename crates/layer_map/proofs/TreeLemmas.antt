-- What the readers that make trees give, form by form.
use Rattle.std.proofs.Common.{◌≡◌, ℕ, ◌+◌, ◌-◌, ◌<◌, ◌≤◌, Bool, true, false, if◌then◌else◌, not, ◌||◌, List, [], ◌∷◌, ◌++◌, max, Option, Some, None, Result, IfOk, refl, sym, ap, ◌∙◌, subst, arith, append_assoc, nat_le, nat_lt}
use Rattle.std.specs.Option.{is_some}
use Rattle.std.specs.Str.{bytes_eq}
use Rattle.std.proofs.lemmas.Bool.{and_parts, leb-true, leb-false, le-leb, lt-leb, lt-ltb, le-ltb}
use Rattle.plane_geom.specs.Names.{is_short}
use Rattle.layer_map.specs.Building.{built, EndsProduct, EndsSum}
use Rattle.layer_map.specs.Grammar.{Factor, of_layer, inverse, group, Product, product, Factors, no_factor, times, Sum, sum_of, Products, no_product, plus, factor_words, product_words, factors_words, sum_words, products_words, names_factor, names_product, names_factors, names_sum, names_products, layers_in, depth_factor, depth_product, depth_factors, depth_of, depth_products}
use Rattle.layer_map.specs.Truth.{Formula, on, neither, both, either, factor_means, product_means, factors_mean, means, products_mean}
use Rattle.layer_map.specs.Faults.{is_large}
use Rattle.layer_map.specs.Readers.{behind, first_of, parse, tree_of, tree_in}
use Rattle.layer_map.proofs.Parsing.{sign_apart, IsParsed, parse_takes}

-- ---- room

le_case : (a b c d : ℕ) (t : Bool) → nat_le a b ≡ t → (a ≤ b → c ≤ d) → (c ≤ d → a ≤ b) → nat_le a b ≡ nat_le c d
le_case a b c d true e f g = e ∙ sym (le-leb c d (f (leb-true a b e)))
le_case a b c d false e f g = e ∙ sym (lt-leb c d (below c d (nat_le c d) refl (λ h. let k = g h in omega (arith, k, leb-false a b e))))
  where
    below : (c d : ℕ) (t : Bool) → nat_le c d ≡ t → (c ≤ d → ⊥) → d < c
    below c d true e h = absurd (h (leb-true c d e))
    below c d false e h = leb-false c d e

same_order : (a b c d : ℕ) → (a ≤ b → c ≤ d) → (c ≤ d → a ≤ b) → nat_le a b ≡ nat_le c d
same_order a b c d f g = le_case a b c d (nat_le a b) refl f g

built_more : (d room : ℕ) (x : Formula) (t : List (List ℕ)) → (room ≡ 0 → ⊥) → built d (room - 1) x t ≡ built (d + 1) room x t
built_more d room x t h = ap (λ u. if u then Some (x, t) else None) (same_order d (room - 1) (d + 1) room (λ k. omega (arith, k, h)) (λ k. omega (arith, k, h)))

no_room : (d room : ℕ) (x : Formula) (t : List (List ℕ)) → room ≡ 0 → ◌≡◌ {A = Option (Formula × List (List ℕ))} None (built (d + 1) room x t)
no_room d room x t h = ap (λ u. if u then Some (x, t) else None) (sym (lt-leb (d + 1) room (omega (arith, h))))

some_case : (u : Bool) (x y : Formula) (s t : List (List ℕ)) → ◌≡◌ {A = Option (Formula × List (List ℕ))} (Some (y, s)) (if u then Some (x, t) else None) → (u ≡ true) × (y ≡ x) × (s ≡ t)
some_case true x y s t h = let same : ◌≡◌ {A = Formula × List (List ℕ)} (y, s) (x, t) = cc in (refl, ap (λ (z : Formula × List (List ℕ)). z.0) same, ap (λ (z : Formula × List (List ℕ)). z.1) same)
some_case false x y s t h = cc

none_case : (u : Bool) (x : Formula) (t : List (List ℕ)) → ◌≡◌ {A = Option (Formula × List (List ℕ))} None (if u then Some (x, t) else None) → u ≡ false
none_case true x t h = cc
none_case false x t h = refl

none_again : (d e room : ℕ) (x y : Formula) (s t : List (List ℕ)) → d ≤ e → ◌≡◌ {A = Option (Formula × List (List ℕ))} None (built d room x s) → ◌≡◌ {A = Option (Formula × List (List ℕ))} None (built e room y t)
none_again d e room x y s t le h =
    let small : room < d = leb-false d room (none_case (nat_le d room) x s h) in
    ap (λ u. if u then Some (y, t) else None) (sym (lt-leb e room (omega (arith, small, le))))

-- where there is room for the one, what decides is the other
right_decides : (d e room : ℕ) (y : Formula) (t : List (List ℕ)) → d ≤ room → built e room y t ≡ built (max d e) room y t
right_decides d e room y t le = ap (λ u. if u then Some (y, t) else None) (same_order e room (max d e) room (λ k. omega (arith, k, le)) (λ k. omega (arith, k)))

-- ---- factors

pub record IsBang (f : Factor) (tail next : List (List ℕ)) : Type 0 where
  pub inner : Factor
  pub is : f ≡ inverse inner
  pub follows : next ≡ factor_words inner ++ tail
  pub named : names_factor inner ≡ true

no_sign : (b : ℕ) (n : List ℕ) (ws next : List (List ℕ)) → is_short n ≡ true → is_short (b ∷ []) ≡ false → Some next ≡ (if bytes_eq n (b ∷ []) then Some ws else None) → ⊥
no_sign b n ws next h k e = let none : Some next ≡ None = e ∙ ap (λ u. if u then Some ws else None) (sign_apart n b h k) in cc

bang_at : (f : Factor) (tail next : List (List ℕ)) → names_factor f ≡ true → Some next ≡ behind (33 ∷ []) (factor_words f ++ tail) → IsBang f tail next
bang_at (of_layer n) tail next named h = absurd (no_sign 33 n tail next named refl h)
bang_at (inverse g) tail next named h = record { inner = g; is = refl; follows = cc; named = named }
bang_at (group s) tail next named h = absurd (let no : Some next ≡ None = h in cc)

pub record IsGroup (f : Factor) (tail next : List (List ℕ)) : Type 0 where
  pub inner : Sum
  pub is : f ≡ group inner
  pub follows : next ≡ sum_words inner ++ ((41 ∷ []) ∷ tail)
  pub named : names_sum inner ≡ true

group_at : (f : Factor) (tail next : List (List ℕ)) → names_factor f ≡ true → Some next ≡ behind (40 ∷ []) (factor_words f ++ tail) → IsGroup f tail next
group_at (of_layer n) tail next named h = absurd (no_sign 40 n tail next named refl h)
group_at (inverse g) tail next named h = absurd (let no : Some next ≡ None = h in cc)
group_at (group s) tail next named h = record { inner = s; is = refl; follows = (let e : next ≡ (sum_words s ++ ((41 ∷ []) ∷ [])) ++ tail = cc in e) ∙ append_assoc (sum_words s) ((41 ∷ []) ∷ []) tail; named = named }

pub record IsLeaf (f : Factor) (tail ws : List (List ℕ)) : Type 0 where
  pub name : List ℕ
  pub is : f ≡ of_layer name
  pub follows : ws ≡ name ∷ tail
  pub short : is_short name ≡ true

leaf_at : (f : Factor) (tail : List (List ℕ)) → names_factor f ≡ true → None ≡ behind (33 ∷ []) (factor_words f ++ tail) → None ≡ behind (40 ∷ []) (factor_words f ++ tail) → IsLeaf f tail (factor_words f ++ tail)
leaf_at (of_layer n) tail named h k = record { name = n; is = refl; follows = refl; short = named }
leaf_at (inverse g) tail named h k = absurd (let no : None ≡ Some (factor_words g ++ tail) = h in cc)
leaf_at (group s) tail named h k = absurd (let no : None ≡ Some ((sum_words s ++ ((41 ∷ []) ∷ [])) ++ tail) = k in cc)

pub bang : (f : Factor) (tail ws next : List (List ℕ)) → ws ≡ factor_words f ++ tail → names_factor f ≡ true → Some next ≡ behind (33 ∷ []) ws → IsBang f tail next
bang f tail ws next h named e = bang_at f tail next named (e ∙ ap (behind (33 ∷ [])) h)

pub grouping : (f : Factor) (tail ws next : List (List ℕ)) → ws ≡ factor_words f ++ tail → names_factor f ≡ true → Some next ≡ behind (40 ∷ []) ws → IsGroup f tail next
grouping f tail ws next h named e = group_at f tail next named (e ∙ ap (behind (40 ∷ [])) h)

pub leaf : (f : Factor) (tail ws : List (List ℕ)) → ws ≡ factor_words f ++ tail → names_factor f ≡ true → None ≡ behind (33 ∷ []) ws → None ≡ behind (40 ∷ []) ws → IsLeaf f tail ws
leaf f tail ws h named e k = subst (IsLeaf f tail) (sym h) (leaf_at f tail named (e ∙ ap (behind (33 ∷ [])) h) (k ∙ ap (behind (40 ∷ [])) h))

pub bang_no_room : (f : Factor) (tail ws next : List (List ℕ)) (room : ℕ) → Some next ≡ behind (33 ∷ []) ws → room ≡ 0 → ws ≡ factor_words f ++ tail → names_factor f ≡ true → ◌≡◌ {A = Option (Formula × List (List ℕ))} None (built (depth_factor f) room (factor_means f) tail)
bang_no_room f tail ws next room e z h named =
    let b = bang f tail ws next h named e in
    subst (λ g. ◌≡◌ {A = Option (Formula × List (List ℕ))} None (built (depth_factor g) room (factor_means g) tail)) (sym b.is) (no_room (depth_factor b.inner) room (neither (factor_means b.inner)) tail z)

pub bang_none : (f : Factor) (tail ws next : List (List ℕ)) (room : ℕ) → Some next ≡ behind (33 ∷ []) ws → (room ≡ 0 → ⊥) → ((g : Factor) (t : List (List ℕ)) → next ≡ factor_words g ++ t → names_factor g ≡ true → ◌≡◌ {A = Option (Formula × List (List ℕ))} None (built (depth_factor g) (room - 1) (factor_means g) t)) → ws ≡ factor_words f ++ tail → names_factor f ≡ true → ◌≡◌ {A = Option (Formula × List (List ℕ))} None (built (depth_factor f) room (factor_means f) tail)
bang_none f tail ws next room e z ih h named =
    let b = bang f tail ws next h named e in
    let less = ih b.inner tail b.follows b.named ∙ built_more (depth_factor b.inner) room (factor_means b.inner) tail z in
    subst (λ g. ◌≡◌ {A = Option (Formula × List (List ℕ))} None (built (depth_factor g) room (factor_means g) tail)) (sym b.is) (none_again (depth_factor b.inner + 1) (depth_factor b.inner + 1) room (factor_means b.inner) (neither (factor_means b.inner)) tail tail (omega arith) less)

pub bang_some : (f : Factor) (tail ws next rest : List (List ℕ)) (room : ℕ) (x y : Formula) → Some next ≡ behind (33 ∷ []) ws → (room ≡ 0 → ⊥) → x ≡ y → ((g : Factor) (t : List (List ℕ)) → next ≡ factor_words g ++ t → names_factor g ≡ true → Some (y, rest) ≡ built (depth_factor g) (room - 1) (factor_means g) t) → ws ≡ factor_words f ++ tail → names_factor f ≡ true → Some (neither x, rest) ≡ built (depth_factor f) room (factor_means f) tail
bang_some f tail ws next rest room x y e z xy ih h named =
    let b = bang f tail ws next h named e in
    let got = some_case (nat_le (depth_factor b.inner + 1) room) (factor_means b.inner) y rest tail (ih b.inner tail b.follows b.named ∙ built_more (depth_factor b.inner) room (factor_means b.inner) tail z) in
    subst (λ g. Some (neither x, rest) ≡ built (depth_factor g) room (factor_means g) tail) (sym b.is) ((λ i. Some (neither ((xy ∙ got.1) i), got.2 i)) ∙ ap (λ u. if u then Some (neither (factor_means b.inner), tail) else None) (sym got.0))

pub group_no_room : (f : Factor) (tail ws next : List (List ℕ)) (room : ℕ) → Some next ≡ behind (40 ∷ []) ws → room ≡ 0 → ws ≡ factor_words f ++ tail → names_factor f ≡ true → ◌≡◌ {A = Option (Formula × List (List ℕ))} None (built (depth_factor f) room (factor_means f) tail)
group_no_room f tail ws next room e z h named =
    let b = grouping f tail ws next h named e in
    subst (λ g. ◌≡◌ {A = Option (Formula × List (List ℕ))} None (built (depth_factor g) room (factor_means g) tail)) (sym b.is) (no_room (depth_of b.inner) room (means b.inner) tail z)

pub group_then : {A E : Type 0} (r : Result A E) (see : A → Option (Formula × List (List ℕ))) (f : Factor) (tail ws next : List (List ℕ)) (room : ℕ) → Some next ≡ behind (40 ∷ []) ws → (room ≡ 0 → ⊥) → ((s : Sum) (t : List (List ℕ)) → next ≡ sum_words s ++ ((41 ∷ []) ∷ t) → names_sum s ≡ true → IfOk r (λ o. see o ≡ built (depth_of s) (room - 1) (means s) t)) → ws ≡ factor_words f ++ tail → names_factor f ≡ true → IfOk r (λ o. see o ≡ built (depth_factor f) room (factor_means f) tail)
group_then r see f tail ws next room e z ih h named =
    let b = grouping f tail ws next h named e in
    subst (λ g. IfOk r (λ o. see o ≡ built (depth_factor g) room (factor_means g) tail)) (sym b.is) (subst (λ v. IfOk r (λ o. see o ≡ v)) (built_more (depth_of b.inner) room (means b.inner) tail z) (ih b.inner tail b.follows b.named))

pub no_word_left : (f : Factor) (tail ws : List (List ℕ)) (x : Option (Formula × List (List ℕ))) → ◌≡◌ {A = Option (List ℕ × List (List ℕ))} None (first_of ws) → None ≡ behind (33 ∷ []) ws → None ≡ behind (40 ∷ []) ws → ws ≡ factor_words f ++ tail → names_factor f ≡ true → None ≡ x
no_word_left f tail ws x e a b h named =
    let l = leaf f tail ws h named a b in
    absurd (let no : ◌≡◌ {A = Option (List ℕ × List (List ℕ))} None (Some (l.name, tail)) = e ∙ ap first_of l.follows in cc)

word_is : (w name : List ℕ) (next tail : List (List ℕ)) → ◌≡◌ {A = Option (List ℕ × List (List ℕ))} (Some (w, next)) (Some (name, tail)) → (w ≡ name) × (next ≡ tail)
word_is w name next tail h = let same : ◌≡◌ {A = List ℕ × List (List ℕ)} (w, next) (name, tail) = cc in (ap (λ (z : List ℕ × List (List ℕ)). z.0) same, ap (λ (z : List ℕ × List (List ℕ)). z.1) same)

pub layer_none : (f : Factor) (tail ws next : List (List ℕ)) (w : List ℕ) (x : Option (Formula × List (List ℕ))) → ◌≡◌ {A = Option (List ℕ × List (List ℕ))} (Some (w, next)) (first_of ws) → None ≡ behind (33 ∷ []) ws → None ≡ behind (40 ∷ []) ws → None ≡ (if is_short w then Some w else None) → ws ≡ factor_words f ++ tail → names_factor f ≡ true → None ≡ x
layer_none f tail ws next w x e a b k h named =
    let l = leaf f tail ws h named a b in
    let same = word_is w l.name next tail (e ∙ ap first_of l.follows) in
    absurd (let no : None ≡ Some w = k ∙ ap (λ u. if u then Some w else None) (ap is_short same.0 ∙ l.short) in cc)

pub layer_some : (f : Factor) (tail ws next : List (List ℕ)) (w name : List ℕ) (room : ℕ) → ◌≡◌ {A = Option (List ℕ × List (List ℕ))} (Some (w, next)) (first_of ws) → None ≡ behind (33 ∷ []) ws → None ≡ behind (40 ∷ []) ws → Some name ≡ (if is_short w then Some w else None) → ws ≡ factor_words f ++ tail → names_factor f ≡ true → Some (on name, next) ≡ built (depth_factor f) room (factor_means f) tail
layer_some f tail ws next w name room e a b k h named =
    let l = leaf f tail ws h named a b in
    let same = word_is w l.name next tail (e ∙ ap first_of l.follows) in
    let is : Some name ≡ Some w = k ∙ ap (λ u. if u then Some w else None) (ap is_short same.0 ∙ l.short) in
    let it : name ≡ w = cc in
    subst (λ g. Some (on name, next) ≡ built (depth_factor g) room (factor_means g) tail) (sym l.is) ((λ i. Some (on ((it ∙ same.0) i), same.1 i)) ∙ ap (λ u. if u then Some (on l.name, tail) else None) (sym (le-leb 0 room (omega arith))))

-- ---- more factors and more products

pub record IsTimes (fs : Factors) (tail next : List (List ℕ)) : Type 0 where
  pub first : Factor
  pub others : Factors
  pub is : fs ≡ times first others
  pub follows : next ≡ factor_words first ++ (factors_words others ++ tail)
  pub first_named : names_factor first ≡ true
  pub others_named : names_factors others ≡ true

times_at : (fs : Factors) (tail next : List (List ℕ)) → EndsProduct tail → names_factors fs ≡ true → Some next ≡ behind (42 ∷ []) (factors_words fs ++ tail) → IsTimes fs tail next
times_at no_factor tail next ends named h = absurd (let no : Some next ≡ None = h ∙ ends.factors in cc)
times_at (times f fs) tail next ends named h =
    let all = and_parts (names_factor f) (names_factors fs) named in
    record { first = f; others = fs; is = refl; follows = (let e : next ≡ (factor_words f ++ factors_words fs) ++ tail = cc in e) ∙ append_assoc (factor_words f) (factors_words fs) tail; first_named = all.0; others_named = all.1 }

pub timesing : (fs : Factors) (tail ws next : List (List ℕ)) → ws ≡ factors_words fs ++ tail → EndsProduct tail → names_factors fs ≡ true → Some next ≡ behind (42 ∷ []) ws → IsTimes fs tail next
timesing fs tail ws next h ends named e = times_at fs tail next ends named (e ∙ ap (behind (42 ∷ [])) h)

pub no_more_factors : (fs : Factors) (tail ws : List (List ℕ)) (left : Formula) (room : ℕ) → None ≡ behind (42 ∷ []) ws → ws ≡ factors_words fs ++ tail → Some (left, ws) ≡ built (depth_factors fs) room (factors_mean fs left) tail
no_more_factors no_factor tail ws left room e h = (λ i. Some (left, h i)) ∙ ap (λ u. if u then Some (left, tail) else None) (sym (le-leb 0 room (omega arith)))
no_more_factors (times f fs) tail ws left room e h = absurd (let no : None ≡ Some ((factor_words f ++ factors_words fs) ++ tail) = e ∙ ap (behind (42 ∷ [])) h in cc)

pub next_factor_none : (fs : Factors) (tail ws next : List (List ℕ)) (left : Formula) (room : ℕ) → Some next ≡ behind (42 ∷ []) ws → ((g : Factor) (t : List (List ℕ)) → next ≡ factor_words g ++ t → names_factor g ≡ true → ◌≡◌ {A = Option (Formula × List (List ℕ))} None (built (depth_factor g) room (factor_means g) t)) → ws ≡ factors_words fs ++ tail → EndsProduct tail → names_factors fs ≡ true → ◌≡◌ {A = Option (Formula × List (List ℕ))} None (built (depth_factors fs) room (factors_mean fs left) tail)
next_factor_none fs tail ws next left room e ih h ends named =
    let t = timesing fs tail ws next h ends named e in
    subst (λ g. ◌≡◌ {A = Option (Formula × List (List ℕ))} None (built (depth_factors g) room (factors_mean g left) tail)) (sym t.is) (none_again (depth_factor t.first) (max (depth_factor t.first) (depth_factors t.others)) room (factor_means t.first) _ (factors_words t.others ++ tail) tail (omega arith) (ih t.first (factors_words t.others ++ tail) t.follows t.first_named))

pub next_factor_some : {A E : Type 0} (r : Result A E) (see : A → Option (Formula × List (List ℕ))) (fs : Factors) (tail ws next rest : List (List ℕ)) (left x y z : Formula) (room : ℕ) → Some next ≡ behind (42 ∷ []) ws → x ≡ both left y → y ≡ z → ((g : Factor) (t : List (List ℕ)) → next ≡ factor_words g ++ t → names_factor g ≡ true → Some (z, rest) ≡ built (depth_factor g) room (factor_means g) t) → ((gs : Factors) (t : List (List ℕ)) → rest ≡ factors_words gs ++ t → EndsProduct t → names_factors gs ≡ true → IfOk r (λ o. see o ≡ built (depth_factors gs) room (factors_mean gs x) t)) → ws ≡ factors_words fs ++ tail → EndsProduct tail → names_factors fs ≡ true → IfOk r (λ o. see o ≡ built (depth_factors fs) room (factors_mean fs left) tail)
next_factor_some r see fs tail ws next rest left x y z room e xy yz ih rec h ends named =
    let t = timesing fs tail ws next h ends named e in
    let got = some_case (nat_le (depth_factor t.first) room) (factor_means t.first) z rest (factors_words t.others ++ tail) (ih t.first (factors_words t.others ++ tail) t.follows t.first_named) in
    let here : x ≡ both left (factor_means t.first) = xy ∙ ap (both left) (yz ∙ got.1) in
    subst (λ g. IfOk r (λ o. see o ≡ built (depth_factors g) room (factors_mean g left) tail)) (sym t.is) (subst (λ v. IfOk r (λ o. see o ≡ v)) ((λ i. built (depth_factors t.others) room (factors_mean t.others (here i)) tail) ∙ right_decides (depth_factor t.first) (depth_factors t.others) room (factors_mean t.others (both left (factor_means t.first))) tail (leb-true _ _ got.0)) (rec t.others tail got.2 ends t.others_named))

pub product_none : (p : Product) (tail ws : List (List ℕ)) (room : ℕ) → ((g : Factor) (t : List (List ℕ)) → ws ≡ factor_words g ++ t → names_factor g ≡ true → ◌≡◌ {A = Option (Formula × List (List ℕ))} None (built (depth_factor g) room (factor_means g) t)) → ws ≡ product_words p ++ tail → EndsProduct tail → names_product p ≡ true → ◌≡◌ {A = Option (Formula × List (List ℕ))} None (built (depth_product p) room (product_means p) tail)
product_none (product f fs) tail ws room ih h ends named =
    let all = and_parts (names_factor f) (names_factors fs) named in
    none_again (depth_factor f) (max (depth_factor f) (depth_factors fs)) room (factor_means f) _ (factors_words fs ++ tail) tail (omega arith) (ih f (factors_words fs ++ tail) (h ∙ append_assoc (factor_words f) (factors_words fs) tail) all.0)

pub product_some : {A E : Type 0} (r : Result A E) (see : A → Option (Formula × List (List ℕ))) (p : Product) (tail ws rest : List (List ℕ)) (x : Formula) (room : ℕ) → ((g : Factor) (t : List (List ℕ)) → ws ≡ factor_words g ++ t → names_factor g ≡ true → Some (x, rest) ≡ built (depth_factor g) room (factor_means g) t) → ((gs : Factors) (t : List (List ℕ)) → rest ≡ factors_words gs ++ t → EndsProduct t → names_factors gs ≡ true → IfOk r (λ o. see o ≡ built (depth_factors gs) room (factors_mean gs x) t)) → ws ≡ product_words p ++ tail → EndsProduct tail → names_product p ≡ true → IfOk r (λ o. see o ≡ built (depth_product p) room (product_means p) tail)
product_some r see (product f fs) tail ws rest x room ih rec h ends named =
    let all = and_parts (names_factor f) (names_factors fs) named in
    let got = some_case (nat_le (depth_factor f) room) (factor_means f) x rest (factors_words fs ++ tail) (ih f (factors_words fs ++ tail) (h ∙ append_assoc (factor_words f) (factors_words fs) tail) all.0) in
    subst (λ v. IfOk r (λ o. see o ≡ v)) ((λ i. built (depth_factors fs) room (factors_mean fs (got.1 i)) tail) ∙ right_decides (depth_factor f) (depth_factors fs) room (factors_mean fs (factor_means f)) tail (leb-true _ _ got.0)) (rec fs tail got.2 ends all.1)

-- ---- sums

pub record IsPlus (ps : Products) (tail next : List (List ℕ)) : Type 0 where
  pub first : Product
  pub others : Products
  pub is : ps ≡ plus first others
  pub follows : next ≡ product_words first ++ (products_words others ++ tail)
  pub first_named : names_product first ≡ true
  pub others_named : names_products others ≡ true

plus_at : (ps : Products) (tail next : List (List ℕ)) → EndsSum tail → names_products ps ≡ true → Some next ≡ behind (43 ∷ []) (products_words ps ++ tail) → IsPlus ps tail next
plus_at no_product tail next ends named h = absurd (let no : Some next ≡ None = h ∙ ends.products in cc)
plus_at (plus p ps) tail next ends named h =
    let all = and_parts (names_product p) (names_products ps) named in
    record { first = p; others = ps; is = refl; follows = (let e : next ≡ (product_words p ++ products_words ps) ++ tail = cc in e) ∙ append_assoc (product_words p) (products_words ps) tail; first_named = all.0; others_named = all.1 }

pub plusing : (ps : Products) (tail ws next : List (List ℕ)) → ws ≡ products_words ps ++ tail → EndsSum tail → names_products ps ≡ true → Some next ≡ behind (43 ∷ []) ws → IsPlus ps tail next
plusing ps tail ws next h ends named e = plus_at ps tail next ends named (e ∙ ap (behind (43 ∷ [])) h)

ends_product : (ps : Products) (tail : List (List ℕ)) → EndsSum tail → EndsProduct (products_words ps ++ tail)
ends_product no_product tail ends = record { factors = ends.factors }
ends_product (plus p ps) tail ends = record { factors = refl }

pub no_more_products : (ps : Products) (tail ws : List (List ℕ)) (left : Formula) (room : ℕ) → None ≡ behind (43 ∷ []) ws → ws ≡ products_words ps ++ tail → Some (left, ws) ≡ built (depth_products ps) room (products_mean ps left) tail
no_more_products no_product tail ws left room e h = (λ i. Some (left, h i)) ∙ ap (λ u. if u then Some (left, tail) else None) (sym (le-leb 0 room (omega arith)))
no_more_products (plus p ps) tail ws left room e h = absurd (let no : None ≡ Some ((product_words p ++ products_words ps) ++ tail) = e ∙ ap (behind (43 ∷ [])) h in cc)

pub next_product_none : (ps : Products) (tail ws next : List (List ℕ)) (left : Formula) (room : ℕ) → Some next ≡ behind (43 ∷ []) ws → ((g : Product) (t : List (List ℕ)) → next ≡ product_words g ++ t → EndsProduct t → names_product g ≡ true → ◌≡◌ {A = Option (Formula × List (List ℕ))} None (built (depth_product g) room (product_means g) t)) → ws ≡ products_words ps ++ tail → EndsSum tail → names_products ps ≡ true → ◌≡◌ {A = Option (Formula × List (List ℕ))} None (built (depth_products ps) room (products_mean ps left) tail)
next_product_none ps tail ws next left room e ih h ends named =
    let t = plusing ps tail ws next h ends named e in
    subst (λ g. ◌≡◌ {A = Option (Formula × List (List ℕ))} None (built (depth_products g) room (products_mean g left) tail)) (sym t.is) (none_again (depth_product t.first) (max (depth_product t.first) (depth_products t.others)) room (product_means t.first) _ (products_words t.others ++ tail) tail (omega arith) (ih t.first (products_words t.others ++ tail) t.follows (ends_product t.others tail ends) t.first_named))

pub next_product_some : {A E : Type 0} (r : Result A E) (see : A → Option (Formula × List (List ℕ))) (ps : Products) (tail ws next rest : List (List ℕ)) (left x y z : Formula) (room : ℕ) → Some next ≡ behind (43 ∷ []) ws → x ≡ either left y → y ≡ z → ((g : Product) (t : List (List ℕ)) → next ≡ product_words g ++ t → EndsProduct t → names_product g ≡ true → Some (z, rest) ≡ built (depth_product g) room (product_means g) t) → ((gs : Products) (t : List (List ℕ)) → rest ≡ products_words gs ++ t → EndsSum t → names_products gs ≡ true → IfOk r (λ o. see o ≡ built (depth_products gs) room (products_mean gs x) t)) → ws ≡ products_words ps ++ tail → EndsSum tail → names_products ps ≡ true → IfOk r (λ o. see o ≡ built (depth_products ps) room (products_mean ps left) tail)
next_product_some r see ps tail ws next rest left x y z room e xy yz ih rec h ends named =
    let t = plusing ps tail ws next h ends named e in
    let got = some_case (nat_le (depth_product t.first) room) (product_means t.first) z rest (products_words t.others ++ tail) (ih t.first (products_words t.others ++ tail) t.follows (ends_product t.others tail ends) t.first_named) in
    let here : x ≡ either left (product_means t.first) = xy ∙ ap (either left) (yz ∙ got.1) in
    subst (λ g. IfOk r (λ o. see o ≡ built (depth_products g) room (products_mean g left) tail)) (sym t.is) (subst (λ v. IfOk r (λ o. see o ≡ v)) ((λ i. built (depth_products t.others) room (products_mean t.others (here i)) tail) ∙ right_decides (depth_product t.first) (depth_products t.others) room (products_mean t.others (either left (product_means t.first))) tail (leb-true _ _ got.0)) (rec t.others tail got.2 ends t.others_named))

pub sum_none : (s : Sum) (tail ws : List (List ℕ)) (room : ℕ) → ((g : Product) (t : List (List ℕ)) → ws ≡ product_words g ++ t → EndsProduct t → names_product g ≡ true → ◌≡◌ {A = Option (Formula × List (List ℕ))} None (built (depth_product g) room (product_means g) t)) → ws ≡ sum_words s ++ tail → EndsSum tail → names_sum s ≡ true → ◌≡◌ {A = Option (Formula × List (List ℕ))} None (built (depth_of s) room (means s) tail)
sum_none (sum_of p ps) tail ws room ih h ends named =
    let all = and_parts (names_product p) (names_products ps) named in
    none_again (depth_product p) (max (depth_product p) (depth_products ps)) room (product_means p) _ (products_words ps ++ tail) tail (omega arith) (ih p (products_words ps ++ tail) (h ∙ append_assoc (product_words p) (products_words ps) tail) (ends_product ps tail ends) all.0)

pub sum_some : {A E : Type 0} (r : Result A E) (see : A → Option (Formula × List (List ℕ))) (s : Sum) (tail ws rest : List (List ℕ)) (x : Formula) (room : ℕ) → ((g : Product) (t : List (List ℕ)) → ws ≡ product_words g ++ t → EndsProduct t → names_product g ≡ true → Some (x, rest) ≡ built (depth_product g) room (product_means g) t) → ((gs : Products) (t : List (List ℕ)) → rest ≡ products_words gs ++ t → EndsSum t → names_products gs ≡ true → IfOk r (λ o. see o ≡ built (depth_products gs) room (products_mean gs x) t)) → ws ≡ sum_words s ++ tail → EndsSum tail → names_sum s ≡ true → IfOk r (λ o. see o ≡ built (depth_of s) room (means s) tail)
sum_some r see (sum_of p ps) tail ws rest x room ih rec h ends named =
    let all = and_parts (names_product p) (names_products ps) named in
    let got = some_case (nat_le (depth_product p) room) (product_means p) x rest (products_words ps ++ tail) (ih p (products_words ps ++ tail) (h ∙ append_assoc (product_words p) (products_words ps) tail) (ends_product ps tail ends) all.0) in
    subst (λ v. IfOk r (λ o. see o ≡ v)) ((λ i. built (depth_products ps) room (products_mean ps (got.1 i)) tail) ∙ right_decides (depth_product p) (depth_products ps) room (products_mean ps (product_means p)) tail (leb-true _ _ got.0)) (rec ps tail got.2 ends all.1)

-- ---- whole expressions

pub tree_is : (ws : List (List ℕ)) (o : Option (Sum × List (List ℕ))) → parse ws ≡ o → is_some o ≡ true → (rest : List (List ℕ)) × IsParsed ws (tree_in o) rest
tree_is ws None e h = absurd (cc)
tree_is ws (Some x) e h = (x.1, parse_takes ws x.0 x.1 e)

deep : (s : Sum) (room : ℕ) (u : Bool) → nat_le (depth_of s) 32 ≡ u → nat_lt 32 (depth_of s) ≡ not u
deep s room true e = le-ltb 32 (depth_of s) (leb-true (depth_of s) 32 e)
deep s room false e = lt-ltb 32 (depth_of s) (leb-false (depth_of s) 32 e)

large_is : (s : Sum) (u : Bool) → nat_le (layers_in s) 64 ≡ true → nat_le (depth_of s) 32 ≡ u → is_large s ≡ not u
large_is s u few e = (λ i. le-ltb 64 (layers_in s) (leb-true (layers_in s) 64 few) i || deep s 32 u e i)

pub build_none : (ws : List (List ℕ)) → is_some (parse ws) ≡ true → nat_le (layers_in (tree_of ws)) 64 ≡ true → ((s : Sum) (t : List (List ℕ)) → ws ≡ sum_words s ++ t → EndsSum t → names_sum s ≡ true → ◌≡◌ {A = Option (Formula × List (List ℕ))} None (built (depth_of s) 32 (means s) t)) → is_large (tree_of ws) ≡ true
build_none ws h few ih =
    let p = tree_is ws (parse ws) refl h in
    let none = none_case (nat_le (depth_of (tree_of ws)) 32) (means (tree_of ws)) p.0 (ih (tree_of ws) p.0 p.1.whole p.1.ends p.1.named) in
    large_is (tree_of ws) false few none

pub build_some : (ws rest : List (List ℕ)) (x : Formula) → is_some (parse ws) ≡ true → nat_le (layers_in (tree_of ws)) 64 ≡ true → ((s : Sum) (t : List (List ℕ)) → ws ≡ sum_words s ++ t → EndsSum t → names_sum s ≡ true → Some (x, rest) ≡ built (depth_of s) 32 (means s) t) → (is_large (tree_of ws) ≡ false) × (x ≡ means (tree_of ws))
build_some ws rest x h few ih =
    let p = tree_is ws (parse ws) refl h in
    let got = some_case (nat_le (depth_of (tree_of ws)) 32) (means (tree_of ws)) x rest p.0 (ih (tree_of ws) p.0 p.1.whole p.1.ends p.1.named) in
    (large_is (tree_of ws) true few got.0, got.1)

pub many_layers : (s : Sum) → nat_le (layers_in s) 64 ≡ false → is_large s ≡ true
many_layers s h = λ i. lt-ltb 64 (layers_in s) (leb-false (layers_in s) 64 h) i || nat_lt 32 (depth_of s)
