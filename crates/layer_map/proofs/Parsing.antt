-- Expressions: what is read is spelled so, and what is spelled so is read.
use Rattle.std.proofs.Common.{◌≡◌, ℕ, ◌+◌, ◌-◌, ◌<◌, ◌≤◌, Bool, true, false, if◌then◌else◌, not, ◌&&◌, ◌||◌, List, [], ◌∷◌, ◌++◌, length, codes, Option, Some, None, option_map, refl, sym, ap, ◌∙◌, subst, arith, ◌==◌, append_assoc}
use Rattle.std.specs.Str.{bytes_eq}
use Rattle.std.proofs.lemmas.Bool.{and_parts, and_from, eqb-true, eqb-false, ne_eqb}
use Rattle.plane_geom.proofs.Options.{bind_some, map_some}
use Rattle.plane_geom.specs.Texts.{◌>>=◌}
use Rattle.plane_geom.specs.Names.{is_short}
use Rattle.layer_map.specs.declared.expressions.Scan.{Scan}
use Rattle.layer_map.specs.Building.{EndsSum}
use Rattle.layer_map.specs.Grammar.{Factor, of_layer, inverse, group, product, Factors, no_factor, times, Sum, sum_of, Products, no_product, plus, factor_words, factors_words, sum_words, products_words, names_factor, names_factors, names_sum, names_products, layers_factor, layers_factors, layers_in, layers_products}
use Rattle.layer_map.specs.Readers.{first_of, Level, Tail, no_level, level_sum, inverted, grouped, grouped_in, one_more_factor, one_more_product, closed, want, have, parse, tree_of, tree_in, is_done, factor_step, other_step, step, scan}
use Rattle.layer_map.proofs.Steps.{bytes_are, apart}

-- ---- the words of a tail

abbrev pub level_words : Level → List (List ℕ)
level_words l = factors_words l.factors ++ products_words l.products

abbrev pub outer_words : List Level → List (List ℕ) → List (List ℕ)
outer_words [] rest = rest
outer_words (l ∷ ls) rest = codes ")" ∷ (level_words l ++ outer_words ls rest)

abbrev pub tail_words : Tail → List (List ℕ)
tail_words t = level_words t.level ++ outer_words t.outer t.rest

abbrev pub level_named : Level → Bool
level_named l = names_factors l.factors && names_products l.products

abbrev pub outer_named : List Level → Bool
outer_named [] = true
outer_named (l ∷ ls) = level_named l && outer_named ls

abbrev pub layers_level : Level → ℕ
layers_level l = layers_factors l.factors + layers_products l.products

abbrev pub layers_outer : List Level → ℕ
layers_outer [] = 0
layers_outer (l ∷ ls) = layers_level l + layers_outer ls

abbrev pub layers_tail : Tail → ℕ
layers_tail t = layers_level t.level + layers_outer t.outer

-- ---- what is read is spelled so

-- The words are these first ones and the tail, with so many levels round it.
pub record IsTail (ws front : List (List ℕ)) (inside : ℕ) (t : Tail) : Type 0 where
  pub whole : ws ≡ front ++ tail_words t
  pub deep : length t.outer ≡ inside
  pub level_is : level_named t.level ≡ true
  pub outer_is : outer_named t.outer ≡ true
  pub ends : EndsSum t.rest

pub record IsFront (ws : List (List ℕ)) (inside : ℕ) (x : Factor × Tail) : Type 0 where
  pub named : names_factor x.0 ≡ true
  pub tail : IsTail ws (factor_words x.0) inside x.1

inverted_front : (w : List ℕ) (ws : List (List ℕ)) (d : ℕ) (x : Factor × Tail) → bytes_eq w (codes "!") ≡ true → IsFront ws d x → IsFront (w ∷ ws) d (inverted x)
inverted_front w ws d x e h = record {
  named = h.named;
  tail = record { whole = λ i. bytes_are w (codes "!") e i ∷ h.tail.whole i; deep = h.tail.deep; level_is = h.tail.level_is; outer_is = h.tail.outer_is; ends = h.tail.ends };
}

group_whole : (f fs ps rest : List (List ℕ)) (p : List ℕ) → f ++ ((fs ++ ps) ++ (p ∷ rest)) ≡ (((f ++ fs) ++ ps) ++ (p ∷ [])) ++ rest
group_whole f fs ps rest p = simp append_assoc

grouped_front : (w : List ℕ) (ws : List (List ℕ)) (d : ℕ) (x : Factor × Tail) (outer : List Level) (y : Factor × Tail) → x.1.outer ≡ outer → bytes_eq w (codes "(") ≡ true → IsFront ws (d + 1) x → grouped_in x.0 x.1.level outer x.1.rest ≡ Some y → IsFront (w ∷ ws) d y
grouped_front w ws d x [] y o e h g = cc
grouped_front w ws d x (l ∷ ls) y o e h g =
    let same : (group (level_sum x.0 x.1.level), record { level = l; outer = ls; rest = x.1.rest }) ≡ y = cc in
    let inner = and_parts (names_factors x.1.level.factors) (names_products x.1.level.products) h.tail.level_is in
    let out = and_parts (level_named l) (outer_named ls) (ap outer_named (sym o) ∙ h.tail.outer_is) in
    subst (IsFront (w ∷ ws) d) same (record {
      named = and_from _ _ (and_from _ _ h.named inner.0) inner.1;
      tail = record {
        whole = (λ i. bytes_are w (codes "(") e i ∷ h.tail.whole i) ∙ (λ i. codes "(" ∷ (factor_words x.0 ++ (level_words x.1.level ++ outer_words (o i) x.1.rest))) ∙ ap (λ t. codes "(" ∷ t) (group_whole (factor_words x.0) (factors_words x.1.level.factors) (products_words x.1.level.products) (level_words l ++ outer_words ls x.1.rest) (codes ")"));
        deep = omega (arith, ap length o, h.tail.deep);
        level_is = out.0;
        outer_is = out.1;
        ends = h.tail.ends;
      };
    })

layer_front : (w : List ℕ) (ws : List (List ℕ)) (d : ℕ) (t : Tail) → is_short w ≡ true → IsTail ws [] d t → IsFront (w ∷ ws) d (of_layer w, t)
layer_front w ws d t e h = record {
  named = e;
  tail = record { whole = ap (λ x. w ∷ x) h.whole; deep = h.deep; level_is = h.level_is; outer_is = h.outer_is; ends = h.ends };
}

wanted : (w : List ℕ) (ws : List (List ℕ)) (d : ℕ) (a b e : Bool) (y : Factor × Tail) → bytes_eq w (codes "!") ≡ a → bytes_eq w (codes "(") ≡ b → is_short w ≡ e → ((k : ℕ) (x : Factor × Tail) → want ws k ≡ Some x → IsFront ws k x) → ((k : ℕ) (t : Tail) → have ws k ≡ Some t → IsTail ws [] k t) →
    (if a then option_map inverted (want ws d) else if b then (want ws (d + 1) >>= grouped) else if e then option_map (λ t. (of_layer w, t)) (have ws d) else None) ≡ Some y → IsFront (w ∷ ws) d y
wanted w ws d true b e y ea eb ee f g h =
    let got = map_some inverted (want ws d) y h in
    subst (IsFront (w ∷ ws) d) got.2 (inverted_front w ws d got.0 ea (f d got.0 got.1))
wanted w ws d false true e y ea eb ee f g h =
    let got = bind_some (want ws (d + 1)) grouped y h in
    grouped_front w ws d got.0 got.0.1.outer y refl eb (f (d + 1) got.0 got.1) got.2
wanted w ws d false false true y ea eb ee f g h =
    let got = map_some (λ t. (of_layer w, t)) (have ws d) y h in
    subst (IsFront (w ∷ ws) d) got.2 (layer_front w ws d got.0 ee (g d got.0 got.1))
wanted w ws d false false false y ea eb ee f g h = cc

factor_whole : (f fs ps rest : List (List ℕ)) → f ++ ((fs ++ ps) ++ rest) ≡ ((f ++ fs) ++ ps) ++ rest
factor_whole f fs ps rest = simp append_assoc

more_factor : (w : List ℕ) (ws : List (List ℕ)) (d : ℕ) (x : Factor × Tail) → bytes_eq w (codes "*") ≡ true → IsFront ws d x → IsTail (w ∷ ws) [] d (one_more_factor x)
more_factor w ws d x e h =
    let inner = and_parts (names_factors x.1.level.factors) (names_products x.1.level.products) h.tail.level_is in
    record {
      whole = (λ i. bytes_are w (codes "*") e i ∷ h.tail.whole i) ∙ ap (λ t. codes "*" ∷ t) (factor_whole (factor_words x.0) (factors_words x.1.level.factors) (products_words x.1.level.products) (outer_words x.1.outer x.1.rest));
      deep = h.tail.deep;
      level_is = and_from _ _ (and_from _ _ h.named inner.0) inner.1;
      outer_is = h.tail.outer_is;
      ends = h.tail.ends;
    }

more_product : (w : List ℕ) (ws : List (List ℕ)) (d : ℕ) (x : Factor × Tail) → bytes_eq w (codes "+") ≡ true → IsFront ws d x → IsTail (w ∷ ws) [] d (one_more_product x)
more_product w ws d x e h =
    let inner = and_parts (names_factors x.1.level.factors) (names_products x.1.level.products) h.tail.level_is in
    record {
      whole = (λ i. bytes_are w (codes "+") e i ∷ h.tail.whole i) ∙ ap (λ t. codes "+" ∷ t) (factor_whole (factor_words x.0) (factors_words x.1.level.factors) (products_words x.1.level.products) (outer_words x.1.outer x.1.rest));
      deep = h.tail.deep;
      level_is = and_from _ _ (and_from _ _ h.named inner.0) inner.1;
      outer_is = h.tail.outer_is;
      ends = h.tail.ends;
    }

-- what stands behind all of it
at_rest : (ws : List (List ℕ)) (d : ℕ) → d ≡ 0 → EndsSum ws → IsTail ws [] d (record { level = no_level; outer = []; rest = ws })
at_rest ws d e h = record { whole = refl; deep = sym e; level_is = refl; outer_is = refl; ends = h }

closed_tail : (w : List ℕ) (ws : List (List ℕ)) (d : ℕ) (t : Tail) → bytes_eq w (codes ")") ≡ true → (d == 0) ≡ false → IsTail ws [] (d - 1) t → IsTail (w ∷ ws) [] d (closed t)
closed_tail w ws d t e z h = record {
  whole = λ i. bytes_are w (codes ")") e i ∷ h.whole i;
  deep = omega (arith, h.deep, eqb-false d 0 z);
  level_is = refl;
  outer_is = and_from _ _ h.level_is h.outer_is;
  ends = h.ends;
}

had : (w : List ℕ) (ws : List (List ℕ)) (d : ℕ) (a b z e : Bool) (y : Tail) → bytes_eq w (codes "*") ≡ a → bytes_eq w (codes "+") ≡ b → (d == 0) ≡ z → bytes_eq w (codes ")") ≡ e → ((k : ℕ) (x : Factor × Tail) → want ws k ≡ Some x → IsFront ws k x) → ((k : ℕ) (t : Tail) → have ws k ≡ Some t → IsTail ws [] k t) →
    (if a then option_map one_more_factor (want ws d) else if b then option_map one_more_product (want ws d) else if z then Some (record { level = no_level; outer = []; rest = w ∷ ws }) else if e then option_map closed (have ws (d - 1)) else None) ≡ Some y → IsTail (w ∷ ws) [] d y
had w ws d true b z e y ea eb ez ee f g h =
    let got = map_some one_more_factor (want ws d) y h in
    subst (IsTail (w ∷ ws) [] d) got.2 (more_factor w ws d got.0 ea (f d got.0 got.1))
had w ws d false true z e y ea eb ez ee f g h =
    let got = map_some one_more_product (want ws d) y h in
    subst (IsTail (w ∷ ws) [] d) got.2 (more_product w ws d got.0 eb (f d got.0 got.1))
had w ws d false false true e y ea eb ez ee f g h =
    let same : record { level = no_level; outer = []; rest = w ∷ ws } ≡ y = cc in
    let stops : EndsSum (w ∷ ws) = record { factors = ap (λ u. if u then Some ws else None) ea; products = ap (λ u. if u then Some ws else None) eb } in
    subst (IsTail (w ∷ ws) [] d) same (at_rest (w ∷ ws) d (eqb-true d 0 ez) stops)
had w ws d false false false true y ea eb ez ee f g h =
    let got = map_some closed (have ws (d - 1)) y h in
    subst (IsTail (w ∷ ws) [] d) got.2 (closed_tail w ws d got.0 ee ez (g (d - 1) got.0 got.1))
had w ws d false false false false y ea eb ez ee f g h = cc

nothing_left : (d : ℕ) (z : Bool) (y : Tail) → (d == 0) ≡ z → (if z then Some (record { level = no_level; outer = []; rest = [] }) else None) ≡ Some y → IsTail [] [] d y
nothing_left d true y e h = subst (IsTail [] [] d) (let same : record { level = no_level; outer = []; rest = [] } ≡ y = cc in same) (at_rest [] d (eqb-true d 0 e) (record { factors = refl; products = refl }))
nothing_left d false y e h = cc

mutual
  pub want_takes : (ws : List (List ℕ)) (d : ℕ) (x : Factor × Tail) → want ws d ≡ Some x → IsFront ws d x
  want_takes [] d x h = cc
  want_takes (w ∷ ws) d x h = wanted w ws d (bytes_eq w (codes "!")) (bytes_eq w (codes "(")) (is_short w) x refl refl refl (want_takes ws) (have_takes ws) h

  pub have_takes : (ws : List (List ℕ)) (d : ℕ) (t : Tail) → have ws d ≡ Some t → IsTail ws [] d t
  have_takes [] d t h = nothing_left d (d == 0) t refl h
  have_takes (w ∷ ws) d t h = had w ws d (bytes_eq w (codes "*")) (bytes_eq w (codes "+")) (d == 0) (bytes_eq w (codes ")")) t refl refl refl refl (want_takes ws) (have_takes ws) h

-- ---- what is spelled so is read

pub sign_apart : (w : List ℕ) (b : ℕ) → is_short w ≡ true → is_short (b ∷ []) ≡ false → bytes_eq w (b ∷ []) ≡ false
sign_apart w b h k = apart is_short w (b ∷ []) h k

-- how a level with these factors, or with these products alone, is filled up
abbrev pub with_factors : Factors → Products × List Level × List (List ℕ) → Tail
with_factors fs (ps, outer, rest) = record { level = record { factors = fs; products = ps }; outer = outer; rest = rest }

abbrev pub with_products : Products → List Level × List (List ℕ) → Tail
with_products ps (outer, rest) = record { level = record { factors = no_factor; products = ps }; outer = outer; rest = rest }

abbrev pub to_products : Products → List Level × List (List ℕ) → Products × List Level × List (List ℕ)
to_products ps (outer, rest) = (ps, outer, rest)

abbrev pub to_outer : Tail → List Level × List (List ℕ)
to_outer t = (t.level ∷ t.outer, t.rest)

layer_again : (w : List ℕ) (ws : List (List ℕ)) (d : ℕ) → is_short w ≡ true → want (w ∷ ws) d ≡ option_map (λ t. (of_layer w, t)) (have ws d)
layer_again w ws d h = rw (sign_apart w 33 h refl, sign_apart w 40 h refl, h) refl

wrapped : (f : Factor) (o : Option Tail) → option_map inverted (option_map (λ t. (f, t)) o) ≡ option_map (λ t. (inverse f, t)) o
wrapped f None = refl
wrapped f (Some t) = refl

regroup_group : (s : List (List ℕ)) (p : List ℕ) (ws : List (List ℕ)) → (s ++ (p ∷ [])) ++ ws ≡ s ++ (p ∷ ws)
regroup_group s p ws = append_assoc s (p ∷ []) ws

regroup_sum : (f fs ps ws : List (List ℕ)) → ((f ++ fs) ++ ps) ++ ws ≡ f ++ (fs ++ (ps ++ ws))
regroup_sum f fs ps ws = simp append_assoc

regroup_product : (f fs ws : List (List ℕ)) → (f ++ fs) ++ ws ≡ f ++ (fs ++ ws)
regroup_product f fs ws = append_assoc f fs ws

one_factor : (f : Factor) (fs : Factors) (o : Option (Products × List Level × List (List ℕ))) → option_map one_more_factor (option_map (λ t. (f, t)) (option_map (with_factors fs) o)) ≡ option_map (with_factors (times f fs)) o
one_factor f fs None = refl
one_factor f fs (Some x) = refl

one_product : (f : Factor) (fs : Factors) (ps : Products) (o : Option (List Level × List (List ℕ))) → option_map one_more_product (option_map (λ t. (f, t)) (option_map (with_factors fs) (option_map (to_products ps) o))) ≡ option_map (with_products (plus (product f fs) ps)) o
one_product f fs ps None = refl
one_product f fs ps (Some x) = refl

same_level : (ps : Products) (o : Option (List Level × List (List ℕ))) → option_map (with_products ps) o ≡ option_map (with_factors no_factor) (option_map (to_products ps) o)
same_level ps None = refl
same_level ps (Some x) = refl

one_group : (f : Factor) (fs : Factors) (ps : Products) (o : Option Tail) → (option_map (λ t. (f, t)) (option_map (with_factors fs) (option_map (to_products ps) (option_map to_outer o))) >>= grouped) ≡ option_map (λ t. (group (sum_of (product f fs) ps), t)) o
one_group f fs ps None = refl
one_group f fs ps (Some t) = refl

closes : (o : Option Tail) → option_map closed o ≡ option_map (with_products no_product) (option_map to_outer o)
closes None = refl
closes (Some t) = refl

have_closed : (ws : List (List ℕ)) (d : ℕ) → have (codes ")" ∷ ws) (d + 1) ≡ option_map (with_products no_product) (option_map to_outer (have ws d))
have_closed ws d =
    let some : (d + 1 == 0) ≡ false = ne_eqb (d + 1) 0 (λ e. omega arith) in
    let less : d + 1 - 1 ≡ d = omega arith in
    rw (some, less) (closes (have ws d))

mutual
  pub factor_again : (f : Factor) (ws : List (List ℕ)) (d : ℕ) → names_factor f ≡ true → want (factor_words f ++ ws) d ≡ option_map (λ t. (f, t)) (have ws d)
  factor_again (of_layer w) ws d h = layer_again w ws d h
  factor_again (inverse f) ws d h = ap (option_map inverted) (factor_again f ws d h) ∙ wrapped f (have ws d)
  factor_again (group s) ws d h = ap (λ x. want (codes "(" ∷ x) d) (regroup_group (sum_words s) (codes ")") ws) ∙ group_again s ws d h

  pub group_again : (s : Sum) (ws : List (List ℕ)) (d : ℕ) → names_sum s ≡ true → (want (sum_words s ++ (codes ")" ∷ ws)) (d + 1) >>= grouped) ≡ option_map (λ t. (group s, t)) (have ws d)
  group_again (sum_of (product f fs) ps) ws d h =
      let all = and_parts (names_factor f && names_factors fs) (names_products ps) h in
      let first = and_parts (names_factor f) (names_factors fs) all.0 in
      let o = option_map to_outer (have ws d) in
      let inner = products_again ps (codes ")" ∷ ws) (d + 1) o all.1 (have_closed ws d) ∙ same_level ps o in
      ap (λ x. want x (d + 1) >>= grouped) (regroup_sum (factor_words f) (factors_words fs) (products_words ps) (codes ")" ∷ ws)) ∙ ap (λ x. x >>= grouped) (factor_again f (factors_words fs ++ (products_words ps ++ (codes ")" ∷ ws))) (d + 1) first.0) ∙ ap (λ x. option_map (λ t. (f, t)) x >>= grouped) (factors_again fs (products_words ps ++ (codes ")" ∷ ws)) (d + 1) (option_map (to_products ps) o) first.1 inner) ∙ one_group f fs ps (have ws d)

  pub factors_again : (fs : Factors) (ws : List (List ℕ)) (d : ℕ) (o : Option (Products × List Level × List (List ℕ))) → names_factors fs ≡ true → have ws d ≡ option_map (with_factors no_factor) o → have (factors_words fs ++ ws) d ≡ option_map (with_factors fs) o
  factors_again no_factor ws d o h e = e
  factors_again (times f fs) ws d o h e =
      let all = and_parts (names_factor f) (names_factors fs) h in
      ap (λ x. have (codes "*" ∷ x) d) (regroup_product (factor_words f) (factors_words fs) ws) ∙ ap (option_map one_more_factor) (factor_again f (factors_words fs ++ ws) d all.0 ∙ ap (option_map (λ t. (f, t))) (factors_again fs ws d o all.1 e)) ∙ one_factor f fs o

  pub products_again : (ps : Products) (ws : List (List ℕ)) (d : ℕ) (o : Option (List Level × List (List ℕ))) → names_products ps ≡ true → have ws d ≡ option_map (with_products no_product) o → have (products_words ps ++ ws) d ≡ option_map (with_products ps) o
  products_again no_product ws d o h e = e
  products_again (plus (product f fs) ps) ws d o h e =
      let all = and_parts (names_factor f && names_factors fs) (names_products ps) h in
      let first = and_parts (names_factor f) (names_factors fs) all.0 in
      let inner = products_again ps ws d o all.1 e ∙ same_level ps o in
      ap (λ x. have (codes "+" ∷ x) d) (regroup_sum (factor_words f) (factors_words fs) (products_words ps) ws) ∙ ap (option_map one_more_product) (factor_again f (factors_words fs ++ (products_words ps ++ ws)) d first.0 ∙ ap (option_map (λ t. (f, t))) (factors_again fs (products_words ps ++ ws) d (option_map (to_products ps) o) first.1 inner)) ∙ one_product f fs ps o

stopped : (rest : List (List ℕ)) → EndsSum rest → have rest 0 ≡ option_map (with_products no_product) (Some ([], rest))
stopped [] h = refl
stopped (w ∷ ws) h = rw (unread (bytes_eq w (codes "*")) ws h.factors, unread (bytes_eq w (codes "+")) ws h.products) refl
  where
    unread : (t : Bool) (xs : List (List ℕ)) → (if t then Some xs else None) ≡ None → t ≡ false
    unread true xs e = cc
    unread false xs e = refl

pub parse_again : (s : Sum) (rest : List (List ℕ)) → names_sum s ≡ true → EndsSum rest → parse (sum_words s ++ rest) ≡ Some (s, rest)
parse_again (sum_of (product f fs) ps) rest h ends =
    let all = and_parts (names_factor f && names_factors fs) (names_products ps) h in
    let first = and_parts (names_factor f) (names_factors fs) all.0 in
    let o = Some ([], rest) in
    let inner = products_again ps rest 0 o all.1 (stopped rest ends) ∙ same_level ps o in
    ap parse (regroup_sum (factor_words f) (factors_words fs) (products_words ps) rest) ∙ ap (option_map (λ x. (level_sum x.0 x.1.level, x.1.rest))) (factor_again f (factors_words fs ++ (products_words ps ++ rest)) 0 first.0 ∙ ap (option_map (λ t. (f, t))) (factors_again fs (products_words ps ++ rest) 0 (option_map (to_products ps) o) first.1 inner))

-- what a parsed expression is
pub record IsParsed (ws : List (List ℕ)) (s : Sum) (rest : List (List ℕ)) : Type 0 where
  pub whole : ws ≡ sum_words s ++ rest
  pub named : names_sum s ≡ true
  pub ends : EndsSum rest

parsed_front : (ws : List (List ℕ)) (x : Factor × Tail) (outer : List Level) → x.1.outer ≡ outer → length outer ≡ 0 → IsFront ws 0 x → IsParsed ws (level_sum x.0 x.1.level) x.1.rest
parsed_front ws x [] o e h =
    let inner = and_parts (names_factors x.1.level.factors) (names_products x.1.level.products) h.tail.level_is in
    record {
      whole = h.tail.whole ∙ (λ i. factor_words x.0 ++ (level_words x.1.level ++ outer_words (o i) x.1.rest)) ∙ factor_whole (factor_words x.0) (factors_words x.1.level.factors) (products_words x.1.level.products) x.1.rest;
      named = and_from _ _ (and_from _ _ h.named inner.0) inner.1;
      ends = h.tail.ends;
    }
parsed_front ws x (l ∷ ls) o e h = absurd (omega arith)

pub parse_takes : (ws : List (List ℕ)) (s : Sum) (rest : List (List ℕ)) → parse ws ≡ Some (s, rest) → IsParsed ws s rest
parse_takes ws s rest h =
    let got = map_some (λ x. (level_sum x.0 x.1.level, x.1.rest)) (want ws 0) (s, rest) h in
    let front = want_takes ws 0 got.0 got.1 in
    let read = parsed_front ws got.0 got.0.1.outer refl front.tail.deep front in
    subst (λ (y : Sum × List (List ℕ)). IsParsed ws y.0 y.1) got.2 read

-- ---- the scan

-- how many names of layers stood before, and stand in these
abbrev pub counted : ℕ → Factor × Tail → ℕ × List (List ℕ)
counted n x = (n + (layers_factor x.0 + layers_tail x.1), x.1.rest)

abbrev pub counted_tail : ℕ → Tail → ℕ × List (List ℕ)
counted_tail n t = (n + layers_tail t, t.rest)

abbrev pub at : Bool → ℕ → ℕ → Scan
at wants inside layers = record { wants_factor = wants; parens = inside; layers = layers }

scan_inverted : (n : ℕ) (o : Option (Factor × Tail)) → option_map (counted n) o ≡ option_map (counted n) (option_map inverted o)
scan_inverted n None = refl
scan_inverted n (Some x) = refl

scan_layer : (n : ℕ) (w : List ℕ) (o : Option Tail) → option_map (counted_tail (n + 1)) o ≡ option_map (counted n) (option_map (λ t. (of_layer w, t)) o)
scan_layer n w None = refl
scan_layer n w (Some t) = let e : n + 1 + layers_tail t ≡ n + (1 + layers_tail t) = omega arith in λ i. Some (e i, t.rest)

scan_factor : (n : ℕ) (o : Option (Factor × Tail)) → option_map (counted n) o ≡ option_map (counted_tail n) (option_map one_more_factor o)
scan_factor n None = refl
scan_factor n (Some x) = let e : n + (layers_factor x.0 + layers_tail x.1) ≡ n + layers_tail (one_more_factor x) = omega arith in λ i. Some (e i, x.1.rest)

scan_product : (n : ℕ) (o : Option (Factor × Tail)) → option_map (counted n) o ≡ option_map (counted_tail n) (option_map one_more_product o)
scan_product n None = refl
scan_product n (Some x) = let e : n + (layers_factor x.0 + layers_tail x.1) ≡ n + layers_tail (one_more_product x) = omega arith in λ i. Some (e i, x.1.rest)

scan_closed : (n : ℕ) (o : Option Tail) → option_map (counted_tail n) o ≡ option_map (counted_tail n) (option_map closed o)
scan_closed n None = refl
scan_closed n (Some t) = let e : n + layers_tail t ≡ n + layers_tail (closed t) = omega arith in λ i. Some (e i, t.rest)

group_count : (n : ℕ) (x : Factor × Tail) (outer : List Level) → x.1.outer ≡ outer → 0 < length outer → option_map (counted n) (Some x) ≡ option_map (counted n) (grouped_in x.0 x.1.level outer x.1.rest)
group_count n x [] o some = absurd (omega arith)
group_count n x (l ∷ ls) o some =
    let e : n + (layers_factor x.0 + (layers_level x.1.level + layers_outer (l ∷ ls))) ≡ n + (layers_in (level_sum x.0 x.1.level) + (layers_level l + layers_outer ls)) = omega arith in
    (λ i. Some (n + (layers_factor x.0 + (layers_level x.1.level + layers_outer (o i))), x.1.rest)) ∙ λ i. Some (e i, x.1.rest)

scan_group : (n d : ℕ) (o : Option (Factor × Tail)) → ((x : Factor × Tail) → o ≡ Some x → length x.1.outer ≡ d + 1) → option_map (counted n) o ≡ option_map (counted n) (o >>= grouped)
scan_group n d None h = refl
scan_group n d (Some x) h = let some : 0 < length x.1.outer = omega (arith, h x refl) in group_count n x x.1.outer refl some

scan_wanted : (w : List ℕ) (ws : List (List ℕ)) (d n : ℕ) (a b e : Bool) → ((k m : ℕ) → scan ws (at true k m) ≡ option_map (counted m) (want ws k)) → ((k m : ℕ) → scan ws (at false k m) ≡ option_map (counted_tail m) (have ws k)) →
    ((if a then Some (at true d n) else if b then Some (at true (d + 1) n) else if e then Some (at false d (n + 1)) else None) >>= scan ws) ≡ option_map (counted n) (if a then option_map inverted (want ws d) else if b then (want ws (d + 1) >>= grouped) else if e then option_map (λ t. (of_layer w, t)) (have ws d) else None)
scan_wanted w ws d n true b e f g = f d n ∙ scan_inverted n (want ws d)
scan_wanted w ws d n false true e f g = f (d + 1) n ∙ scan_group n d (want ws (d + 1)) (λ x h. (want_takes ws (d + 1) x h).tail.deep)
scan_wanted w ws d n false false true f g = g d (n + 1) ∙ scan_layer n w (have ws d)
scan_wanted w ws d n false false false f g = refl

scan_had : (w : List ℕ) (ws : List (List ℕ)) (d n : ℕ) (a b z e : Bool) → ((k m : ℕ) → scan ws (at true k m) ≡ option_map (counted m) (want ws k)) → ((k m : ℕ) → scan ws (at false k m) ≡ option_map (counted_tail m) (have ws k)) →
    (if z && not (a || b) then Some (n, w ∷ ws) else ((if a || b then Some (at true d n) else if z then None else if e then Some (at false (d - 1) n) else None) >>= scan ws)) ≡ option_map (counted_tail n) (if a then option_map one_more_factor (want ws d) else if b then option_map one_more_product (want ws d) else if z then Some (record { level = no_level; outer = []; rest = w ∷ ws }) else if e then option_map closed (have ws (d - 1)) else None)
scan_had w ws d n true b true e f g = f d n ∙ scan_factor n (want ws d)
scan_had w ws d n true b false e f g = f d n ∙ scan_factor n (want ws d)
scan_had w ws d n false true true e f g = f d n ∙ scan_product n (want ws d)
scan_had w ws d n false true false e f g = f d n ∙ scan_product n (want ws d)
scan_had w ws d n false false true e f g = let k : n ≡ n + 0 = omega arith in λ i. Some (k i, w ∷ ws)
scan_had w ws d n false false false true f g = g (d - 1) n ∙ scan_closed n (have ws (d - 1))
scan_had w ws d n false false false false f g = refl

scan_none : (d n : ℕ) (z : Bool) → (if z then Some (n, []) else None) ≡ option_map (counted_tail n) (if z then Some (record { level = no_level; outer = []; rest = [] }) else None)
scan_none d n true = let k : n ≡ n + 0 = omega arith in λ i. Some (k i, [])
scan_none d n false = refl

mutual
  pub scan_want : (ws : List (List ℕ)) (d n : ℕ) → scan ws (at true d n) ≡ option_map (counted n) (want ws d)
  scan_want [] d n = refl
  scan_want (w ∷ ws) d n = scan_wanted w ws d n (bytes_eq w (codes "!")) (bytes_eq w (codes "(")) (is_short w) (scan_want ws) (scan_have ws)

  pub scan_have : (ws : List (List ℕ)) (d n : ℕ) → scan ws (at false d n) ≡ option_map (counted_tail n) (have ws d)
  scan_have [] d n = scan_none d n (d == 0)
  scan_have (w ∷ ws) d n = scan_had w ws d n (bytes_eq w (codes "*")) (bytes_eq w (codes "+")) (d == 0) (bytes_eq w (codes ")")) (scan_want ws) (scan_have ws)

-- The scan has come to this rest, and what it counts is not more than what it has passed.
pub record IsScanned (ws rest : List (List ℕ)) (s : Scan) (all left : ℕ) : Type 0 where
  pub same : scan ws (at true 0 0) ≡ scan rest s
  pub parens : s.parens + left ≤ all
  pub layers : s.layers + left ≤ all

-- The words begin with an expression, so many names of layers stand in it, and this is what follows.
pub record IsRead (ws : List (List ℕ)) (n : ℕ) (rest : List (List ℕ)) : Type 0 where
  pub parsed : parse ws ≡ Some (tree_of ws, rest)
  pub layers : n ≡ layers_in (tree_of ws)

read_at : (ws rest : List (List ℕ)) (n : ℕ) (x : Factor × Tail) (outer : List Level) → x.1.outer ≡ outer → length outer ≡ 0 → want ws 0 ≡ Some x → counted 0 x ≡ (n, rest) → IsRead ws n rest
read_at ws rest n x (l ∷ ls) o e h k = absurd (omega arith)
read_at ws rest n x [] o e h k =
    let count : 0 + (layers_factor x.0 + (layers_level x.1.level + layers_outer x.1.outer)) ≡ n = ap (λ (y : ℕ × List (List ℕ)). y.0) k in
    let follows : x.1.rest ≡ rest = ap (λ (y : ℕ × List (List ℕ)). y.1) k in
    let none : layers_outer x.1.outer ≡ 0 = ap layers_outer o in
    let is : parse ws ≡ Some (level_sum x.0 x.1.level, x.1.rest) = ap (option_map (λ y. (level_sum y.0 y.1.level, y.1.rest))) h in
    let tree : tree_of ws ≡ level_sum x.0 x.1.level = ap tree_in is in
    record {
      parsed = is ∙ λ i. Some (sym tree i, follows i);
      layers = (let total : n ≡ layers_in (level_sum x.0 x.1.level) = omega (arith, count, none) in total) ∙ ap layers_in (sym tree);
    }

pub scan_read : (ws rest : List (List ℕ)) (n : ℕ) → scan ws (at true 0 0) ≡ Some (n, rest) → IsRead ws n rest
scan_read ws rest n h =
    let got = map_some (counted 0) (want ws 0) (n, rest) (sym (scan_want ws 0 0) ∙ h) in
    read_at ws rest n got.0 got.0.1.outer refl (want_takes ws 0 got.0 got.1).tail.deep got.1 got.2

none_mapped : (o : Option (Factor × Tail)) → option_map (counted 0) o ≡ None → option_map {U = Sum × List (List ℕ)} (λ (x : Factor × Tail). (level_sum x.0 x.1.level, x.1.rest)) o ≡ None
none_mapped None h = refl
none_mapped (Some x) h = cc

pub scan_stuck : (ws : List (List ℕ)) → scan ws (at true 0 0) ≡ None → parse ws ≡ None
scan_stuck ws h = none_mapped (want ws 0) (sym (scan_want ws 0 0) ∙ h)

-- ---- where the loop of the scan stands

pub first_is : (rest next : List (List ℕ)) (w : List ℕ) → ◌≡◌ {A = Option (List ℕ × List (List ℕ))} (Some (w, next)) (first_of rest) → rest ≡ w ∷ next
first_is [] next w h = cc
first_is (x ∷ xs) next w h = let same : ◌≡◌ {A = List ℕ × List (List ℕ)} (w, next) (x, xs) = cc in λ i. ap (λ (y : List ℕ × List (List ℕ)). y.0) (sym same) i ∷ ap (λ (y : List ℕ × List (List ℕ)). y.1) (sym same) i

pub none_first : (rest : List (List ℕ)) → ◌≡◌ {A = Option (List ℕ × List (List ℕ))} None (first_of rest) → rest ≡ []
none_first [] h = refl
none_first (x ∷ xs) h = cc

pub found_here : (ws rest next : List (List ℕ)) (w : List ℕ) (s : Scan) (all left : ℕ) → IsScanned ws rest s all left → ◌≡◌ {A = Option (List ℕ × List (List ℕ))} (Some (w, next)) (first_of rest) → is_done s w ≡ true → IsRead ws s.layers rest
found_here ws rest next w s all left h e d =
    let r = first_is rest next w e in
    scan_read ws rest s.layers (h.same ∙ ap (λ x. scan x s) r ∙ ap (λ t. if t then Some (s.layers, w ∷ next) else (step s w >>= scan next)) d ∙ λ i. Some (s.layers, sym r i))

pub stuck_here : (ws rest next : List (List ℕ)) (w : List ℕ) (s : Scan) (all left : ℕ) → IsScanned ws rest s all left → ◌≡◌ {A = Option (List ℕ × List (List ℕ))} (Some (w, next)) (first_of rest) → is_done s w ≡ false → step s w ≡ None → parse ws ≡ None
stuck_here ws rest next w s all left h e d n =
    let r = first_is rest next w e in
    scan_stuck ws (h.same ∙ ap (λ x. scan x s) r ∙ ap (λ t. if t then Some (s.layers, w ∷ next) else (step s w >>= scan next)) d ∙ ap (λ o. o >>= scan next) n)

pub whole_here : (ws rest : List (List ℕ)) (s : Scan) (all left : ℕ) → IsScanned ws rest s all left → ◌≡◌ {A = Option (List ℕ × List (List ℕ))} None (first_of rest) → (not s.wants_factor && s.parens == 0) ≡ true → IsRead ws s.layers rest
whole_here ws rest s all left h e d =
    let r = none_first rest e in
    scan_read ws rest s.layers (h.same ∙ ap (λ x. scan x s) r ∙ ap (λ t. if t then Some (s.layers, []) else None) d ∙ λ i. Some (s.layers, sym r i))

pub cut_off_here : (ws rest : List (List ℕ)) (s : Scan) (all left : ℕ) → IsScanned ws rest s all left → ◌≡◌ {A = Option (List ℕ × List (List ℕ))} None (first_of rest) → (not s.wants_factor && s.parens == 0) ≡ false → parse ws ≡ None
cut_off_here ws rest s all left h e d =
    let r = none_first rest e in
    scan_stuck ws (h.same ∙ ap (λ x. scan x s) r ∙ ap (λ t. if t then Some (s.layers, []) else None) d)

step_counts : (s t : Scan) (a b e p q z : Bool) → s.wants_factor ≡ p → (if p then (if a then Some s else if b then Some (record s { parens = s.parens + 1 }) else if e then Some (at false s.parens (s.layers + 1)) else None) else (if q then Some (record s { wants_factor = true }) else if z then None else if b then Some (record s { parens = s.parens - 1 }) else None)) ≡ Some t → (t.parens ≤ s.parens + 1) × (t.layers ≤ s.layers + 1)
step_counts s t true b e true q z w h = let same : s ≡ t = cc in (omega (arith, ap (λ (x : Scan). x.parens) same), omega (arith, ap (λ (x : Scan). x.layers) same))
step_counts s t false true e true q z w h = let same : record s { parens = s.parens + 1 } ≡ t = cc in (omega (arith, ap (λ (x : Scan). x.parens) same), omega (arith, ap (λ (x : Scan). x.layers) same))
step_counts s t false false true true q z w h = let same : at false s.parens (s.layers + 1) ≡ t = cc in (omega (arith, ap (λ (x : Scan). x.parens) same), omega (arith, ap (λ (x : Scan). x.layers) same))
step_counts s t false false false true q z w h = cc
step_counts s t a b e false true z w h = let same : record s { wants_factor = true } ≡ t = cc in (omega (arith, ap (λ (x : Scan). x.parens) same), omega (arith, ap (λ (x : Scan). x.layers) same))
step_counts s t a b e false false true w h = cc
step_counts s t a true e false false false w h = let same : record s { parens = s.parens - 1 } ≡ t = cc in (omega (arith, ap (λ (x : Scan). x.parens) same), omega (arith, ap (λ (x : Scan). x.layers) same))
step_counts s t a false e false false false w h = cc

step_counts_at : (s t : Scan) (w : List ℕ) (p : Bool) → s.wants_factor ≡ p → (if p then factor_step s w else other_step s w) ≡ Some t → (t.parens ≤ s.parens + 1) × (t.layers ≤ s.layers + 1)
step_counts_at s t w true e h = step_counts s t (bytes_eq w (codes "!")) (bytes_eq w (codes "(")) (is_short w) true true true e h
step_counts_at s t w false e h = step_counts s t true (bytes_eq w (codes ")")) true false (bytes_eq w (codes "*") || bytes_eq w (codes "+")) (s.parens == 0) e h

pub goes_on_here : (ws rest next : List (List ℕ)) (w : List ℕ) (s t : Scan) (all left less : ℕ) → IsScanned ws rest s all left → ◌≡◌ {A = Option (List ℕ × List (List ℕ))} (Some (w, next)) (first_of rest) → is_done s w ≡ false → step s w ≡ Some t → less < left → IsScanned ws next t all less
goes_on_here ws rest next w s t all left less h e d n lt =
    let r = first_is rest next w e in
    let counts = step_counts_at s t w s.wants_factor refl n in
    record {
      same = h.same ∙ ap (λ x. scan x s) r ∙ ap (λ u. if u then Some (s.layers, w ∷ next) else (step s w >>= scan next)) d ∙ ap (λ o. o >>= scan next) n;
      parens = omega (arith, h.parens, counts.0, lt);
      layers = omega (arith, h.layers, counts.1, lt);
    }
