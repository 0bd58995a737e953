-- The unfolding of calls with a stack of commands.
use Rattle.std.proofs.Common.{◌≡◌, ℕ, zero, suc, add-one, get_or, ◌+◌, ◌≤◌, length, drop, List, [], ◌∷◌, ◌++◌, refl, sym, ap, ◌∙◌, subst, arith, append_assoc}
use Rattle.std.proofs.Math.Seq.{drop-cons}
use Rattle.std.proofs.lemmas.List.{append-nil}
use Rattle.std.proofs.lemmas.List.Sums.{sum_by-cons}
use Rattle.plane_geom.specs.declared.shapes.Point.{Point}
use Rattle.plane_geom.specs.Placement.{Step, moved, steps_of}
use Rattle.plane_geom.proofs.Turning.{moved-append}
use Rattle.cif_reader.specs.declared.file.Item.{Item}
use Rattle.cif_reader.specs.declared.file.Symbol.{Symbol}
use Rattle.cif_reader.specs.declared.file.What.{What}
use Rattle.cif_reader.specs.declared.file.What.TheVariants.{Draw, Call, Mark}
use Rattle.cif_reader.specs.File.{Contents}
use Rattle.cif_flatten.specs.declared.unfolding.Command.{Command}
use Rattle.cif_flatten.specs.Unfolding.{Placed, in_place, items_of, opened, opened_by, Unfolds, IsUnfolding, call_count, calls_among}
use Rattle.cif_flatten.specs.Unrolling.{placed_of, waiting, IsAlike, AreAlike, IsUnrolled, Unrolling, count_within}
use Rattle.cif_flatten.proofs.Cases.{cons_not_nil}

-- ---- the stack

pub waiting_push : (commands : List Command) (c : Command) → waiting (commands ++ c ∷ []) ≡ placed_of c ∷ waiting commands
waiting_push [] c = refl
waiting_push (d ∷ commands) c = ap (λ r. r ++ placed_of d ∷ []) (waiting_push commands c)

-- one item more, from the last to the first
pub one_pushed : (steps : List Step) (depth : ℕ) (items : List Item) (n i : ℕ) (d : Item) (c : Command) (before old now : List Command) → n ≡ i + 1 → n ≤ length items
    → placed_of c ≡ record { item = get_or items i d; steps = steps; depth = depth } → waiting before ≡ in_place steps depth (drop n items) ++ waiting old → now ≡ before ++ c ∷ [] → waiting now ≡ in_place steps depth (drop i items) ++ waiting old
one_pushed steps depth items n i d c before old now next within one same is =
    ap waiting is ∙ waiting_push before c ∙ (λ j. one j ∷ (same ∙ ap (λ k. in_place steps depth (drop k items) ++ waiting old) (next ∙ add-one i)) j)
    ∙ ap (λ items. in_place steps depth items ++ waiting old) (sym (drop-cons items i d (omega (arith, next, within))))

-- ---- commands that are alike

alike_one : (a : Placed) → IsAlike a a
alike_one a = record { item = refl; depth = refl; moves = refl }

alike_then : (a b c : Placed) → IsAlike a b → IsAlike b c → IsAlike a c
alike_then a b c h k = record { item = h.item ∙ k.item; depth = h.depth ∙ k.depth; moves = h.moves ∙ k.moves }

pub alike_same : (xs : List Placed) → AreAlike xs xs
alike_same [] = tt
alike_same (x ∷ xs) = (alike_one x, alike_same xs)

pub alike_from : (xs ys : List Placed) → xs ≡ ys → AreAlike xs ys
alike_from xs ys e = subst (AreAlike xs) e (alike_same xs)

pub alike_on : (xs ys zs : List Placed) → AreAlike xs ys → AreAlike ys zs → AreAlike xs zs
alike_on [] [] zs h k = k
alike_on [] (y ∷ ys) zs h k = absurd h
alike_on (x ∷ xs) [] zs h k = absurd h
alike_on (x ∷ xs) (y ∷ ys) [] h k = absurd k
alike_on (x ∷ xs) (y ∷ ys) (z ∷ zs) h k = (alike_then x y z h.0 k.0, alike_on xs ys zs h.1 k.1)

pub alike_append : (xs ys us vs : List Placed) → AreAlike xs ys → AreAlike us vs → AreAlike (xs ++ us) (ys ++ vs)
alike_append [] [] us vs h k = k
alike_append [] (y ∷ ys) us vs h k = absurd h
alike_append (x ∷ xs) [] us vs h k = absurd h
alike_append (x ∷ xs) (y ∷ ys) us vs h k = (h.0, alike_append xs ys us vs h.1 k)

pub alike_in_place : (s t : List Step) (depth : ℕ) (items : List Item) → moved s ≡ moved t → AreAlike (in_place s depth items) (in_place t depth items)
alike_in_place s t depth [] h = tt
alike_in_place s t depth (item ∷ items) h = (record { item = refl; depth = refl; moves = h }, alike_in_place s t depth items h)

moved_further : (a s t : List Step) → moved s ≡ moved t → (p : Point) → moved (a ++ s) p ≡ moved (a ++ t) p
moved_further a s t h p = moved-append a s p ∙ ap (λ f. f (moved a p)) h ∙ sym (moved-append a t p)

opened_same : (symbols : List Symbol) (what : What) (s t : List Step) (depth : ℕ) → moved s ≡ moved t → AreAlike (opened_by symbols s depth what) (opened_by symbols t depth what)
opened_same symbols (Draw layer shape) s t depth h = tt
opened_same symbols (Call number place) s t depth h = alike_in_place (steps_of place ++ s) (steps_of place ++ t) (depth + 1) (items_of symbols number) (λ i p. moved_further (steps_of place) s t h p i)
opened_same symbols (Mark name at layer) s t depth h = tt

opened_alike : (symbols : List Symbol) (a b : Placed) → IsAlike a b → AreAlike (opened symbols a) (opened symbols b)
opened_alike symbols a b h =
    subst (λ (item : Item). AreAlike (opened symbols a) (opened_by symbols b.steps b.depth item.what)) h.item
    (subst (λ depth. AreAlike (opened symbols a) (opened_by symbols b.steps depth a.item.what)) h.depth (opened_same symbols a.item.what a.steps b.steps a.depth h.moves))

-- Commands that are alike unfold alike.
pub record Likewise (symbols : List Symbol) (commands placed : List Placed) : Type 0 where
  pub other : List Placed
  pub unfolds : Unfolds symbols commands other
  pub alike : AreAlike placed other

likewise_more : (symbols : List Symbol) (c x y : Placed) (ys p : List Placed) → c ≡ x → IsAlike x y → Likewise symbols (opened symbols y ++ ys) p → Likewise symbols (y ∷ ys) (c ∷ p)
likewise_more symbols c x y ys p e h r = record { other = y ∷ r.other; unfolds = (refl, r.unfolds); alike = (subst (λ z. IsAlike z y) (sym e) h, r.alike) }

pub likewise : (symbols : List Symbol) (xs ys p : List Placed) → AreAlike xs ys → Unfolds symbols xs p → Likewise symbols ys p
likewise symbols [] [] [] h u = record { other = []; unfolds = refl; alike = tt }
likewise symbols [] (y ∷ ys) [] h u = absurd h
likewise symbols (x ∷ xs) ys [] h u = absurd (cons_not_nil _ _ u)
likewise symbols [] ys (c ∷ p) h u = absurd u
likewise symbols (x ∷ xs) [] (c ∷ p) h u = absurd h
likewise symbols (x ∷ xs) (y ∷ ys) (c ∷ p) h u =
    likewise_more symbols c x y ys p u.0 h.0 (likewise symbols (opened symbols x ++ xs) (opened symbols y ++ ys) p (alike_append (opened symbols x) (opened symbols y) xs ys (opened_alike symbols x y h.0) h.1) u.1)

pub calls_alike : (xs ys : List Placed) → AreAlike xs ys → calls_among xs ≡ calls_among ys
calls_alike [] [] h = refl
calls_alike [] (y ∷ ys) h = absurd h
calls_alike (x ∷ xs) [] h = absurd h
calls_alike (x ∷ xs) (y ∷ ys) h =
    sum_by-cons (λ (c : Placed). call_count c.item.what) x xs ∙ (λ i. call_count (h.0.item i).what + calls_alike xs ys h.1 i) ∙ sym (sum_by-cons (λ (c : Placed). call_count c.item.what) y ys)

pub length_alike : (xs ys : List Placed) → AreAlike xs ys → length xs ≡ length ys
length_alike [] [] h = refl
length_alike [] (y ∷ ys) h = absurd h
length_alike (x ∷ xs) [] h = absurd h
length_alike (x ∷ xs) (y ∷ ys) h = omega (arith, length_alike xs ys h.1)

-- ---- one command unfolded

pub record Unrolled (file : Contents) (done pending : List Placed) (c : Placed) (rest : List Placed) : Type 0 where
  pub unrolling : Unrolling file (done ++ c ∷ []) pending
  pub calls : call_count c.item.what + calls_among unrolling.rest ≡ calls_among rest
  pub shorter : length unrolling.rest + 1 ≡ length rest

unroll_case : (file : Contents) (done pending : List Placed) (c : Placed) (more placed rest : List Placed) → IsUnfolding file placed → Unfolds file.symbols (c ∷ more) rest → AreAlike placed (done ++ rest)
    → AreAlike (opened file.symbols c ++ more) pending → Unrolled file done pending c rest
unroll_case file done pending c more placed [] whole u alike h = absurd (cons_not_nil _ _ u)
unroll_case file done pending c more placed (e ∷ rest) whole u alike h =
    let r : Likewise file.symbols pending rest = likewise file.symbols (opened file.symbols c ++ more) pending rest h u.1 in
    record {
      unrolling = record {
        placed = placed;
        unfolded = whole;
        rest = r.other;
        unfolds = r.unfolds;
        alike = subst (AreAlike placed) (sym (append_assoc done (c ∷ []) r.other))
            (alike_on placed (done ++ e ∷ rest) (done ++ c ∷ r.other) alike
            (alike_append done done (e ∷ rest) (c ∷ r.other) (alike_same done) (subst (λ z. IsAlike z c) (sym u.0) (alike_one c), r.alike)));
      };
      calls = (λ i. call_count (sym u.0 i).item.what + sym (calls_alike rest r.other r.alike) i) ∙ sym (sum_by-cons (λ (c : Placed). call_count c.item.what) e rest);
      shorter = omega (arith, length_alike rest r.other r.alike);
    }

pub unroll : (file : Contents) (done before pending : List Placed) (c : Placed) (more : List Placed) (u : Unrolling file done before) → before ≡ c ∷ more → AreAlike (opened file.symbols c ++ more) pending → Unrolled file done pending c u.rest
unroll file done before pending c more u is h = unroll_case file done pending c more u.placed u.rest u.unfolded (subst (λ xs. Unfolds file.symbols xs u.rest) is u.unfolds) u.alike h

-- ---- the measure

pub count_is : (n : ℕ) (symbols : List Symbol) (commands placed : List Placed) → Unfolds symbols commands placed → length placed ≤ n → count_within n symbols commands ≡ length placed
count_is zero symbols commands [] u few = refl
count_is zero symbols commands (c ∷ placed) u few = absurd (omega (arith, few))
count_is (suc n) symbols [] [] u few = refl
count_is (suc n) symbols [] (c ∷ placed) u few = absurd u
count_is (suc n) symbols (d ∷ commands) [] u few = absurd (cons_not_nil _ _ u)
count_is (suc n) symbols (d ∷ commands) (c ∷ placed) u few = omega (arith, count_is n symbols (opened symbols d ++ commands) placed u.1 (omega (arith, few)))

-- ---- the end

end_case : (file : Contents) (done placed rest : List Placed) → IsUnfolding file placed → Unfolds file.symbols [] rest → AreAlike placed (done ++ rest) → IsUnrolled file done
end_case file done placed [] whole u alike = record { placed = placed; unfolded = whole; alike = subst (AreAlike placed) (append-nil done) alike }
end_case file done placed (c ∷ rest) whole u alike = absurd u

pub all_unrolled : (file : Contents) (done before : List Placed) → before ≡ [] → Unrolling file done before → IsUnrolled file done
all_unrolled file done before is u = end_case file done u.placed u.rest u.unfolded (subst (λ xs. Unfolds file.symbols xs u.rest) is u.unfolds) u.alike
