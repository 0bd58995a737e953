-- The table of places: one literal more, and one less.
use Rattle.std.proofs.Common.{◌≡◌, ℕ, ◌+◌, ◌-◌, ◌<◌, ◌≤◌, inl, inr, ℤ, pos, false, List, [], ◌∷◌, ◌++◌, length, take, set, get_or, if◌then◌else◌, refl, sym, ap, ◌∙◌, subst, arith}
use Rattle.std.specs.List.{sum_by}
use Rattle.std.specs.Ordering.{int_eq}
use Rattle.std.proofs.lemmas.Bool.{cases_lt}
use Rattle.std.proofs.lemmas.Bool.Decides.{nat_tests}
use Rattle.std.proofs.lemmas.List.{length_push, length-set, get_or-take, get_or_past, take_at, take-append-le}
use Rattle.std.proofs.lemmas.List.Sums.{sum_by-set}
use Rattle.clause_base.specs.Literals.{is_in, lit_at}
use Rattle.clause_base.specs.Literals.{code_of}
use Rattle.clause_base.proofs.LiteralLemmas.{by_test, same_lit, same_test, differ}
use Rattle.search_trail.specs.Placing.{rank, free, IsPlaced}
use Rattle.search_trail.proofs.Members.{by_push, lit_before, lit_new, not_at, not_in}

pub not_ranked : (vars : ℕ) (ranks : List ℕ) (lits : List ℤ) (l : ℤ) → IsPlaced vars ranks lits → rank ranks l ≡ 0 → is_in lits l ≡ false
not_ranked vars ranks lits l placed none = not_in lits l (λ p lt at. omega (arith, none, placed.ranked p lt, ap (λ z. rank ranks z) at))

-- the rank of one literal is changed
module _ (ranks after : List ℕ) (lit : ℤ) (to : ℕ) (changed : (m : ℤ) → rank after m ≡ (if int_eq m lit then to else rank ranks m)) where
  rank_here : (m : ℤ) → m ≡ lit → rank after m ≡ to
  rank_here m same = changed m ∙ ap (λ b. if b then to else rank ranks m) (same_test m lit same)

  rank_there : (m : ℤ) → int_eq m lit ≡ false → rank after m ≡ rank ranks m
  rank_there m other = changed m ∙ ap (λ b. if b then to else rank ranks m) other

  by_rank : {P : Type 0} (m : ℤ) → (m ≡ lit → rank after m ≡ to → P) → ((m ≡ lit → ⊥) → rank after m ≡ rank ranks m → P) → P
  by_rank m here there = by_test (int_eq m lit)
      (λ is. here (same_lit m lit is) (rank_here m (same_lit m lit is)))
      (λ is. there (differ m lit is) (rank_there m is))

-- a literal with a place
not_free : (n : ℕ) → 0 < n → free n ≡ 0
not_free n lt = grind (arith, nat_tests, lt)

filled : (ranks after : List ℕ) (c to size : ℕ) → c < length ranks → after ≡ set ranks c to → get_or ranks c 0 ≡ 0 → 0 < to → size + sum_by free ranks ≡ length ranks → size + 1 + sum_by free after ≡ length after
filled ranks after c to size lt is none some room =
    subst (λ r. size + 1 + sum_by free r ≡ length r) (sym is)
    (omega (arith, sum_by-set free ranks c to 0 lt, ap free none, not_free to some, room, length-set ranks c to))

emptied : (ranks after : List ℕ) (c size : ℕ) → c < length ranks → after ≡ set ranks c 0 → 0 < get_or ranks c 0 → size + 1 + sum_by free ranks ≡ length ranks → size + sum_by free after ≡ length after
emptied ranks after c size lt is some room =
    subst (λ r. size + sum_by free r ≡ length r) (sym is)
    (omega (arith, sum_by-set free ranks c 0 0 lt, not_free (get_or ranks c 0) some, room, length-set ranks c 0))

module _ (vars : ℕ) (ranks after : List ℕ) (lits new : List ℤ) (lit : ℤ) (placed : IsPlaced vars ranks lits) where
  pub pushed : (to : ℕ) → is_in lits lit ≡ false → code_of lit < length ranks → new ≡ lits ++ lit ∷ [] → to ≡ length lits + 1 → after ≡ set ranks (code_of lit) to
      → ((m : ℤ) → rank after m ≡ (if int_eq m lit then to else rank ranks m)) → IsPlaced vars after new
  pushed to fresh room is number made changed = subst (λ ls. IsPlaced vars after ls) (sym is) (record {
    size = ap length made ∙ length-set ranks (code_of lit) to ∙ placed.size;
    within = λ l some. by_rank ranks after lit to changed l
        (λ same here. omega (arith, here, number, more))
        (λ other there. omega (arith, some, there, placed.within l (omega (arith, some, there)), more));
    found = λ l some. by_rank ranks after lit to changed l
        (λ same here. lit_new lits lit (rank after l - 1) (omega (arith, here, number)) ∙ sym same)
        (λ other there. lit_before lits lit (rank after l - 1) (omega (arith, some, there, placed.within l (omega (arith, some, there))))
        ∙ ap (λ n. lit_at lits (n - 1)) there ∙ placed.found l (omega (arith, some, there)));
    ranked = λ p lt. by_push lits lit p lt
        (λ less. by_rank ranks after lit to changed (lit_at lits p)
        (λ same here. absurd (not_at lits lit fresh p less same))
        (λ other there. ap (λ z. rank after z) (lit_before lits lit p less) ∙ there ∙ placed.ranked p less))
        (λ at. ap (λ z. rank after z) (lit_new lits lit p at) ∙ by_rank ranks after lit to changed lit
        (λ same here. omega (arith, here, number, at))
        (λ other there. absurd (other refl)));
    room = subst (λ n. n + sum_by free after ≡ length after) (sym more) (filled ranks after (code_of lit) to (length lits) room made none (omega (arith, number)) placed.room);
  }) where
    more : length (lits ++ lit ∷ []) ≡ length lits + 1
    more = length_push lits lit

    zero_or : (n : ℕ) → (0 < n → ⊥) → n ≡ 0
    zero_or n none = grind (arith, none)

    none : rank ranks lit ≡ 0
    none = zero_or (rank ranks lit) (λ some. not_at lits lit fresh (rank ranks lit - 1) (omega (arith, some, placed.within lit some)) (placed.found lit some))

  pub popped : (front : List ℤ) → length lits ≡ length front + 1 → front ≡ take (length lits - 1) lits → lit ≡ lit_at lits (length lits - 1) → after ≡ set ranks (code_of lit) 0 → code_of lit < length ranks
      → ((m : ℤ) → rank after m ≡ (if int_eq m lit then 0 else rank ranks m)) → IsPlaced vars after front
  popped front size is last made room changed = record {
    size = ap length made ∙ length-set ranks (code_of lit) 0 ∙ placed.size;
    within = λ l some. by_rank ranks after lit 0 changed l
        (λ same here. absurd (omega (arith, here, some)))
        (λ other there. low l some other there);
    found = λ l some. by_rank ranks after lit 0 changed l
        (λ same here. absurd (omega (arith, here, some)))
        (λ other there. at (rank after l - 1) (omega (arith, some, low l some other there)) ∙ ap (λ n. lit_at lits (n - 1)) there ∙ placed.found l (omega (arith, some, there)));
    ranked = λ p lt. by_rank ranks after lit 0 changed (lit_at front p)
        (λ same here. absurd (omega (arith, lt, size, placed.ranked p (omega (arith, lt, size)), placed.ranked (length lits - 1) (omega (arith, size)), ap (λ z. rank ranks z) (sym (at p lt) ∙ same ∙ last))))
        (λ other there. there ∙ ap (λ z. rank ranks z) (at p lt) ∙ placed.ranked p (omega (arith, lt, size)));
    room = emptied ranks after (code_of lit) (length front) room made (omega (arith, here)) (omega (arith, placed.room, size));
  } where
    here : rank ranks lit ≡ length lits - 1 + 1
    here = ap (λ z. rank ranks z) last ∙ placed.ranked (length lits - 1) (omega (arith, size))

    at : (p : ℕ) → p < length front → lit_at front p ≡ lit_at lits p
    at p lt = ap (λ ls. lit_at ls p) is ∙ get_or-take (length lits - 1) lits p (pos 0) (omega (arith, lt, size))

    low : (l : ℤ) → 0 < rank after l → (l ≡ lit → ⊥) → rank after l ≡ rank ranks l → rank after l ≤ length front
    low l some other there = elim (cases_lt (length front) (rank after l)) [
      | inl more ↦ absurd (other (sym (placed.found l (omega (arith, some, there)))
          ∙ ap (λ n. lit_at lits n) (top l more there (placed.within l (omega (arith, some, there)))) ∙ sym last))
      | inr less ↦ less
    ]
      where
        top : (l : ℤ) → length front < rank after l → rank after l ≡ rank ranks l → rank ranks l ≤ length lits → rank ranks l - 1 ≡ length lits - 1
        top l more there within = omega (arith, more, there, within, size)

  pub last_coded : (front : List ℤ) → lits ≡ front ++ lit ∷ [] → code_of lit < length ranks
  last_coded front is = elim (cases_lt (code_of lit) (length ranks)) [
    | inl less ↦ less
    | inr more ↦ absurd (omega (arith, get_or_past ranks (code_of lit) 0 more, here))
  ]
    where
      last : lit ≡ lit_at lits (length front)
      last = sym (ap (λ ls. lit_at ls (length front)) is ∙ lit_new front lit (length front) refl)

      here : rank ranks lit ≡ length front + 1
      here = ap (λ z. rank ranks z) last ∙ placed.ranked (length front) (omega (arith, ap length is, length_push front lit))

  pub last_popped : (front : List ℤ) → lits ≡ front ++ lit ∷ [] → after ≡ set ranks (code_of lit) 0
      → ((m : ℤ) → rank after m ≡ (if int_eq m lit then 0 else rank ranks m)) → IsPlaced vars after front
  last_popped front is made changed = popped front size
      (sym (ap (λ n. take n lits) (omega (arith, size)) ∙ ap (λ ls. take (length front) ls) is ∙ take_at front (lit ∷ []) (length front) refl))
      (sym (ap (λ n. lit_at lits n) (omega (arith, size)) ∙ ap (λ ls. lit_at ls (length front)) is ∙ lit_new front lit (length front) refl))
      made (last_coded front is) changed
    where
      size : length lits ≡ length front + 1
      size = ap length is ∙ length_push front lit

pub popped_front : (lits front all : List ℤ) (lit : ℤ) (size : ℕ) → lits ≡ front ++ lit ∷ [] → size < length lits → take size lits ≡ take size all → take size front ≡ take size all
popped_front lits front all lit size is more same =
    sym (take-append-le size front (lit ∷ []) (omega (arith, more, ap length is, length_push front lit))) ∙ ap (λ ls. take size ls) (sym is) ∙ same
