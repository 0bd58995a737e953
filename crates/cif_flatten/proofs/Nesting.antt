-- What unfolds does not call itself.
use Rattle.std.proofs.Common.{◌≡◌, ℕ, zero, suc, ◌+◌, ◌<◌, ◌≤◌, length, true, List, [], ◌∷◌, ◌++◌, sym, ap, subst, arith, eqb-true, length-append}
use Rattle.std.proofs.lemmas.Bool.{false≢true}
use Rattle.plane_geom.specs.Placement.{Step, steps_of}
use Rattle.cif_reader.specs.declared.file.Item.{Item}
use Rattle.cif_reader.specs.declared.file.Symbol.{Symbol}
use Rattle.cif_reader.specs.declared.file.What.{What}
use Rattle.cif_reader.specs.declared.file.What.TheVariants.{Draw, Call, Mark}
use Rattle.cif_flatten.specs.Unfolding.{Placed, in_place, items_of, opened_by, Unfolds}
use Rattle.cif_flatten.specs.Faults.{is_call_of, has_call, CallsAlong, CallsThrough}
use Rattle.cif_flatten.proofs.Cases.{cons_not_nil, or_case}
use Rattle.cif_flatten.proofs.Unfoldings.{Split, unfolds_split}

-- The symbol unfolds somewhere to fewer commands.
pub record Inner (symbols : List Symbol) (number most : ℕ) : Type 0 where
  pub steps : List Step
  pub depth : ℕ
  pub inside : List Placed
  pub unfolds : Unfolds symbols (in_place steps depth (items_of symbols number)) inside
  pub fewer : length inside < most

opened_call : (symbols : List Symbol) (b : ℕ) (what : What) (steps : List Step) (depth : ℕ) (left : List Placed) (most : ℕ) → is_call_of b what ≡ true → Unfolds symbols (opened_by symbols steps depth what) left → length left < most → Inner symbols b most
opened_call symbols b (Draw layer shape) steps depth left most is u few = absurd (false≢true is)
opened_call symbols b (Call called place) steps depth left most is u few = record {
  steps = steps_of place ++ steps;
  depth = depth + 1;
  inside = left;
  unfolds = subst (λ n. Unfolds symbols (in_place (steps_of place ++ steps) (depth + 1) (items_of symbols n)) left) (sym (eqb-true b called is)) u;
  fewer = few;
}
opened_call symbols b (Mark name at layer) steps depth left most is u few = absurd (false≢true is)

fewer_than : (symbols : List Symbol) (b m n : ℕ) → Inner symbols b m → m ≤ n → Inner symbols b n
fewer_than symbols b m n h le = record { steps = h.steps; depth = h.depth; inside = h.inside; unfolds = h.unfolds; fewer = omega (arith, h.fewer, le) }

left_fewer : (c : Placed) (left right placed : List Placed) → placed ≡ left ++ right → length left < length (c ∷ placed)
left_fewer c left right placed is = omega (arith, ap (λ l. length l) is, length-append left right)

right_fewer : (c : Placed) (left right placed : List Placed) → placed ≡ left ++ right → length right ≤ length (c ∷ placed)
right_fewer c left right placed is = omega (arith, ap (λ l. length l) is, length-append left right)

-- A called symbol unfolds to fewer commands.
inner : (symbols : List Symbol) (b : ℕ) (steps : List Step) (depth : ℕ) (items : List Item) (placed : List Placed) → has_call b items ≡ true → Unfolds symbols (in_place steps depth items) placed → Inner symbols b (length placed)
inner symbols b steps depth [] placed has u = absurd (false≢true has)
inner symbols b steps depth (item ∷ items) [] has u = absurd (cons_not_nil _ _ u)
inner symbols b steps depth (item ∷ items) (c ∷ placed) has u =
    let s : Split symbols (opened_by symbols steps depth item.what) (in_place steps depth items) placed = unfolds_split symbols (opened_by symbols steps depth item.what) (in_place steps depth items) placed u.1 in
    or_case (is_call_of b item.what) (has_call b items) has
    (λ is. opened_call symbols b item.what steps depth s.left (length (c ∷ placed)) is s.first (left_fewer c s.left s.right placed s.whole))
    (λ more. fewer_than symbols b (length s.right) (length (c ∷ placed)) (inner symbols b steps depth items s.right more s.second) (right_fewer c s.left s.right placed s.whole))

along : (symbols : List Symbol) (a : ℕ) (cs : List ℕ) (b : ℕ) (steps : List Step) (depth : ℕ) (placed : List Placed) → CallsAlong symbols a cs b → Unfolds symbols (in_place steps depth (items_of symbols a)) placed → Inner symbols b (length placed)
along symbols a [] b steps depth placed h u = inner symbols b steps depth (items_of symbols a) placed h u
along symbols a (c ∷ cs) b steps depth placed h u =
    let i : Inner symbols c (length placed) = inner symbols c steps depth (items_of symbols a) placed h.0 u in
    fewer_than symbols b (length i.inside) (length placed) (along symbols c cs b i.steps i.depth i.inside h.1 i.unfolds) (omega (arith, i.fewer))

none_below : (symbols : List Symbol) (n most : ℕ) → CallsThrough symbols n n → Inner symbols n most → ⊥
none_below symbols n zero h i = omega (arith, i.fewer)
none_below symbols n (suc most) h i = none_below symbols n most h (fewer_than symbols n (length i.inside) most (along symbols n h.through n i.steps i.depth i.inside h.along i.unfolds) (omega (arith, i.fewer)))

-- A symbol whose items unfold does not call itself.
pub no_circle : (symbols : List Symbol) (n : ℕ) (steps : List Step) (depth : ℕ) (placed : List Placed) → Unfolds symbols (in_place steps depth (items_of symbols n)) placed → CallsThrough symbols n n → ⊥
no_circle symbols n steps depth placed u h = none_below symbols n (length placed + 1) h (record { steps = steps; depth = depth; inside = placed; unfolds = u; fewer = omega arith })
