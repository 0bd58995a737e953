-- A file has one answer.
use Rattle.std.proofs.Common.{◌≡◌, ℕ, ◌≤◌, map, refl, sym, ap, ◌∙◌, subst, arith}
use Rattle.std.specs.List.{Contains}
use Rattle.std.proofs.lemmas.List.Elements.{All-contains}
use Rattle.cif_reader.specs.File.{Contents}
use Rattle.cif_flatten.specs.declared.calls.UndefinedCall.{UndefinedCall}
use Rattle.cif_flatten.specs.declared.refusal.FlattenRefusal.{FlattenRefusal}
use Rattle.cif_flatten.specs.declared.refusal.FlattenRefusal.TheVariants.{Undefined, Recursive, TooManyCalls, TooManyEdges, OutOfRange, TooFine, NoMemory}
use Rattle.cif_flatten.specs.Flat.{Lists}
use Rattle.cif_flatten.specs.Unfolding.{drawn, marked}
use Rattle.cif_flatten.specs.Faults.{IsUndefined, undefined_calls, PlacedPoints, reaching, IsInRange, IsOutOfRange}
use Rattle.cif_flatten.specs.Flattening.{HasFault, row, IsFirstFault, IsFlattened, AreCallsApart, drawn_of, marked_of}
use Rattle.cif_flatten.proofs.Cases.{not_less}
use Rattle.cif_flatten.proofs.Unfoldings.{one_of_file}

pub one_layout : (file : Contents) (f g : Lists) → IsFlattened file f → IsFlattened file g → (map drawn_of f.draws ≡ map drawn_of g.draws) × (map marked_of f.marks ≡ map marked_of g.marks)
one_layout file f g h k =
    let same : h.placed ≡ k.placed = one_of_file file h.placed k.placed h.unfolded k.unfolded in
    (h.draws ∙ ap drawn same ∙ sym k.draws, h.marks ∙ ap marked same ∙ sym k.marks)

pub never_both : (file : Contents) (lists : Lists) (refusal : FlattenRefusal) → IsFlattened file lists → IsFirstFault file refusal → ⊥
never_both file lists refusal h k = h.sound.none refusal k.fault

same_number : (m n : ℕ) → m ≤ n → n ≤ m → m ≡ n
same_number m n h k = omega (arith, h, k)

same_undefined : (file : Contents) (a b : UndefinedCall) → AreCallsApart file → IsUndefined file a → IsUndefined file b → Undefined a.pos a.symbol ≡ Undefined b.pos b.symbol
same_undefined file a b apart h k =
    let at : a.pos ≡ b.pos = same_number a.pos b.pos (All-contains (λ (c : UndefinedCall). a.pos ≤ c.pos) (undefined_calls file) b h.first k.one) (All-contains (λ (c : UndefinedCall). b.pos ≤ c.pos) (undefined_calls file) a k.first h.one) in
    λ i. Undefined (at i) (apart.apart a b h.one k.one at i)

before : (file : Contents) (p q : ℕ) → IsOutOfRange file p → IsOutOfRange file q → p ≤ q
before file p q h k = omega (
  arith,
  k.at,
  All-contains (λ (r : PlacedPoints). (IsInRange r → ⊥) → p ≤ r.pos) (reaching h.placed) k.reach h.least
      (subst (λ cs. Contains (reaching cs) k.reach) (one_of_file file k.placed h.placed k.unfolded h.unfolded) k.one) k.out,
)

same_fault : (file : Contents) (r s : FlattenRefusal) → AreCallsApart file → row r ≡ row s → HasFault file r → HasFault file s → r ≡ s
same_fault file (Undefined place symbol) (Undefined place' symbol') apart e h k = same_undefined file (record { pos = place; symbol = symbol }) (record { pos = place'; symbol = symbol' }) apart h k
same_fault file (Undefined place symbol) (Recursive number') apart e h k = absurd (omega (arith, e))
same_fault file (Undefined place symbol) TooManyCalls apart e h k = absurd (omega (arith, e))
same_fault file (Undefined place symbol) TooManyEdges apart e h k = absurd (omega (arith, e))
same_fault file (Undefined place symbol) (OutOfRange place') apart e h k = absurd (omega (arith, e))
same_fault file (Undefined place symbol) TooFine apart e h k = absurd (omega (arith, e))
same_fault file (Undefined place symbol) NoMemory apart e h k = absurd (omega (arith, e))
same_fault file (Recursive number) (Undefined place' symbol') apart e h k = absurd (omega (arith, e))
same_fault file (Recursive number) (Recursive number') apart e h k = ap Recursive (same_number number number' (h.least number' k.itself) (k.least number h.itself))
same_fault file (Recursive number) TooManyCalls apart e h k = absurd (omega (arith, e))
same_fault file (Recursive number) TooManyEdges apart e h k = absurd (omega (arith, e))
same_fault file (Recursive number) (OutOfRange place') apart e h k = absurd (omega (arith, e))
same_fault file (Recursive number) TooFine apart e h k = absurd (omega (arith, e))
same_fault file (Recursive number) NoMemory apart e h k = absurd (omega (arith, e))
same_fault file TooManyCalls (Undefined place' symbol') apart e h k = absurd (omega (arith, e))
same_fault file TooManyCalls (Recursive number') apart e h k = absurd (omega (arith, e))
same_fault file TooManyCalls TooManyCalls apart e h k = refl
same_fault file TooManyCalls TooManyEdges apart e h k = absurd (omega (arith, e))
same_fault file TooManyCalls (OutOfRange place') apart e h k = absurd (omega (arith, e))
same_fault file TooManyCalls TooFine apart e h k = absurd (omega (arith, e))
same_fault file TooManyCalls NoMemory apart e h k = absurd (omega (arith, e))
same_fault file TooManyEdges (Undefined place' symbol') apart e h k = absurd (omega (arith, e))
same_fault file TooManyEdges (Recursive number') apart e h k = absurd (omega (arith, e))
same_fault file TooManyEdges TooManyCalls apart e h k = absurd (omega (arith, e))
same_fault file TooManyEdges TooManyEdges apart e h k = refl
same_fault file TooManyEdges (OutOfRange place') apart e h k = absurd (omega (arith, e))
same_fault file TooManyEdges TooFine apart e h k = absurd (omega (arith, e))
same_fault file TooManyEdges NoMemory apart e h k = absurd (omega (arith, e))
same_fault file (OutOfRange place) (Undefined place' symbol') apart e h k = absurd (omega (arith, e))
same_fault file (OutOfRange place) (Recursive number') apart e h k = absurd (omega (arith, e))
same_fault file (OutOfRange place) TooManyCalls apart e h k = absurd (omega (arith, e))
same_fault file (OutOfRange place) TooManyEdges apart e h k = absurd (omega (arith, e))
same_fault file (OutOfRange place) (OutOfRange place') apart e h k = ap OutOfRange (same_number place place' (before file place place' h k) (before file place' place k h))
same_fault file (OutOfRange place) TooFine apart e h k = absurd (omega (arith, e))
same_fault file (OutOfRange place) NoMemory apart e h k = absurd (omega (arith, e))
same_fault file TooFine (Undefined place' symbol') apart e h k = absurd (omega (arith, e))
same_fault file TooFine (Recursive number') apart e h k = absurd (omega (arith, e))
same_fault file TooFine TooManyCalls apart e h k = absurd (omega (arith, e))
same_fault file TooFine TooManyEdges apart e h k = absurd (omega (arith, e))
same_fault file TooFine (OutOfRange place') apart e h k = absurd (omega (arith, e))
same_fault file TooFine TooFine apart e h k = refl
same_fault file TooFine NoMemory apart e h k = absurd (omega (arith, e))
same_fault file NoMemory (Undefined place' symbol') apart e h k = absurd (omega (arith, e))
same_fault file NoMemory (Recursive number') apart e h k = absurd (omega (arith, e))
same_fault file NoMemory TooManyCalls apart e h k = absurd (omega (arith, e))
same_fault file NoMemory TooManyEdges apart e h k = absurd (omega (arith, e))
same_fault file NoMemory (OutOfRange place') apart e h k = absurd (omega (arith, e))
same_fault file NoMemory TooFine apart e h k = absurd (omega (arith, e))
same_fault file NoMemory NoMemory apart e h k = refl

not_later : (file : Contents) (r s : FlattenRefusal) → IsFirstFault file r → IsFirstFault file s → row s ≤ row r
not_later file r s h k = not_less (row r) (row s) (λ lt. k.first r lt h.fault)

pub one_fault : (file : Contents) (r s : FlattenRefusal) → AreCallsApart file → IsFirstFault file r → IsFirstFault file s → r ≡ s
one_fault file r s apart h k = same_fault file r s apart (same_number (row r) (row s) (not_later file s r k h) (not_later file r s h k)) h.fault k.fault
