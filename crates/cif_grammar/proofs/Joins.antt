-- Words that follow one another: what is read in parts is spelled in parts, and what is spelled in parts is read so.
use Rattle.std.proofs.Common.{◌≡◌, ℕ, ◌+◌, Bool, true, false, List, [], ◌∷◌, ◌++◌, length, Some, refl, sym, ap, ◌∙◌, arith, append_assoc}
use Rattle.std.proofs.lemmas.List.{length-append}
use Rattle.plane_geom.proofs.Options.{guarded}
use Rattle.cif_grammar.specs.Words.{Then, Takes, Literally, Nothing, One, Run, skip}
use Rattle.cif_grammar.specs.Readers.{behind}
use Rattle.cif_grammar.proofs.Runs.{begins, parted}

-- ---- what is read

pub takes_then : {A B : ℕ → List ℕ → Type 0} {at : ℕ} {bytes mid rest : List ℕ} (a : Takes A at bytes mid) → Takes B (at + length a.front) mid rest → Takes (Then A B) at bytes rest
takes_then a b = record {
  front = a.front ++ b.front;
  spelled = record { front = a.front; back = b.front; first = a.spelled; second = b.spelled; whole = refl };
  whole = a.whole ∙ ap (λ s. a.front ++ s) b.whole ∙ sym (append_assoc a.front b.front _);
}

-- where the next word begins
pub then_at : {A : ℕ → List ℕ → Type 0} {at : ℕ} {bytes mid : List ℕ} (total : ℕ) (a : Takes A at bytes mid) → at + length bytes ≡ total → (at + length a.front) + length mid ≡ total
then_at {A} {at} {bytes} {mid} total a h = omega (arith, ap length a.whole, length-append a.front mid)

pub run_takes : (test : ℕ → Bool) (at : ℕ) (bytes : List ℕ) → Takes (Run test) at bytes (skip test bytes)
run_takes test at bytes = let p = parted test bytes in record { front = p.run; spelled = p.passes; whole = p.whole }

pub one_takes : (test : ℕ → Bool) (at : ℕ) (bytes rest : List ℕ) → behind test bytes ≡ Some rest → Takes (One test) at bytes rest
one_takes test at [] rest h = cc
one_takes test at (b ∷ bs) rest h =
    let got = guarded (test b) bs rest h in
    record { front = b ∷ []; spelled = record { byte = b; passes = got.0; whole = refl }; whole = ap (λ s. b ∷ s) got.1 }

pub byte_takes : (b wanted : ℕ) (bs : List ℕ) (at : ℕ) → b ≡ wanted → Takes (Literally (wanted ∷ [])) at (b ∷ bs) bs
byte_takes b wanted bs at e = record { front = wanted ∷ []; spelled = refl; whole = ap (λ x. x ∷ bs) e }

pub nothing_takes : (at : ℕ) (bytes : List ℕ) → Takes Nothing at bytes bytes
nothing_takes at bytes = record { front = []; spelled = refl; whole = refl }

-- ---- what is spelled

-- a word of two parts before the rest of a text
pub record Parts (A B : ℕ → List ℕ → Type 0) (total at : ℕ) (word rest : List ℕ) : Type 0 where
  pub front : List ℕ
  pub back : List ℕ
  pub first : A at front
  pub second : B (at + length front) back
  pub regrouped : word ++ rest ≡ front ++ (back ++ rest)
  pub here : at + length (front ++ (back ++ rest)) ≡ total
  pub there : (at + length front) + length (back ++ rest) ≡ total

abbrev pub parts_of : {A B : ℕ → List ℕ → Type 0} (total at : ℕ) (word rest : List ℕ) → at + length (word ++ rest) ≡ total → Then A B at word → Parts A B total at word rest
parts_of total at word rest h w =
    let same : word ++ rest ≡ w.front ++ (w.back ++ rest) = ap (λ s. s ++ rest) w.whole ∙ append_assoc w.front w.back rest in
    record {
      front = w.front;
      back = w.back;
      first = w.first;
      second = w.second;
      regrouped = same;
      here = omega (arith, ap length same, h);
      there = omega (arith, ap length same, h, length-append w.front (w.back ++ rest));
    }

pub one_again : (test : ℕ → Bool) (at : ℕ) (word rest : List ℕ) → One test at word → behind test (word ++ rest) ≡ Some rest
one_again test at word rest w = ap (λ s. behind test (s ++ rest)) w.whole ∙ rw w.passes refl

pub one_begins : (test other : ℕ → Bool) (at : ℕ) (word rest : List ℕ) → One test at word → ((b : ℕ) → test b ≡ true → other b ≡ false) → begins other (word ++ rest) ≡ false
one_begins test other at word rest w h = ap (λ s. begins other (s ++ rest)) w.whole ∙ h w.byte w.passes
