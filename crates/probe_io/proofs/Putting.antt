-- Texts that are written one after the other.
use Rattle.std.proofs.Common.{◌≡◌, inl, inr, ℕ, ◌<◌, ◌≤◌, Bool, List, ◌++◌, length, take, get_or, flat_map, Result, Ok, Err, OnOk, OnErr, ◌∙◌, subst, arith}
use Rattle.std.specs.Prelude.{IsErr}
use Rattle.probe_io.specs.Causes.{Rose, HasCause}
use Rattle.probe_io.specs.Written.{Appends, AppendsFront}
use Rattle.probe_io.specs.Devices.{SinkState, IsQuiet, IsPut, IsCut, Puts}
use Rattle.probe_io.proofs.Texts.{AppendsFront-text}
use Rattle.probe_io.proofs.WrittenLemmas.{Appends-then, Appends-front, AppendsFront-more}

-- a count that stayed twice stayed
pub quiet_twice : {strict strict' : Bool} {a b c : ℕ} → strict' ≡ strict → IsQuiet strict a b → IsQuiet strict' b c → IsQuiet strict a c
quiet_twice same first second = record {
  later = omega (arith, first.later, second.later);
  quiet = λ is. second.quiet (same ∙ is) ∙ first.quiet is;
}

-- a count that rose after it stayed rose in both calls together
pub rose_later : {a b c : ℕ} → a ≤ b → Rose b c → Rose a c
rose_later later (inl more) = inl (omega (arith, later, more))
rose_later later (inr last) = inr last

-- a text after another
pub put_after : {a b : List ℕ} {s t u : SinkState} → t.strict ≡ s.strict → IsPut a s t → IsPut b t u → IsPut (a ++ b) s u
put_after same first next = record { written = Appends-then first.written next.written; quiet = quiet_twice same first.quiet next.quiet }

-- a prefix of a text after another
pub cut_after : {a b : List ℕ} {s t u : SinkState} → IsPut a s t → IsCut b t u → IsCut (a ++ b) s u
cut_after first next = record { written = Appends-front first.written next.written; failed = rose_later first.quiet.later next.failed }

-- a prefix of a text, before another
pub cut_more : {a : List ℕ} {s t : SinkState} (b : List ℕ) → IsCut a s t → IsCut (a ++ b) s t
cut_more b cut = record { written = AppendsFront-more cut.written b; failed = cut.failed }

-- a call that writes two texts, and fails at the first
pub puts_first : {T E T' : Type 0} {a : List ℕ} (b : List ℕ) {s t : SinkState} {e : E} → Puts {T = T} a s t (Err e) → Puts {T = T'} (a ++ b) s t (Err e)
puts_first b puts = record { whole = tt; cut = cut_more b puts.cut }

-- a call that writes two texts, and goes on to the second
pub puts_then : {T E T' E' : Type 0} {a b : List ℕ} {s t u : SinkState} {x : T} {r : Result T' E'} → t.strict ≡ s.strict → Puts {E = E} a s t (Ok x) → Puts b t u r → Puts (a ++ b) s u r
puts_then {r = Ok y} same first next = record { whole = put_after same first.whole next.whole; cut = tt }
puts_then {r = Err e} same first next = record { whole = tt; cut = cut_after first.whole next.cut }

-- a call that answers an error wrote a prefix
pub puts_cut : {T E : Type 0} {text : List ℕ} {s t : SinkState} {r : Result T E} → IsErr r → IsCut text s t → Puts text s t r
puts_cut {r = Ok x} is cut = cc
puts_cut {r = Err e} is cut = record { whole = tt; cut = cut }

-- the same of an equal text
pub cut_is : {a b : List ℕ} {s t : SinkState} → a ≡ b → IsCut a s t → IsCut b s t
cut_is {s = s} {t = t} same cut = subst (λ text. IsCut text s t) same cut

pub puts_is : {T E : Type 0} {a b : List ℕ} {s t : SinkState} {r : Result T E} → a ≡ b → Puts a s t r → Puts b s t r
puts_is {s = s} {t = t} {r = r} same puts = subst (λ text. Puts text s t r) same puts

-- what a call that writes a text says, put together
pub puts_of : {T E : Type 0} {text : List ℕ} {s t : SinkState} {r : Result T E} → OnOk r (Appends s.written t.written text) → OnErr r (AppendsFront s.written t.written text)
    → HasCause s.strict s.faults t.faults r → Puts text s t r
puts_of {r = Ok x} ok front cause = record { whole = record { written = ok; quiet = record { later = cause.later; quiet = cause.quiet } }; cut = tt }
puts_of {r = Err e} ok front cause = record { whole = tt; cut = record { written = front; failed = cause.failed } }

-- ---- texts of items, one after the other

-- a loop wrote a prefix of one more text
pub cut_at : {X : Type 0} {s t u : SinkState} (text : X → List ℕ) (xs : List X) (i : ℕ) (d : X) → i < length xs → IsPut (flat_map text (take i xs)) s t
    → IsCut (text (get_or xs i d)) t u → IsCut (flat_map text xs) s u
cut_at text xs i d within first next = record { written = AppendsFront-text text xs i d within first.written next.written; failed = rose_later first.quiet.later next.failed }
