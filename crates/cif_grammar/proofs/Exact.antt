-- The next command is read exactly where one is spelled.
use Rattle.std.proofs.Common.{◌≡◌, ℕ, ◌+◌, ◌-◌, ◌==◌, List, [], ◌∷◌, length, Option, Some, None, refl, sym, ap, ◌∙◌, subst, arith}
use Rattle.std.specs.Prelude.{max}
use Rattle.std.proofs.lemmas.Option.{same_Some}
use Rattle.plane_geom.proofs.Options.{guarded}
use Rattle.cif_grammar.specs.Words.{◌⋅◌, Takes, is_blank, skip}
use Rattle.cif_grammar.specs.Grammar.{Command, box, polygon, wire, layer, call, user, comment, start, finish, command, end, is_gap}
use Rattle.cif_grammar.specs.Readers.{body_at, semicolon_at, end_at, command_at}
use Rattle.cif_grammar.proofs.Again.{body_then_end}
use Rattle.cif_grammar.proofs.Runs.{parted, skip_stays}
use Rattle.cif_grammar.proofs.Walking.{command_takes, command_again}

-- ---- from what is read to what is spelled

same_place : (given total size : ℕ) → total ≡ max given size → given - size ≡ total - size
same_place given total size is = omega (arith, is)

pub found : (given total : ℕ) (bytes behind rest : List ℕ) (c : Command) → total ≡ max given (length bytes)
    → body_at total bytes ≡ Some (c, behind) → end_at c behind ≡ Some rest → Takes (command c ⋅ end c) (given - length bytes) bytes rest
found given total bytes behind rest c is e f =
    subst (λ at. Takes (command c ⋅ end c) at bytes rest) (sym (same_place given total (length bytes) is))
    (command_takes total (total - length bytes) bytes c rest (omega (arith, is)) (body_then_end total bytes behind rest c e f))

none_spelled : (given total : ℕ) (bytes : List ℕ) → total ≡ max given (length bytes) → command_at total bytes ≡ None
    → (c : Command) (rest : List ℕ) → Takes (command c ⋅ end c) (given - length bytes) bytes rest → ⊥
none_spelled given total bytes is e c rest t =
    let read = ap (command_at total) t.whole ∙ command_again total (given - length bytes) c t.front rest
    (omega (arith, is, ap length t.whole)) t.spelled in
    cc

pub no_body : (given total : ℕ) (bytes : List ℕ) → total ≡ max given (length bytes) → body_at total bytes ≡ None
    → (c : Command) (rest : List ℕ) → Takes (command c ⋅ end c) (given - length bytes) bytes rest → ⊥
unfolding command_at
no_body given total bytes is e = none_spelled given total bytes is (rw e refl)

pub no_end : (given total : ℕ) (bytes behind : List ℕ) (d : Command) → total ≡ max given (length bytes)
    → body_at total bytes ≡ Some (d, behind) → end_at d behind ≡ None → (c : Command) (rest : List ℕ)
    → Takes (command c ⋅ end c) (given - length bytes) bytes rest → ⊥
unfolding command_at
no_end given total bytes behind d is e f = none_spelled given total bytes is (rw (e, f) refl)

-- ---- from what is spelled to what is read

-- What is spelled is read, up to the next byte that is no blank and no semicolon.
pub read_some : (total at : ℕ) (bytes rest : List ℕ) (c : Command) → at + length bytes ≡ total → Takes (command c ⋅ end c) at bytes rest
    → command_at total bytes ≡ Some (c, skip is_gap rest)
read_some total at bytes rest c there t = ap (command_at total) t.whole ∙ command_again total at c t.front rest
    (omega (arith, there, ap length t.whole)) t.spelled

none_case : (total at : ℕ) (bytes : List ℕ) (r : Option (Command × List ℕ)) → command_at total bytes ≡ r → at + length bytes ≡ total
    → ((c : Command) (rest : List ℕ) → Takes (command c ⋅ end c) at bytes rest → ⊥) → r ≡ None
none_case total at bytes None e there none = refl
none_case total at bytes (Some x) e there none = absurd (none x.0 x.1 (command_takes total at bytes x.0 x.1 there e))

-- Where nothing is spelled, nothing is read.
pub read_none : (total at : ℕ) (bytes : List ℕ) → at + length bytes ≡ total
    → ((c : Command) (rest : List ℕ) → Takes (command c ⋅ end c) at bytes rest → ⊥) → command_at total bytes ≡ None
read_none total at bytes there none = none_case total at bytes (command_at total bytes) refl there none

-- One command at most stands first.
pub one_command : (at : ℕ) (bytes : List ℕ) (c d : Command) (rest behind : List ℕ) → Takes (command c ⋅ end c) at bytes rest
    → Takes (command d ⋅ end d) at bytes behind → (c ≡ d) × (skip is_gap rest ≡ skip is_gap behind)
one_command at bytes c d rest behind t s =
    let same = same_Some _ _
    (sym (read_some (at + length bytes) at bytes rest c refl t) ∙ read_some (at + length bytes) at bytes behind d refl s) in
    (ap (λ (x : Command × List ℕ). x.0) same, ap (λ (x : Command × List ℕ). x.1) same)

-- ---- the gaps

semicolon_gaps : (bytes rest : List ℕ) → semicolon_at bytes ≡ Some rest → skip is_gap rest ≡ rest
semicolon_gaps [] rest h = cc
semicolon_gaps (b ∷ bs) rest h =
    let got = guarded (b == 59) (skip is_gap bs) rest h in
    ap (skip is_gap) (sym got.1) ∙ skip_stays is_gap (skip is_gap bs) (parted is_gap bs).stops ∙ got.1

-- All blanks and semicolons are behind.
pub end_gaps : (c : Command) (bytes rest : List ℕ) → end_at c bytes ≡ Some rest → skip is_gap rest ≡ rest
unfolding end_at
end_gaps (box l w p d) bytes rest h = semicolon_gaps (skip is_blank bytes) rest h
end_gaps (polygon p) bytes rest h = semicolon_gaps (skip is_blank bytes) rest h
end_gaps (wire w p) bytes rest h = semicolon_gaps (skip is_blank bytes) rest h
end_gaps (layer name) bytes rest h = semicolon_gaps (skip is_blank bytes) rest h
end_gaps (call n ts) bytes rest h = semicolon_gaps (skip is_blank bytes) rest h
end_gaps (user text) bytes rest h = semicolon_gaps bytes rest h
end_gaps comment bytes rest h = semicolon_gaps (skip is_blank bytes) rest h
end_gaps (start n s) bytes rest h = semicolon_gaps (skip is_blank bytes) rest h
end_gaps finish bytes rest h = semicolon_gaps (skip is_blank bytes) rest h
