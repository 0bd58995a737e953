-- The next command that may stand, as the grammar tells it.
use Rattle.std.proofs.Common.{◌≡◌, ℕ, ◌-◌, ◌≤◌, Bool, true, false, if◌then◌else◌, List, length, sym, ap, ◌∙◌, arith}
use Rattle.std.specs.Prelude.{Some, None}
use Rattle.std.specs.Option.{option_and_then}
use Rattle.cif_grammar.specs.Words.{◌⋅◌, Takes, skip}
use Rattle.cif_grammar.specs.Grammar.{Command, command, end, is_gap}
use Rattle.cif_grammar.specs.Readers.{command_at}
use Rattle.cif_grammar.proofs.Exact.{read_some, read_none}
use Rattle.cif_reader.specs.Built.{may_stand_in, if_standing, standing_at}

-- Where no command is spelled, none stands.
pub none_stands : (inside : Bool) (total : ℕ) (bytes : List ℕ) → length bytes ≤ total
    → ((c : Command) (rest : List ℕ) → Takes (command c ⋅ end c) (total - length bytes) bytes rest → ⊥)
    → None ≡ standing_at inside total bytes
unfolding standing_at
none_stands inside total bytes within none = sym
    (ap (option_and_then (if_standing inside)) (read_none total (total - length bytes) bytes (omega (arith, within)) none))

read_is : (total : ℕ) (bytes rest : List ℕ) (c : Command) → length bytes ≤ total
    → Takes (command c ⋅ end c) (total - length bytes) bytes rest → skip is_gap rest ≡ rest → command_at total bytes ≡ Some (c, rest)
read_is total bytes rest c within spelled gaps = read_some total (total - length bytes) bytes rest c (omega (arith, within)) spelled
    ∙ ap (λ s. Some (c, s)) gaps

if_chosen : {X : Type 0} (t b : Bool) (x : X) → t ≡ b → (if t then Some x else None) ≡ (if b then Some x else None)
if_chosen t b x e = ap (λ u. if u then Some x else None) e

-- A command that is spelled stands if it may.
pub stands : (inside : Bool) (total : ℕ) (bytes rest : List ℕ) (c : Command) → Takes (command c ⋅ end c) (total - length bytes) bytes rest
    → skip is_gap rest ≡ rest → may_stand_in inside c ≡ true → length bytes ≤ total → Some (c, rest) ≡ standing_at inside total bytes
unfolding standing_at
stands inside total bytes rest c spelled gaps may within =
    sym (ap (option_and_then (if_standing inside)) (read_is total bytes rest c within spelled gaps)
    ∙ if_chosen (may_stand_in inside c) true (c, rest) may)

-- A command that may not stand does not.
pub barred : (inside : Bool) (total : ℕ) (bytes rest : List ℕ) (c : Command) → Takes (command c ⋅ end c) (total - length bytes) bytes rest
    → skip is_gap rest ≡ rest → may_stand_in inside c ≡ false → length bytes ≤ total → None ≡ standing_at inside total bytes
unfolding standing_at
barred inside total bytes rest c spelled gaps may within =
    sym (ap (option_and_then (if_standing inside)) (read_is total bytes rest c within spelled gaps)
    ∙ if_chosen (may_stand_in inside c) false (c, rest) may)
