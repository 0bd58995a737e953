-- What holds of the value or of the error of a result.
use Rattle.std.proofs.Common.{ℕ, List, None, Result, Ok, Err, IfOk, OnErr}
use Rattle.std.specs.Io.KnownBytes.{ReadConsumes}

-- a fact is one for the error of a result
pub on_err : {T E P : Type 0} (result : Result T E) → P → OnErr result P
on_err (Ok x) fact = tt
on_err (Err e) fact = fact

-- a fact of every value is one of the value of a result
pub if_ok : {T E : Type 0} {P : T → Type 0} (result : Result T E) → ((x : T) → P x) → IfOk result P
if_ok (Ok x) fact = fact x
if_ok (Err e) fact = tt

-- where no bytes are known, a read may give any
pub reads_unknown : {E : Type 0} (result : Result ℕ E) (bytes : List ℕ) → ReadConsumes None None result bytes
reads_unknown (Ok n) bytes = (tt, λ none some. tt)
reads_unknown (Err e) bytes = tt
