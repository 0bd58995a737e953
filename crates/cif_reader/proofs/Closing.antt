-- A definition that ends.
use Rattle.std.proofs.Common.{◌≡◌, List, [], ◌∷◌, ◌++◌, subst}
use Rattle.std.specs.Prelude.{Option, Some, Result, Ok, Err, OnOk}
use Rattle.cif_reader.specs.declared.file.Symbol.{Symbol}
use Rattle.cif_reader.specs.declared.builder.Open.{Open}
use Rattle.cif_reader.specs.Built.{IsClosed, opening_of, items_in}

pub on_ok : {T E P Q : Type 0} (r : Result T E) → (P → Q) → OnOk r P → OnOk r Q
on_ok (Ok x) f p = f p
on_ok (Err e) f p = p

pub closed_is : (old : Option Open) (o : Open) (before after : List Symbol) (symbol : Symbol) → Some o ≡ old → symbol.number ≡ o.number → symbol.pos ≡ o.pos → symbol.items.items ≡ o.items.items → after ≡ before ++ symbol ∷ [] → IsClosed (opening_of old) (items_in old) before after
closed_is old o before after symbol e n p i h = subst (λ r. IsClosed (opening_of r) (items_in r) before after) e (symbol, n, p, i, h)
