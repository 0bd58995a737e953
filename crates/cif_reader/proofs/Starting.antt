-- The numbers of a start, and a state with no open definition.
use Rattle.std.proofs.Common.{◌≡◌, ◌≤◌, false, [], refl}
use Rattle.std.specs.Prelude.{Option, Some, None}
use Rattle.std.specs.List.{list_any}
use Rattle.cif_grammar.specs.declared.spelled.Number.{Number}
use Rattle.cif_grammar.specs.Words.{limit}
use Rattle.cif_grammar.specs.Grammar.{start}
use Rattle.cif_reader.specs.declared.builder.Open.{Open}
use Rattle.cif_reader.specs.Faults.{is_large, numbers}
use Rattle.cif_reader.specs.Built.{opening_of, items_in}
use Rattle.cif_reader.proofs.Measures.{number_small}

pub start_small : (n : Number) (s : Option (Number × Number)) → list_any is_large (numbers (start n s)) ≡ false → n.value ≤ limit
start_small n None h = number_small n.value false h
start_small n (Some s) h = number_small n.value _ h

pub none_in : (r : Option Open) → opening_of r ≡ None → items_in r ≡ []
none_in None h = refl
none_in (Some o) h = cc
