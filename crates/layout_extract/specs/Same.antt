-- Named nets that are the same.
use Rattle.std.specs.Prelude.{◌≡◌, ℕ, List}
use Rattle.net_trace.specs.Same.{AreSameNets}
use Rattle.layout_extract.specs.Names.{is_listed_name}
use Rattle.layout_extract.specs.Layouts.{NamedNets}

-- The nets are the same, and so are their names, their bound names and the numbers of labels.
pub record AreSameNamed (n m : NamedNets) : Type 0 where
  pub nets : AreSameNets n.nets m.nets
  pub names : n.names ≡ m.names
  pub bound_names : (net : ℕ) (name : List ℕ) → is_listed_name n.bound_names net name ≡ is_listed_name m.bound_names net name
  pub bound : n.bound ≡ m.bound
  pub unbound : n.unbound ≡ m.unbound
  pub deep : n.deep ≡ m.deep
