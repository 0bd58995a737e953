use Rattle.std.proofs.Common.{◌≡◌, ℕ, sym}
use Rattle.std.specs.declared.cmp.Ordering.TheVariants.{Equal}
use Rattle.std.specs.Ordering.{nat_cmp}
use Rattle.std.proofs.lemmas.Cmp.{nat_cmp_total, ranked}
use Rattle.link_classes.proofs.UniqueNumbers.{number_one, number_links, count_one}
use Rattle.link_classes.proofs.laws.one_numbering.Goals as goal

nat_equal : (a b : ℕ) → nat_cmp a b ≡ Equal → a ≡ b
nat_equal a b is = ranked a b Equal (sym is)

pub returns-clause-number : goal.returns-clause-number
returns-clause-number c = λ is_thing link. number_one nat_cmp nat_cmp_total nat_equal is_thing link

pub returns-clause-linked : goal.returns-clause-linked
returns-clause-linked c = λ is_thing link. number_links nat_cmp nat_cmp_total nat_equal is_thing link

pub returns-clause-count : goal.returns-clause-count
returns-clause-count c = λ is_thing link. count_one nat_cmp nat_cmp_total nat_equal is_thing link
