use Rattle.cif_flatten.proofs.Circling.{recursive_found, nested_found}
use Rattle.cif_flatten.proofs.circles.recursive_symbol.Goals as goal

pub returns-clause-found : goal.returns-clause-found
returns-clause-found c = recursive_found c.args.file.now c.least_circle.result c.least_circle.ensures

pub returns-clause-none : goal.returns-clause-none
returns-clause-none c = nested_found c.args.file.now c.least_circle.result c.least_circle.ensures
