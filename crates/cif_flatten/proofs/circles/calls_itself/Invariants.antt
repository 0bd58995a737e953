use Rattle.cif_flatten.specs.Reaching.{Searched}
use Rattle.cif_flatten.proofs.circles.calls_itself.Given as goal

abbrev pub invariant-loop-place : goal.invariant-loop-place
invariant-loop-place l = record {
  search : Searched l.file.symbols l.number l.found.keys l.place;
}
