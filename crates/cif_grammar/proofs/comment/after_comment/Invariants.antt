use Rattle.std.proofs.Common.{◌≡◌, ◌≤◌, drop}
use Rattle.cif_grammar.specs.Readers.{closing}
use Rattle.cif_grammar.proofs.comment.after_comment.Given as goal

abbrev pub invariant-loop-place : goal.invariant-loop-place
invariant-loop-place l = record { shallow : l.depth ≤ l.place; same : closing l.depth (drop l.place l.bytes) ≡ closing 0 l.bytes }
