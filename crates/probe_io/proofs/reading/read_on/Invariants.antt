use Rattle.std.proofs.Common.{◌≡◌, true, vec_len, ◌-◌, ◌≤◌}
use Rattle.std.specs.Io.KnownBytes.{Consumes}
use Rattle.probe_io.specs.Files.{left_at}
use Rattle.probe_io.proofs.reading.read_on.Given as goal

-- what was read so far is what the place moved over
abbrev pub invariant-loop-bytes : goal.invariant-loop-bytes
invariant-loop-bytes g l = record {
  same : g.H.Shelf.files l.shelf ≡ g.H.Shelf.files l.fn.shelf;
  starts : g.H.Shelf.start_faults l.shelf ≡ g.H.Shelf.start_faults l.fn.shelf;
  later : g.H.Shelf.read_faults l.fn.shelf ≤ g.H.Shelf.read_faults l.shelf;
  quiet : g.H.Shelf.strict ≡ true → g.H.Shelf.read_faults l.shelf ≡ g.H.Shelf.read_faults l.fn.shelf;
  within : vec_len l.bytes ≤ l.limit;
  so_far : Consumes (left_at (g.H.Shelf.files l.fn.shelf) (g.H.Shelf.at l.fn.shelf))
      (left_at (g.H.Shelf.files l.shelf) (g.H.Shelf.at l.shelf)) l.bytes.items;
}

abbrev pub decreases-loop-bytes : goal.decreases-loop-bytes
decreases-loop-bytes g l = l.limit - vec_len l.bytes
