use Rattle.std.proofs.Common.{◌∙◌}
use Rattle.cif_reader.proofs.Transforming.{shifts_map}
use Rattle.cif_reader.proofs.calls.are_whole_shifts.Goals as goal

pub returns : goal.returns
returns c = c.are_shifts_whole.ensures ∙ shifts_map c.args.scale c.args.transformations.now
