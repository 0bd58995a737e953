use Rattle.std.proofs.Common.{◌∙◌, sym, ap}
use Rattle.std.specs.Prelude.{option_map}
use Rattle.plane_geom.specs.Covering.{figure_of}
use Rattle.cif_grammar.specs.Seen.{seen}
use Rattle.cif_reader.proofs.Keeping.{figure_kept}
use Rattle.cif_reader.proofs.builder.drawn_what.Goals as goal

pub returns-in-Some-layer-clause-kept : goal.returns-in-Some-layer-clause-kept
returns-in-Some-layer-clause-kept c =
    figure_kept c.args.scale (seen c.args.command.now) c.in-Some.shape c.requires.some c.requires.fine (sym (ap (option_map figure_of) c.in-Some.is) ∙ c.in_ok-shape.ensures)
