use Rattle.std.proofs.Common.{All, map, take}
use Rattle.std.specs.List.{AllZip}
use Rattle.command_inputs.specs.Sides.{IsEntrySide, SpellsEntry}
use Rattle.command_inputs.proofs.sides.read_entries.Given as goal

abbrev pub invariant-loop-entry : goal.invariant-loop-entry
invariant-loop-entry l = record {
  sides : All IsEntrySide l.sides.items;
  each : AllZip SpellsEntry (map (λ e. e.now) (take l.entry-index l.entries)) l.sides.items;
}
