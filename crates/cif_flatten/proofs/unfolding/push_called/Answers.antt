use Rattle.cif_flatten.specs.Unrolling.{placed_of, waiting}
use Rattle.cif_reader.proofs.Closing.{on_ok}
use Rattle.cif_flatten.proofs.Walked.{call_near, deep_shift, deeper_shift, depth_fits, symbol_kept, none_opened, undefined_opened, call_opened, call_shallow}
use Rattle.cif_flatten.proofs.Ranges.{callable}
use Rattle.cif_flatten.proofs.unfolding.push_called.Goals as goal

pub returns-in_default : goal.returns-in_default
returns-in_default c = record { opened = none_opened c.args.file.now.symbols (placed_of c.args.command.now) (waiting c.args.pending.now.items) c.in_default.not-Call; shallow = λ left few old. old }

pub returns-in_default-symbol-clause-opened : goal.returns-in_default-symbol-clause-opened
returns-in_default-symbol-clause-opened c = undefined_opened c.args.file.now.symbols (placed_of c.args.command.now) _ _ (waiting c.args.pending.now.items) c.symbol.result c.in-Call.is c.symbol.ensures c.in_default-symbol.is

pub then-requires-clause-first : goal.then-requires-clause-first
then-requires-clause-first c = call_near _ _ _ c.in-Call.is c.requires.near.kept

pub then-requires-clause-second : goal.then-requires-clause-second
then-requires-clause-second c = deep_shift _ _ _ c.requires.few c.requires.near.shift

pub overflow_add-command : goal.overflow_add-command
overflow_add-command c = depth_fits _ _ _ _ c.in-Call.is c.requires.few

pub push_all-requires-clause-kept : goal.push_all-requires-clause-kept
push_all-requires-clause-kept c = symbol_kept c.in-Call.symbol c.args.file.now.symbols c.symbol.result c.in-Some.symbol c.deref.result.now c.symbol.ensures c.in-Some.is c.deref.ensures.value c.requires.file.symbols

pub push_all-requires-clause-shift : goal.push_all-requires-clause-shift
push_all-requires-clause-shift c = deeper_shift _ _ (c.then.ensures.near _ _ (callable _ _ _ c.in-Call.is c.requires.near.kept) c.requires.near.shift)

pub returns-clause-opened : goal.returns-clause-opened
returns-clause-opened c = on_ok c.push_all.result
    (λ whole. call_opened c.args.file.now.symbols c.args.command.now _ _ c.then.result c.deref.result.now c.symbol.result c.in-Some.symbol (waiting c.args.pending.now.items) _ c.in-Call.is c.symbol.ensures c.in-Some.is c.deref.ensures.value c.then.ensures.moves whole)
    c.push_all.ensures.waiting

pub returns-clause-shallow : goal.returns-clause-shallow
returns-clause-shallow c = on_ok c.push_all.result (λ f. call_shallow _ _ _ c.args.command.now.depth _ _ c.in-Call.is f) c.push_all.ensures.shallow
