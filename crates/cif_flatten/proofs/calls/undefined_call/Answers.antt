use Rattle.std.proofs.Common.{subst}
use Rattle.cif_flatten.specs.Faults.{undefined_in_symbols, undefined_among, IsFirstIfAny}
use Rattle.cif_flatten.proofs.calls.undefined_call.Goals as goal

pub returns : goal.returns
returns c =
    let symbols = c.args.file.now.symbols in
    c.earlier.ensures (undefined_in_symbols symbols symbols) (undefined_among symbols c.args.file.now.top) c.in_symbols.ensures
    (subst (λ items. IsFirstIfAny (undefined_among symbols items) c.among.result) c.top.ensures.same c.among.ensures)
