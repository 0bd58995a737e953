use Rattle.std.proofs.Common.{None, Some, arith}
use Rattle.std.proofs.lemmas.Str.Pattern.{split_parts}
use Rattle.command_inputs.proofs.SideLemmas.{size_alone, no_weight, no_size, none_weaker}
use Rattle.command_inputs.proofs.sides.read_entry.Goals as goal

pub returns-in_err-read_number-in-Some-clause-none : goal.returns-in_err-read_number-in-Some-clause-none
returns-in_err-read_number-in-Some-clause-none c =
    let cut = split_parts 58 c.args.entry.now (Some (c.in-Some.size, c.in-Some.weight)) c.in-Some.ensures.cases (omega arith) in
    rw c.from_residual.ensures (no_weight c.args.entry.now c.in-Some.size.now c.in-Some.weight.now cut c.in_err-read_number-in-Some.ensures.none)

pub returns-in-None-clause-none : goal.returns-in-None-clause-none
returns-in-None-clause-none c =
    let lacks = split_parts 58 c.args.entry.now None c.in-None.ensures.cases (omega arith) in
    none_weaker _ (size_alone c.args.entry.now lacks) c.read_size.ensures.none

pub returns-in_ok-read_number-in-Some-clause-none : goal.returns-in_ok-read_number-in-Some-clause-none
returns-in_ok-read_number-in-Some-clause-none c =
    let cut = split_parts 58 c.args.entry.now (Some (c.in-Some.size, c.in-Some.weight)) c.in-Some.ensures.cases (omega arith) in
    none_weaker _ (no_size c.args.entry.now c.in-Some.size.now c.in-Some.weight.now cut) c.read_size-in-Some.ensures.none
