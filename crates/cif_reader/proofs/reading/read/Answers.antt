use Rattle.std.proofs.Common.{◌∙◌, ◌≤◌, length, sym, inr}
use Rattle.cif_grammar.specs.Seen.{seen}
use Rattle.cif_reader.proofs.Reaching.{rest_within, fault_here, fine_here, gets_shorter, goes_on, stands_may, fault_behind, accepted_here}
use Rattle.cif_reader.proofs.reading.read.Goals as goal

pub overflow_sub-pos : goal.overflow_sub-pos
overflow_sub-pos c = rest_within c.args.bytes.now c.loop-builder.rest.now c.loop-builder.builder c.loop-builder.invariant

pub returns-in-Some-judge-clause-refused : goal.returns-in-Some-judge-clause-refused
returns-in-Some-judge-clause-refused c =
    let within : length c.loop-builder.rest.now ≤ length c.args.bytes.now = rest_within c.args.bytes.now c.loop-builder.rest.now c.loop-builder.builder c.loop-builder.invariant in
    inr (fault_here c.args.bytes.now c.loop-builder.rest.now c.loop-builder.builder (seen c.in-Some.command) c.in-Some.next.now c.in-Some-judge.fault c.loop-builder.invariant
    (sym (rw c.in-Some.is at (c.in_ok-command.ensures within))) (sym (c.judge.ensures c.loop-builder.invariant.commands c.loop-builder.invariant.built) ∙ c.in-Some-judge.is))

pub add-requires-clause-fine : goal.add-requires-clause-fine
add-requires-clause-fine c =
    fine_here c.args.bytes.now c.loop-builder.rest.now c.loop-builder.builder (seen c.in-Some.command) c.loop-builder.invariant
    (sym (c.judge.ensures c.loop-builder.invariant.commands c.loop-builder.invariant.built) ∙ c.in_default-judge.is)

pub loop-builder-smaller : goal.loop-builder-smaller
loop-builder-smaller c =
    let within : length c.loop-builder.rest.now ≤ length c.args.bytes.now = rest_within c.args.bytes.now c.loop-builder.rest.now c.loop-builder.builder c.loop-builder.invariant in
    gets_shorter c.args.bytes.now c.loop-builder.rest.now c.loop-builder.builder (seen c.in-Some.command) c.in-Some.next.now c.loop-builder.invariant (sym (rw c.in-Some.is at (c.in_ok-command.ensures within)))

pub loop-builder-preserved : goal.loop-builder-preserved
loop-builder-preserved c =
    let within : length c.loop-builder.rest.now ≤ length c.args.bytes.now = rest_within c.args.bytes.now c.loop-builder.rest.now c.loop-builder.builder c.loop-builder.invariant in
    let r = c.loop-builder.invariant in
    let stands = sym (rw c.in-Some.is at (c.in_ok-command.ensures within)) in
    let fine = sym (c.judge.ensures r.commands r.built) ∙ c.in_default-judge.is in
    goes_on c.args.bytes.now c.loop-builder.rest.now c.loop-builder.builder _ (seen c.in-Some.command) c.in-Some.next.now r stands fine
    (c.in_ok-add.ensures r.commands r.built (stands_may c.args.bytes.now c.loop-builder.rest.now c.loop-builder.builder (seen c.in-Some.command) c.in-Some.next.now r stands) fine)

pub overflow_sub-pos-2 : goal.overflow_sub-pos-2
overflow_sub-pos-2 c = rest_within c.args.bytes.now c.loop-builder.rest.now c.loop-builder.builder c.loop-builder.invariant

pub returns-in-Some-end_fault-clause-refused : goal.returns-in-Some-end_fault-clause-refused
returns-in-Some-end_fault-clause-refused c =
    let within : length c.loop-builder.rest.now ≤ length c.args.bytes.now = rest_within c.args.bytes.now c.loop-builder.rest.now c.loop-builder.builder c.loop-builder.invariant in
    inr (fault_behind c.args.bytes.now c.loop-builder.rest.now c.loop-builder.builder c.in-Some-end_fault.fault c.loop-builder.invariant
    (sym (rw c.in_default.is at (c.in_ok-command.ensures within))) (sym (rw c.is_inside.ensures at c.end_fault.ensures) ∙ c.in-Some-end_fault.is))

pub returns-in-None-clause-accepted : goal.returns-in-None-clause-accepted
returns-in-None-clause-accepted c =
    accepted_here c.args.bytes.now c.loop-builder.rest.now c.loop-builder.builder c.loop-builder.invariant (sym (rw c.is_inside.ensures at c.end_fault.ensures) ∙ c.in-None.is)
