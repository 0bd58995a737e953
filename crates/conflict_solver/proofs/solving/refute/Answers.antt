use Rattle.std.proofs.Common.{ap, length}
use Rattle.probe_io.proofs.CauseLemmas.{on_err}
use Rattle.conflict_solver.proofs.Steps.{refuted, torn_refuted}
use Rattle.conflict_solver.proofs.solving.refute.Goals as goal

pub returns-in_err-say_derived-clause-so_far : goal.returns-in_err-say_derived-clause-so_far
returns-in_err-say_derived-clause-so_far g c = λ formula budget run. on_err c.from_residual-in_err-say_derived.result
    (torn_refuted formula budget c.args.solver.now.left (g.P.ProofSink.said c.args.sink.now) (g.P.ProofSink.said c.say_derived.new.sink) c.args.solver.now.trail
    c.in_ok-learnt.learnt.lits.items c.as_slice.result.now c.in_ok-learnt.learnt.hints.items c.as_slice-2.result.now c.as_slice.ensures.value c.as_slice-2.ensures.value
    c.in_ok-learnt.ensures.follows (c.in_ok-learnt.ensures.empty (ap (λ xs. length xs) c.requires.ground)) run c.in_err-say_derived.ensures.one)

pub returns-clause-refuted : goal.returns-clause-refuted
returns-clause-refuted g c = λ formula budget run.
    refuted formula budget c.args.solver.now.left (g.P.ProofSink.said c.args.sink.now) (g.P.ProofSink.said c.say_derived.new.sink) c.args.solver.now.trail
    c.in_ok-learnt.learnt.lits.items c.as_slice.result.now c.in_ok-learnt.learnt.hints.items c.as_slice-2.result.now c.as_slice.ensures.value c.as_slice-2.ensures.value
    c.in_ok-learnt.ensures.follows (c.in_ok-learnt.ensures.empty (ap (λ xs. length xs) c.requires.ground)) run c.in_ok-say_derived.ensures.said
