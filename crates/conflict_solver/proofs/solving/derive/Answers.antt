use Rattle.std.proofs.Common.{sym, subst}
use Rattle.probe_io.proofs.CauseLemmas.{on_err}
use Rattle.search_trail.specs.Learning.{IsAsserting}
use Rattle.conflict_solver.proofs.Steps.{done_below, took_line, line_so_far, torn_so_far}
use Rattle.conflict_solver.proofs.solving.derive.Goals as goal

pub returns-in_err-say_derived-clause-so_far : goal.returns-in_err-say_derived-clause-so_far
returns-in_err-say_derived-clause-so_far g c = λ formula budget run. on_err c.from_residual-in_err-say_derived.result
    (torn_so_far formula budget c.args.solver.now.left (g.P.ProofSink.said c.args.sink.now) (g.P.ProofSink.said c.say_derived.new.sink) c.args.solver.now.trail c.args.solver.now.watches
    c.in_ok-learnt.learnt.lits.items c.as_slice-lits.result.now c.in_ok-learnt.learnt.hints.items c.as_slice-hints.result.now c.requires.search c.requires.kept c.requires.above c.requires.left
    c.as_slice-lits.ensures.value c.as_slice-hints.ensures.value c.in_ok-learnt.ensures.follows c.in_ok-learnt.ensures.lits (c.in_ok-learnt.ensures.asserting c.requires.above) (c.in_ok-learnt.ensures.teaches c.requires.above) run
    c.in_err-say_derived.ensures.one)

pub go_on-requires-clause-asserting : goal.go_on-requires-clause-asserting
go_on-requires-clause-asserting g c = subst (IsAsserting c.args.solver.now.trail) (sym c.as_slice-lits.ensures.value)
    (c.in_ok-learnt.ensures.asserting c.requires.above (done_below c.args.solver.now.trail c.args.solver.now.watches c.requires.search c.requires.kept c.requires.above))

pub returns-in_err-go_on-clause-so_far : goal.returns-in_err-go_on-clause-so_far
returns-in_err-go_on-clause-so_far g c = λ formula budget run. on_err c.from_residual-in_err-go_on.result
    (line_so_far formula budget c.args.solver.now.left (g.P.ProofSink.said c.args.sink.now) (g.P.ProofSink.said c.say_derived.new.sink) c.args.solver.now.trail c.args.solver.now.watches
    c.in_ok-learnt.learnt.lits.items c.as_slice-lits.result.now c.in_ok-learnt.learnt.hints.items c.as_slice-hints.result.now c.requires.search c.requires.kept c.requires.above c.requires.left
    c.as_slice-lits.ensures.value c.as_slice-hints.ensures.value c.in_ok-learnt.ensures.follows c.in_ok-learnt.ensures.lits (c.in_ok-learnt.ensures.asserting c.requires.above) (c.in_ok-learnt.ensures.teaches c.requires.above) run
    c.in_ok-say_derived.ensures.said)

pub returns-clause-under_way : goal.returns-clause-under_way
returns-clause-under_way g c = λ formula budget run.
    took_line formula budget c.args.solver.now.left (g.P.ProofSink.said c.args.sink.now) (g.P.ProofSink.said c.say_derived.new.sink) c.args.solver.now.trail c.args.solver.now.watches
    c.in_ok-learnt.learnt.lits.items c.as_slice-lits.result.now c.in_ok-learnt.learnt.hints.items c.as_slice-hints.result.now c.requires.search c.requires.kept c.requires.above c.requires.left
    c.as_slice-lits.ensures.value c.as_slice-hints.ensures.value c.in_ok-learnt.ensures.follows c.in_ok-learnt.ensures.lits (c.in_ok-learnt.ensures.asserting c.requires.above) (c.in_ok-learnt.ensures.teaches c.requires.above) run
    c.go_on.new.solver.trail c.go_on.new.solver.left c.in_ok-say_derived.ensures.said c.in_ok-go_on.ensures.joined c.in_ok-go_on.ensures.left
