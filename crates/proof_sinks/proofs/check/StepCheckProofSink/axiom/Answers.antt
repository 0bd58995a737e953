use Rattle.proof_sinks.proofs.Checked.{checked_axiom}
use Rattle.proof_sinks.proofs.check.StepCheckProofSink.axiom.Goals as goal

pub invariant_of-self : goal.invariant_of-self
invariant_of-self c = checked_axiom c.take_axiom-taken.result c.self.inside.checker _ c.self.inside.lines.items _ c.args.clause.now c.self.invariant
    c.take_axiom-taken.ensures.within c.take_axiom-taken.ensures.checker c.take_axiom-taken.ensures.lines c.take_axiom-taken.ensures.checker_stays c.take_axiom-taken.ensures.lines_stay
