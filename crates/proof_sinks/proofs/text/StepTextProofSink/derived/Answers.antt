use Rattle.std.proofs.Common.{rules, ◌+◌, ◌∙◌, ap, subst, length}
use Rattle.probe_io.specs.Written.{AppendsFront}
use Rattle.refutation_check.specs.LineText.{derived_text}
use Rattle.proof_sinks.specs.declared.lines.Said.TheVariants.{Derived}
use Rattle.proof_sinks.proofs.Steps.{printed_whole, printed_front, front_of}
use Rattle.proof_sinks.proofs.text.StepTextProofSink.derived.Goals as goal

pub invariant_of-self-in-Ok-send : goal.invariant_of-self-in-Ok-send
invariant_of-self-in-Ok-send g c =
    let live = ap (λ s. s.live) c.self.view_is ∙ c.requires.live in (
      printed_whole (g.K.Sink.written c.self.inside.sink) _ c.self.inside.sent _ c.self.inside.lines.items _ (Derived c.args.clause.now c.args.hints.now) c.bytes.result.now _ c.self.invariant.0 (c.self.invariant.1 live)
          (c.bytes.ensures ∙ c.in-Ok.ensures.text) (search rules) c.in-Ok.ensures.kept c.in-Ok-send.ensures.ok c.in-Ok-send.ensures.all,
      c.self.invariant.1,
    )

pub invariant_of-self-in_default-send : goal.invariant_of-self-in_default-send
invariant_of-self-in_default-send g c =
    let live = ap (λ s. s.live) c.self.view_is ∙ c.requires.live in (
      printed_front (g.K.Sink.written c.self.inside.sink) _ c.self.inside.sent _ c.self.inside.lines.items _ (Derived c.args.clause.now c.args.hints.now) c.bytes.result.now _ c.self.invariant.0 (c.self.invariant.1 live)
          (c.bytes.ensures ∙ c.in-Ok.ensures.text) (search rules) c.in-Ok.ensures.kept c.in_default-send.ensures.front,
      λ is. is,
    )

pub returns-in_default-send-clause-front : goal.returns-in_default-send-clause-front
returns-in_default-send-clause-front g c = λ is. subst (λ s. AppendsFront (g.K.Sink.written s.sink) (g.K.Sink.written c.send.new.sink) (derived_text (length s.said + 1) c.args.clause.now c.args.hints.now)) c.self.view_is
    (subst (λ t. AppendsFront (g.K.Sink.written c.self.inside.sink) (g.K.Sink.written c.send.new.sink) t) (c.bytes.ensures ∙ c.in-Ok.ensures.text)
    (front_of _ _ _ _ _ c.in_default-send.ensures.front))
