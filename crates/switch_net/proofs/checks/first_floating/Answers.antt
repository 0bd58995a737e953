use Rattle.std.proofs.Common.{◌≡◌, false, not, sym, ◌∙◌, ap}
use Rattle.std.proofs.lemmas.Bool.{and_from}
use Rattle.switch_net.specs.Switches.{value}
use Rattle.switch_net.proofs.checks.first_floating.Goals as goal

pub returns-then-not-value_of : goal.returns-then-not-value_of
returns-then-not-value_of c =
    let labelled = c.as_slice.ensures.value ∙ ap (λ parts. parts.labelled) c.parts.view_is in
    let unmarked : value c.args.parts.now.labelled c.loop-number.number ≡ false = sym (c.if-not-value_of.ensures ∙ ap (λ bits. value bits c.loop-number.number) labelled) in
    record { holds = and_from _ _ (sym c.if-is_open_gate.ensures) (ap not unmarked); least = c.loop-number.invariant }
