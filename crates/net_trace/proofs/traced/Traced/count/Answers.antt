use Rattle.std.proofs.Common.{sym, ◌∙◌, subst}
use Rattle.net_trace.specs.Touching.{Nets}
use Rattle.net_trace.specs.Nets.{IsNetCount}
use Rattle.net_trace.proofs.TracedNets.{count_of}
use Rattle.net_trace.proofs.traced.Traced.count.Goals as goal

pub returns-clause-is : goal.returns-clause-is
returns-clause-is c =
    let nets : Nets = record { wires = c.self.inside.wiring; cuts = c.self.inside.cuts.items; joins = c.self.inside.joins.items } in
    subst (λ (n : Nets). IsNetCount n c.len.result) c.self.view_is
    (subst (λ n. IsNetCount nets n) (sym (c.len.ensures ∙ c.self.inside.roots.ok.0)) (count_of nets c.self.inside.label.items c.self.inside.roots.items c.self.invariant.0 c.self.invariant.3))
