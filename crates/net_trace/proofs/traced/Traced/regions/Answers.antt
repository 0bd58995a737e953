use Rattle.std.proofs.Common.{sym, subst}
use Rattle.net_trace.specs.Touching.{Nets}
use Rattle.net_trace.specs.Nets.{AreRegionsOf}
use Rattle.net_trace.proofs.TracedNets.{regions_are}
use Rattle.net_trace.proofs.traced.Traced.regions.Goals as goal

pub returns-clause-of : goal.returns-clause-of
returns-clause-of c =
    let nets : Nets = record { wires = c.self.inside.wiring; cuts = c.self.inside.cuts.items; joins = c.self.inside.joins.items } in
    subst (λ (n : Nets). AreRegionsOf n c.as_slice.result.now) c.self.view_is
    (subst (λ l. AreRegionsOf nets l) (sym c.as_slice.ensures.value) (regions_are nets c.self.inside.label.items c.self.inside.roots.items c.self.invariant.0 c.self.invariant.3 c.self.inside.regions.items c.self.invariant.4))
