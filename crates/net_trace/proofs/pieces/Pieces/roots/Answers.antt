use Rattle.std.proofs.Common.{[], sym, subst}
use Rattle.net_trace.specs.declared.node.Node.{Node}
use Rattle.net_trace.specs.Touching.{Nets}
use Rattle.net_trace.specs.Nets.{AreNetRoots}
use Rattle.net_trace.proofs.TracedNets.{roots_are}
use Rattle.net_trace.proofs.pieces.Pieces.roots.Goals as goal
use Rattle.std.specs.Prelude.{List}

pub returns : goal.returns
returns c =
    let nets : Nets = record { wires = c.self.inside.wiring; cuts = []; joins = [] } in
    subst (λ (n : Nets). AreNetRoots n c.as_slice.result.now) c.self.view_is
    (subst (λ (l : List Node). AreNetRoots nets l) (sym c.as_slice.ensures.value) (roots_are nets c.self.inside.label.items c.self.inside.roots.items c.self.invariant.0 c.self.invariant.1))
