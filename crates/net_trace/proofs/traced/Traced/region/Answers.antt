use Rattle.std.proofs.Common.{◌<◌, length, ap, arith, subst}
use Rattle.net_trace.specs.Touching.{Nets}
use Rattle.net_trace.specs.Nets.{IsNetCount, IsRegionOf}
use Rattle.net_trace.proofs.TracedNets.{count_of, region_place, region_read}
use Rattle.net_trace.proofs.traced.Traced.region.Goals as goal

pub index-requires : goal.index-requires
index-requires c =
    let nets : Nets = record { wires = c.self.inside.wiring; cuts = c.self.inside.cuts.items; joins = c.self.inside.joins.items } in
    let count = count_of nets c.self.inside.label.items c.self.inside.roots.items c.self.invariant.0 c.self.invariant.3 in
    let net_in : c.args.net.0 < length c.self.inside.roots.items = c.requires.net (length c.self.inside.roots.items) (subst (λ (n : Nets). IsNetCount n (length c.self.inside.roots.items)) c.self.view_is count) in
    let wire_in : c.args.wire.0 < length c.self.inside.wiring = omega (arith, c.requires.wire, ap (λ (n : Nets). length n.wires) c.self.view_is) in
    let place = region_place nets c.self.inside.label.items c.self.inside.roots.items c.self.inside.regions.items (length c.wires.result.now) c.args.net.0 c.args.wire.0 c.self.invariant.4 (ap (λ l. length l) c.wires.ensures.same) net_in wire_in in
    omega (arith, place, c.self.inside.regions.ok.0)

pub returns : goal.returns
returns c =
    let nets : Nets = record { wires = c.self.inside.wiring; cuts = c.self.inside.cuts.items; joins = c.self.inside.joins.items } in
    let count = count_of nets c.self.inside.label.items c.self.inside.roots.items c.self.invariant.0 c.self.invariant.3 in
    let net_in : c.args.net.0 < length c.self.inside.roots.items = c.requires.net (length c.self.inside.roots.items) (subst (λ (n : Nets). IsNetCount n (length c.self.inside.roots.items)) c.self.view_is count) in
    let wire_in : c.args.wire.0 < length c.self.inside.wiring = omega (arith, c.requires.wire, ap (λ (n : Nets). length n.wires) c.self.view_is) in
    subst (λ (n : Nets). IsRegionOf n c.args.net.0 c.args.wire.0 c.index.result.now) c.self.view_is
    (region_read nets c.self.inside.label.items c.self.inside.roots.items c.self.invariant.0 c.self.invariant.3 c.self.inside.regions.items (length c.wires.result.now) c.args.net.0 c.args.wire.0 c.index.result.now _ c.self.invariant.4
    (ap (λ l. length l) c.wires.ensures.same) net_in wire_in c.index.ensures)
