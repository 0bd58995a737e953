use Rattle.std.proofs.Common.{ap, sym, ◌∙◌}
use Rattle.net_trace.proofs.Banding.{here_added, here_same, next_lower, next_upper, bands_all}
use Rattle.net_trace.proofs.bands.bands.Goals.{then-is_below+in_ok-push, else-is_below}
use Rattle.net_trace.proofs.bands.bands.Goals as goal

pub loop-upper-preserved-then-is_done : goal.loop-upper-preserved-then-is_done
loop-upper-preserved-then-is_done c =
    next_lower c.args.vertices.now c.loop-upper.lower c.loop-upper.upper _ _ c.loop-upper-test.true c.requires c.if-is_below.pairs.items
    (elim c.if-is_below.branch [
      | then-is_below+in_ok-push w ↦ here_added c.args.vertices.now c.loop-upper.lower c.loop-upper.upper _ _ c.loop-upper-test.true c.loop-upper.pairs.items c.if-is_below.pairs.items c.loop-upper.invariant
          (ap (λ v. v.items) w.pairs-is ∙ w.in_ok-push.ensures.items) (sym c.is_below.ensures ∙ w.if-is_below.true)
      | else-is_below w ↦ here_same c.args.vertices.now c.loop-upper.lower c.loop-upper.upper _ _ c.loop-upper-test.true c.loop-upper.pairs.items c.if-is_below.pairs.items c.loop-upper.invariant
          (ap (λ v. v.items) w.pairs-is) (sym c.is_below.ensures ∙ w.if-is_below.false)
    ]) (sym c.is_done.ensures ∙ c.if-is_done.true)

pub loop-upper-preserved : goal.loop-upper-preserved
loop-upper-preserved c =
    next_upper c.args.vertices.now c.loop-upper.lower c.loop-upper.upper _ _ c.loop-upper-test.true c.requires c.if-is_below.pairs.items
    (elim c.if-is_below.branch [
      | then-is_below+in_ok-push w ↦ here_added c.args.vertices.now c.loop-upper.lower c.loop-upper.upper _ _ c.loop-upper-test.true c.loop-upper.pairs.items c.if-is_below.pairs.items c.loop-upper.invariant
          (ap (λ v. v.items) w.pairs-is ∙ w.in_ok-push.ensures.items) (sym c.is_below.ensures ∙ w.if-is_below.true)
      | else-is_below w ↦ here_same c.args.vertices.now c.loop-upper.lower c.loop-upper.upper _ _ c.loop-upper-test.true c.loop-upper.pairs.items c.if-is_below.pairs.items c.loop-upper.invariant
          (ap (λ v. v.items) w.pairs-is) (sym c.is_below.ensures ∙ w.if-is_below.false)
    ]) (sym c.is_done.ensures ∙ c.if-is_done.false)

pub returns : goal.returns
returns c = bands_all c.args.vertices.now c.loop-upper.lower c.loop-upper.upper c.loop-upper.pairs.items c.loop-upper-test.false c.loop-upper.invariant
