use Rattle.std.proofs.Common.{sym, ◌∙◌}
use Rattle.mask_algebra.proofs.Layering.{cut_same, cut_other}
use Rattle.mask_algebra.proofs.layers.rects_of.Goals.{then-eq+in_ok-add_cut, else-eq}
use Rattle.mask_algebra.proofs.layers.rects_of.Goals as goal

pub loop-draw-preserved : goal.loop-draw-preserved
loop-draw-preserved c = elim c.if-eq.branch [
  | then-eq+in_ok-add_cut w ↦
      let same = simp (c.as_bytes.ensures.same, c.as_bytes-in-loop-draw.ensures.same) at (sym c.eq.ensures ∙ w.if-eq.true) in
      rw w.rects-is (cut_same c.args.draws.now c.args.name c.loop-draw.draw-index c.draw-item.result c.loop-draw.rects.items w.add_cut.new.rects.items c.loop-draw-test.true c.draw-item.is same
      w.in_ok-add_cut.ensures.cells w.in_ok-add_cut.ensures.within c.loop-draw.invariant)
  | else-eq w ↦
      let other = simp (c.as_bytes.ensures.same, c.as_bytes-in-loop-draw.ensures.same) at (sym c.eq.ensures ∙ w.if-eq.false) in
      rw w.rects-is (cut_other c.args.draws.now c.args.name c.loop-draw.draw-index c.draw-item.result c.loop-draw.rects.items c.loop-draw-test.true c.draw-item.is other c.loop-draw.invariant)
]
