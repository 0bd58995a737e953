use Rattle.std.proofs.Common.{arith}
use Rattle.std.proofs.lemmas.Int.{ints}
use Rattle.plane_geom.specs.declared.shapes.Rect.{Rect}
use Rattle.std.specs.Prelude.{◌≡◌, ◌&&◌, ℤ}
use Rattle.plane_geom.specs.Cells.{is_between, is_in_rect}
use Rattle.mask_region.specs.declared.strips.Strip.{Strip}
use Rattle.mask_region.specs.Strips.{is_in_strip}
use Rattle.mask_region.proofs.rects.strip_of.Goals as goal

same_cells : (s : Strip) (r : Rect) (x y : ℤ) → s.x0 ≡ r.x0 → s.x1 ≡ r.x1 → s.y0 ≡ r.y0 → s.y1 ≡ r.y1 → is_in_strip s x y ≡ is_in_rect r x y
same_cells s r x y a b c d = λ i. is_between (a i) (b i) x && is_between (c i) (d i) y

pub returns-clause-cells : goal.returns-clause-cells
returns-clause-cells c x y = same_cells _ c.args.rect.now x y (omega (arith, ints)) (omega (arith, ints)) (omega (arith, ints)) (omega (arith, ints))
