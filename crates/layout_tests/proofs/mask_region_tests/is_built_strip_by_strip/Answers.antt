use Rattle.std.proofs.Common.{◌≡◌, arith, List, [], ◌∷◌, ◌++◌, sym, subst}
use Rattle.std.specs.Prelude.{pos}
use Rattle.std.proofs.lemmas.Int.{ints}
use Rattle.mask_region.specs.declared.strips.Strip.{Strip}
use Rattle.mask_region.specs.Strips.{Banded, IsStrip}
use Rattle.layout_tests.proofs.mask_region_tests.is_built_strip_by_strip.Goals as goal

abbrev one : Strip
one = record { y0 = pos 0; y1 = pos 3; x0 = pos 0; x1 = pos 4 }

whole : IsStrip one
whole = record { wide = omega (arith, ints); high = omega (arith, ints); left = omega (arith, ints); below = omega (arith, ints); right = omega (arith, ints); above = omega (arith, ints) }

first : (strips : List Strip) → strips ≡ [] → Banded (strips ++ one ∷ [])
first strips is = subst (λ l. Banded (l ++ one ∷ [])) (sym is) (record { each = (whole, tt, tt) })

pub push-requires : goal.push-requires
push-requires g c = first c.empty-made.result c.empty-made.ensures
