-- The three ways to join two sets.
use Rattle.std.specs.Prelude.{Bool, not, ◌&&◌, ◌||◌}
use Rattle.mask_region.specs.declared.ends.Joining.{Joining}
use Rattle.mask_region.specs.declared.ends.Joining.TheVariants.{Union, Meet, Minus}

-- whether something is in the joined set, where it is or isn't in the first and in the second
abbrev pub joined : Joining → Bool → Bool → Bool
joined Union p q = p || q
joined Meet p q = p && q
joined Minus p q = p && not q
