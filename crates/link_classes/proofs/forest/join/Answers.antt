use Rattle.std.proofs.Common.{arith}
use Rattle.link_classes.proofs.Forests.{joined}
use Rattle.link_classes.proofs.forest.join.Goals as goal

pub returns : goal.returns
returns c = joined _ _ _ _ _ _ _ _ _ c.requires.a_inside c.requires.b_inside c.root_of-first.ensures.climbed c.root_of-first.ensures.root c.root_of-second.ensures.climbed c.root_of-second.ensures.root (omega (arith, c.min.ensures)) (omega (arith, c.max.ensures))
