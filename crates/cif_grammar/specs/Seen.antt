-- The command that a value of the code is.
use Rattle.std.specs.Prelude.{map}
use Rattle.cif_grammar.specs.declared.spelled.Command.{Command as Held}
use Rattle.cif_grammar.specs.declared.spelled.Command.TheVariants.{Box, Polygon, Wire, Layer, Call, User, Comment, Start, Finish}
use Rattle.cif_grammar.specs.declared.spelled.Path.{Path}
use Rattle.cif_grammar.specs.declared.spelled.Transformation.{Transformation}
use Rattle.cif_grammar.specs.declared.spelled.Transformation.TheVariants.{Translate, MirrorX, MirrorY, Rotate}
use Rattle.cif_grammar.specs.Grammar.{Points, Transform, translate, mirror_x, mirror_y, rotate, Command, box, polygon, wire, layer, call, user, comment, start, finish}

abbrev pub points_of : Path → Points
points_of path = record { first = path.first; others = path.others.items }

abbrev pub transform_of : Transformation → Transform
transform_of (Translate p) = translate p
transform_of MirrorX = mirror_x
transform_of MirrorY = mirror_y
transform_of (Rotate d) = rotate d

abbrev pub seen : Held → Command
seen (Box l w c d) = box l w c d
seen (Polygon path) = polygon (points_of path)
seen (Wire w path) = wire w (points_of path)
seen (Layer name) = layer name
seen (Call n ts) = call n (map transform_of ts.items)
seen (User text) = user text.now
seen Comment = comment
seen (Start n s) = start n s
seen Finish = finish
