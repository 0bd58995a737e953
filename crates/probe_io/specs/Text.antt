-- The text of a piece: the bytes as they stand, or the plain decimal of a number, with a `-` before a negative one.
use Rattle.std.specs.Prelude.{ℕ, List, flat_map, decimal}
use Rattle.std.specs.Fmt.{signed_decimal}
use Rattle.probe_io.specs.declared.pieces.Piece.{Piece}
use Rattle.probe_io.specs.declared.pieces.Piece.TheVariants.{Text, Number, Signed}

abbrev pub piece_text : Piece → List ℕ
piece_text (Text text) = text.now
piece_text (Number n) = decimal n
piece_text (Signed n) = signed_decimal n

-- the texts of all pieces, one behind the other
abbrev pub pieces_text : List Piece → List ℕ
pieces_text pieces = flat_map piece_text pieces
