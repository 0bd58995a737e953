-- What the readers of words and commands give, on lists: each function here is what one function of the code computes.
-- The grammar itself is in `Words` and `Grammar`. `total` is the length of the whole text, and `bytes` are its last ones.
use Rattle.std.specs.Prelude.{ℕ, zero, suc, ◌+◌, ◌-◌, Bool, true, false, not, ◌==◌, List, [], ◌∷◌, length, take, Option, Some, None, option_map, if◌then◌else◌, nat_lt, min}
use Rattle.std.specs.List.{prefix_len}
use Rattle.std.specs.Char.{is_ascii_digit}
use Rattle.std.specs.Str.Parse.{digits_value}
use Rattle.plane_geom.specs.Names.{is_short, is_short_byte}
use Rattle.plane_geom.specs.Texts.{◌>>=◌}
use Rattle.cif_grammar.specs.declared.spelled.Number.{Number}
use Rattle.cif_grammar.specs.declared.spelled.Signed.{Signed}
use Rattle.cif_grammar.specs.declared.spelled.Spot.{Spot}
use Rattle.cif_grammar.specs.Words.{is_blank, is_sep, limit, skip}
use Rattle.cif_grammar.specs.Grammar.{Transform, translate, mirror_x, mirror_y, rotate, Command, box, polygon, wire, layer, call, user, comment, start, finish, is_gap}

-- what stands behind one byte that passes a test
abbrev pub behind : (ℕ → Bool) → List ℕ → Option (List ℕ)
behind test [] = None
behind test (b ∷ bs) = if test b then Some bs else None

-- ---- numbers and points

unfoldable pub digits_at : ℕ → List ℕ → Option (Number × List ℕ)
digits_at total bytes = if prefix_len is_ascii_digit bytes == 0 then None else Some (record { at = total - length bytes; value = min (digits_value 10 (take (prefix_len is_ascii_digit bytes) bytes)) (limit + 1) }, skip is_ascii_digit bytes)

unfoldable pub integer_at : ℕ → List ℕ → Option (Number × List ℕ)
integer_at total bytes = digits_at total (skip is_sep bytes)

-- with this sign before the digits
abbrev pub sized_at : ℕ → Bool → List ℕ → Option (Signed × List ℕ)
sized_at total minus bytes = do
  n ← digits_at total bytes
  Some (record { minus = minus; size = n.0 }, n.1)

abbrev pub signed_in : ℕ → List ℕ → Option (Signed × List ℕ)
signed_in total [] = None
signed_in total (b ∷ bs) = if b == 45 then sized_at total true bs else sized_at total false (b ∷ bs)

unfoldable pub signed_at : ℕ → List ℕ → Option (Signed × List ℕ)
signed_at total bytes = signed_in total (skip is_sep bytes)

unfoldable pub point_at : ℕ → List ℕ → Option (Spot × List ℕ)
point_at total bytes = do
  x ← signed_at total bytes
  rest ← behind is_sep x.1
  y ← signed_at total rest
  Some (record { x = x.0; y = y.0 }, y.1)

-- a further number, and a further point
unfoldable pub next_at : ℕ → List ℕ → Option (Number × List ℕ)
next_at total bytes = do
  rest ← behind is_sep bytes
  integer_at total rest

unfoldable pub next_point_at : ℕ → List ℕ → Option (Spot × List ℕ)
next_point_at total bytes = do
  rest ← behind is_sep bytes
  point_at total rest

-- ---- points of a path, and transformations of a call, as many as there are

abbrev pub onto : {A : Type 0} → A → List A × List ℕ → List A × List ℕ
onto x read = (x ∷ read.0, read.1)

-- nothing, or what was read and then more
abbrev pub and_more : {A : Type 0} → List ℕ → Option (A × List ℕ) → (List ℕ → List A × List ℕ) → List A × List ℕ
and_more bytes None more = ([], bytes)
and_more bytes (Some x) more = onto x.0 (more x.1)

-- at most so many
abbrev pub repeated : {A : Type 0} → (List ℕ → Option (A × List ℕ)) → ℕ → List ℕ → List A × List ℕ
repeated one zero bytes = ([], bytes)
repeated one (suc most) bytes = and_more bytes (one bytes) (repeated one most)

unfoldable pub more_points_at : ℕ → List ℕ → List Spot × List ℕ
more_points_at total bytes = repeated (next_point_at total) (length bytes) bytes

abbrev pub mirror_in : List ℕ → Option (Transform × List ℕ)
mirror_in [] = None
mirror_in (b ∷ bs) = if b == 88 then Some (mirror_x, bs) else if b == 89 then Some (mirror_y, bs) else None

abbrev pub transform_in : ℕ → List ℕ → Option (Transform × List ℕ)
transform_in total [] = None
transform_in total (b ∷ bs) =
    if b == 84 then option_map (λ p. (translate p.0, p.1)) (point_at total bs)
    else if b == 77 then mirror_in (skip is_blank bs)
    else if b == 82 then option_map (λ d. (rotate d.0, d.1)) (point_at total bs)
    else None

unfoldable pub transform_at : ℕ → List ℕ → Option (Transform × List ℕ)
transform_at total bytes = transform_in total (skip is_blank bytes)

unfoldable pub transforms_at : ℕ → List ℕ → List Transform × List ℕ
transforms_at total bytes = repeated (transform_at total) (length bytes) bytes

-- ---- each command, behind its letter

-- what can be left out
abbrev pub or_none : {A : Type 0} → List ℕ → Option (A × List ℕ) → Option A × List ℕ
or_none bytes None = (None, bytes)
or_none bytes (Some x) = (Some x.0, x.1)

unfoldable pub box_at : ℕ → List ℕ → Option (Command × List ℕ)
box_at total bytes = do
  l ← integer_at total bytes
  w ← next_at total l.1
  c ← next_point_at total w.1
  let d = or_none c.1 (next_point_at total c.1) in Some (box l.0 w.0 c.0 d.0, d.1)

unfoldable pub polygon_at : ℕ → List ℕ → Option (Command × List ℕ)
polygon_at total bytes = do
  p ← point_at total bytes
  let ps = more_points_at total p.1 in Some (polygon (record { first = p.0; others = ps.0 }), ps.1)

-- the width of a wire, and its first point
unfoldable pub width_at : ℕ → List ℕ → Option (Number × Spot × List ℕ)
width_at total bytes = do
  w ← integer_at total bytes
  p ← next_point_at total w.1
  Some (w.0, p.0, p.1)

unfoldable pub wire_at : ℕ → List ℕ → Option (Command × List ℕ)
wire_at total bytes = do
  w ← width_at total bytes
  let ps = more_points_at total w.2 in Some (wire w.0 (record { first = w.1; others = ps.0 }), ps.1)

abbrev pub layer_in : List ℕ → Option (Command × List ℕ)
layer_in bytes = if is_short (take (prefix_len is_short_byte bytes) bytes) then Some (layer (take (prefix_len is_short_byte bytes) bytes), skip is_short_byte bytes) else None

unfoldable pub layer_at : List ℕ → Option (Command × List ℕ)
layer_at bytes = layer_in (skip is_blank bytes)

unfoldable pub call_at : ℕ → List ℕ → Option (Command × List ℕ)
call_at total bytes = do
  n ← integer_at total bytes
  let ts = transforms_at total n.1 in Some (call n.0 ts.0, ts.1)

-- a byte of user text
abbrev pub is_text : ℕ → Bool
is_text b = not (b == 59)

-- The text goes up to its `;`, and there has to be one.
unfoldable pub user_at : List ℕ → Option (Command × List ℕ)
user_at bytes = if nat_lt (prefix_len is_text bytes) (length bytes) then Some (user (take (prefix_len is_text bytes) bytes), skip is_text bytes) else None

-- what stands behind the `)` that closes so many parentheses and one more
abbrev pub closing : ℕ → List ℕ → Option (List ℕ)
closing depth [] = None
closing depth (b ∷ bs) = if b == 40 then closing (depth + 1) bs else if b == 41 then (if depth == 0 then Some bs else closing (depth - 1) bs) else closing depth bs

unfoldable pub comment_at : List ℕ → Option (Command × List ℕ)
comment_at bytes = option_map (λ rest. (comment, rest)) (closing 0 bytes)

-- the two numbers of a scale
unfoldable pub two_at : ℕ → List ℕ → Option ((Number × Number) × List ℕ)
two_at total bytes = do
  a ← next_at total bytes
  b ← next_at total a.1
  Some ((a.0, b.0), b.1)

unfoldable pub start_at : ℕ → List ℕ → Option (Command × List ℕ)
start_at total bytes = do
  n ← integer_at total bytes
  let s = or_none n.1 (two_at total n.1) in Some (start n.0 s.0, s.1)

abbrev pub definition_in : ℕ → List ℕ → Option (Command × List ℕ)
definition_in total [] = None
definition_in total (b ∷ bs) = if b == 83 then start_at total bs else if b == 70 then Some (finish, bs) else None

unfoldable pub definition_at : ℕ → List ℕ → Option (Command × List ℕ)
definition_at total bytes = definition_in total (skip is_blank bytes)

-- ---- the next command

abbrev pub body_in : ℕ → List ℕ → Option (Command × List ℕ)
body_in total [] = None
body_in total (b ∷ bs) =
    if is_ascii_digit b then user_at (b ∷ bs)
    else if b == 66 then box_at total bs
    else if b == 80 then polygon_at total bs
    else if b == 87 then wire_at total bs
    else if b == 76 then layer_at bs
    else if b == 67 then call_at total bs
    else if b == 40 then comment_at bs
    else if b == 68 then definition_at total bs
    else None

unfoldable pub body_at : ℕ → List ℕ → Option (Command × List ℕ)
body_at total bytes = body_in total bytes

-- what stands behind a `;` and the blanks and semicolons behind that
abbrev pub semicolon_at : List ℕ → Option (List ℕ)
semicolon_at [] = None
semicolon_at (b ∷ bs) = if b == 59 then Some (skip is_gap bs) else None

unfoldable pub end_at : Command → List ℕ → Option (List ℕ)
end_at (user text) bytes = semicolon_at bytes
end_at _ bytes = semicolon_at (skip is_blank bytes)

-- The command, and what stands behind its end.
unfoldable pub command_at : ℕ → List ℕ → Option (Command × List ℕ)
command_at total bytes = do
  c ← body_at total bytes
  rest ← end_at c.0 c.1
  Some (c.0, rest)
