-- Labels: the user commands that begin with 94.
use Rattle.std.specs.Prelude.{ℕ, Bool, false, not, ◌&&◌, ◌||◌, ◌==◌, nat_le, ℤ, pos, neg_ℤ, List, [], ◌∷◌, length, filter, Option, Some, None, option_map, if◌then◌else◌}
use Rattle.std.specs.List.{list_all, slice_split}
use Rattle.std.specs.Char.{is_ascii_digit}
use Rattle.std.specs.Str.Parse.{digits_value}
use Rattle.plane_geom.specs.declared.shapes.Point.{Point}
use Rattle.plane_geom.specs.Names.{is_short, is_name}
use Rattle.cif_grammar.specs.Words.{limit}

-- a space, tab, CR or LF
abbrev pub is_white : ℕ → Bool
is_white b = b == 32 || b == 9 || b == 13 || b == 10

-- the fields of a text: what stands before, between and behind its white bytes and isn't empty
abbrev pub fields : List ℕ → List (List ℕ)
fields text = filter (λ part. not (length part == 0)) (slice_split is_white text)

-- A label begins with `94`, and white or nothing behind that.
abbrev pub is_label : List ℕ → Bool
is_label [] = false
is_label (a ∷ []) = false
is_label (a ∷ b ∷ []) = a == 57 && b == 52
is_label (a ∷ b ∷ c ∷ bs) = a == 57 && b == 52 && is_white c

-- digits with a value up to the limit
abbrev pub size_of : List ℕ → Option ℕ
size_of [] = None
size_of (b ∷ bs) = if list_all is_ascii_digit (b ∷ bs) && nat_le (digits_value 10 (b ∷ bs)) limit then Some (digits_value 10 (b ∷ bs)) else None

-- an optional `-`, and such digits
abbrev pub coordinate_of : List ℕ → Option ℤ
coordinate_of [] = None
coordinate_of (b ∷ bs) = if b == 45 then option_map (λ n. neg_ℤ (pos n)) (size_of bs) else option_map pos (size_of (b ∷ bs))

-- a name at a point, in hundredths of a micron, and the layer that it names, if it names one
pub record Label : Type 0 where
  pub name : List ℕ
  pub at : Point
  pub layer : Option (List ℕ)

-- the name, if it may be one, at the point, if both coordinates are there
abbrev pub label_at : List ℕ → Option ℤ → Option ℤ → Option (List ℕ) → Option Label
label_at name (Some x) (Some y) layer = if is_name name then Some (record { name = name; at = record { x = x; y = y }; layer = layer }) else None
label_at name _ _ layer = None

-- The fields are `94`, NAME, X, Y, and perhaps LAYER.
abbrev pub label_of_fields : List (List ℕ) → Option Label
label_of_fields (n ∷ name ∷ x ∷ y ∷ []) = label_at name (coordinate_of x) (coordinate_of y) None
label_of_fields (n ∷ name ∷ x ∷ y ∷ layer ∷ []) = if is_short layer then label_at name (coordinate_of x) (coordinate_of y) (Some layer) else None
label_of_fields _ = None

-- the label that a user command says, if it says one
abbrev pub label_in : List ℕ → Option Label
label_in text = if is_label text then label_of_fields (fields text) else None
