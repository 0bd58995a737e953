-- Worked instances of the definitions: values that are computed, relations that hold, and relations that are refused.
use Rattle.std.proofs.Common.{◌≡◌, ℕ, ◌++◌, codes, List, [], ◌∷◌, true, false, None, refl}
use Rattle.std.specs.Prelude.{ℤ, pos, negsuc}
use Rattle.plane_geom.specs.declared.shapes.Rect.{Rect}
use Rattle.plane_geom.specs.declared.shapes.Shape.TheVariants.{Block}
use Rattle.plane_geom.specs.declared.places.Place.{Place}
use Rattle.plane_geom.specs.Covering.{block, polygon, wire}
use Rattle.plane_geom.proofs.Worked.{at}
use Rattle.plane_geom.specs.Placement.{shift, steps_of}
use Rattle.cif_reader.specs.declared.file.Item.{Item}
use Rattle.cif_reader.specs.declared.file.What.{What}
use Rattle.cif_reader.specs.declared.file.What.TheVariants.{Draw, Call, Mark}
use Rattle.cif_flatten.specs.declared.calls.UndefinedCall.{UndefinedCall}
use Rattle.cif_flatten.specs.Unfolding.{in_place, drawn_by, marked_by, figure_weight, weight, opened_by, Unfolds, calls_among, weight_among}
use Rattle.cif_flatten.specs.Faults.{undefined_by, IsFirstIfAny, CallsAlong, IsNested, corners, count_distinct, fineness}

rect : ℤ → ℤ → ℤ → ℤ → Rect
rect x0 y0 x1 y1 = record { x0 = x0; y0 = y0; x1 = x1; y1 = y1 }

-- `MX T 10 0`, and `T 10 0 MX`
mirrored_first : Place
mirrored_first = record { turn = record { swap = false; neg_x = true; neg_y = false }; dx = pos 10; dy = pos 0 }

mirrored_last : Place
mirrored_last = record { turn = record { swap = false; neg_x = true; neg_y = false }; dx = negsuc 9; dy = pos 0 }

box : What
box = Draw (codes "CMF") (Block (rect (pos 0) (pos 0) (pos 2) (pos 4)))

-- The call's own steps come first, those of the call round it behind them.
inner_first : drawn_by (steps_of mirrored_first ++ shift (pos 100) (pos 7) ∷ []) 5 box ≡ record { layer = codes "CMF"; figure = block (rect (pos 108) (pos 7) (pos 110) (pos 11)); pos = 5 } ∷ []
unfolding mirrored_first box rect
inner_first = refl

inner_last : drawn_by (steps_of mirrored_last) 5 box ≡ record { layer = codes "CMF"; figure = block (rect (negsuc 11) (pos 0) (negsuc 9) (pos 4)); pos = 5 } ∷ []
unfolding mirrored_last box rect
inner_last = refl

label : marked_by (steps_of mirrored_first) 2 9 (Mark (codes "A") (at (pos 1) (pos 3)) None) ≡ record { name = codes "A"; at = at (pos 9) (pos 3); layer = None; depth = 2; pos = 9 } ∷ []
unfolding mirrored_first at
label = refl

no_shape : drawn_by [] 5 (Call 7 mirrored_first) ≡ []
no_shape = refl

no_label : marked_by [] 0 5 box ≡ []
unfolding box
no_label = refl

-- a call weighs nothing, and one of a symbol that is not there opens nothing
call_weight : weight (Call 7 mirrored_first) ≡ 0
call_weight = refl

opens_nothing : opened_by [] [] 0 (Call 7 mirrored_first) ≡ []
opens_nothing = refl

shape_opens_nothing : opened_by [] [] 0 box ≡ []
unfolding box
shape_opens_nothing = refl

box_weight : weight box ≡ 1
unfolding box
box_weight = refl

label_weight : weight (Mark (codes "A") (at (pos 1) (pos 3)) None) ≡ 1
label_weight = refl

outline_weight : figure_weight (polygon (at (pos 0) (pos 0) ∷ at (pos 4) (pos 0) ∷ at (pos 4) (pos 6) ∷ at (pos 0) (pos 6) ∷ [])) ≡ 4
unfolding at
outline_weight = refl

-- ---- unfolding

item : ℕ → What → Item
item place what = record { pos = place; what = what }

items : List Item
items = item 0 box ∷ item 9 (Call 7 mirrored_first) ∷ item 20 (Mark (codes "A") (at (pos 1) (pos 3)) None) ∷ []

in_their_order : Unfolds [] (in_place [] 0 items) (in_place [] 0 items)
unfolding items item box
in_their_order = (refl, (refl, (refl, refl)))

one_left_out : Unfolds [] (in_place [] 0 items) [] → ⊥
unfolding items item
one_left_out h = cc

one_too_many : Unfolds [] [] (in_place [] 0 items) → ⊥
unfolding items item
one_too_many h = h

one_call : calls_among (in_place [] 0 items) ≡ 1
unfolding items item box
one_call = refl

a_box_and_a_label : weight_among (in_place [] 0 items) ≡ 2
unfolding items item box
a_box_and_a_label = refl

-- ---- calls of symbols that are not defined

undefined : ℕ → ℕ → UndefinedCall
undefined place symbol = record { pos = place; symbol = symbol }

is_undefined : undefined_by [] 3 (Call 7 mirrored_first) ≡ record { pos = 3; symbol = 7 } ∷ []
is_undefined = refl

no_call : undefined_by [] 3 box ≡ []
unfolding box
no_call = refl

none_is_first : IsFirstIfAny [] None
none_is_first = refl

some_is_first : IsFirstIfAny (undefined 3 7 ∷ []) None → ⊥
some_is_first h = cc

-- ---- symbols that call themselves

no_symbols : IsNested []
no_symbols = record { none = λ number h. calls_nothing number h.through number h.along }
  where
    calls_nothing : (a : ℕ) (cs : List ℕ) (b : ℕ) → CallsAlong [] a cs b → ⊥
    calls_nothing a [] b h = let none : false ≡ true = h in cc
    calls_nothing a (c ∷ cs) b h = let none : false ≡ true = h.0 in cc

-- ---- corners

box_corners : corners (block (rect (pos 0) (pos 0) (pos 2) (pos 4))) ≡ at (pos 0) (pos 0) ∷ at (pos 2) (pos 4) ∷ []
unfolding rect at
box_corners = refl

-- one point alone is a segment too
one_point : corners (wire (pos 2) (at (pos 5) (pos 5) ∷ [])) ≡ at (pos 3) (pos 3) ∷ at (pos 7) (pos 7) ∷ []
unfolding at
one_point = refl

-- the corners of a wire's two segments, and how fine they are
bend : corners (wire (pos 1) (at (pos 0) (pos 0) ∷ at (pos 4) (pos 0) ∷ at (pos 4) (pos 6) ∷ []))
    ≡ at (negsuc 0) (negsuc 0) ∷ at (pos 5) (pos 1) ∷ at (pos 3) (negsuc 0) ∷ at (pos 5) (pos 7) ∷ []
unfolding at
bend = refl

three_by_three : fineness (corners (wire (pos 1) (at (pos 0) (pos 0) ∷ at (pos 4) (pos 0) ∷ at (pos 4) (pos 6) ∷ []))) ≡ 9
unfolding at
three_by_three = refl

two_numbers : count_distinct (pos 3 ∷ negsuc 0 ∷ pos 3 ∷ []) ≡ 2
two_numbers = refl

no_numbers : count_distinct [] ≡ 0
no_numbers = refl

three_numbers : count_distinct (pos 3 ∷ negsuc 2 ∷ pos 0 ∷ pos 3 ∷ pos 0 ∷ []) ≡ 3
three_numbers = refl

two_by_one : fineness (at (pos 0) (pos 7) ∷ at (pos 1) (pos 7) ∷ []) ≡ 2
unfolding at
two_by_one = refl

no_points : fineness [] ≡ 0
no_points = refl
