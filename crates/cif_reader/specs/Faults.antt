-- Commands at fault, and the refusals of texts.
use Rattle.std.specs.Prelude.{◌≡◌, ◌⊎◌, ℕ, Bool, true, false, not, ◌&&◌, ◌||◌, ◌==◌, nat_lt, List, [], ◌∷◌, ◌++◌, length, drop, find, flat_map, Option, Some, None, option_map, is_some, is_none, if◌then◌else◌}
use Rattle.std.specs.List.{list_any, list_all, prefix_len}
use Rattle.std.specs.Option.{option_or}
use Rattle.plane_geom.specs.Covering.{is_along, outline, segments}
use Rattle.plane_geom.specs.Texts.{begins_with}
use Rattle.cif_grammar.specs.declared.spelled.Number.{Number}
use Rattle.cif_grammar.specs.declared.spelled.Spot.{Spot}
use Rattle.cif_grammar.specs.Words.{limit, is_blank}
use Rattle.cif_grammar.specs.Grammar.{Points, Transform, translate, rotate, Command, box, polygon, wire, call, user, start, Placed, Items, Longest, is_inside}
use Rattle.cif_reader.specs.declared.measure.Scale.{Scale}
use Rattle.cif_reader.specs.declared.refusal.CifRefusal.{CifRefusal}
use Rattle.cif_reader.specs.declared.refusal.CifRefusal.TheVariants.{Syntax, NumberTooLarge, Unsupported, NotManhattan, NoLayer, TwiceDefined, ZeroScale, OffGrid, BadLabel, TooManyPoints}
use Rattle.cif_reader.specs.declared.refusal.Feature.TheVariants.{Round, DefDelete}
use Rattle.cif_reader.specs.Scope.{layer_behind, scale_behind}
use Rattle.cif_reader.specs.Label.{is_label, label_in}
use Rattle.cif_reader.specs.Measure.{facing, point_of, points_along, has_turns, is_far, is_whole, reached, gridded}

-- ---- the numbers of a command, in the order in which they are written

abbrev pub of_spot : Spot → List Number
of_spot p = p.x.size ∷ p.y.size ∷ []

abbrev pub of_points : Points → List Number
of_points p = flat_map of_spot (p.first ∷ p.others)

abbrev pub of_transform : Transform → List Number
of_transform (translate p) = of_spot p
of_transform (rotate p) = of_spot p
of_transform _ = []

abbrev pub numbers : Command → List Number
numbers (box l w c None) = l ∷ w ∷ of_spot c
numbers (box l w c (Some d)) = l ∷ w ∷ (of_spot c ++ of_spot d)
numbers (polygon p) = of_points p
numbers (wire w p) = w ∷ of_points p
numbers (call n ts) = n ∷ flat_map of_transform ts
numbers (start n None) = n ∷ []
numbers (start n (Some s)) = n ∷ s.0 ∷ s.1 ∷ []
numbers _ = []

-- ---- what may be wrong with a command

abbrev pub is_large : Number → Bool
is_large n = nat_lt limit n.value

-- the first number over the limit
abbrev pub large_number : Command → Option Number
large_number c = find is_large (numbers c)

abbrev pub goes_far : Scale → Command → Bool
goes_far s c = list_any (is_far s) (reached c)

-- the most points of a polygon or wire
abbrev pub most_points : ℕ
most_points = 1024

abbrev pub are_many : Points → Bool
are_many p = nat_lt most_points (length (p.first ∷ p.others))

abbrev pub has_many_points : Command → Bool
has_many_points (polygon p) = are_many p
has_many_points (wire w p) = are_many p
has_many_points _ = false

-- All directions, edges and segments lie on the axes.
abbrev pub is_manhattan : Command → Bool
is_manhattan (box l w c (Some d)) = is_some (facing (point_of d))
is_manhattan (polygon p) = list_all is_along (outline (points_along p))
is_manhattan (wire w p) = list_all is_along (segments (points_along p))
is_manhattan (call n ts) = has_turns ts
is_manhattan _ = true

-- It is a box, a polygon or a wire.
abbrev pub is_drawn : Command → Bool
is_drawn (box l w c d) = true
is_drawn (polygon p) = true
is_drawn (wire w p) = true
is_drawn _ = false

abbrev pub starts : ℕ → Placed → Bool
starts number c = elim c.what [ start n s ↦ number == n.value | _ ↦ false ]

-- It defines a symbol that was defined before.
abbrev pub is_twice : List Placed → Command → Bool
is_twice before (start n s) = list_any (starts n.value) before
is_twice before _ = false

abbrev pub has_zero_scale : Command → Bool
has_zero_scale (start n (Some s)) = s.0.value == 0 || s.1.value == 0
has_zero_scale _ = false

abbrev pub is_off_grid : Scale → Command → Bool
is_off_grid s c = not (list_all (is_whole s) (gridded c))

abbrev pub is_bad_label : Command → Bool
is_bad_label (user text) = is_label text && is_none (label_in text)
is_bad_label _ = false

-- ---- the first fault

-- The first fault of a command: of the layer that is current where it stands, of the scale there, and of whether it
-- defines a symbol again.
abbrev pub fault_in : Option (List ℕ) → Scale → Bool → Placed → Option CifRefusal
fault_in current s twice c =
    option_or (option_map (λ n. NumberTooLarge n.at) (large_number c.what))
    (if goes_far s c.what then Some (NumberTooLarge c.at)
    else if has_many_points c.what then Some (TooManyPoints c.at)
    else if not (is_manhattan c.what) then Some (NotManhattan c.at)
    else if is_drawn c.what && is_none current then Some (NoLayer c.at)
    else if twice then Some (TwiceDefined c.at)
    else if has_zero_scale c.what then Some (ZeroScale c.at)
    else if is_off_grid s c.what then Some (OffGrid c.at)
    else if is_bad_label c.what then Some (BadLabel c.at)
    else None)

abbrev pub fault_of : List Placed → Placed → Option CifRefusal
fault_of before c = fault_in (layer_behind before) (scale_behind before) (is_twice before c.what) c

-- The first command at fault decides.
abbrev pub first_fault : List Placed → Option CifRefusal
first_fault [] = None
first_fault (c ∷ before) = option_or (first_fault before) (fault_of before c)

-- ---- what stands where no command is spelled

-- any blanks, and a `D`
abbrev pub is_delete : List ℕ → Bool
is_delete bytes = begins_with 68 (drop (prefix_len is_blank bytes) bytes)

-- What stands at a position behind the longest front of whole items: an `E` that may stand there, or a fault.
abbrev pub end_fault : Bool → ℕ → List ℕ → Option CifRefusal
end_fault inside at [] = Some (Syntax at)
end_fault inside at (b ∷ bs) =
    if b == 69 && not inside then None
    else if b == 82 then Some (Unsupported at Round)
    else if b == 68 && is_delete bs then Some (Unsupported at DefDelete)
    else Some (Syntax at)

-- ---- the refusals of a text

-- A command is at fault, and none before it.
pub record FaultAt (text : List ℕ) (fault : CifRefusal) : Type 0 where
  pub before : List Placed
  pub command : Placed
  pub front : List ℕ
  pub rest : List ℕ
  pub items : Items (command ∷ before) 0 front
  pub whole : text ≡ front ++ rest
  pub none_before : first_fault before ≡ None
  pub is : fault_of before command ≡ Some fault

-- No command is at fault, and what stands behind the longest front of whole items is.
pub record FaultBehind (text : List ℕ) (fault : CifRefusal) : Type 0 where
  pub commands : List Placed
  pub front : List ℕ
  pub rest : List ℕ
  pub longest : Longest text commands front rest
  pub none_before : first_fault commands ≡ None
  pub is : end_fault (is_inside commands) (length front) rest ≡ Some fault

abbrev pub Refuses : List ℕ → CifRefusal → Type 0
Refuses text fault = FaultAt text fault ⊎ FaultBehind text fault
