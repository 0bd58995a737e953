-- What the lines of a map spell, row by row.
use Rattle.std.specs.Prelude.{◌≡◌, ℕ, ◌+◌, ◌<◌, Bool, true, false, List, [], ◌∷◌, ◌++◌, length, codes, max, ◌&&◌}
use Rattle.std.specs.List.{list_all}
use Rattle.plane_geom.specs.Names.{is_short, is_name}
use Rattle.switch_net.specs.declared.Kind.{Kind}
use Rattle.switch_net.specs.declared.Kind.TheVariants.{N, P}
use Rattle.layer_map.specs.declared.refusal.Side.{Side}
use Rattle.layer_map.specs.declared.refusal.Side.TheVariants.{High, Low}
use Rattle.layer_map.specs.Names.{is_wire_name}
use Rattle.layer_map.specs.Words.{words_of, is_skipped, is_supply_line}

-- An expression is a term and any number of `+` with a term; a term is a factor and any number of `*` with a factor; a
-- factor is a layer's name, or `!` and a factor, or an expression in parentheses.
mutual
  pub data Factor : Type 0 where
    of_layer : List ℕ → Factor
    inverse : Factor → Factor
    group : Sum → Factor

  pub data Product : Type 0 where
    product : Factor → Factors → Product

  pub data Factors : Type 0 where
    no_factor : Factors
    times : Factor → Factors → Factors

  pub data Sum : Type 0 where
    sum_of : Product → Products → Sum

  pub data Products : Type 0 where
    no_product : Products
    plus : Product → Products → Products

-- the words of an expression
abbrev mutual
  pub factor_words : Factor → List (List ℕ)
  factor_words (of_layer name) = name ∷ []
  factor_words (inverse f) = codes "!" ∷ factor_words f
  factor_words (group s) = codes "(" ∷ (sum_words s ++ (codes ")" ∷ []))

  pub product_words : Product → List (List ℕ)
  product_words (product f fs) = factor_words f ++ factors_words fs

  pub factors_words : Factors → List (List ℕ)
  factors_words no_factor = []
  factors_words (times f fs) = codes "*" ∷ (factor_words f ++ factors_words fs)

  pub sum_words : Sum → List (List ℕ)
  sum_words (sum_of p ps) = product_words p ++ products_words ps

  pub products_words : Products → List (List ℕ)
  products_words no_product = []
  products_words (plus p ps) = codes "+" ∷ (product_words p ++ products_words ps)

-- Each name of a layer is one to four digits or upper-case letters.
abbrev mutual
  pub names_factor : Factor → Bool
  names_factor (of_layer name) = is_short name
  names_factor (inverse f) = names_factor f
  names_factor (group s) = names_sum s

  pub names_product : Product → Bool
  names_product (product f fs) = names_factor f && names_factors fs

  pub names_factors : Factors → Bool
  names_factors no_factor = true
  names_factors (times f fs) = names_factor f && names_factors fs

  pub names_sum : Sum → Bool
  names_sum (sum_of p ps) = names_product p && names_products ps

  pub names_products : Products → Bool
  names_products no_product = true
  names_products (plus p ps) = names_product p && names_products ps

-- how many names of layers stand in an expression
abbrev mutual
  pub layers_factor : Factor → ℕ
  layers_factor (of_layer name) = 1
  layers_factor (inverse f) = layers_factor f
  layers_factor (group s) = layers_in s

  pub layers_product : Product → ℕ
  layers_product (product f fs) = layers_factor f + layers_factors fs

  pub layers_factors : Factors → ℕ
  layers_factors no_factor = 0
  layers_factors (times f fs) = layers_factor f + layers_factors fs

  pub layers_in : Sum → ℕ
  layers_in (sum_of p ps) = layers_product p + layers_products ps

  pub layers_products : Products → ℕ
  layers_products no_product = 0
  layers_products (plus p ps) = layers_product p + layers_products ps

-- the most `(` and `!` that are open round one place
abbrev mutual
  pub depth_factor : Factor → ℕ
  depth_factor (of_layer name) = 0
  depth_factor (inverse f) = depth_factor f + 1
  depth_factor (group s) = depth_of s + 1

  pub depth_product : Product → ℕ
  depth_product (product f fs) = max (depth_factor f) (depth_factors fs)

  pub depth_factors : Factors → ℕ
  depth_factors no_factor = 0
  depth_factors (times f fs) = max (depth_factor f) (depth_factors fs)

  pub depth_of : Sum → ℕ
  depth_of (sum_of p ps) = max (depth_product p) (depth_products ps)

  pub depth_products : Products → ℕ
  depth_products no_product = 0
  depth_products (plus p ps) = max (depth_product p) (depth_products ps)

-- what a line says
pub data Statement : Type 0 where
  -- a blank line or a comment
  nothing : Statement
  -- `wire NAME EXPR`
  wire : List ℕ → Sum → Statement
  -- `cut EXPR : WIRES`
  cut : Sum → List (List ℕ) → Statement
  -- `fet KIND EXPR gate WIRE diff WIRE`
  fet : Kind → Sum → List ℕ → List ℕ → Statement
  -- `label LAYER WIRES`
  label : List ℕ → List (List ℕ) → Statement
  -- `high NAMES` or `low NAMES`
  supply : Side → List (List ℕ) → Statement

abbrev pub kind_word : Kind → List ℕ
kind_word N = codes "n"
kind_word P = codes "p"

abbrev pub side_word : Side → List ℕ
side_word High = codes "high"
side_word Low = codes "low"

-- a list of one or more wires
pub record AreWires (names : List (List ℕ)) : Type 0 where
  pub some : 0 < length names
  pub named : list_all is_wire_name names ≡ true

-- The line isn't skipped, is a line of supplies or not, and has these words, cut with signs unless it is one of supplies.
pub record HasWords (supplies : Bool) (signs : Bool) (line : List ℕ) (words : List (List ℕ)) : Type 0 where
  pub counts : is_skipped line ≡ false
  pub kind : is_supply_line line ≡ supplies
  pub cut_so : words_of signs line ≡ words

pub record IsWire (line name : List ℕ) (e : Sum) : Type 0 where
  pub words : HasWords false true line (codes "wire" ∷ name ∷ sum_words e)
  pub named : is_wire_name name ≡ true
  pub layers : names_sum e ≡ true

pub record IsCut (line : List ℕ) (e : Sum) (wires : List (List ℕ)) : Type 0 where
  pub words : HasWords false true line (codes "cut" ∷ (sum_words e ++ (codes ":" ∷ wires)))
  pub layers : names_sum e ≡ true
  pub named : AreWires wires

pub record IsFet (line : List ℕ) (kind : Kind) (e : Sum) (gate diff : List ℕ) : Type 0 where
  pub words : HasWords false true line (codes "fet" ∷ kind_word kind ∷ (sum_words e ++ (codes "gate" ∷ gate ∷ codes "diff" ∷ diff ∷ [])))
  pub layers : names_sum e ≡ true
  pub gate_named : is_wire_name gate ≡ true
  pub diff_named : is_wire_name diff ≡ true

pub record IsLabel (line layer : List ℕ) (wires : List (List ℕ)) : Type 0 where
  pub words : HasWords false true line (codes "label" ∷ layer ∷ wires)
  pub short : is_short layer ≡ true
  pub named : AreWires wires

pub record IsSupply (line : List ℕ) (side : Side) (names : List (List ℕ)) : Type 0 where
  pub words : HasWords true false line (side_word side ∷ names)
  pub some : 0 < length names
  pub named : list_all is_name names ≡ true

-- The line spells what it says.
abbrev pub SpellsLine : List ℕ → Statement → Type 0
SpellsLine line nothing = is_skipped line ≡ true
SpellsLine line (wire name e) = IsWire line name e
SpellsLine line (cut e wires) = IsCut line e wires
SpellsLine line (fet kind e gate diff) = IsFet line kind e gate diff
SpellsLine line (label layer wires) = IsLabel line layer wires
SpellsLine line (supply side names) = IsSupply line side names

-- The lines spell these statements, the last line's first: so at each line one looks back over those before it.
abbrev pub Spells : List (List ℕ) → List Statement → Type 0
Spells lines [] = lines ≡ []
Spells lines (s ∷ before) = (front : List (List ℕ)) × (line : List ℕ) × (lines ≡ front ++ (line ∷ [])) × Spells front before × SpellsLine line s
