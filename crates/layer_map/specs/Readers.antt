-- What the readers of lines give, on lists of words.
use Rattle.std.specs.Prelude.{ℕ, ◌+◌, ◌-◌, Bool, true, false, List, [], ◌∷◌, codes, Option, Some, None, option_map, not, ◌&&◌, ◌||◌, ◌==◌, if◌then◌else◌}
use Rattle.std.specs.List.{list_all}
use Rattle.std.specs.Str.{bytes_eq}
use Rattle.plane_geom.specs.Texts.{◌>>=◌}
use Rattle.plane_geom.specs.Names.{is_short, is_name}
use Rattle.switch_net.specs.declared.Kind.{Kind}
use Rattle.switch_net.specs.declared.Kind.TheVariants.{N, P}
use Rattle.layer_map.specs.declared.refusal.Side.TheVariants.{High, Low}
use Rattle.layer_map.specs.declared.expressions.Scan.{Scan}
use Rattle.layer_map.specs.Names.{is_wire_name}
use Rattle.layer_map.specs.Words.{words_of, is_skipped, is_supply_line}
use Rattle.layer_map.specs.Grammar.{Factor, of_layer, inverse, group, product, Factors, no_factor, times, Sum, sum_of, Products, no_product, plus, Statement, nothing, wire, cut, fet, label, supply}

-- the first, and the others
abbrev pub first_of : {A : Type 0} → List A → Option (A × List A)
first_of [] = None
first_of (x ∷ xs) = Some (x, xs)

-- what stands behind this word
abbrev pub behind : List ℕ → List (List ℕ) → Option (List (List ℕ))
behind word [] = None
behind word (w ∷ ws) = if bytes_eq w word then Some ws else None

abbrev pub is_none_left : List ℕ → Bool
is_none_left [] = true
is_none_left (b ∷ bs) = false

-- the line without a CR at its end
abbrev pub without_cr : List ℕ → List ℕ
without_cr [] = []
without_cr (b ∷ bs) = if (b == 13) && is_none_left bs then [] else b ∷ without_cr bs

-- ---- expressions

-- what follows a factor at one level: more factors of its product, and more products of its sum
pub record Level : Type 0 where
  pub factors : Factors
  pub products : Products

-- the same inside of parentheses, from the innermost level outwards, and the words behind all of them
pub record Tail : Type 0 where
  pub level : Level
  pub outer : List Level
  pub rest : List (List ℕ)

abbrev pub no_level : Level
no_level = record { factors = no_factor; products = no_product }

abbrev pub level_sum : Factor → Level → Sum
level_sum f l = sum_of (product f l.factors) l.products

abbrev pub inverted : Factor × Tail → Factor × Tail
inverted x = (inverse x.0, x.1)

-- the group that ends where the innermost level does
abbrev pub grouped_in : Factor → Level → List Level → List (List ℕ) → Option (Factor × Tail)
grouped_in f inner [] rest = None
grouped_in f inner (l ∷ ls) rest = Some (group (level_sum f inner), record { level = l; outer = ls; rest = rest })

abbrev pub grouped : Factor × Tail → Option (Factor × Tail)
grouped x = grouped_in x.0 x.1.level x.1.outer x.1.rest

abbrev pub one_more_factor : Factor × Tail → Tail
one_more_factor x = record { level = record { factors = times x.0 x.1.level.factors; products = x.1.level.products }; outer = x.1.outer; rest = x.1.rest }

abbrev pub one_more_product : Factor × Tail → Tail
one_more_product x = record { level = record { factors = no_factor; products = plus (product x.0 x.1.level.factors) x.1.level.products }; outer = x.1.outer; rest = x.1.rest }

abbrev pub closed : Tail → Tail
closed t = record { level = no_level; outer = t.level ∷ t.outer; rest = t.rest }

-- what is read where a factor is wanted, and where one stands before, with so many parentheses open
abbrev mutual
  pub want : List (List ℕ) → ℕ → Option (Factor × Tail)
  want [] inside = None
  want (w ∷ ws) inside = if bytes_eq w (codes "!") then option_map inverted (want ws inside) else if bytes_eq w (codes "(") then (want ws (inside + 1) >>= grouped) else if is_short w then option_map (λ t. (of_layer w, t)) (have ws inside) else None

  pub have : List (List ℕ) → ℕ → Option Tail
  have [] inside = if inside == 0 then Some (record { level = no_level; outer = []; rest = [] }) else None
  have (w ∷ ws) inside = if bytes_eq w (codes "*") then option_map one_more_factor (want ws inside) else if bytes_eq w (codes "+") then option_map one_more_product (want ws inside) else if inside == 0 then Some (record { level = no_level; outer = []; rest = w ∷ ws }) else if bytes_eq w (codes ")") then option_map closed (have ws (inside - 1)) else None

-- an expression, and the words behind it
abbrev pub parse : List (List ℕ) → Option (Sum × List (List ℕ))
parse words = option_map (λ x. (level_sum x.0 x.1.level, x.1.rest)) (want words 0)

-- the expression, where there is one
abbrev pub tree_in : Option (Sum × List (List ℕ)) → Sum
tree_in None = sum_of (product (of_layer []) no_factor) no_product
tree_in (Some x) = x.0

abbrev pub tree_of : List (List ℕ) → Sum
tree_of words = tree_in (parse words)

-- ---- the same without a tree

-- A word that is no part of the expression, behind a factor.
abbrev pub is_done : Scan → List ℕ → Bool
is_done s w = not s.wants_factor && s.parens == 0 && not (bytes_eq w (codes "*") || bytes_eq w (codes "+"))

abbrev pub factor_step : Scan → List ℕ → Option Scan
factor_step s w = if bytes_eq w (codes "!") then Some s else if bytes_eq w (codes "(") then Some (record s { parens = s.parens + 1 }) else if is_short w then Some (record { wants_factor = false; parens = s.parens; layers = s.layers + 1 }) else None

abbrev pub other_step : Scan → List ℕ → Option Scan
other_step s w = if bytes_eq w (codes "*") || bytes_eq w (codes "+") then Some (record s { wants_factor = true }) else if s.parens == 0 then None else if bytes_eq w (codes ")") then Some (record s { parens = s.parens - 1 }) else None

abbrev pub step : Scan → List ℕ → Option Scan
step s w = if s.wants_factor then factor_step s w else other_step s w

-- the number of names of layers, and the words behind the expression
abbrev pub scan : List (List ℕ) → Scan → Option (ℕ × List (List ℕ))
scan [] s = if not s.wants_factor && s.parens == 0 then Some (s.layers, []) else None
scan (w ∷ ws) s = if is_done s w then Some (s.layers, w ∷ ws) else (step s w >>= scan ws)

-- ---- rows

abbrev pub is_nothing : List (List ℕ) → Bool
is_nothing [] = true
is_nothing (w ∷ ws) = false

abbrev pub are_wires : List (List ℕ) → Bool
are_wires names = not (is_nothing names) && list_all is_wire_name names

unfoldable pub wire_at : List (List ℕ) → Option Statement
wire_at [] = None
wire_at (name ∷ ws) = if is_wire_name name then (parse ws >>= λ x. if is_nothing x.1 then Some (wire name x.0) else None) else None

unfoldable pub cut_at : List (List ℕ) → Option Statement
cut_at words = do
  e ← parse words
  names ← behind (codes ":") e.1
  if are_wires names then Some (cut e.0 names) else None

abbrev pub kind_at : List ℕ → Option Kind
kind_at w = if bytes_eq w (codes "n") then Some N else if bytes_eq w (codes "p") then Some P else None

-- the gate and the other terminals' wire
unfoldable pub terminals_at : List (List ℕ) → Option (List ℕ × List ℕ)
terminals_at words = do
  at_gate ← behind (codes "gate") words
  gate ← first_of at_gate
  at_diff ← behind (codes "diff") gate.1
  diff ← first_of at_diff
  if is_wire_name gate.0 && is_wire_name diff.0 && is_nothing diff.1 then Some (gate.0, diff.0) else None

unfoldable pub fet_at : List (List ℕ) → Option Statement
fet_at words = do
  first ← first_of words
  kind ← kind_at first.0
  e ← parse first.1
  ends ← terminals_at e.1
  Some (fet kind e.0 ends.0 ends.1)

unfoldable pub label_at : List (List ℕ) → Option Statement
label_at [] = None
label_at (l ∷ names) = if is_short l && are_wires names then Some (label l names) else None

unfoldable pub supply_at : List (List ℕ) → Option Statement
supply_at [] = None
supply_at (w ∷ names) = if not (is_nothing names) && list_all is_name names then Some (supply (if bytes_eq w (codes "high") then High else Low) names) else None

unfoldable pub row_at : List (List ℕ) → Option Statement
row_at [] = None
row_at (w ∷ ws) = if bytes_eq w (codes "wire") then wire_at ws else if bytes_eq w (codes "cut") then cut_at ws else if bytes_eq w (codes "fet") then fet_at ws else if bytes_eq w (codes "label") then label_at ws else None

-- what the line says, if it is of the grammar
unfoldable pub said_at : List ℕ → Option Statement
said_at line = if is_skipped line then Some nothing else if is_supply_line line then supply_at (words_of false line) else row_at (words_of true line)
