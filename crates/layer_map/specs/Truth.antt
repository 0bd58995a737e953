-- What an expression means.
use Rattle.std.specs.Prelude.{ℕ, Bool, false, List, not, ◌&&◌, ◌||◌}
use Rattle.layer_map.specs.declared.expr.Expr.{Expr}
use Rattle.layer_map.specs.declared.expr.Expr.{Layer, Not', And', Or'}
use Rattle.layer_map.specs.Grammar.{Factor, of_layer, inverse, group, Product, product, Factors, no_factor, times, Sum, sum_of, Products, no_product, plus}

-- An expression without its parentheses.
pub data Formula : Type 0 where
  on : List ℕ → Formula
  neither : Formula → Formula
  both : Formula → Formula → Formula
  either : Formula → Formula → Formula

-- whether it is true, where a test says which layers are present
abbrev pub holds : Formula → (List ℕ → Bool) → Bool
holds (on name) present = present name
holds (neither f) present = not (holds f present)
holds (both f g) present = holds f present && holds g present
holds (either f g) present = holds f present || holds g present

-- the expression that a value of the code is
abbrev pub formula_of : Expr → Formula
formula_of (Layer name) = on name
formula_of (Not' p e) = neither (formula_of e)
formula_of (And' p e q f) = both (formula_of e) (formula_of f)
formula_of (Or' p e q f) = either (formula_of e) (formula_of f)

-- `+` is or, `*` is and, `!` is not. Sums and products group to the left.
abbrev mutual
  pub factor_means : Factor → Formula
  factor_means (of_layer name) = on name
  factor_means (inverse f) = neither (factor_means f)
  factor_means (group s) = means s

  pub product_means : Product → Formula
  product_means (product f fs) = factors_mean fs (factor_means f)

  -- what stands to the left, times these factors
  pub factors_mean : Factors → Formula → Formula
  factors_mean no_factor left = left
  factors_mean (times f fs) left = factors_mean fs (both left (factor_means f))

  pub means : Sum → Formula
  means (sum_of p ps) = products_mean ps (product_means p)

  pub products_mean : Products → Formula → Formula
  products_mean no_product left = left
  products_mean (plus p ps) left = products_mean ps (either left (product_means p))

-- It is true where no layer is present.
abbrev pub is_unbounded : Formula → Bool
is_unbounded f = holds f (λ name. false)
