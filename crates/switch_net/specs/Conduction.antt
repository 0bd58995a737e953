-- Which transistors conduct, and to which supplies a net has a path.
--
-- Values are a function from nets to bits. A path goes from net to net along conducting transistors, and no net between
-- its two ends is a supply: no path goes through a supply. The extra edge of a bridge, where there is one, is a move like
-- any other.
--
-- A net that is no supply also has the path of no move to itself. HasPath asks for one move at least, since no path from
-- a net that is no supply to a supply is empty. A supply is driven by itself.
use Rattle.std.specs.Prelude.{◌≡◌, ◌⊎◌, ℕ, Bool, true, false, ◌&&◌, ◌||◌, ◌==◌, not, List, [], ◌∷◌, Option, None, Some}
use Rattle.std.specs.List.{list_any}
use Rattle.link_classes.specs.Linked.{Linked}
use Rattle.switch_net.specs.declared.Kind.{Kind}
use Rattle.switch_net.specs.declared.Kind.TheVariants.{N, P}
use Rattle.switch_net.specs.declared.fets.Fet.{Fet}
use Rattle.switch_net.specs.declared.drives.Drive.{Drive}
use Rattle.switch_net.specs.declared.drives.Drive.TheVariants.{High, Low, Both, Neither}
use Rattle.switch_net.specs.Switches.{Switches, is_supply}

-- ---- moves

-- a transistor of this kind conducts under this bit of its gate
abbrev pub is_on : Kind → Bool → Bool
is_on N bit = bit
is_on P bit = not bit

abbrev pub is_conducting : (ℕ → Bool) → Fet → Bool
is_conducting v f = is_on f.kind (v f.gate.0)

-- the transistor has these two nets as its terminals
abbrev pub is_across : Fet → ℕ → ℕ → Bool
is_across f a b = (f.a.0 == a && f.b.0 == b) || (f.a.0 == b && f.b.0 == a)

-- a conducting transistor leads from the one net to the other
abbrev pub is_step : List Fet → (ℕ → Bool) → ℕ → ℕ → Bool
is_step fets v a b = list_any (λ f. is_conducting v f && is_across f a b) fets

-- the extra edge does, where there is one
abbrev pub is_edge : Option (ℕ × ℕ) → ℕ → ℕ → Bool
is_edge None a b = false
is_edge (Some p) a b = (p.0 == a && p.1 == b) || (p.0 == b && p.1 == a)

abbrev pub is_move : List Fet → Option (ℕ × ℕ) → (ℕ → Bool) → ℕ → ℕ → Bool
is_move fets edge v a b = is_step fets v a b || is_edge edge a b

-- ---- paths

-- Moves lead from the first net through these nets, none of which is an end, to the last one.
abbrev pub IsWay : (ℕ → ℕ → Bool) → (ℕ → Bool) → ℕ → List ℕ → ℕ → Type 0
IsWay move is_end a [] b = move a b ≡ true
IsWay move is_end a (c ∷ cs) b = (move a c ≡ true) × (is_end c ≡ false) × IsWay move is_end c cs b

-- There is a path of one move or more along these transistors.
pub record HasPath (c : Switches) (fets : List Fet) (edge : Option (ℕ × ℕ)) (v : ℕ → Bool) (a b : ℕ) : Type 0 where
  pub between : List ℕ
  pub leads : IsWay (is_move fets edge v) (is_supply c) a between b

-- There is a path, or the two nets are one that is no supply.
abbrev pub HasPathOrNone : Switches → List Fet → Option (ℕ × ℕ) → (ℕ → Bool) → ℕ → ℕ → Type 0
HasPathOrNone c fets edge v a b = HasPath c fets edge v a b ⊎ ((a ≡ b) × (is_supply c a ≡ false))

-- the two facts come together
pub record IsSame (P Q : Type 0) : Type 0 where
  pub onto : P → Q
  pub back : Q → P

-- ---- drives

abbrev pub goes_high : Drive → Bool
goes_high High = true
goes_high Low = false
goes_high Both = true
goes_high Neither = false

abbrev pub goes_low : Drive → Bool
goes_low High = false
goes_low Low = true
goes_low Both = true
goes_low Neither = false

-- The drive tells to which supplies the net has a path along these transistors.
pub record IsDrive (c : Switches) (fets : List Fet) (v : ℕ → Bool) (n : ℕ) (drive : Drive) : Type 0 where
  pub high : IsSame (goes_high drive ≡ true) (HasPath c fets None v n c.high)
  pub low : IsSame (goes_low drive ≡ true) (HasPath c fets None v n c.low)

-- The drive of a net of the circuit: a supply is driven by itself, and every other net by paths.
pub record IsDriveOf (c : Switches) (v : ℕ → Bool) (n : ℕ) (drive : Drive) : Type 0 where
  pub at_high : n ≡ c.high → drive ≡ High
  pub at_low : n ≡ c.low → drive ≡ Low
  pub elsewhere : is_supply c n ≡ false → IsDrive c c.fets v n drive

-- ---- chains of joined nets

-- a conducting transistor joins the two nets, neither of which is a supply
abbrev pub is_joined : Switches → List Fet → (ℕ → Bool) → ℕ → ℕ → Bool
is_joined c fets v a b = is_step fets v a b && (not (is_supply c a) && not (is_supply c b))

-- A chain of joined nets leads to a last one, which is one step from the other net.
pub record IsReached (c : Switches) (fets : List Fet) (v : ℕ → Bool) (a b : ℕ) : Type 0 where
  pub last : ℕ
  pub linked : Linked (is_joined c fets v) a last
  pub step : is_step fets v last b ≡ true
