-- How marks spread along conducting transistors. No promise of the crate cites these words.
use Rattle.std.specs.Prelude.{◌≡◌, ℕ, ◌<◌, Bool, true, false, ◌&&◌, ◌||◌, ◌==◌, not, List, length}
use Rattle.std.specs.List.{All, count_by}
use Rattle.link_classes.specs.Linked.{Linked}
use Rattle.switch_net.specs.declared.fets.Fet.{Fet}
use Rattle.switch_net.specs.Switches.{Switches, net_count, value, is_supply, is_terminal}
use Rattle.switch_net.specs.Conduction.{IsSame, is_conducting, is_joined}

-- how many nets are not marked
abbrev pub room : List Bool → ℕ
room marks = count_by not marks

-- the transistor conducts and has no supply as a terminal
abbrev pub is_joining : Switches → (ℕ → Bool) → Fet → Bool
is_joining c v f = is_conducting v f && (not (is_supply c f.a.0) && not (is_supply c f.b.0))

-- Its terminals are both marked or both not, where it joins them.
pub record IsEven (c : Switches) (v : ℕ → Bool) (marks : List Bool) (f : Fet) : Type 0 where
  pub even : is_joining c v f ≡ true → value marks f.a.0 ≡ value marks f.b.0

-- The transistor joins a marked and an unmarked net, and now both are marked.
pub record IsGrown (c : Switches) (v : ℕ → Bool) (f : Fet) (old new : List Bool) : Type 0 where
  pub joins : is_joining c v f ≡ true
  pub uneven : (value old f.a.0 || value old f.b.0) ≡ true
  pub is : (n : ℕ) → value new n ≡ (value old n || is_terminal n f)
  pub less : room new < room old

-- What one transistor does to the marks, and whether that is anything.
pub record IsJoined (c : Switches) (v : ℕ → Bool) (f : Fet) (old new : List Bool) (grown : Bool) : Type 0 where
  pub each : length new ≡ length old
  pub done : grown ≡ true → IsGrown c v f old new
  pub idle : grown ≡ false → (new ≡ old) × IsEven c v old f

-- What these transistors do to the marks, one after the other. The new marks hold the old ones, and each of them is
-- linked to an old one.
pub record IsSpread (c : Switches) (v : ℕ → Bool) (fets : List Fet) (old new : List Bool) (grown : Bool) : Type 0 where
  pub each : length new ≡ length old
  pub kept : (n : ℕ) → value old n ≡ true → value new n ≡ true
  pub linked : (n : ℕ) → value new n ≡ true → (m : ℕ) × (value old m ≡ true) × Linked (is_joined c c.fets v) m n
  pub less : grown ≡ true → room new < room old
  pub idle : grown ≡ false → (new ≡ old) × All (IsEven c v old) fets

-- The start is marked, and each mark is linked to it.
pub record IsFlooding (c : Switches) (v : ℕ → Bool) (start : ℕ) (marks : List Bool) : Type 0 where
  pub each : length marks ≡ net_count c
  pub first : value marks start ≡ true
  pub linked : (n : ℕ) → value marks n ≡ true → Linked (is_joined c c.fets v) start n

-- Exactly the nets that a chain of joined nets leads to from the start are marked.
pub record IsFlooded (c : Switches) (v : ℕ → Bool) (start : ℕ) (marks : List Bool) : Type 0 where
  pub marked : (n : ℕ) → IsSame (value marks n ≡ true) (Linked (is_joined c c.fets v) start n)

-- the transistor leads from a marked net to this one
abbrev pub is_leading : List Bool → ℕ → Fet → Bool
is_leading marks n f = (f.a.0 == n && value marks f.b.0) || (f.b.0 == n && value marks f.a.0)
