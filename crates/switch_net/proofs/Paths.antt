-- A path to a net is a chain of joined nets and one step.
use Rattle.std.proofs.Common.{◌≡◌, inl, inr, ℕ, Bool, true, false, List, [], ◌∷◌, None, sym, subst}
use Rattle.std.proofs.lemmas.Bool.{false≢true, or_cases, or_left}
use Rattle.link_classes.specs.Linked.{IsChain}
use Rattle.link_classes.proofs.Chains.{linked_refl, linked_touch, linked_trans}
use Rattle.switch_net.specs.declared.fets.Fet.{Fet}
use Rattle.switch_net.specs.Switches.{Switches, is_supply}
use Rattle.switch_net.specs.Conduction.{is_step, is_move, is_joined, IsWay, HasPath, IsReached}
use Rattle.switch_net.proofs.Steps.{joined_from, touching_parts}

-- with no extra edge a move is a step
move_step : (fets : List Fet) (v : ℕ → Bool) (a b : ℕ) → is_move fets None v a b ≡ true → is_step fets v a b ≡ true
move_step fets v a b is = elim (or_cases (is_step fets v a b) false is) [
  | inl step ↦ step
  | inr none ↦ absurd (false≢true none)
]

reached_by : (c : Switches) (fets : List Fet) (v : ℕ → Bool) (a b : ℕ) (between : List ℕ) → is_supply c a ≡ false → IsWay (is_move fets None v) (is_supply c) a between b → IsReached c fets v a b
reached_by c fets v a b [] plain leads = record { last = a; linked = linked_refl (is_joined c fets v) a; step = move_step fets v a b leads }
reached_by c fets v a b (d ∷ ds) plain leads =
    let more : IsReached c fets v d b = reached_by c fets v d b ds leads.1 leads.2 in
    record {
      last = more.last;
      linked = linked_trans (is_joined c fets v) a d more.last (linked_touch (is_joined c fets v) a d (joined_from c fets v a d (move_step fets v a d leads.0) plain leads.1)) more.linked;
      step = more.step;
    }

-- A path from a net that is no supply gives the chain and the step.
pub reached_from : (c : Switches) (fets : List Fet) (v : ℕ → Bool) (a b : ℕ) → is_supply c a ≡ false → HasPath c fets None v a b → IsReached c fets v a b
reached_from c fets v a b plain path = reached_by c fets v a b path.between plain path.leads

way_by : (c : Switches) (fets : List Fet) (v : ℕ → Bool) (a last b : ℕ) (chain : List ℕ) → IsChain (is_joined c fets v) a chain last → is_step fets v last b ≡ true
    → IsWay (is_move fets None v) (is_supply c) a chain b
way_by c fets v a last b [] leads step = subst (λ x. is_move fets None v x b ≡ true) (sym leads) (or_left (is_step fets v last b) false step)
way_by c fets v a last b (d ∷ ds) leads step =
    let (next, a_plain, d_plain) = touching_parts c fets v a d leads.0 in
    (or_left (is_step fets v a d) false next, d_plain, way_by c fets v d last b ds leads.1 step)

-- A chain of joined nets and one step are a path.
pub path_from : (c : Switches) (fets : List Fet) (v : ℕ → Bool) (a b : ℕ) → IsReached c fets v a b → HasPath c fets None v a b
path_from c fets v a b h = record { between = h.linked.chain; leads = way_by c fets v a h.last b h.linked.chain h.linked.leads h.step }
