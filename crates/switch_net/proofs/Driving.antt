-- What the marks of a net's chain tell of its paths.
use Rattle.std.proofs.Common.{◌≡◌, inl, inr, ℕ, Bool, true, false, ◌&&◌, ◌==◌, List, None, refl, sym, ◌∙◌, ap}
use Rattle.std.specs.List.{list_any}
use Rattle.std.proofs.lemmas.Bool.{false≢true, and_parts, and_from, or_cases, or_left, or_right, eqb-true, eq-eqb}
use Rattle.std.proofs.lemmas.List.Folds.{Any-from_list_any, list_any-from_Any}
use Rattle.switch_net.specs.declared.fets.Fet.{Fet}
use Rattle.switch_net.specs.declared.drives.Drive.{Drive}
use Rattle.switch_net.specs.Switches.{Switches, value, is_supply}
use Rattle.switch_net.specs.Conduction.{IsSame, is_conducting, is_across, is_step, HasPath, IsReached, goes_high, goes_low, IsDrive, IsDriveOf}
use Rattle.switch_net.specs.Spreads.{IsFlooded, is_leading}
use Rattle.switch_net.proofs.Steps.{any_mapped}
use Rattle.switch_net.proofs.Paths.{reached_from, path_from}

-- the transistor conducts and leads from a marked net to this one
abbrev leads : (ℕ → Bool) → List Bool → ℕ → Fet → Bool
leads v marks s f = is_conducting v f && is_leading marks s f

module _ (c : Switches) (v : ℕ → Bool) (start : ℕ) (marks : List Bool) (flooded : IsFlooded c v start marks) where
  -- from a transistor that leads from a marked net
  reached : (s : ℕ) → list_any (leads v marks s) c.fets ≡ true → IsReached c c.fets v start s
  reached s is =
      let (k, f, lt, at, passes) = Any-from_list_any (leads v marks s) c.fets is in
      let (on, leading) = and_parts (is_conducting v f) (is_leading marks s f) passes in
      let step : (x y : ℕ) → is_across f x y ≡ true → is_step c.fets v x y ≡ true =
      λ x y across. list_any-from_Any (λ g. is_conducting v g && is_across g x y) c.fets (k, f, lt, at, and_from (is_conducting v f) (is_across f x y) on across) in
      elim (or_cases (f.a.0 == s && value marks f.b.0) (f.b.0 == s && value marks f.a.0) leading) [
        | inl to_a ↦
            let (here, marked) = and_parts (f.a.0 == s) (value marks f.b.0) to_a in
            record {
              last = f.b.0;
              linked = (flooded.marked f.b.0).onto marked;
              step = step f.b.0 s (or_right (f.a.0 == f.b.0 && f.b.0 == s) (f.a.0 == s && f.b.0 == f.b.0) (and_from (f.a.0 == s) (f.b.0 == f.b.0) here (eq-eqb f.b.0 f.b.0 refl)));
            }
        | inr to_b ↦
            let (here, marked) = and_parts (f.b.0 == s) (value marks f.a.0) to_b in
            record {
              last = f.a.0;
              linked = (flooded.marked f.a.0).onto marked;
              step = step f.a.0 s (or_left (f.a.0 == f.a.0 && f.b.0 == s) (f.a.0 == s && f.b.0 == f.a.0) (and_from (f.a.0 == f.a.0) (f.b.0 == s) (eq-eqb f.a.0 f.a.0 refl) here));
            }
      ]

  leading_from : (f : Fet) (last s : ℕ) → value marks last ≡ true → is_across f last s ≡ true → is_leading marks s f ≡ true
  leading_from f last s marked across = elim (or_cases (f.a.0 == last && f.b.0 == s) (f.a.0 == s && f.b.0 == last) across) [
    | inl forth ↦
        let (from, to) = and_parts (f.a.0 == last) (f.b.0 == s) forth in
        or_right (f.a.0 == s && value marks f.b.0) (f.b.0 == s && value marks f.a.0) (and_from (f.b.0 == s) (value marks f.a.0) to (ap (value marks) (eqb-true f.a.0 last from) ∙ marked))
    | inr back ↦
        let (to, from) = and_parts (f.a.0 == s) (f.b.0 == last) back in
        or_left (f.a.0 == s && value marks f.b.0) (f.b.0 == s && value marks f.a.0) (and_from (f.a.0 == s) (value marks f.b.0) to (ap (value marks) (eqb-true f.b.0 last from) ∙ marked))
  ]

  led : (s : ℕ) → IsReached c c.fets v start s → list_any (leads v marks s) c.fets ≡ true
  led s h =
      let marked : value marks h.last ≡ true = (flooded.marked h.last).back h.linked in
      any_mapped (λ f. is_conducting v f && is_across f h.last s) (leads v marks s) c.fets
      (λ f passes. let (on, across) = and_parts (is_conducting v f) (is_across f h.last s) passes in and_from (is_conducting v f) (is_leading marks s f) on (leading_from f h.last s marked across)) h.step

  told : (s : ℕ) (goes : Bool) → is_supply c start ≡ false → goes ≡ list_any (leads v marks s) c.fets → IsSame (goes ≡ true) (HasPath c c.fets None v start s)
  told s goes plain is = record {
    onto = λ does. path_from c c.fets v start s (reached s (sym is ∙ does));
    back = λ path. is ∙ led s (reached_from c c.fets v start s plain path);
  }

  -- The drive is told by the transistors that lead from a marked net to a supply.
  pub drive_told : (drive : Drive) → is_supply c start ≡ false → goes_high drive ≡ list_any (leads v marks c.high) c.fets → goes_low drive ≡ list_any (leads v marks c.low) c.fets → IsDrive c c.fets v start drive
  drive_told drive plain high low = record { high = told c.high (goes_high drive) plain high; low = told c.low (goes_low drive) plain low }

-- The drive of a net that is neither supply, by their numbers.
pub drive_of_net : (c : Switches) (v : ℕ → Bool) (start : ℕ) (marks : List Bool) (high low : ℕ) (drive : Drive) → high ≡ c.high → low ≡ c.low → false ≡ (start == high) → false ≡ (start == low)
    → IsFlooded c v start marks → goes_high drive ≡ list_any (leads v marks high) c.fets → goes_low drive ≡ list_any (leads v marks low) c.fets → IsDriveOf c v start drive
drive_of_net c v start marks high low drive high_is low_is not_high not_low flooded to_high to_low = record {
  at_high = λ same. absurd (false≢true (not_high ∙ eq-eqb start high (same ∙ sym high_is)));
  at_low = λ same. absurd (false≢true (not_low ∙ eq-eqb start low (same ∙ sym low_is)));
  elsewhere = λ plain. drive_told c v start marks flooded drive plain (to_high ∙ ap (λ s. list_any (leads v marks s) c.fets) high_is) (to_low ∙ ap (λ s. list_any (leads v marks s) c.fets) low_is);
}
