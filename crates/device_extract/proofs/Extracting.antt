-- The refusals and the list, put together from the facts of the calls.
use Rattle.std.proofs.Common.{◌≡◌, ℕ, ◌<◌, Bool, List, length, refl, sym, ap, ◌∙◌, subst, arith, slice_get, get_or, Some, None, Option}
use Rattle.std.specs.Prelude.{Result, Ok, Err, MatchOption}
use Rattle.std.specs.List.{All, position}
use Rattle.std.proofs.lemmas.List.Quantifiers.{position-Some}
use Rattle.std.proofs.lemmas.Option.{slice_get-get_or}
use Rattle.plane_geom.specs.declared.shapes.Point.{Point}
use Rattle.switch_net.specs.declared.NetId.{NetId}
use Rattle.switch_net.specs.declared.fets.Fet.{Fet}
use Rattle.layer_map.specs.Plan.{Plan}
use Rattle.mask_region.specs.declared.strips.Strip.{Strip}
use Rattle.mask_region.specs.Strips.{MaskLists}
use Rattle.net_trace.specs.declared.node.Node.{Node}
use Rattle.net_trace.specs.Touching.{Nets, plane_of}
use Rattle.net_trace.specs.Nets.{AreNetRoots}
use Rattle.device_extract.specs.declared.refusal.DeviceRefusal.{DeviceRefusal}
use Rattle.device_extract.specs.declared.refusal.DeviceRefusal.TheVariants.{NoTerminal, ManyTerminals, TooManyFets}
use Rattle.device_extract.specs.declared.terminals.Ends.{Ends}
use Rattle.device_extract.specs.declared.terminals.Ends.TheVariants.{Bare}
use Rattle.device_extract.specs.Channels.{channel_plane, AreGated, IsFirstUngated}
use Rattle.device_extract.specs.Transistors.{AreTransistors}
use Rattle.device_extract.specs.Refusals.{RefusesDevices}
use Rattle.device_extract.specs.Contacts.{AreContacts, AreEndsOf, is_bare, is_crowded, HasPair, HasGate, AreFetsAt}
use Rattle.device_extract.proofs.Listing.{contacts_below, first_bare, first_crowded, all_gates, all_pairs, are_transistors}

error_in : {T E : Type 0} → E → Result T E → E
error_in d (Ok x) = d
error_in d (Err e) = e

one_error : {T E : Type 0} (r q : E) (x y : Result T E) → x ≡ Err r → y ≡ Err q → x ≡ y → r ≡ q
unfolding error_in
one_error r q x y is_r is_q same = ap (error_in r) (sym is_r) ∙ ap (error_in r) same ∙ ap (error_in r) is_q

pub gated_none : (plan : Plan) (masks : MaskLists) (found : Option Point) → MatchOption found (AreGated plan masks) (IsFirstUngated plan masks) → found ≡ None → AreGated plan masks
gated_none plan masks found h is = subst (λ o. MatchOption o (AreGated plan masks) (IsFirstUngated plan masks)) is h

module _ (plan : Plan) (masks : MaskLists) (nets plane : Nets) (channels : List (List Strip)) (roots : List Node) (contacts : List (ℕ × NetId)) (is_plane : plane ≡ plane_of channels) (is_channels : channels ≡ masks.channels) (found : AreNetRoots plane roots)
    (pairs : AreContacts plan masks nets contacts) where
  are : AreNetRoots (channel_plane masks) roots
  are = subst (λ (p : Nets). AreNetRoots p roots) (is_plane ∙ ap plane_of is_channels) found

  pub below_of : (lent : List (ℕ × NetId)) → lent ≡ contacts → All (λ (c : ℕ × NetId). c.0 < length roots) lent
  below_of lent is = subst (λ (l : List (ℕ × NetId)). All (λ (c : ℕ × NetId). c.0 < length roots) l) (sym is) (contacts_below plan masks nets roots are contacts pairs)

  module _ (gated : AreGated plan masks) (count : ℕ) (lent : List (ℕ × NetId)) (ends from : List Ends) (is_count : count ≡ length roots) (is_lent : lent ≡ contacts) (is_ends : from ≡ ends) (told : AreEndsOf lent count ends) where
    told_of : AreEndsOf contacts (length roots) from
    told_of = subst (λ (e : List Ends). AreEndsOf contacts (length roots) e) (sym is_ends) (subst (λ n. AreEndsOf contacts n ends) is_count (subst (λ (l : List (ℕ × NetId)). AreEndsOf l count ends) is_lent told))

    root_at : (test : Ends → Bool) (t : ℕ) (d : Node) → position test from ≡ Some t → slice_get roots t ≡ Some (get_or roots t d)
    root_at test t d at = let (lt, pass, before) = position-Some test from t Bare at in slice_get-get_or roots t d (omega (arith, lt, told_of.each))

    pub bare_refused : (t : ℕ) (d : Node) (cell : Point) (at : Option ℕ) → at ≡ position is_bare from → at ≡ Some t → cell.x ≡ (get_or roots t d).x → cell.y ≡ (get_or roots t d).y
        → {T : Type 0} (refusal : DeviceRefusal) → ◌≡◌ {A = Result T DeviceRefusal} (Err (NoTerminal cell)) (Err refusal) → RefusesDevices plan masks nets refusal
    bare_refused t d cell at is_at some is_x is_y refusal same =
        subst (RefusesDevices plan masks nets) (one_error (NoTerminal cell) refusal (Err (NoTerminal cell)) (Err refusal) refl refl same)
        (first_bare plan masks nets roots are contacts pairs from told_of gated t (get_or roots t d) cell (root_at is_bare t d (sym is_at ∙ some)) is_x is_y (sym is_at ∙ some))

    pub crowded_refused : (t : ℕ) (d : Node) (cell : Point) (bare at : Option ℕ) → bare ≡ position is_bare from → bare ≡ None → at ≡ position is_crowded from → at ≡ Some t → cell.x ≡ (get_or roots t d).x → cell.y ≡ (get_or roots t d).y
        → {T : Type 0} (refusal : DeviceRefusal) → ◌≡◌ {A = Result T DeviceRefusal} (Err (ManyTerminals cell)) (Err refusal) → RefusesDevices plan masks nets refusal
    crowded_refused t d cell bare at is_bare_at none is_at some is_x is_y refusal same =
        subst (RefusesDevices plan masks nets) (one_error (ManyTerminals cell) refusal (Err (ManyTerminals cell)) (Err refusal) refl refl same)
        (first_crowded plan masks nets roots are contacts pairs from told_of gated (sym is_bare_at ∙ none) t (get_or roots t d) cell (root_at is_crowded t d (sym is_at ∙ some)) is_x is_y (sym is_at ∙ some))

    pub list_of : (fets : List Fet) → AreFetsAt plan nets roots from (length roots) fets → AreTransistors plan masks nets fets
    list_of fets made = are_transistors plan masks nets roots are contacts pairs from told_of gated fets made

    pub many_refused : (fets : List Fet) → AreFetsAt plan nets roots from (length roots) fets → 4096 < length fets → {T : Type 0} (refusal : DeviceRefusal) → ◌≡◌ {A = Result T DeviceRefusal} (Err TooManyFets) (Err refusal) → RefusesDevices plan masks nets refusal
    many_refused fets made more refusal same =
        subst (RefusesDevices plan masks nets) (one_error TooManyFets refusal (Err TooManyFets) (Err refusal) refl refl same) (record { fets = fets; are = list_of fets made; more = more })

  pub gates_of : AreGated plan masks → length masks.channels ≡ length plan.fets → nets.wires ≡ masks.wires → All (HasGate plan nets) roots
  gates_of gated each same = all_gates plan masks nets roots are gated each same

pub pairs_of : (ends : List Ends) (bare crowded : Option ℕ) → bare ≡ position is_bare ends → bare ≡ None → crowded ≡ position is_crowded ends → crowded ≡ None → All HasPair ends
pairs_of ends bare crowded is_bare_at no_bare is_crowded_at no_crowded = all_pairs ends (sym is_bare_at ∙ no_bare) (sym is_crowded_at ∙ no_crowded)
