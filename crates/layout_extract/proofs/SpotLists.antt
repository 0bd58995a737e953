-- The tags of spots.
use Rattle.std.proofs.Common.{◌≡◌, ℕ, ◌<◌, Bool, List, get_or, slice_get, Some, sym, ap, ◌∙◌, subst}
use Rattle.std.proofs.lemmas.List.Elements.{All-weaker}
use Rattle.switch_net.specs.declared.NetId.{NetId}
use Rattle.std.specs.List.{All, AllZip}
use Rattle.std.proofs.lemmas.Option.{slice_get-get_or}
use Rattle.net_trace.specs.Touching.{Nets}
use Rattle.net_trace.specs.Nets.{IsNetCount, node_at}
use Rattle.layout_extract.specs.declared.tags.Spot.{Spot}
use Rattle.layout_extract.specs.declared.tags.Tag.{Tag}
use Rattle.layout_extract.specs.Tags.{IsTagOf, IsPairOf, AreJoins}
use Rattle.layout_extract.proofs.Places.{zip_right}
use Rattle.net_trace.proofs.NetNumbers.{net_below}

pub tags_below : (nets : Nets) (spots : List Spot) (tags : List Tag) (count : ℕ) → AllZip (IsTagOf nets) spots tags → IsNetCount nets count → All (λ (t : Tag). t.net.0 < count) tags
tags_below nets spots tags count tagged counted k d lt =
    let (s, at_s, is) = zip_right (IsTagOf nets) spots tags k (get_or tags k d) tagged (slice_get-get_or tags k d lt) in
    net_below nets (node_at s.wire.0 s.cell.x s.cell.y) (get_or tags k d).net.0 count is.number counted

-- each pair is of two nets
pub pairs_below : (nets : Nets) (spots : List Spot) (tags lent : List Tag) (test : List ℕ → List ℕ → Bool) (pairs given : List (NetId × NetId)) → AllZip (IsTagOf nets) spots tags → lent ≡ tags → AreJoins test lent pairs → given ≡ pairs
    → (n : ℕ) → IsNetCount nets n → All (λ p. (p.0.0 < n) × (p.1.0 < n)) given
pairs_below nets spots tags lent test pairs given tagged same joins given_is n counted =
    subst (λ ps. All (λ (p : NetId × NetId). (p.0.0 < n) × (p.1.0 < n)) ps) (sym given_is) (All-weaker (IsPairOf test lent) (λ p. (p.0.0 < n) × (p.1.0 < n)) (λ p w.
    (subst (λ (x : NetId). x.0 < n) (sym w.one) (below w.j w.s w.at_j), subst (λ (x : NetId). x.0 < n) (sym w.other) (below w.k w.t w.at_k))) pairs joins.sound)
  where
    below : (j : ℕ) (t : Tag) → slice_get lent j ≡ Some t → t.net.0 < n
    below j t at =
        let (s, at_s, is) = zip_right (IsTagOf nets) spots tags j t tagged (ap (λ ts. slice_get ts j) (sym same) ∙ at) in
        net_below nets (node_at s.wire.0 s.cell.x s.cell.y) t.net.0 n is.number counted
