-- Nets in order that pass a test, added one by one.
use Rattle.std.proofs.Common.{arith, ◌≡◌, ℕ, ◌+◌, Bool, true, false, if◌then◌else◌, List, [], ◌∷◌, ◌++◌, map, filter, refl, sym, ◌∙◌, ap}
use Rattle.std.specs.List.{range_with_len}
use Rattle.std.proofs.lemmas.List.{map-append, map-id}
use Rattle.std.proofs.lemmas.List.FromFn.{map-range_with_len_more}
use Rattle.std.proofs.lemmas.List.Elements.{filter-append}
use Rattle.switch_net.specs.declared.NetId.{NetId}

abbrev pub number_of : NetId → ℕ
number_of net = net.0

range_more : (n : ℕ) → range_with_len 0 (n + 1) ≡ range_with_len 0 n ++ n ∷ []
range_more n = sym (map-id (range_with_len 0 (n + 1))) ∙ map-range_with_len_more (λ (k : ℕ). k) 0 n n (omega arith) ∙ ap (λ ks. ks ++ n ∷ []) (map-id (range_with_len 0 n))

one_chosen : (test : Bool) (net : NetId) → map number_of (if test then net ∷ [] else []) ≡ (if test then net.0 ∷ [] else [])
one_chosen true net = refl
one_chosen false net = refl

-- one net more
pub chosen_more : (test : ℕ → Bool) (nets new : List NetId) (net : NetId) → map number_of nets ≡ filter test (range_with_len 0 net.0) → new ≡ nets ++ (if test net.0 then net ∷ [] else [])
    → map number_of new ≡ filter test (range_with_len 0 (net.0 + 1))
chosen_more test nets new net before is =
    ap (map number_of) is
    ∙ map-append number_of nets (if test net.0 then net ∷ [] else [])
    ∙ ap (λ ks. ks ++ map number_of (if test net.0 then net ∷ [] else [])) before
    ∙ ap (λ ks. filter test (range_with_len 0 net.0) ++ ks) (one_chosen (test net.0) net)
    ∙ sym (filter-append test (range_with_len 0 net.0) (net.0 ∷ []))
    ∙ ap (filter test) (sym (range_more net.0))
