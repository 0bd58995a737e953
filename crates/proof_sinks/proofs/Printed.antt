-- Text that is written item by item.
use Rattle.std.proofs.Common.{◌≡◌, ℕ, ◌<◌, ◌≤◌, List, ◌++◌, length, take, get_or, flat_map, Option, Result, Ok, Err, OnOk, OnErr, sym, ap}
use Rattle.std.proofs.lemmas.List.{take_all}
use Rattle.probe_io.specs.Written.{Appends, AppendsFront}
use Rattle.probe_io.proofs.Texts.{AppendsFront-text}
use Rattle.probe_io.proofs.WrittenLemmas.{Appends-then, Appends-front, AppendsFront-more}

-- the items before one, and then a front of its text
pub front_item : {X : Type 0} {old between new : Option (List ℕ)} (text : X → List ℕ) (xs : List X) (i : ℕ) (x : X) (rest : List ℕ) → i < length xs → x ≡ get_or xs i x
    → Appends old between (flat_map text (take i xs)) → AppendsFront between new (text x) → AppendsFront old new (flat_map text xs ++ rest)
front_item text xs i x rest inside at first next =
    AppendsFront-more (AppendsFront-text text xs i x inside first (rw (ap (λ y. text y) (sym at)) next)) rest

-- all items, and then what closes them
pub ok_items : {T E X : Type 0} {old between : Option (List ℕ)} (new : Option (List ℕ)) (result : Result T E) (text : X → List ℕ) (xs : List X) (i : ℕ) (close : List ℕ) → length xs ≤ i
    → Appends old between (flat_map text (take i xs)) → OnOk result (Appends between new close) → OnOk result (Appends old new (flat_map text xs ++ close))
ok_items new (Ok x) text xs i close all first next = Appends-then (rw (sym (take_all i xs all)) first) next
ok_items new (Err e) text xs i close all first next = tt

-- all items, and then a front of what closes them
pub err_items : {T E X : Type 0} {old between : Option (List ℕ)} (new : Option (List ℕ)) (result : Result T E) (text : X → List ℕ) (xs : List X) (i : ℕ) (close : List ℕ) → length xs ≤ i
    → Appends old between (flat_map text (take i xs)) → OnErr result (AppendsFront between new close) → OnErr result (AppendsFront old new (flat_map text xs ++ close))
err_items new (Ok x) text xs i close all first next = tt
err_items new (Err e) text xs i close all first next = Appends-front (rw (sym (take_all i xs all)) first) next
