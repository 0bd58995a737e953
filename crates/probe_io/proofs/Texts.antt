-- Texts that are written piece by piece, or item by item.
use Rattle.std.proofs.Common.{◌≡◌, ℕ, ◌+◌, ◌<◌, ◌≤◌, List, [], ◌∷◌, ◌++◌, length, take, drop, get_or, flat_map, Option, Result, Ok, Err, OnOk, OnErr, sym, ◌∙◌, ap, subst, append_assoc}
use Rattle.std.specs.List.{concat}
use Rattle.std.proofs.lemmas.List.{take_more, take_all, take-append-drop, drop_more, append-nil}
use Rattle.std.proofs.lemmas.List.Concat.{flat_map-append}
use Rattle.probe_io.specs.Written.{Appends, AppendsFront}
use Rattle.probe_io.proofs.WrittenLemmas.{Appends-then, Appends-front, AppendsFront-more}

-- what is said of a text holds of the same text
pub Front-is : {old new : Option (List ℕ)} {xs ys : List ℕ} → xs ≡ ys → AppendsFront old new xs → AppendsFront old new ys
Front-is {old} {new} same front = subst (λ l. AppendsFront old new l) same front

pub Whole-is : {old new : Option (List ℕ)} {xs ys : List ℕ} → xs ≡ ys → Appends old new xs → Appends old new ys
Whole-is {old} {new} same whole = subst (λ l. Appends old new l) same whole

-- ---- pieces

joined : (done : List (List ℕ)) (piece : List ℕ) (rest : List (List ℕ)) → concat (done ++ piece ∷ rest) ≡ concat done ++ (piece ++ concat rest)
joined [] piece rest = λ i. piece ++ concat rest
joined (first ∷ done) piece rest = ap (λ l. first ++ l) (joined done piece rest) ∙ sym (append_assoc first (concat done) (piece ++ concat rest))

-- a front of the first pieces
pub pieces_begin : {old new : Option (List ℕ)} (done rest : List (List ℕ)) → AppendsFront old new (concat done) → AppendsFront old new (concat (done ++ rest))
pieces_begin done rest front = Front-is (split done) (AppendsFront-more front (concat rest)) where
  split : (pieces : List (List ℕ)) → concat pieces ++ concat rest ≡ concat (pieces ++ rest)
  split [] = λ i. concat rest
  split (first ∷ pieces) = append_assoc first (concat pieces) (concat rest) ∙ ap (λ l. first ++ l) (split pieces)

-- the pieces so far, and one more
pub pieces_more : {old between new : Option (List ℕ)} (done : List (List ℕ)) (piece : List ℕ) → Appends old between (concat done) → Appends between new piece → Appends old new (concat (done ++ piece ∷ []))
pieces_more done piece first next = Whole-is (ap (λ l. concat done ++ l) (sym (append-nil piece)) ∙ sym (joined done piece [])) (Appends-then first next)

-- the pieces so far, and a front of one more
pub pieces_front : {old between new : Option (List ℕ)} (done : List (List ℕ)) (piece : List ℕ) (rest : List (List ℕ)) → Appends old between (concat done) → AppendsFront between new piece → AppendsFront old new (concat (done ++ piece ∷ rest))
pieces_front done piece rest first next = Front-is (sym (joined done piece rest)) (Appends-front first (AppendsFront-more next (concat rest)))

-- the pieces so far, and what the last call wrote
pub ok_piece : {T E : Type 0} {old between : Option (List ℕ)} (new : Option (List ℕ)) (result : Result T E) (done : List (List ℕ)) (piece : List ℕ) → Appends old between (concat done)
    → OnOk result (Appends between new piece) → OnOk result (Appends old new (concat (done ++ piece ∷ [])))
ok_piece new (Ok x) done piece first next = pieces_more done piece first next
ok_piece new (Err e) done piece first next = tt

pub err_piece : {T E : Type 0} {old between : Option (List ℕ)} (new : Option (List ℕ)) (result : Result T E) (done : List (List ℕ)) (piece : List ℕ) → Appends old between (concat done)
    → OnErr result (AppendsFront between new piece) → OnErr result (AppendsFront old new (concat (done ++ piece ∷ [])))
err_piece new (Ok x) done piece first next = tt
err_piece new (Err e) done piece first next = pieces_front done piece [] first next

-- ---- texts of items, one behind the other

texts_at : {X : Type 0} (text : X → List ℕ) (xs : List X) (i : ℕ) (d : X) → i < length xs → flat_map text xs ≡ flat_map text (take i xs) ++ (text (get_or xs i d) ++ flat_map text (drop (i + 1) xs))
texts_at text xs i d within = ap (λ l. flat_map text l) (sym (take-append-drop i xs)) ∙ flat_map-append text (take i xs) (drop i xs) ∙ ap (λ l. flat_map text (take i xs) ++ flat_map text l) (drop_more xs i d within)

-- a loop wrote a front of one more text
pub AppendsFront-text : {X : Type 0} {old between new : Option (List ℕ)} (text : X → List ℕ) (xs : List X) (i : ℕ) (d : X) → i < length xs → Appends old between (flat_map text (take i xs)) → AppendsFront between new (text (get_or xs i d)) → AppendsFront old new (flat_map text xs)
AppendsFront-text text xs i d within first next = rw (texts_at text xs i d within) (Appends-front first (AppendsFront-more next (flat_map text (drop (i + 1) xs))))

-- a loop wrote one more text
pub Appends-text : {X : Type 0} {old between new : Option (List ℕ)} (text : X → List ℕ) (xs : List X) (i : ℕ) (d : X) → i < length xs → Appends old between (flat_map text (take i xs)) → Appends between new (text (get_or xs i d)) → Appends old new (flat_map text (take (i + 1) xs))
Appends-text text xs i d within first next =
    Whole-is (ap (λ l. flat_map text (take i xs) ++ l) (sym (append-nil (text (get_or xs i d)))) ∙ sym (flat_map-append text (take i xs) (get_or xs i d ∷ [])) ∙ ap (λ l. flat_map text l) (sym (take_more xs i d within)))
    (Appends-then first next)

-- a loop wrote all texts
pub Appends-texts : {X : Type 0} {old new : Option (List ℕ)} (text : X → List ℕ) (xs : List X) (i : ℕ) → length xs ≤ i → Appends old new (flat_map text (take i xs)) → Appends old new (flat_map text xs)
Appends-texts text xs i end written = Whole-is (ap (λ l. flat_map text l) (take_all i xs end)) written
