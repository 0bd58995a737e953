-- Files in memory: the first of a name, and the bytes that are left in it.
use Rattle.std.proofs.Common.{◌≡◌, ℕ, ◌+◌, List, [], ◌∷◌, ◌++◌, length, take, drop, map, get_or, slice_get, ltb, find, position, bytes_eq, cond, not, true, false, Bool, None, Some, option_map, unwrap_or, refl, sym, ◌∙◌, ap, arith}
use Rattle.std.specs.Global.{Global}
use Rattle.std.specs.List.{position_or_len}
use Rattle.std.specs.declared.vec.Vec.{Vec}
use Rattle.std.proofs.lemmas.Bool.{ltb-false}
use Rattle.std.proofs.lemmas.List.{length-map, get_or-map, take-append-drop, drop-drop}
use Rattle.std.proofs.lemmas.List.Folds.{find_at}
use Rattle.std.proofs.lemmas.List.Quantifiers.{position-Some}
use Rattle.std.proofs.lemmas.Option.{slice_get-get_or, slice_get_past}
use Rattle.std.proofs.lemmas.Slice.Eq.{bytes_eq-Decides}
use Rattle.probe_io.specs.Files.{File, file_of, left_in}
use Rattle.probe_io.specs.Memory.{told_file, file_at, StandsIn}

-- a test of what is made of the elements first passes where the test of the elements does
position_or_len-map : {X Y : Type 0} (test : Y → Bool) (make : X → Y) (xs : List X) → position_or_len test (map make xs) ≡ position_or_len (λ x. test (make x)) xs
position_or_len-map test make [] = refl
position_or_len-map test make (x ∷ xs) = ap (λ n. cond (not (test (make x))) (1 + n) 0) (position_or_len-map test make xs)

pub position-map : {X Y : Type 0} (test : Y → Bool) (make : X → Y) (xs : List X) → position test (map make xs) ≡ position (λ x. test (make x)) xs
position-map test make xs = λ i. cond (ltb (position_or_len-map test make xs i) (length-map xs make i)) (Some (position_or_len-map test make xs i)) None

-- where a choice is made, its test held
chosen : (b : Bool) (n i : ℕ) → cond b (Some n) None ≡ Some i → n ≡ i
chosen true n i same = cc
chosen false n i same = absurd cc

-- where none is made, it did not
not_chosen : (b : Bool) (n : ℕ) → cond b (Some n) None ≡ None → b ≡ false
not_chosen true n same = absurd cc
not_chosen false n same = refl

-- the element at the first position is the one that is found
find-position : {X : Type 0} (test : X → Bool) (xs : List X) (i : ℕ) (d : X) → position test xs ≡ Some i → find test xs ≡ Some (get_or xs i d)
find-position test xs i d at =
    find_at test xs
    ∙ ap (λ k. slice_get xs k) (chosen (ltb (position_or_len test xs) (length xs)) (position_or_len test xs) i at)
    ∙ slice_get-get_or xs i d (position-Some test xs i d at).0

-- with no position none is found
find-no_position : {X : Type 0} (test : X → Bool) (xs : List X) → position test xs ≡ None → find test xs ≡ None
find-no_position test xs none =
    find_at test xs
    ∙ slice_get_past xs (position_or_len test xs)
    (ltb-false (position_or_len test xs) (length xs) (not_chosen (ltb (position_or_len test xs) (length xs)) (position_or_len test xs) none))

-- the name of the file at the first position of a name
pub named : (files : List File) (name : List ℕ) (i : ℕ) → position (λ f. bytes_eq f.0 name) files ≡ Some i → (file_at files i).0 ≡ name
named files name i at = (bytes_eq-Decides (file_at files i).0 name).0 (position-Some (λ f. bytes_eq f.0 name) files i ([], []) at).1

-- the file of a name is that at its first position
pub found : (files : List File) (name : List ℕ) (i : ℕ) → position (λ f. bytes_eq f.0 name) files ≡ Some i → find (λ f. bytes_eq f.0 name) files ≡ Some (file_at files i)
found files name i at = find-position (λ f. bytes_eq f.0 name) files i ([], []) at

-- a name with no position is that of no file
pub absent : (files : List File) (name : List ℕ) → position (λ f. bytes_eq f.0 name) files ≡ None → file_of files name ≡ None
absent files name none = ap (λ o. option_map (λ f. f.1) o) (find-no_position (λ f. bytes_eq f.0 name) files none)

-- the start of that file is a place in it
pub stands : (files : List File) (name : List ℕ) (i : ℕ) → position (λ f. bytes_eq f.0 name) files ≡ Some i → StandsIn files i 0
stands files name i at = record {
  in_range = (position-Some (λ f. bytes_eq f.0 name) files i ([], []) at).0;
  in_file = omega arith;
  first = rw (named files name i at) (found files name i at);
}

-- what is left from a place in the file of an entry
pub left-stands : (files : List (List ℕ × Vec ℕ Global)) (i place : ℕ) (entry : List ℕ × Vec ℕ Global) → StandsIn (map told_file files) i place
    → entry ≡ get_or files i entry → left_in (map told_file files) (Some ((file_at (map told_file files) i).0, place)) ≡ drop place entry.1.items
left-stands files i place entry place_is entry_is =
    ap (λ o. drop place (unwrap_or (option_map (λ f. f.1) o) [])) place_is.first
    ∙ ap (λ f. drop place f.1) (get_or-map told_file files i entry ([], []) (omega (arith, length-map files told_file, place_is.in_range)))
    ∙ ap (λ f. drop place f.1.items) (sym entry_is)

-- what is left after n more bytes, of which a front was copied
pub left-after : (place n : ℕ) (whole bytes front : List ℕ) → bytes ≡ drop place whole → front ≡ take n bytes → bytes ≡ front ++ drop (place + n) whole
left-after place n whole bytes front left copied =
    sym (take-append-drop n bytes) ∙ ap (λ l. l ++ drop n bytes) (sym copied) ∙ ap (λ l. front ++ l) (ap (λ l. drop n l) left ∙ drop-drop n place whole)
