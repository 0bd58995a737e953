-- How texts that calls append one after the other join.
use Rattle.std.proofs.Common.{◌≡◌, ℕ, ◌+◌, ◌-◌, List, [], ◌++◌, length, take, drop, Option, None, Some, sym, ◌∙◌, ap, append_assoc, arith}
use Rattle.std.proofs.Math.Seq.{take-add}
use Rattle.std.proofs.lemmas.List.{append-nil, take-append-drop, take_all, length-drop}
use Rattle.probe_io.specs.Written.{Appends, AppendsFront}

-- one text, and then another
pub Appends-then : {old between new : Option (List ℕ)} {xs ys : List ℕ} → Appends old between xs → Appends between new ys → Appends old new (xs ++ ys)
Appends-then {new = None} first next = record { told = tt }
Appends-then {between = None} {new = Some now} first next = absurd next.told
Appends-then {old = None} {between = Some middle} {new = Some now} first next = absurd first.told
Appends-then {old = Some before} {between = Some middle} {new = Some now} {xs = xs} {ys = ys} first next = record { told = next.told ∙ ap (λ l. l ++ ys) first.told ∙ append_assoc before xs ys }

-- a whole text is a front of itself
pub AppendsFront-whole : {old new : Option (List ℕ)} {xs : List ℕ} → Appends old new xs → AppendsFront old new xs
AppendsFront-whole {xs = xs} front = record { sent = xs; rest = []; whole = sym (append-nil xs); front = front }

-- a front of a text is one of a longer text
pub AppendsFront-more : {old new : Option (List ℕ)} {xs : List ℕ} → AppendsFront old new xs → (ys : List ℕ) → AppendsFront old new (xs ++ ys)
AppendsFront-more front ys = record {
  sent = front.sent;
  rest = front.rest ++ ys;
  whole = ap (λ l. l ++ ys) front.whole ∙ append_assoc front.sent front.rest ys;
  front = front.front;
}

-- one text, and then a front of another
pub Appends-front : {old between new : Option (List ℕ)} {xs ys : List ℕ} → Appends old between xs → AppendsFront between new ys → AppendsFront old new (xs ++ ys)
Appends-front {xs = xs} first next = record {
  sent = xs ++ next.sent;
  rest = next.rest;
  whole = ap (λ l. xs ++ l) next.whole ∙ sym (append_assoc xs next.sent next.rest);
  front = Appends-then first next.front;
}

-- the bytes from k on, as a slice of the others has them
pub slice_from : (k : ℕ) (bytes : List ℕ) → take (length bytes - k) (drop k bytes) ≡ drop k bytes
slice_from k bytes = take_all (length bytes - k) (drop k bytes) (omega (arith, length-drop k bytes))

-- the first k bytes, and then n bytes of those from k on
pub Appends-slice : {old between new : Option (List ℕ)} (bytes : List ℕ) (k n : ℕ) → Appends old between (take k bytes)
    → Appends between new (take n (take (length bytes - k) (drop k bytes))) → Appends old new (take (k + n) bytes)
Appends-slice bytes k n first next = rw take-add (Appends-then first (rw (sym (slice_from k bytes)) next))

-- the first k bytes, and then nothing
pub AppendsFront-slice : {old between new : Option (List ℕ)} (bytes : List ℕ) (k : ℕ) → Appends old between (take k bytes) → new ≡ between → AppendsFront old new bytes
AppendsFront-slice bytes k first same = record {
  sent = take k bytes;
  rest = drop k bytes;
  whole = sym (take-append-drop k bytes);
  front = rw same first;
}
