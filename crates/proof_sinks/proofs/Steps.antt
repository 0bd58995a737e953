-- A printer of lines: what was written, and the text before it.
use Rattle.std.proofs.Common.{◌≡◌, ℕ, ◌+◌, ◌-◌, ◌^◌, ◌<◌, ◌≤◌, Bool, true, false, List, [], ◌∷◌, ◌++◌, length, take, drop, Option, None, Some, refl, sym, ◌∙◌, ap, subst, append_assoc, arith}
use Rattle.std.proofs.lemmas.List.{take-append-drop, take-append-le, take_all, length-append, length-take}
use Rattle.probe_io.specs.Written.{Appends, AppendsFront}
use Rattle.proof_sinks.specs.declared.lines.Said.{Said}
use Rattle.proof_sinks.specs.Sending.{SendsFront}
use Rattle.proof_sinks.specs.Text.{line_text, text_of, without_last, IsPrinted}
use Rattle.proof_sinks.proofs.LineTexts.{text_more}

-- without as many more bytes as were appended, it is the text that stood there
take_moved : (before front : List ℕ) (sent : ℕ) → take (length (before ++ front) - (sent + length front)) (before ++ front) ≡ take (length before - sent) before
take_moved before front sent =
    let same : length (before ++ front) - (sent + length front) ≡ length before - sent = omega (arith, length-append before front) in
    ap (λ k. take k (before ++ front)) same ∙ take-append-le (length before - sent) before front (omega arith)

now_moved : (before now front : List ℕ) (sent after : ℕ) → now ≡ before ++ front → after ≡ sent + length front → take (length now - after) now ≡ take (length before - sent) before
now_moved before now front sent after is count =
    ap (λ k. take (length now - k) now) count ∙ ap (λ l. take (length l - (sent + length front)) l) is ∙ take_moved before front sent

-- what was printed, and then these bytes
moved : (old new : Option (List ℕ)) (sent after : ℕ) (printed front : List ℕ) → Appends (without_last sent old) old printed → Appends old new front → after ≡ sent + length front
    → Appends (without_last after new) new (printed ++ front)
moved old None sent after printed front first next count = record { told = tt }
moved None (Some now) sent after printed front first next count = absurd next.told
moved (Some before) (Some now) sent after printed front first next count =
    let start = take (length before - sent) before in
    record {
      told = next.told ∙ ap (λ l. l ++ front) first.told ∙ append_assoc start printed front
          ∙ ap (λ l. l ++ (printed ++ front)) (sym (now_moved before now front sent after next.told count));
    }

-- one line more, of which a front or all was written
printed_more : (old new : Option (List ℕ)) (sent after count : ℕ) (said : List Said) (line : Said) (text : List ℕ) (was whole : Bool) → IsPrinted old sent said was → was ≡ true
    → text ≡ line_text (length said + 1) line → length text < 2 ^ 64 → count ≤ length text → Appends old new (take count text) → after ≡ sent + count
    → (whole ≡ true → count ≡ length text) → IsPrinted new after (said ++ line ∷ []) whole
printed_more old new sent after count said line text was whole printed is_whole text_is small most front counted all =
    let grown : text_of (said ++ line ∷ []) ≡ text_of said ++ text = text_more said line ∙ ap (λ l. text_of said ++ l) (sym text_is) in
    let size : length (take count text) ≡ count = length-take count text ∙ grind arith in
    let at : Appends (without_last after new) new (text_of said ++ take count text) =
    moved old new sent after (text_of said) (take count text) (printed.text is_whole) front (counted ∙ ap (λ n. sent + n) (sym size)) in
    record {
      few = omega (arith, printed.few, counted, most, small, length-append said (line ∷ []));
      size = λ is. counted ∙ ap (λ n. n + count) (printed.size is_whole) ∙ ap (λ n. length (text_of said) + n) (all is)
          ∙ sym (ap (λ l. length l) grown ∙ length-append (text_of said) text);
      text = λ is. subst (λ l. Appends (without_last after new) new l) (sym grown)
          (subst (λ l. Appends (without_last after new) new (text_of said ++ l)) (ap (λ n. take n text) (all is) ∙ take_all (length text) text (omega arith)) at);
      front = record {
        sent = text_of said ++ take count text;
        rest = drop count text;
        whole = grown ∙ ap (λ l. text_of said ++ l) (sym (take-append-drop count text)) ∙ sym (append_assoc (text_of said) (take count text) (drop count text));
        front = at;
      };
    }

-- one line more, all of which was written
pub printed_whole : (old new : Option (List ℕ)) (sent after : ℕ) (said lines : List Said) (line : Said) (text : List ℕ) (whole : Bool) → IsPrinted old sent said whole → whole ≡ true
    → text ≡ line_text (length said + 1) line → length text < 2 ^ 64 → lines ≡ said ++ line ∷ [] → Appends old new text → after ≡ sent + length text → IsPrinted new after lines whole
printed_whole old new sent after said lines line text whole printed is_whole text_is small more all counted =
    subst (λ ls. IsPrinted new after ls whole) (sym more)
    (printed_more old new sent after (length text) said line text whole whole printed is_whole text_is small (omega arith)
    (subst (λ l. Appends old new l) (sym (take_all (length text) text (omega arith))) all) counted (λ is. refl))

-- one line more, of which a front was written
pub printed_front : (old new : Option (List ℕ)) (sent after : ℕ) (said lines : List Said) (line : Said) (text : List ℕ) (was : Bool) → IsPrinted old sent said was → was ≡ true
    → text ≡ line_text (length said + 1) line → length text < 2 ^ 64 → lines ≡ said ++ line ∷ [] → SendsFront old new text sent after → IsPrinted new after lines false
printed_front old new sent after said lines line text was printed is_whole text_is small more front =
    subst (λ ls. IsPrinted new after ls false) (sym more)
    (printed_more old new sent after front.count said line text was false printed is_whole text_is small front.most front.sent front.counted (λ is. absurd cc))

-- a counted front is a front
pub front_of : (old new : Option (List ℕ)) (sent after : ℕ) (text : List ℕ) → SendsFront old new text sent after → AppendsFront old new text
front_of old new sent after text front = record {
  sent = take front.count text;
  rest = drop front.count text;
  whole = sym (take-append-drop front.count text);
  front = front.sent;
}
