-- The text of lines, one by one.
use Rattle.std.proofs.Common.{◌≡◌, ℕ, ◌+◌, List, [], ◌∷◌, ◌++◌, length, sym, ◌∙◌, ap, append_assoc, arith}
use Rattle.std.proofs.lemmas.List.{append-nil}
use Rattle.proof_sinks.specs.declared.lines.Said.{Said}
use Rattle.proof_sinks.specs.Text.{line_text, lines_text, text_of}

lines_text-more : (n : ℕ) (said : List Said) (line : Said) → lines_text n (said ++ line ∷ []) ≡ lines_text n said ++ line_text (n + length said) line
lines_text-more n [] line = let same : n ≡ n + 0 = omega arith in append-nil (line_text n line) ∙ ap (λ k. line_text k line) same
lines_text-more n (first ∷ said) line =
    let same : (n + 1) + length said ≡ n + length (first ∷ said) = omega arith in
    ap (λ l. line_text n first ++ l) (lines_text-more (n + 1) said line)
    ∙ sym (append_assoc (line_text n first) (lines_text (n + 1) said) (line_text ((n + 1) + length said) line))
    ∙ ap (λ k. (line_text n first ++ lines_text (n + 1) said) ++ line_text k line) same

-- the text with one line more
pub text_more : (said : List Said) (line : Said) → text_of (said ++ line ∷ []) ≡ text_of said ++ line_text (length said + 1) line
text_more said line = let same : 1 + length said ≡ length said + 1 = omega arith in lines_text-more 1 said line ∙ ap (λ k. text_of said ++ line_text k line) same
