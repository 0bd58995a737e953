use Rattle.std.proofs.Common.{sym, refl, ap, ◌∙◌, max}
use Rattle.std.proofs.lemmas.Bool.{eqb-true}
use Rattle.layer_map.proofs.WordLemmas.{no_word, one_word, positive}
use Rattle.layer_map.proofs.words.cut.Goals as goal

pub returns-then-is_empty-clause-word : goal.returns-then-is_empty-clause-word
returns-then-is_empty-clause-word c = no_word c.args.signs c.args.bytes.now c.blanks.result c.blanks.ensures.value (eqb-true _ _ (sym c.if-is_empty.ensures))

pub returns-clause-word : goal.returns-clause-word
returns-clause-word c = one_word c.args.signs c.args.bytes.now _ c.blanks.result c.max-len.result c.blanks.ensures.value refl (positive _ c.if-is_empty.ensures) (c.max-len.ensures ∙ ap (λ n. max n 1) c.plain_bytes.ensures.value)
