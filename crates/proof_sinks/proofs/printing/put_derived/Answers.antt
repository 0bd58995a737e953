use Rattle.std.proofs.Common.{[], ◌∷◌, ◌++◌}
use Rattle.std.specs.Prelude.{codes, decimal}
use Rattle.probe_io.proofs.CauseLemmas.{on_err}
use Rattle.probe_io.proofs.Texts.{pieces_begin, pieces_more, pieces_front, ok_piece, err_piece}
use Rattle.clause_base.specs.ClauseText.{clause_text}
use Rattle.refutation_check.specs.LineText.{derived_text, hints_text}
use Rattle.proof_sinks.proofs.printing.put_derived.Goals as goal

pub returns-in_err-put_pieces-clause-front : goal.returns-in_err-put_pieces-clause-front
unfolding derived_text
returns-in_err-put_pieces-clause-front g c =
    let clause = clause_text c.args.clause.now in
    let hints = hints_text c.args.hints.now in
    let head = codes "d " ∷ decimal c.args.number ∷ codes " " ∷ [] in
    on_err _ (pieces_begin head (clause ∷ codes " " ∷ hints ∷ codes "\n" ∷ []) c.in_err-put_pieces.ensures.front)

pub returns-in_err-put_clause-clause-front : goal.returns-in_err-put_clause-clause-front
unfolding derived_text
returns-in_err-put_clause-clause-front g c =
    let clause = clause_text c.args.clause.now in
    let hints = hints_text c.args.hints.now in
    let head = codes "d " ∷ decimal c.args.number ∷ codes " " ∷ [] in
    on_err _ (pieces_front head clause (codes " " ∷ hints ∷ codes "\n" ∷ []) c.in_ok-put_pieces.ensures.ok c.in_err-put_clause.ensures.front)

pub returns-in_err-put_all-clause-front : goal.returns-in_err-put_all-clause-front
unfolding derived_text
returns-in_err-put_all-clause-front g c =
    let clause = clause_text c.args.clause.now in
    let hints = hints_text c.args.hints.now in
    let head = codes "d " ∷ decimal c.args.number ∷ codes " " ∷ [] in
    let second = pieces_more head clause c.in_ok-put_pieces.ensures.ok c.in_ok-put_clause.ensures.ok in
    on_err _ (pieces_front (head ++ clause ∷ []) (codes " ") (hints ∷ codes "\n" ∷ []) second c.in_err-put_all.ensures.front)

pub returns-in_err-put_hints-clause-front : goal.returns-in_err-put_hints-clause-front
unfolding derived_text
returns-in_err-put_hints-clause-front g c =
    let clause = clause_text c.args.clause.now in
    let hints = hints_text c.args.hints.now in
    let head = codes "d " ∷ decimal c.args.number ∷ codes " " ∷ [] in
    let second = pieces_more head clause c.in_ok-put_pieces.ensures.ok c.in_ok-put_clause.ensures.ok in
    let third = pieces_more (head ++ clause ∷ []) (codes " ") second c.in_ok-put_all.ensures.ok in
    on_err _ (pieces_front (head ++ clause ∷ codes " " ∷ []) hints (codes "\n" ∷ []) third c.in_err-put_hints.ensures.front)

pub returns-clause-ok : goal.returns-clause-ok
unfolding derived_text
returns-clause-ok g c =
    let clause = clause_text c.args.clause.now in
    let hints = hints_text c.args.hints.now in
    let head = codes "d " ∷ decimal c.args.number ∷ codes " " ∷ [] in
    let second = pieces_more head clause c.in_ok-put_pieces.ensures.ok c.in_ok-put_clause.ensures.ok in
    let third = pieces_more (head ++ clause ∷ []) (codes " ") second c.in_ok-put_all.ensures.ok in
    let fourth = pieces_more (head ++ clause ∷ codes " " ∷ []) hints third c.in_ok-put_hints.ensures.ok in
    ok_piece (g.K.Sink.written c.put_all-2.new.sink) _ (head ++ clause ∷ codes " " ∷ hints ∷ []) (codes "\n") fourth c.put_all-2.ensures.ok

pub returns-clause-front : goal.returns-clause-front
unfolding derived_text
returns-clause-front g c =
    let clause = clause_text c.args.clause.now in
    let hints = hints_text c.args.hints.now in
    let head = codes "d " ∷ decimal c.args.number ∷ codes " " ∷ [] in
    let second = pieces_more head clause c.in_ok-put_pieces.ensures.ok c.in_ok-put_clause.ensures.ok in
    let third = pieces_more (head ++ clause ∷ []) (codes " ") second c.in_ok-put_all.ensures.ok in
    let fourth = pieces_more (head ++ clause ∷ codes " " ∷ []) hints third c.in_ok-put_hints.ensures.ok in
    err_piece (g.K.Sink.written c.put_all-2.new.sink) _ (head ++ clause ∷ codes " " ∷ hints ∷ []) (codes "\n") fourth c.put_all-2.ensures.front
