use Rattle.std.proofs.Common.{[], ◌∷◌}
use Rattle.std.specs.Prelude.{codes}
use Rattle.probe_io.proofs.CauseLemmas.{on_err}
use Rattle.probe_io.proofs.Texts.{pieces_begin, pieces_more, pieces_front, ok_piece, err_piece}
use Rattle.clause_base.specs.ClauseText.{given_text, clause_text}
use Rattle.proof_sinks.proofs.printing.put_given.Goals as goal

pub returns-in_err-put_all-clause-front : goal.returns-in_err-put_all-clause-front
unfolding given_text
returns-in_err-put_all-clause-front g c = on_err _ (pieces_begin (codes "f " ∷ []) (clause_text c.args.clause.now ∷ codes "\n" ∷ []) c.in_err-put_all.ensures.front)

pub returns-in_err-put_clause-clause-front : goal.returns-in_err-put_clause-clause-front
unfolding given_text
returns-in_err-put_clause-clause-front g c =
    on_err _ (pieces_front (codes "f " ∷ []) (clause_text c.args.clause.now) (codes "\n" ∷ []) c.in_ok-put_all.ensures.ok c.in_err-put_clause.ensures.front)

pub returns-clause-ok : goal.returns-clause-ok
unfolding given_text
returns-clause-ok g c =
    let clause = clause_text c.args.clause.now in
    let second = pieces_more (codes "f " ∷ []) clause c.in_ok-put_all.ensures.ok c.in_ok-put_clause.ensures.ok in
    ok_piece (g.K.Sink.written c.put_all-2.new.sink) _ (codes "f " ∷ clause ∷ []) (codes "\n") second c.put_all-2.ensures.ok

pub returns-clause-front : goal.returns-clause-front
unfolding given_text
returns-clause-front g c =
    let clause = clause_text c.args.clause.now in
    let second = pieces_more (codes "f " ∷ []) clause c.in_ok-put_all.ensures.ok c.in_ok-put_clause.ensures.ok in
    err_piece (g.K.Sink.written c.put_all-2.new.sink) _ (codes "f " ∷ clause ∷ []) (codes "\n") second c.put_all-2.ensures.front
