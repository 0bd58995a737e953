use Rattle.probe_io.proofs.CauseLemmas.{on_err}
use Rattle.probe_io.proofs.Texts.{AppendsFront-text}
use Rattle.probe_io.specs.Text.{piece_text}
use Rattle.probe_io.proofs.pieces.put_pieces.Goals as goal

pub returns-in_err-put_piece-clause-front : goal.returns-in_err-put_piece-clause-front
returns-in_err-put_piece-clause-front g c =
    on_err _ (AppendsFront-text piece_text _ _ _ c.loop-piece-test.true c.loop-piece.invariant.written c.in_err-put_piece.ensures.front)
