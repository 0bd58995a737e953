-- No content is told, so what a call does to it is settled.
use Rattle.std.proofs.Common.{refl, inr}
use Rattle.std.proofs.lemmas.Result.{on_err_weaker}
use Rattle.probe_io.proofs.CauseLemmas.{on_err, if_ok, reads_unknown}
use Rattle.probe_io.proofs.real.FileShelfShelf.TheImpl.Goals as goal

pub start-tells : goal.start-tells
start-tells g c = record {
  started = if_ok c.result (λ done. tt);
  closed = on_err c.result refl;
  cause = on_err_weaker c.result (λ rose. inr rose) c.ensures.cause;
  absent = λ none. absurd none;
  absent_quiet = λ none. absurd none;
  later = c.ensures.later;
  quiet = λ strict. c.ensures.quiet;
  reads_kept = c.ensures.reads_kept;
  same = refl;
}

pub read-tells : goal.read-tells
read-tells g c = record {
  most = c.ensures.most;
  bytes = reads_unknown c.result c.new.buf.now;
  moved = if_ok c.result (λ n. refl);
  stays = on_err c.result refl;
  idle = tt;
  cause = c.ensures.cause;
  starts_kept = c.ensures.starts_kept;
  same = refl;
}
