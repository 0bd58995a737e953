use Rattle.std.proofs.Common.{subst, sym, arith}
use Rattle.cif_reader.specs.declared.file.Symbol.{Symbol}
use Rattle.cif_flatten.specs.Sizes.{Explored}
use Rattle.cif_flatten.proofs.Lookups.{here, no_end}
use Rattle.cif_flatten.proofs.Exploring.{begun_more}
use Rattle.cif_flatten.proofs.sizes.all_sizes.Goals as goal
use Rattle.cif_flatten.proofs.sizes.all_sizes.Goals.{in-Some+in_ok-measure+else-not-branch, in_default}

pub loop-place-preserved : goal.loop-place-preserved
loop-place-preserved c =
    let symbols = c.args.file.now.symbols in
    elim c.match-symbol_at.branch [
      | in-Some+in_ok-measure+else-not-branch w ↦
          let at = here symbols c.loop-place.place w.in-Some.symbol.now w.in-Some.ensures in
          let found : Explored symbols c.loop-place.sizes c.match-symbol_at.sizes w.in-Some.symbol.now.number = subst (λ table. Explored symbols c.loop-place.sizes table w.in-Some.symbol.now.number) (sym w.sizes-is) (w.in_ok-measure.ensures.explored w.if-not-branch.false) in
          record {
            sizes = found.sizes;
            settled = found.settled;
            begun = begun_more symbols c.loop-place.sizes c.match-symbol_at.sizes c.loop-place.place w.in-Some.symbol.now (omega (arith, c.loop-place-test.true, c.symbol_count-place-end.ensures)) c.loop-place.invariant.begun
                (subst (λ (s : Symbol). Explored symbols c.loop-place.sizes c.match-symbol_at.sizes s.number) at found);
          }
      | in_default w ↦ absurd (no_end symbols c.loop-place.place w.in_default.ensures c.loop-place-test.true c.symbol_count-place-end.ensures)
    ]
