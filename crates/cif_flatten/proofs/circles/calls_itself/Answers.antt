use Rattle.std.proofs.Common.{◌+◌, subst, sym, ◌∙◌, arith}
use Rattle.cif_flatten.specs.Reaching.{Searched}
use Rattle.cif_flatten.proofs.Circling.{search_step, search_skip, search_end}
use Rattle.cif_flatten.proofs.circles.calls_itself.Goals as goal
use Rattle.cif_flatten.proofs.circles.calls_itself.Goals.{in-Some+in_ok-add_calls_of-2, in_default}

pub loop-place-preserved : goal.loop-place-preserved
loop-place-preserved c =
    let symbols = c.args.file.now.symbols in
    elim c.match-copied.branch [
      | in-Some+in_ok-add_calls_of-2 w ↦ record {
        search = subst (λ found. Searched symbols c.args.number found.keys (c.loop-place.place + 1)) (sym w.found-is)
            (search_step symbols c.args.number c.loop-place.place w.in-Some.next c.loop-place.found.keys w.add_calls_of-in-Some.new.found.keys c.loop-place.invariant.search
            (sym c.get_index.ensures.key ∙ sym c.copied.ensures ∙ w.in-Some.is) w.in_ok-add_calls_of-2.ensures);
      }
      | in_default w ↦ record {
        search = subst (λ found. Searched symbols c.args.number found.keys (c.loop-place.place + 1)) (sym w.found-is)
            (search_skip symbols c.args.number c.loop-place.place c.loop-place.found.keys c.loop-place.invariant.search (sym c.get_index.ensures.key ∙ sym c.copied.ensures ∙ w.in_default.is));
      }
    ]

pub returns-clause-no : goal.returns-clause-no
returns-clause-no c = λ none.
    search_end c.args.file.now.symbols c.args.number c.loop-place.found.keys c.loop-place.place c.loop-place.invariant.search (omega (arith, c.loop-place-test.false, c.symbol_count-place-end.ensures)) (sym c.contains.ensures ∙ none)
