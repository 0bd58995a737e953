use Rattle.std.proofs.Common.{subst, sym, ap, ◌∙◌, length}
use Rattle.std.proofs.lemmas.List.{get_or_read}
use Rattle.defect_sweep.specs.Reaching.{AreForSides, no_reaches, meets_on}
use Rattle.defect_sweep.specs.Counting.{count_of}
use Rattle.defect_sweep.proofs.Spreading.{count_is, push_step, skip_step, too_many}
use Rattle.defect_sweep.proofs.sweep.push_row.Goals as goal

pub count_with-requires-clause-first : goal.count_with-requires-clause-first
count_with-requires-clause-first c =
    subst (λ r. AreForSides c.args.sides.now r.on)
    (sym (get_or_read c.args.nets.now c.args.a c.index-nets-a-in-loop-b.result c.requires.within c.index-nets-a-in-loop-b.is no_reaches))
    (c.requires.for_sides.sided c.args.a c.requires.within)

pub count_with-requires-clause-second : goal.count_with-requires-clause-second
count_with-requires-clause-second c =
    subst (λ r. AreForSides c.args.sides.now r.on)
    (sym (get_or_read c.args.nets.now c.loop-b.b c.index-nets-b-in-loop-b.result c.loop-b-test.true c.index-nets-b-in-loop-b.is no_reaches))
    (c.requires.for_sides.sided c.loop-b.b c.loop-b-test.true)

pub loop-b-preserved-then-is_apart : goal.loop-b-preserved-then-is_apart
loop-b-preserved-then-is_apart c = record {
  so_far = skip_step c.args.sides.now c.args.wires c.args.nets.now c.args.found.now.items c.loop-b.found.items c.args.a c.loop-b.b c.index-nets-a.result c.index-nets-b.result c.loop-b.auto.b
      c.requires.within c.loop-b-test.true c.index-nets-a.is c.index-nets-b.is (c.is_apart.ensures c.if-is_apart.true) c.loop-b.invariant.so_far;
  few = c.loop-b.invariant.few;
}

pub loop-b-preserved : goal.loop-b-preserved
loop-b-preserved c =
    let given = c.in_ok-count.ensures ∙ ap (λ p. count_of (length c.index-nets-a-in-loop-b.result.on) p (meets_on c.args.sides.now c.index-nets-a-in-loop-b.result c.index-nets-b-in-loop-b.result)) c.pair_of.ensures in
    let count =
    count_is c.args.sides.now c.args.wires c.args.nets.now c.args.a c.loop-b.b c.index-nets-a-in-loop-b.result c.index-nets-b-in-loop-b.result c.in_ok-count.count c.requires.for_sides
    c.requires.within c.loop-b-test.true c.index-nets-a-in-loop-b.is c.index-nets-b-in-loop-b.is given
    in
    record {
      so_far = push_step c.args.sides.now c.args.wires c.args.nets.now c.args.found.now.items c.loop-b.found.items c.push_count.new.found.items c.args.a c.loop-b.b c.in_ok-count.count
          c.loop-b.auto.b c.loop-b.invariant.so_far count c.in_default.ensures.ok;
      few = c.in_default.ensures.few c.loop-b.invariant.few;
    }

pub returns-in-Err-clause-many : goal.returns-in-Err-clause-many
returns-in-Err-clause-many c refused =
    let given = c.in_ok-count.ensures ∙ ap (λ p. count_of (length c.index-nets-a-in-loop-b.result.on) p (meets_on c.args.sides.now c.index-nets-a-in-loop-b.result c.index-nets-b-in-loop-b.result)) c.pair_of.ensures in
    let count =
    count_is c.args.sides.now c.args.wires c.args.nets.now c.args.a c.loop-b.b c.index-nets-a-in-loop-b.result c.index-nets-b-in-loop-b.result c.in_ok-count.count c.requires.for_sides
    c.requires.within c.loop-b-test.true c.index-nets-a-in-loop-b.is c.index-nets-b-in-loop-b.is given
    in
    too_many c.args.sides.now c.args.wires c.args.nets.now c.args.found.now.items c.loop-b.found.items c.args.a c.loop-b.b c.in_ok-count.count c.loop-b.auto.b c.loop-b-test.true
    c.loop-b.invariant.so_far count (c.in-Err.ensures.many refused)
