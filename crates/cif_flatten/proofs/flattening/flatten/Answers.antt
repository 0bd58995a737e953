use Rattle.std.proofs.Common.{map, arith, ap, ◌∙◌}
use Rattle.cif_flatten.specs.declared.refusal.FlattenRefusal.TheVariants.{TooManyCalls, TooManyEdges, OutOfRange, TooFine}
use Rattle.cif_flatten.specs.Flattening.{drawn_of}
use Rattle.cif_flatten.specs.Unrolling.{placed_of}
use Rattle.cif_flatten.proofs.Cases.{not_true}
use Rattle.cif_flatten.proofs.Judged.{passes, all_pass, not_before, refuse, none_undefined, nested_of, many_calls, much_weight, few_is, light_is, not_many, not_much, not_out, out_of_range, unrolled_as, least_some, least_none, fine, not_fine, flattened, inside_from}
use Rattle.cif_flatten.proofs.flattening.flatten.Goals as goal

pub returns-then-size-gt-MOST_CALLS-clause-refused : goal.returns-then-size-gt-MOST_CALLS-clause-refused
returns-then-size-gt-MOST_CALLS-clause-refused c = λ s e.
    let file = c.args.file.now in
    refuse file TooManyCalls s e (record {
      fault = many_calls file c.in_ok-size.size c.in_ok-size.ensures c.if-size-gt-MOST_CALLS.true;
      first = passes 3 file (λ _. none_undefined file c.undefined_call.result c.undefined_call.ensures c.in_default.is) (λ _. nested_of file.symbols c.in_ok-symbol.field-0 c.in_ok-symbol.ensures.none c.in_default-2.is)
          (λ lt. not_before 3 3 (omega arith) lt) (λ lt. not_before 4 3 (omega arith) lt) (λ lt. not_before 5 3 (omega arith) lt) (λ lt. not_before 6 3 (omega arith) lt);
    })

pub returns-then-size-gt-MOST_WEIGHT-clause-refused : goal.returns-then-size-gt-MOST_WEIGHT-clause-refused
returns-then-size-gt-MOST_WEIGHT-clause-refused c = λ s e.
    let file = c.args.file.now in
    refuse file TooManyEdges s e (record {
      fault = much_weight file c.in_ok-size.size c.in_ok-size.ensures c.if-size-gt-MOST_WEIGHT.true;
      first = passes 4 file (λ _. none_undefined file c.undefined_call.result c.undefined_call.ensures c.in_default.is) (λ _. nested_of file.symbols c.in_ok-symbol.field-0 c.in_ok-symbol.ensures.none c.in_default-2.is)
          (λ _. not_many file c.in_ok-size.size c.in_ok-size.ensures c.if-size-gt-MOST_CALLS.false) (λ lt. not_before 4 4 (omega arith) lt) (λ lt. not_before 5 4 (omega arith) lt) (λ lt. not_before 6 4 (omega arith) lt);
    })

pub unfolded-requires-clause-few : goal.unfolded-requires-clause-few
unfolded-requires-clause-few c = few_is c.in_ok-size.size.calls c.if-size-gt-MOST_CALLS.false

pub unfolded-requires-clause-light : goal.unfolded-requires-clause-light
unfolded-requires-clause-light c = light_is c.in_ok-size.size.weight c.if-size-gt-MOST_WEIGHT.false

pub returns-in-Some-least_out-clause-refused : goal.returns-in-Some-least_out-clause-refused
returns-in-Some-least_out-clause-refused c = λ s e.
    let file = c.args.file.now in
    let cs = map placed_of c.deref.result.now in
    let place = c.in-Some-least_out.pos in
    refuse file (OutOfRange place) s e (record {
      fault = out_of_range file cs place (unrolled_as file c.in_ok-commands.commands.items c.deref.result.now c.in_ok-commands.ensures.unrolled c.deref.ensures.value) (least_some cs c.least_out.result place c.least_out.ensures c.in-Some-least_out.is);
      first = passes 5 file (λ _. none_undefined file c.undefined_call.result c.undefined_call.ensures c.in_default.is) (λ _. nested_of file.symbols c.in_ok-symbol.field-0 c.in_ok-symbol.ensures.none c.in_default-2.is)
          (λ _. not_many file c.in_ok-size.size c.in_ok-size.ensures c.if-size-gt-MOST_CALLS.false) (λ _. not_much file c.in_ok-size.size c.in_ok-size.ensures c.if-size-gt-MOST_WEIGHT.false)
          (λ lt. not_before 5 5 (omega arith) lt) (λ lt. not_before 6 5 (omega arith) lt);
    })

pub placed-requires-clause-inside : goal.placed-requires-clause-inside
placed-requires-clause-inside c = inside_from c.in_ok-commands.commands.items c.deref.result.now c.deref-2.result.now c.least_out.result c.deref.ensures.value c.deref-2.ensures.value c.least_out.ensures c.in_default-least_out.is

pub returns-then-branch-clause-refused : goal.returns-then-branch-clause-refused
returns-then-branch-clause-refused c = λ s e.
    let file = c.args.file.now in
    let cs = map placed_of c.deref-2.result.now in
    let shown = map placed_of c.deref.result.now in
    refuse file TooFine s e (record {
      fault = fine file cs c.draws.result.now (unrolled_as file c.in_ok-commands.commands.items c.deref-2.result.now c.in_ok-commands.ensures.unrolled c.deref-2.ensures.value) (ap (map drawn_of) c.draws.ensures.same ∙ c.in_ok-flat.ensures.draws)
          (c.in_ok-is_too_fine.ensures.0 c.if-branch.true);
      first = passes 6 file (λ _. none_undefined file c.undefined_call.result c.undefined_call.ensures c.in_default.is) (λ _. nested_of file.symbols c.in_ok-symbol.field-0 c.in_ok-symbol.ensures.none c.in_default-2.is)
          (λ _. not_many file c.in_ok-size.size c.in_ok-size.ensures c.if-size-gt-MOST_CALLS.false) (λ _. not_much file c.in_ok-size.size c.in_ok-size.ensures c.if-size-gt-MOST_WEIGHT.false)
          (λ _. not_out file shown (unrolled_as file c.in_ok-commands.commands.items c.deref.result.now c.in_ok-commands.ensures.unrolled c.deref.ensures.value) (least_none shown c.least_out.result c.least_out.ensures c.in_default-least_out.is))
          (λ lt. not_before 6 6 (omega arith) lt);
    })

pub returns-clause-flat : goal.returns-clause-flat
returns-clause-flat c =
    let file = c.args.file.now in
    let cs = map placed_of c.deref-2.result.now in
    let shown = map placed_of c.deref.result.now in
    let u = unrolled_as file c.in_ok-commands.commands.items c.deref-2.result.now c.in_ok-commands.ensures.unrolled c.deref-2.ensures.value in
    flattened file cs c.in_ok-flat.flat u c.in_ok-flat.ensures.draws c.in_ok-flat.ensures.marks
    (all_pass file (none_undefined file c.undefined_call.result c.undefined_call.ensures c.in_default.is) (nested_of file.symbols c.in_ok-symbol.field-0 c.in_ok-symbol.ensures.none c.in_default-2.is)
    (not_many file c.in_ok-size.size c.in_ok-size.ensures c.if-size-gt-MOST_CALLS.false) (not_much file c.in_ok-size.size c.in_ok-size.ensures c.if-size-gt-MOST_WEIGHT.false)
    (not_out file shown (unrolled_as file c.in_ok-commands.commands.items c.deref.result.now c.in_ok-commands.ensures.unrolled c.deref.ensures.value) (least_none shown c.least_out.result c.least_out.ensures c.in_default-least_out.is))
    (not_fine file cs c.draws.result.now u (ap (map drawn_of) c.draws.ensures.same ∙ c.in_ok-flat.ensures.draws) (not_true c.in_ok-is_too_fine.field-0 c.if-branch.false c.in_ok-is_too_fine.ensures)))
