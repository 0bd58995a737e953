use Rattle.std.proofs.Common.{ap, arith}
use Rattle.layer_map.specs.Plan.{Plan}
use Rattle.layer_map.proofs.Walk.{bad_line, faulty, goes_on, first_side, second_side, accepted, names_of_side}
use Rattle.layer_map.proofs.reading.read.Goals as goal

pub returns-in_default-row_of-clause-refused : goal.returns-in_default-row_of-clause-refused
returns-in_default-row_of-clause-refused c = λ _. bad_line c.args.bytes.now c.loop-line.rest.now c.in-Some.behind.now c.in-Some.line.now c.loop-line.map c.loop-line.number c.loop-line.invariant.0 c.in-Some.ensures.line c.in_default-row_of.ensures.said

pub loop-line-preserved : goal.loop-line-preserved
loop-line-preserved c = (goes_on c.args.bytes.now c.loop-line.rest.now c.in-Some.behind.now c.in-Some.line.now c.loop-line.map c.add.new.self c.loop-line.number _ c.loop-line.invariant.0 c.in-Some.ensures.line c.in-Some-row_of.ensures.said c.in_default-add.ensures.added, omega (arith, c.loop-line.invariant.1, c.in-Some.ensures.shorter))

pub returns-then-is_empty-clause-refused : goal.returns-then-is_empty-clause-refused
returns-then-is_empty-clause-refused c = λ _. first_side c.args.bytes.now c.loop-line.rest.now c.loop-line.map c.loop-line.number c.loop-line.invariant.0 c.in_default.ensures.line (names_of_side c.map-2.inside.high.items _ _ _ (ap (λ (p : Plan). p.high) c.map-2.view_is) c.map-2.inside.high.ok.0 c.if-is_empty.ensures)

pub returns-in-Err-clause-refused : goal.returns-in-Err-clause-refused
returns-in-Err-clause-refused c = λ ne. faulty c.args.bytes.now c.loop-line.rest.now c.in-Some.behind.now c.in-Some.line.now c.loop-line.map c.loop-line.number _ _ c.loop-line.invariant.0 c.in-Some.ensures.line c.in-Some-row_of.ensures.said (c.in-Err.ensures.fault ne)

pub returns-then-is_empty-2-clause-refused : goal.returns-then-is_empty-2-clause-refused
returns-then-is_empty-2-clause-refused c = λ _. second_side c.args.bytes.now c.loop-line.rest.now c.loop-line.map c.loop-line.number c.loop-line.invariant.0 c.in_default.ensures.line (names_of_side c.map-2.inside.high.items _ _ _ (ap (λ (p : Plan). p.high) c.map-2.view_is) c.map-2.inside.high.ok.0 c.if-is_empty.ensures) (names_of_side c.map-2.inside.low.items _ _ _ (ap (λ (p : Plan). p.low) c.map-2.view_is) c.map-2.inside.low.ok.0 c.if-is_empty-2.ensures)

pub returns-clause-accepted : goal.returns-clause-accepted
returns-clause-accepted c = accepted c.args.bytes.now c.loop-line.rest.now c.loop-line.map c.loop-line.number c.loop-line.invariant.0 c.in_default.ensures.line (names_of_side c.map-2.inside.high.items _ _ _ (ap (λ (p : Plan). p.high) c.map-2.view_is) c.map-2.inside.high.ok.0 c.if-is_empty.ensures) (names_of_side c.map-2.inside.low.items _ _ _ (ap (λ (p : Plan). p.low) c.map-2.view_is) c.map-2.inside.low.ok.0 c.if-is_empty-2.ensures)
