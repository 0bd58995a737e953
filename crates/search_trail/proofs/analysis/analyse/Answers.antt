use Rattle.std.proofs.Common.{◌≡◌, sym, ◌∙◌, subst}
use Rattle.clause_base.specs.Teaching.{Teaches}
use Rattle.refutation_check.specs.Following.{Follows}
use Rattle.search_trail.specs.Walking.{falses}
use Rattle.search_trail.specs.Learning.{IsLearnt, IsJump, IsAsserting}
use Rattle.search_trail.proofs.Teaches.{follows, learnt, jumps_by, asserts, teaches}
use Rattle.search_trail.proofs.analysis.analyse.Goals as goal

pub returns-clause-follows : goal.returns-clause-follows
returns-clause-follows c =
    let s = c.args.trail.now in
    let walk = c.in_ok-walk.walk in
    let is : c.in_ok-lits.lits.items ≡ falses s.lits walk.kept.items = c.in_ok-lits.ensures ∙ (λ i. falses (c.lits.ensures.same i) (c.as_slice.ensures.value i)) in
    subst (λ xs. Follows s.clauses xs c.reverse.new.self.items) (sym is) (subst (λ hs. Follows s.clauses (falses s.lits walk.kept.items) hs) (sym c.reverse.ensures.items)
    (follows s c.lits.ensures.search walk.seen.items walk.kept.items walk.hints.items c.in_ok-walk.ensures))

pub returns-clause-lits : goal.returns-clause-lits
returns-clause-lits c =
    let s = c.args.trail.now in
    let walk = c.in_ok-walk.walk in
    let is : c.in_ok-lits.lits.items ≡ falses s.lits walk.kept.items = c.in_ok-lits.ensures ∙ (λ i. falses (c.lits.ensures.same i) (c.as_slice.ensures.value i)) in
    subst (λ xs. IsLearnt s xs) (sym is) (learnt s c.lits.ensures.search walk.seen.items walk.kept.items walk.hints.items c.in_ok-walk.ensures)

pub returns-clause-level : goal.returns-clause-level
returns-clause-level c =
    let s = c.args.trail.now in
    let walk = c.in_ok-walk.walk in
    let is : c.in_ok-lits.lits.items ≡ falses s.lits walk.kept.items = c.in_ok-lits.ensures ∙ (λ i. falses (c.lits.ensures.same i) (c.as_slice.ensures.value i)) in
    let level = c.jump_level-level in
    subst (λ xs. IsJump s xs level.result) (sym is) (jumps_by s c.lits.ensures.search walk.seen.items walk.kept.items walk.hints.items c.in_ok-walk.ensures level.result
    c.starts.result.now c.as_slice-2.result.now c.starts.ensures.same c.as_slice-2.ensures.value level.ensures.none level.ensures.most level.ensures.low level.ensures.high)

pub returns-clause-asserting : goal.returns-clause-asserting
returns-clause-asserting c =
    let s = c.args.trail.now in
    let walk = c.in_ok-walk.walk in
    let is : c.in_ok-lits.lits.items ≡ falses s.lits walk.kept.items = c.in_ok-lits.ensures ∙ (λ i. falses (c.lits.ensures.same i) (c.as_slice.ensures.value i)) in
    λ some done. subst (λ xs. IsAsserting s xs) (sym is) (asserts s c.lits.ensures.search walk.seen.items walk.kept.items walk.hints.items c.in_ok-walk.ensures some done)

pub returns-clause-teaches : goal.returns-clause-teaches
returns-clause-teaches c =
    let s = c.args.trail.now in
    let walk = c.in_ok-walk.walk in
    let is : c.in_ok-lits.lits.items ≡ falses s.lits walk.kept.items = c.in_ok-lits.ensures ∙ (λ i. falses (c.lits.ensures.same i) (c.as_slice.ensures.value i)) in
    λ some done. subst (λ xs. Teaches s.clauses xs) (sym is) (teaches s c.lits.ensures.search walk.seen.items walk.kept.items walk.hints.items c.in_ok-walk.ensures some done)
