use Rattle.std.proofs.Common.{◌≡◌, ℕ, Ok, Err, IfOk, Result, get_or, sym, subst}
use Rattle.std.specs.List.{All}
use Rattle.std.proofs.lemmas.List.{take_all}
use Rattle.std.proofs.lemmas.List.Elements.{All-more}
use Rattle.link_classes.specs.Classes.{has_pair}
use Rattle.link_classes.specs.Forest.{IsForest, IsOnTrees, IsLinkedForest}
use Rattle.link_classes.proofs.Chains.{linked_touch}
use Rattle.link_classes.proofs.Pairs.{classes_are, has_own}
use Rattle.link_classes.proofs.partition.classes_of.Goals as goal

-- what follows from two facts on an answer
both : {X E : Type 0} {P Q R : X → Type 0} (result : Result X E) → ((x : X) → P x → Q x → R x) → IfOk result P → IfOk result Q → IfOk result R
both (Ok x) f p q = f x p q
both (Err e) f p q = tt

pub loop-a-preserved : goal.loop-a-preserved
loop-a-preserved c =
    let h = c.loop-a.invariant in
    let pairs = c.args.pairs.now in
    let i = c.loop-a.a-index in
    record {
      forest = subst (λ n. IsForest n c.join.new.parents.items) h.forest.each c.join.ensures.forest;
      joined = λ value on. All-more (λ (p : ℕ × ℕ). value p.0 ≡ value p.1) pairs i (0, 0) c.loop-a-test.true
          (h.joined value (c.join.ensures.trees.trees value on)) (c.join.ensures.same value on);
      linked = c.join.ensures.linked (has_pair pairs) (linked_touch (has_pair pairs) (get_or pairs i (0, 0)).0 (get_or pairs i (0, 0)).1 (has_own pairs i (0, 0) c.loop-a-test.true)) h.linked;
    }

pub returns : goal.returns
returns c =
    let h = c.loop-a.invariant in
    let slice = c.as_slice.ensures.value in
    let all = take_all c.loop-a.a-index c.args.pairs.now c.loop-a-test.false in
    both c.numbered.result (λ found each numbered. classes_are c.args.size c.as_slice.result.now c.args.pairs.now _ _
    (subst (IsForest c.args.size) (sym slice) h.forest)
    (λ value on. subst (λ ps. All (λ (p : ℕ × ℕ). value p.0 ≡ value p.1) ps) all (h.joined value (subst (λ ps. IsOnTrees ps value) slice on)))
    (subst (λ ps. IsLinkedForest (has_pair c.args.pairs.now) ps) (sym slice) h.linked) each numbered)
    c.numbered.ensures.each c.numbered.ensures.numbered
