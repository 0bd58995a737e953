use Rattle.std.proofs.Common.{◌≡◌, ℕ, ◌<◌, ◌+◌, List, [], ◌∷◌, ◌++◌, length, length-append, sym, ap, ◌∙◌, arith, subst, slice_index}
use Rattle.std.proofs.lemmas.Grind.{get_or_default_zero}
use Rattle.link_classes.specs.Forest.{AreNumberedTrees}
use Rattle.link_classes.proofs.Numbers.{numbered_root, numbered_more}
use Rattle.link_classes.proofs.partition.numbered.Goals as goal
use Rattle.link_classes.proofs.partition.numbered.Goals.{then-parent-x+in_ok-push+in_ok-push-2, else-parent-x+in_ok-push-3}

one_more : (xs ys : List ℕ) (y x : ℕ) → ys ≡ xs ++ y ∷ [] → length xs ≡ x → length ys ≡ x + 1
one_more xs ys y x is here = ap (λ l. length l) is ∙ length-append xs (y ∷ []) ∙ ap (λ n. n + 1) here

pub loop-x-preserved : goal.loop-x-preserved
loop-x-preserved c =
    let h = c.loop-x.invariant in
    elim c.if-parent-x.branch [
      | then-parent-x+in_ok-push+in_ok-push-2 w ↦
          let size : w.len.result ≡ length c.loop-x.least.items = omega (arith, w.len.ensures, c.loop-x.least.ok) in
          let label : c.if-parent-x.label.items ≡ c.loop-x.label.items ++ length c.loop-x.least.items ∷ [] =
          ap (λ v. v.items) w.label-is ∙ w.in_ok-push.ensures.items ∙ ap (λ n. c.loop-x.label.items ++ n ∷ []) size in
          let least : c.if-parent-x.least.items ≡ c.loop-x.least.items ++ c.loop-x.x ∷ [] =
          ap (λ v. v.items) w.least-is ∙ w.in_ok-push-2.ensures.items in
          record {
            each = one_more _ _ _ _ label h.each;
            numbered = subst (λ l. AreNumberedTrees c.args.parents.now l c.if-parent-x.least.items) (sym label)
                (subst (λ r. AreNumberedTrees c.args.parents.now (c.loop-x.label.items ++ length c.loop-x.least.items ∷ []) r) (sym least)
                (numbered_root _ _ _ _ c.requires h.each c.loop-x-test.true h.numbered w.if-parent-x.true));
          }
      | else-parent-x+in_ok-push-3 w ↦
          let parent : ℕ = slice_index c.args.parents.now c.loop-x.x in
          let lower : parent < c.loop-x.x = omega (arith, c.requires.down c.loop-x.x c.loop-x-test.true, w.if-parent-x.false) in
          let inside : parent < length c.loop-x.label.items = omega (arith, lower, h.each) in
          let value : w.index.result.now ≡ slice_index c.loop-x.label.items parent = w.index.ensures ∙ get_or_default_zero c.loop-x.label.items parent _ inside in
          let label : c.if-parent-x.label.items ≡ c.loop-x.label.items ++ slice_index c.loop-x.label.items parent ∷ [] =
          ap (λ v. v.items) w.label-is ∙ w.in_ok-push-3.ensures.items ∙ ap (λ n. c.loop-x.label.items ++ n ∷ []) value in
          record {
            each = one_more _ _ _ _ label h.each;
            numbered = subst (λ l. AreNumberedTrees c.args.parents.now l c.if-parent-x.least.items) (sym label)
                (subst (λ r. AreNumberedTrees c.args.parents.now (c.loop-x.label.items ++ slice_index c.loop-x.label.items parent ∷ []) r) (sym (ap (λ v. v.items) w.least-is))
                (numbered_more _ _ _ _ c.requires h.each c.loop-x-test.true h.numbered lower));
          }
    ]
