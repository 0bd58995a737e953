use Rattle.std.proofs.Common.{◌≡◌, true, subst, sym, ap, ◌∙◌}
use Rattle.std.specs.Prelude.{Some, None}
use Rattle.cif_flatten.specs.Unfolding.{items_of}
use Rattle.cif_flatten.specs.Faults.{calls}
use Rattle.cif_flatten.specs.Sizes.{HasSize, IsWaiting, count_new, Exploring}
use Rattle.cif_flatten.proofs.Exploring.{known_called, all_known, met_again, new_called, new_le, new_lt, further, deeper, back, less_pushed, less_popped}
use Rattle.cif_flatten.proofs.sizes.explore.Goals as goal

pub returns-then-contains_key-clause-recurses : goal.returns-then-contains_key-clause-recurses
returns-then-contains_key-clause-recurses c = λ _.
    let symbols = c.args.file.now.symbols in
    let a = c.advance-waiting in
    let called = c.in-Some.called in
    let h = further symbols c.args.number c.args.sizes.now c.loop-called.sizes c.loop-called.sizes c.loop-called.below.items c.loop-called.top a.result.0 c.loop-called.invariant.state a.ensures.same a.ensures.frame in
    met_again symbols c.args.number c.args.sizes.now c.loop-called.sizes c.loop-called.below.items a.result.0 called h
    (ap (λ n. calls symbols n called) a.ensures.same ∙ known_called (λ n. calls symbols c.loop-called.top.number n ≡ true) a.result.1 called c.in-Some.is a.ensures.called)
    (known_called (λ n. IsWaiting symbols c.loop-called.sizes n) a.result.1 called c.in-Some.is a.ensures.waiting) (sym c.contains_key.ensures ∙ c.if-contains_key.true)

pub loop-called-smaller-in-Some : goal.loop-called-smaller-in-Some
loop-called-smaller-in-Some c =
    let symbols = c.args.file.now.symbols in
    let a = c.advance-waiting in
    let called = c.in-Some.called in
    let fresh = new_called symbols c.loop-called.sizes called (known_called (λ n. IsWaiting symbols c.loop-called.sizes n) a.result.1 called c.in-Some.is a.ensures.waiting) (sym c.contains_key.ensures ∙ c.if-contains_key.false) in
    less_pushed (count_new symbols c.insert-in-Some.new.self) (count_new symbols c.loop-called.sizes) c.loop-called.below.items c.push.new.self.items a.result.0
    (new_lt symbols c.loop-called.sizes c.insert-in-Some.new.self called None c.in_ok-insert-2.ensures.updates.0 fresh.0 fresh.1) c.in_ok-push.ensures.items

pub loop-called-preserved-in-Some : goal.loop-called-preserved-in-Some
loop-called-preserved-in-Some c =
    let symbols = c.args.file.now.symbols in
    let a = c.advance-waiting in
    let called = c.in-Some.called in
    let h = further symbols c.args.number c.args.sizes.now c.loop-called.sizes c.loop-called.sizes c.loop-called.below.items c.loop-called.top a.result.0 c.loop-called.invariant.state a.ensures.same a.ensures.frame in
    record {
      state = subst (λ fs. Exploring symbols c.args.sizes.now c.insert-in-Some.new.self c.args.number fs c.start-top-in-Some.result) (sym c.in_ok-push.ensures.items)
          (deeper symbols c.args.number c.args.sizes.now c.loop-called.sizes c.insert-in-Some.new.self c.loop-called.below.items a.result.0 c.start-top-in-Some.result called h
          (ap (λ n. calls symbols n called) a.ensures.same ∙ known_called (λ n. calls symbols c.loop-called.top.number n ≡ true) a.result.1 called c.in-Some.is a.ensures.called)
          c.start-top-in-Some.ensures.number (c.start-top-in-Some.ensures.frame symbols) c.in_ok-insert-2.ensures.updates.0);
    }

pub loop-called-smaller : goal.loop-called-smaller
loop-called-smaller c =
    let symbols = c.args.file.now.symbols in
    let frame = c.advance-waiting.result.0 in
    less_popped (count_new symbols c.insert-in_default.new.self) (count_new symbols c.loop-called.sizes) c.loop-called.below.items c.pop.new.self.items c.in-Some-pop.caller
    (new_le symbols c.loop-called.sizes c.insert-in_default.new.self frame.number (Some frame.size) c.in_ok-insert-3.ensures.updates.0) c.in-Some-pop.ensures.items

pub loop-called-preserved : goal.loop-called-preserved
loop-called-preserved c =
    let symbols = c.args.file.now.symbols in
    let a = c.advance-waiting in
    let frame = a.result.0 in
    let h = further symbols c.args.number c.args.sizes.now c.loop-called.sizes c.loop-called.sizes c.loop-called.below.items c.loop-called.top frame c.loop-called.invariant.state a.ensures.same a.ensures.frame in
    record {
      state = back symbols c.args.number c.args.sizes.now c.loop-called.sizes c.insert-in_default.new.self c.loop-called.below.items c.pop.new.self.items frame c.in-Some-pop.caller h c.in-Some-pop.ensures.items
          (subst (λ n. HasSize symbols (items_of symbols n) frame.size) (sym a.ensures.same) (all_known (HasSize symbols (items_of symbols c.loop-called.top.number) frame.size) a.result.1 c.in_default.is a.ensures.done))
          c.in_ok-insert-3.ensures.updates.0;
    }
