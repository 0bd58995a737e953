use Rattle.std.proofs.Common.{subst}
use Rattle.std.proofs.lemmas.List.{take_all}
use Rattle.cif_reader.specs.declared.file.Item.{Item}
use Rattle.cif_flatten.specs.Faults.{undefined_by, undefined_among, IsFirstIfAny}
use Rattle.cif_flatten.proofs.First.{step, one_item}
use Rattle.cif_flatten.proofs.calls.among.Goals as goal

pub loop-item-preserved : goal.loop-item-preserved
loop-item-preserved c =
    let symbols = c.args.file.now.symbols in
    step (λ (item : Item). undefined_by symbols item.pos item.what) c.args.items.now c.loop-item.item-index c.item-item.result c.loop-item.first c.undefined_at.result c.earlier-first.result
    c.loop-item-test.true c.loop-item.invariant
    (subst (λ (item : Item). IsFirstIfAny (undefined_by symbols item.pos item.what) c.undefined_at.result) c.item-item.is (one_item c.undefined_at.result _ c.undefined_at.ensures))
    c.earlier-first.ensures

pub returns : goal.returns
returns c = subst (λ items. IsFirstIfAny (undefined_among c.args.file.now.symbols items) c.loop-item.first) (take_all c.loop-item.item-index c.args.items.now c.loop-item-test.false) c.loop-item.invariant
