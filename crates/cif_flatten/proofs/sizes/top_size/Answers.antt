use Rattle.std.proofs.Common.{◌≡◌, get_or, ◌+◌, ◌<◌, length, take, [], ◌∷◌, subst, sym, refl}
use Rattle.cif_reader.specs.declared.file.Item.{Item}
use Rattle.cif_flatten.specs.Sizes.{HasSize}
use Rattle.cif_flatten.proofs.Sizing.{size_nothing, nothing, size_step}
use Rattle.cif_flatten.proofs.Exploring.{none_waits}
use Rattle.cif_flatten.proofs.sizes.top_size.Goals as goal
use Rattle.cif_flatten.proofs.sizes.top_size.Goals.{in-Known, in_default}

pub loop-item-init : goal.loop-item-init
unfolding nothing
loop-item-init c = size_nothing c.args.file.now.symbols

pub loop-item-preserved : goal.loop-item-preserved
loop-item-preserved c =
    let symbols = c.args.file.now.symbols in
    let top = c.args.file.now.top in
    elim c.match-measured.branch [
      | in-Known w ↦
          subst (HasSize symbols (take (c.loop-item.item-index + 1) top)) (sym w.size-is)
          (size_step symbols top c.loop-item.item-index c.item-item.result c.loop-item.size w.in-Known.more w.plus-size.result (subst (λ items. c.loop-item.item-index < length items) c.top-item-items.ensures.same c.loop-item-test.true) c.loop-item.invariant
          (subst (λ (item : Item). HasSize symbols (item ∷ []) w.in-Known.more) (subst (λ items. c.item-item.result ≡ get_or items c.loop-item.item-index c.item-item.result) c.top-item-items.ensures.same c.item-item.is) (w.in-Known.ensures.known w.in-Known.more refl))
          w.plus-size.ensures.calls w.plus-size.ensures.weight)
      | in_default w ↦ absurd (none_waits symbols c.args.sizes.now w.in_default.field-0 c.requires (w.in_default.ensures.waiting w.in_default.field-0 refl))
    ]
