use Rattle.std.proofs.Common.{◌<◌, length, [], ◌∷◌, refl, subst, arith}
use Rattle.cif_reader.specs.declared.file.Item.{Item}
use Rattle.cif_flatten.specs.Sizes.{HasSize}
use Rattle.cif_flatten.proofs.Sizing.{size_step}
use Rattle.cif_flatten.proofs.sizes.advance.Goals as goal

pub loop-next-preserved : goal.loop-next-preserved
loop-next-preserved c =
    let symbols = c.args.file.now.symbols in
    let items = c.in-Some.symbol.now.items.items in
    let h = c.loop-next.invariant in
    let inside : c.loop-next.next < length items = omega (arith, c.loop-next-test.true, c.len.ensures, c.in-Some.symbol.now.items.ok.0) in
    record {
      items = h.items;
      within = omega (arith, inside);
      size = size_step symbols items c.loop-next.next c.index.result.now c.loop-next.size c.in-Known.more c.plus-size.result inside h.size
          (subst (λ (item : Item). HasSize symbols (item ∷ []) c.in-Known.more) c.index.ensures (c.in-Known.ensures.known c.in-Known.more refl)) c.plus-size.ensures.calls c.plus-size.ensures.weight;
    }
