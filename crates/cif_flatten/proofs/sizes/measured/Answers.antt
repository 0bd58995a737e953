use Rattle.std.proofs.Common.{sym, ◌∙◌, subst, [], ◌∷◌}
use Rattle.cif_flatten.specs.Sizes.{HasSize}
use Rattle.cif_flatten.proofs.Sizing.{size_alone, size_called, known_is}
use Rattle.cif_flatten.proofs.sizes.measured.Goals as goal

pub returns-in_default-clause-known : goal.returns-in_default-clause-known
returns-in_default-clause-known c = λ size is.
    let symbols = c.args.file.now.symbols in
    let item = c.args.item.now in
    let own = c.own_size-own in
    subst (HasSize symbols (item ∷ [])) (known_is own.result size is)
    (size_alone symbols item own.result (sym c.called.ensures ∙ c.in_default.is) own.ensures.few_calls own.ensures.low_weight own.ensures.calls own.ensures.weight)

pub returns-in-Some-known_size-clause-known : goal.returns-in-Some-known_size-clause-known
returns-in-Some-known_size-clause-known c = λ size is.
    let symbols = c.args.file.now.symbols in
    let item = c.args.item.now in
    let own = c.own_size-own in
    subst (HasSize symbols (item ∷ [])) (known_is c.plus.result size is)
    (size_called symbols item c.in-Some.number own.result c.in-Some-known_size.size c.plus.result (sym c.called.ensures ∙ c.in-Some.is) own.ensures.calls own.ensures.weight
    c.in-Some-known_size.ensures.known c.plus.ensures.calls c.plus.ensures.weight)
