-- The wires that a label tries.
use Rattle.std.proofs.Common.{◌≡◌, ℕ, ◌+◌, List, [], ◌∷◌, ◌++◌, map, Option, Some, refl, sym, ap, ◌∙◌, arith}
use Rattle.std.specs.Option.{option_map}
use Rattle.std.specs.List.{find, range_with_len}
use Rattle.std.specs.Str.{bytes_eq}
use Rattle.layer_map.specs.declared.map.LabelLine.{LabelLine}
use Rattle.layer_map.specs.declared.map.WireId.{WireId}
use Rattle.layer_map.specs.Plan.{Plan}
use Rattle.layer_map.specs.Views.{label_seen, numbers_seen}
use Rattle.layout_extract.specs.Labels.{listed_or, all_wires, tried_wires}
use Rattle.layout_extract.proofs.Places.{find_map}
use Rattle.net_trace.proofs.Lists.{range_more}

-- the wires that a label on a layer tries, by the line that was found
pub tried_line : (plan : Plan) (layer : List ℕ) (lines : List LabelLine) (found : Option LabelLine) → map label_seen lines ≡ plan.labels → found ≡ find (λ l. bytes_eq l.layer layer) lines
    → tried_wires plan (Some layer) ≡ listed_or (all_wires plan) (option_map label_seen found)
tried_line plan layer lines found same is =
    ap (λ ls. listed_or (all_wires plan) (find (λ l. bytes_eq l.layer layer) ls)) (sym same)
    ∙ ap (λ o. listed_or (all_wires plan) o) (find_map (λ l. bytes_eq l.layer layer) label_seen lines)
    ∙ ap (λ o. listed_or (all_wires plan) (option_map label_seen o)) (sym is)

numbers_push : (ws : List WireId) (w : WireId) → numbers_seen (ws ++ w ∷ []) ≡ numbers_seen ws ++ w.0 ∷ []
numbers_push [] w = refl
numbers_push (x ∷ ws) w = ap (λ ns. x.0 ∷ ns) (numbers_push ws w)

pub wires_more : (ws new : List WireId) (w : WireId) (k : ℕ) → numbers_seen ws ≡ range_with_len 0 k → w.0 ≡ k → new ≡ ws ++ w ∷ [] → numbers_seen new ≡ range_with_len 0 (k + 1)
wires_more ws new w k before is pushed = ap (λ v. numbers_seen v) pushed ∙ numbers_push ws w ∙ ap (λ ns. ns ++ w.0 ∷ []) before ∙ sym (range_more 0 k w.0 (omega (arith, is)))
