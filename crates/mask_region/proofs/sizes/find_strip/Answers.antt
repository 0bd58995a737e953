use Rattle.std.proofs.Common.{ap, sym, ◌∙◌, rules, arith, ◌≡◌, false, nat_lt, ◌≤◌, length}
use Rattle.std.specs.Prelude.{is_some}
use Rattle.std.proofs.lemmas.List.Sorted.{IsPartitionPoint-from_clause}
use Rattle.mask_region.specs.Strips.{is_in_strip}
use Rattle.mask_region.specs.Sweeping.{is_before_cell}
use Rattle.mask_region.proofs.Banding.{no_strip}
use Rattle.mask_region.proofs.Searching.{partitioned, found, found_none}
use Rattle.mask_region.proofs.sizes.find_strip.Goals as goal

pub returns-in_default : goal.returns-in_default
returns-in_default c =
    let parted = partitioned c.args.strips.now c.args.cell.x c.args.cell.y c.requires in
    let point = IsPartitionPoint-from_clause (is_before_cell c.args.cell.x c.args.cell.y) c.args.strips.now c.partition_point-k.result c.partition_point-k.ensures.partitioned parted (λ a r q k. search rules) in
    let here = c.in-Some.ensures.lookup.3 in
    sym (found c.args.strips.now c.partition_point-k.result no_strip c.args.cell.x c.args.cell.y c.has.result c.requires here.0 point
    (c.has.ensures ∙ ap (λ s. is_in_strip s c.args.cell.x c.args.cell.y) (here.1 no_strip))) ∙ c.if-has.false

pub returns-in_default-2 : goal.returns-in_default-2
returns-in_default-2 c =
    let parted = partitioned c.args.strips.now c.args.cell.x c.args.cell.y c.requires in
    let point = IsPartitionPoint-from_clause (is_before_cell c.args.cell.x c.args.cell.y) c.args.strips.now c.partition_point-k.result c.partition_point-k.ensures.partitioned parted (λ a r q k. search rules) in
    let none : nat_lt c.partition_point-k.result (length c.args.strips.now) ≡ false = sym c.get.ensures.lookup.0 ∙ ap (λ o. is_some o) c.in_default.is in
    let past : length c.args.strips.now ≤ c.partition_point-k.result = grind (arith, none) in
    found_none c.args.strips.now c.partition_point-k.result c.args.cell.x c.args.cell.y past point
