use Rattle.std.proofs.Common.{List, subst}
use Rattle.std.proofs.lemmas.Result.{IfOk-weaker}
use Rattle.switch_net.specs.declared.NetId.{NetId}
use Rattle.net_trace.specs.Nets.{IsJoinedBy}
use Rattle.layout_extract.specs.declared.tags.Tag.{Tag}
use Rattle.layout_extract.specs.Names.{is_joining}
use Rattle.layout_extract.specs.Tags.{AreJoins, numbers_of, AreJoinedAt}
use Rattle.layout_extract.proofs.SpotLists.{pairs_below}
use Rattle.layout_extract.proofs.joins.join.Goals as goal

pub joined-requires : goal.joined-requires
joined-requires c = pairs_below c.args.traced c.args.spots.now c.in_ok-tags.tags.items c.as_slice.result.now (is_joining c.args.map.now) c.in_ok-pairs.pairs.items c.as_slice-2.result.now
    c.in_ok-tags.ensures c.as_slice.ensures.value c.in_ok-pairs.ensures c.as_slice-2.ensures.value

pub returns : goal.returns
returns c = IfOk-weaker c.joined.result _ (λ t. AreJoinedAt c.args.map.now c.args.spots.now c.args.traced t) (λ t by. record {
  tags = c.in_ok-tags.tags.items;
  are = c.in_ok-tags.ensures;
  pairs = c.in_ok-pairs.pairs.items;
  joins = subst (λ (ts : List Tag). AreJoins (is_joining c.args.map.now) ts c.in_ok-pairs.pairs.items) c.as_slice.ensures.value c.in_ok-pairs.ensures;
  by = subst (λ (ps : List (NetId × NetId)). IsJoinedBy c.args.traced (numbers_of ps) t) c.as_slice-2.ensures.value by;
}) c.joined.ensures
