use Rattle.std.proofs.Common.{arith}
use Rattle.search_trail.proofs.Table.{last_coded, last_popped, popped_front}
use Rattle.search_trail.proofs.places.Places.truncate.Goals as goal

pub set_rank-requires : goal.set_rank-requires
set_rank-requires c = last_coded c.loop-self.self-inside.vars c.loop-self.self-inside.ranks.items c.loop-self.self-inside.ranks.items c.loop-self.self-inside.lits.items c.pop.new.self.items c.in-Some.lit
    c.loop-self.invariant.placed c.pop.new.self.items c.in-Some.ensures.items

pub loop-self-preserved-in-Some : goal.loop-self-preserved-in-Some
loop-self-preserved-in-Some c = record {
  vars = c.loop-self.invariant.vars;
  placed = last_popped c.loop-self.self-inside.vars c.loop-self.self-inside.ranks.items c.set_rank.new.ranks.items c.loop-self.self-inside.lits.items c.pop.new.self.items c.in-Some.lit
      c.loop-self.invariant.placed c.pop.new.self.items c.in-Some.ensures.items c.set_rank.ensures.list c.set_rank.ensures.ranks;
  front = popped_front c.loop-self.self-inside.lits.items c.pop.new.self.items c.args.self.now.lits c.in-Some.lit c.args.size c.in-Some.ensures.items
      (omega (arith, c.loop-self-test.true, c.len.ensures, c.loop-self.self-inside.lits.ok.0)) c.loop-self.invariant.front;
}
