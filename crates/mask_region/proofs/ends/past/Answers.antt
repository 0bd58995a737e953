use Rattle.std.proofs.Common.{arith, ap, w32, of_z}
use Rattle.std.proofs.lemmas.Int.{ints, by_lt_z}
use Rattle.std.specs.Prelude.{◌≡◌, ℤ, ◌≤ℤ◌}
use Rattle.mask_region.specs.Rows.{end_at}
use Rattle.mask_region.proofs.Rows.{past_more, past_none}
use Rattle.mask_region.proofs.ends.past.Goals as goal
use Rattle.mask_region.proofs.ends.past.Goals.{else-k-ends-via-then-k-ends+else-ends-k, else-k-ends-via-else-k-ends}

same_bits : (x y : ℤ) → x ≡ y → of_z w32 x ≡ of_z w32 y
same_bits x y e = ap (of_z w32) e

pub returns-then-ends-k : goal.returns-then-ends-k
returns-then-ends-k c = past_more c.args.ends.now c.args.k c.args.x c.if-k-ends.true c.requires.rising (omega (arith, ints)) c.requires.before

pub returns-else-k-ends : goal.returns-else-k-ends
returns-else-k-ends c =
    past_none c.args.ends.now c.args.k c.args.x c.requires.in_range
    (λ h. elim c.else-k-ends.branch [
      | else-k-ends-via-then-k-ends+else-ends-k w ↦
          let ahead : c.args.x ≤ℤ end_at c.args.ends.now c.args.k = c.requires.ahead h in
          by_lt_z c.args.x (end_at c.args.ends.now c.args.k) (λ up. up) (λ down. absurd (w.if-ends-k.false (same_bits (end_at c.args.ends.now c.args.k) c.args.x (omega (arith, ints)))))
      | else-k-ends-via-else-k-ends w ↦ absurd (omega arith)
    ])
    c.requires.before
