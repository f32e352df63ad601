-- `sound_ties::pending::waiting_counts` meets its contract: the goals that the search leaves. Assumes nothing.
use Rattle.std.proofs.Common.{arith}
use Rattle.sound_ties.proofs.Waiting.{counts_few, counts_none}
use Rattle.sound_ties.proofs.pending.waiting_counts.Goals as goal

pub loop-n-init : goal.loop-n-init
loop-n-init c = counts_none

pub overflow_add-counts : goal.overflow_add-counts
overflow_add-counts c = omega (arith, counts_few c.loop-n.invariant _ (c.args.asked.now.numbered _ c.loop-n-test.true))
