-- `sound_ties::pending::waits`. The loop's invariant: the pending counts passed are right. Assumes nothing.
use Rattle.std.proofs.Common.{length}
use Rattle.tables.specs.Fit.{Waits}
use Rattle.sound_ties.proofs.pending.waits.Given as goal

abbrev pub invariant-loop-row : goal.invariant-loop-row
invariant-loop-row l = Waits l.row-index (length l.asked.rows.now) l.holders.rows.now l.asked.rows.now l.decided
