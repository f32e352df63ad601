-- `sound_ties::pending::waiting_counts`. The loop's invariant: the requests passed are counted. Assumes nothing.
use Rattle.sound_ties.specs.Places.{Counts}
use Rattle.sound_ties.proofs.pending.waiting_counts.Given as goal

abbrev pub invariant-loop-n : goal.invariant-loop-n
invariant-loop-n l = Counts l.n l.asked.rows.now l.decided l.counts
