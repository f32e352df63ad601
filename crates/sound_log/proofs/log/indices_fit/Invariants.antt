-- `sound_log::log::indices_fit`. The loop's invariant: the approvals passed have their slots. Assumes nothing.
use Rattle.std.proofs.Common.{length}
use Rattle.sound_log.specs.Approvals.{Indices}
use Rattle.sound_log.proofs.log.indices_fit.Given as goal

abbrev pub invariant-loop-n : goal.invariant-loop-n
invariant-loop-n l = Indices (length l.log) l.n l.log l.decided
