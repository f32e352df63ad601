-- `sound_log::log::slots_fit`. The loop's invariant: the slots passed fit. Assumes nothing.
use Rattle.std.proofs.Common.{length}
use Rattle.sound_log.specs.Approvals.{Slots}
use Rattle.sound_log.proofs.log.slots_fit.Given as goal

abbrev pub invariant-loop-j : goal.invariant-loop-j
invariant-loop-j l = Slots l.j (length l.decided) l.log l.decided
