-- `rows::change::put_bytes`. The loop's invariant: the bytes passed are written. Assumes nothing.
use Rattle.std.proofs.Common.{◌≡◌}
use Rattle.std.proofs.Math.Seq.{paste}
use Rattle.rows.proofs.change.put_bytes.Given as goal

abbrev pub invariant-loop-i : goal.invariant-loop-i
invariant-loop-i l = l.t ≡ paste l.fn.t l.at l.s l.i
