-- the array's `is_zero`. The loop's invariant: the entries passed are zero. Assumes nothing.
use Rattle.std.proofs.Common.{◌≡◌, ◌<◌, ℕ, get_or}
use Rattle.rows.proofs.compare.ArrayZero.is_zero.Given as goal

abbrev pub invariant-loop-x : goal.invariant-loop-x
invariant-loop-x g l = (k : ℕ) → k < l.x-index → get_or l.self k g.T.Zero.zero ≡ g.T.Zero.zero
