-- `rows::compare::zero_from`. The loop's invariant: the entries passed are zero. Assumes nothing.
use Rattle.std.proofs.Common.{◌≡◌, ◌<◌, ◌≤◌, ℕ, get_or, length}
use Rattle.rows.proofs.compare.zero_from.Given as goal

abbrev pub invariant-loop-i : goal.invariant-loop-i
invariant-loop-i g l = (k : ℕ) → k < length l.t → l.from ≤ k → k < l.i → get_or l.t k g.T.Zero.zero ≡ g.T.Zero.zero
