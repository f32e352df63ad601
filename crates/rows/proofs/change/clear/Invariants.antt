-- `rows::change::clear`. The loop's invariant: the entries passed are zero, and the others as they were. Assumes nothing.
use Rattle.std.proofs.Common.{◌≡◌, ◌++◌, drop, replicate}
use Rattle.rows.proofs.change.clear.Given as goal

abbrev pub invariant-loop-x : goal.invariant-loop-x
invariant-loop-x g l = l.x-items ≡ replicate l.x-index l.zero ++ drop l.x-index l.initial.x-items
