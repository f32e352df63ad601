-- The run goes on, on what it was lent.
use Rattle.std.proofs.Common.{length}
use Rattle.tables.specs.Tables.{tables}
use Rattle.replay.proofs.Running.{Under, left}
use Rattle.replay.proofs.file.run.Given as goal

abbrev pub invariant-loop-p : goal.invariant-loop-p
invariant-loop-p l =
    Under l.input (tables l.fn.book l.fn.keys l.fn.texts) l.fn.out l.initial.tables l.tables l.initial.lines l.lines l.p

abbrev pub decreases-loop-p : goal.decreases-loop-p
decreases-loop-p l = left (length l.input) l.p.next
