-- The numbers so far are written.
use Rattle.std.proofs.Common.{take}
use Rattle.lines.specs.Lines.{spaced}
use Rattle.lines.specs.Output.{Appends}
use Rattle.lines.proofs.output.Out.push_numbers.Given as goal

abbrev pub invariant-loop-n : goal.invariant-loop-n
invariant-loop-n l = Appends (spaced (take l.n-index l.numbers)) l.fn.self l.self
