-- `lines::output::Out::stopped_line` meets its contract: each part follows the last.
use Rattle.lines.specs.Lines.{line_of_stop}
use Rattle.lines.proofs.Appending.{then_more}
use Rattle.lines.proofs.output.Out.stopped_line.Goals as goal

pub returns : goal.returns
unfolding line_of_stop
returns c = then_more (then_more (then_more c.push_counted.ensures c.push.ensures) (rw (← c.name.ensures) c.push-2.ensures)) c.push-3.ensures
