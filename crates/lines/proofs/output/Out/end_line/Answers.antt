-- `lines::output::Out::end_line` meets its contract: each part follows the last.
use Rattle.lines.specs.Lines.{end_line}
use Rattle.lines.proofs.Appending.{then_more}
use Rattle.lines.proofs.output.Out.end_line.Goals as goal

pub returns : goal.returns
unfolding end_line
returns c = then_more (then_more (then_more (then_more c.push_counted.ensures c.push_counted-2.ensures) c.push_counted-3.ensures) c.push.ensures) c.push-2.ensures
