-- `lines::output::Out::push_numbers` meets its contract.
use Rattle.lines.proofs.Appending.{then_more}
use Rattle.lines.proofs.Numbered.{spaced_more}
use Rattle.lines.proofs.output.Out.push_numbers.Goals as goal

pub loop-n-preserved : goal.loop-n-preserved
loop-n-preserved c = rw (spaced_more c.args.numbers.now c.loop-n.n-index c.loop-n-test.true) (then_more c.loop-n.invariant c.push_counted.ensures)
