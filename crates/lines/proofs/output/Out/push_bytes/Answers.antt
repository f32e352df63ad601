-- `lines::output::Out::push_bytes` meets its contract: what the row has room for is written.
use Rattle.std.proofs.Common.{refl, arith}
use Rattle.lines.proofs.Appending.{wrote_more}
use Rattle.lines.proofs.output.Out.push_bytes.Goals as goal

pub returns : goal.returns
returns c = record { row = refl; then = λ was text w. rw c.put_bytes.ensures (wrote_more was text c.args.bytes.now w c.min-n.result (omega arith)) }
