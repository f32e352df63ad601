-- `replay::file::run` meets its contract.
use Rattle.std.proofs.Common.{rules}
use Rattle.replay.proofs.Running.{ran, came_back, wrote_counts}
use Rattle.replay.proofs.file.run.Goals as goal

pub returns : goal.returns
returns c =
    let r = ran c.args.input.now c.loop-p.p c.in_default.is c.loop-p.invariant.reached.going c.end_line.ensures in
    let q = came_back c.loop-p.tables r (search rules) (search rules) (search rules) (search rules) in
    record { replays = q; prefix_len = wrote_counts _ _ q.lines }
