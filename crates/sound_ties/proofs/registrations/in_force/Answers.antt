-- `sound_ties::registrations::in_force` meets its contract: the goals that the search leaves. Assumes nothing.
use Rattle.std.proofs.Common.{arith}
use Rattle.sound_ties.proofs.Forces.{noting_none, noting_more}
use Rattle.sound_ties.proofs.registrations.in_force.Goals as goal

pub loop-i-init : goal.loop-i-init
loop-i-init c = noting_none

pub loop-i-preserved : goal.loop-i-preserved
loop-i-preserved c =
    let known = c.loop-i.invariant in
    noting_more known.0 known.1 (c.args.holders.now.numbered _ c.loop-i-test.true) (grind arith) c.if-revoked-g-ne0.false
