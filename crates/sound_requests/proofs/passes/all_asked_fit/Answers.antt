-- `sound_requests::passes::all_asked_fit` meets its contract: the goal that the search leaves. Assumes nothing.
use Rattle.std.proofs.Common.{arith, rules, []}
use Rattle.std.proofs.Math.Seq.{get_or-take, length-take-le}
use Rattle.sound_requests.proofs.Texts.{joined_more}
use Rattle.sound_requests.proofs.passes.all_asked_fit.Goals as goal

pub loop-row-preserved : goal.loop-row-preserved
loop-row-preserved c =
    let fits = c.asked_fits.ensures.yes c.if-not-asked_fits.false in
    let e = get_or-take c.args.m c.args.asked.now c.loop-row.row-index [] (omega (arith, length-take-le c.args.m c.args.asked.now c.requires.1)) in
    (joined_more c.args.asked.now _ _ _ _ c.loop-row.invariant.0 e fits (search rules), omega (arith, fits.short))
