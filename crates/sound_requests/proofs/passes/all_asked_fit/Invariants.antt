-- `sound_requests::passes::all_asked_fit`. The loop's invariant: the texts passed lie without gaps. Assumes nothing.
use Rattle.std.proofs.Common.{◌*◌, ◌≤◌}
use Rattle.tables.specs.Fit.{AllAskedFit}
use Rattle.sound_requests.proofs.passes.all_asked_fit.Given as goal

abbrev pub invariant-loop-row : goal.invariant-loop-row
invariant-loop-row l = AllAskedFit l.row-index l.made l.start l.asked × l.start ≤ 2048 * l.row-index
