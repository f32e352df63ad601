-- `sound_requests::passes::all_decided_fit`. The loop's invariant: the rows passed fit. Assumes nothing.
use Rattle.tables.specs.Fit.{AllDecidedFit}
use Rattle.sound_requests.proofs.passes.all_decided_fit.Given as goal

abbrev pub invariant-loop-n : goal.invariant-loop-n
invariant-loop-n l = AllDecidedFit l.n l.made l.asked l.decided l.approvers
