-- `sound_ties::registrations::registered` meets its contract: the goals that the search leaves. Assumes nothing.
use Rattle.sound_ties.proofs.Forces.{noted_if}
use Rattle.sound_ties.proofs.registrations.registered.Goals as goal

pub returns-then-in_force : goal.returns-then-in_force
returns-then-in_force c = let noted = rw c.if-in_force.true at c.in_force.ensures in noted_if noted.0 noted.1 c.each_placed.ensures
