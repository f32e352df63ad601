-- `sound_ties::registrations::in_force`. The loop's invariant: the keys passed are in force and noted. Assumes nothing.
use Rattle.sound_ties.specs.Places.{InForce, Places}
use Rattle.sound_ties.proofs.registrations.in_force.Given as goal

abbrev pub invariant-loop-i : goal.invariant-loop-i
invariant-loop-i l = InForce l.i l.holders.rows.now l.revoked × Places l.i l.holders.rows.now l.place
