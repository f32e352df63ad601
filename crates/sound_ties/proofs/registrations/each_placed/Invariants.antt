-- `sound_ties::registrations::each_placed`. The loop's invariant: the registrations passed that are not revoked have a place. Assumes nothing.
use Rattle.sound_ties.specs.Places.{EachPlaced}
use Rattle.sound_ties.proofs.registrations.each_placed.Given as goal

abbrev pub invariant-loop-g : goal.invariant-loop-g
invariant-loop-g l = EachPlaced l.g l.place l.revoked
