-- `sound_ties::lives::Parties::lived`. The invariants: the requests passed agree with the keys, and the keys passed are younger. Assumes nothing.
use Rattle.std.proofs.Common.{ℕ, ◌<◌, length}
use Rattle.tables.specs.Fit.{Lived}
use Rattle.sound_ties.specs.Places.{Younger}
use Rattle.sound_ties.proofs.lives.Parties.lived.Given as goal

abbrev pub invariant-loop-i : goal.invariant-loop-i
invariant-loop-i l = (i : ℕ) → i < l.i → Younger l.self.holders.rows.now l.self.held.now l.self.agents.now l.n i

abbrev pub invariant-loop-n : goal.invariant-loop-n
invariant-loop-n l = Lived (length l.self.holders.rows.now) l.n l.self.holders.rows.now l.self.held.now l.self.asked.rows.now l.self.agents.now
