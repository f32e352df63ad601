-- `soundness::checked` meets its contract: tables that hold a sound ledger are fit, and the others are told as damaged. Assumes nothing.
use Rattle.std.proofs.Common.{refl}
use Rattle.tables.proofs.Once.{fits_standing}
use Rattle.soundness.proofs.checked.Goals as goal

pub returns-else-is_sound : goal.returns-else-is_sound
returns-else-is_sound c = (refl, c.is_sound.ensures.no c.if-is_sound.false)

pub invariant_of-result : goal.invariant_of-result
invariant_of-result c = record { fits = fits_standing (c.is_sound.ensures.yes c.if-is_sound.true) }
