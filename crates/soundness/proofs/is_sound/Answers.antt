-- `soundness::is_sound` meets its contract: the goals that the search leaves. Assumes nothing.
use Rattle.ids.proofs.Flags.{decides_via}
use Rattle.tables.proofs.Once.{standing, fits_standing}
use Rattle.soundness.proofs.is_sound.Goals as goal

pub returns : goal.returns
returns c = decides_via standing fits_standing c.fit.ensures
