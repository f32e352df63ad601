-- `soundness::fit` meets its contract: the goals that the search leaves. Assumes nothing.
use Rattle.std.proofs.Common.{arith}
use Rattle.ids.proofs.Flags.{decides_via}
use Rattle.soundness.proofs.Grouped.{fit_of, ties_of}
use Rattle.soundness.proofs.fit.Goals as goal

pub returns-then-blank : goal.returns-then-blank
returns-then-blank c =
    decides_via
    (fit_of (record { book_long = grind arith; keys_long = grind arith; texts_long = grind arith }) (grind arith) (grind arith) (grind arith))
    ties_of
    c.ties_fit.ensures
