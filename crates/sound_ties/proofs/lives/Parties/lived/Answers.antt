-- `sound_ties::lives::Parties::lived` meets its contract: the goals that the search leaves. Assumes nothing.
use Rattle.std.proofs.Common.{arith}
use Rattle.sound_ties.proofs.Agreed.{lived_own, lived_younger}
use Rattle.sound_ties.proofs.lives.Parties.lived.Goals.{in-Some+else-not-own_fits, in-None+else-loop-i-test}
use Rattle.sound_ties.proofs.lives.Parties.lived.Goals as goal

pub own_fits-requires : goal.own_fits-requires
own_fits-requires c = let key = c.requires.holder _ _ c.in-Some.is in (omega arith, key.0)

pub loop-n-preserved : goal.loop-n-preserved
loop-n-preserved c =
    elim c.match-place-row.branch [
      | in-Some+else-not-own_fits w ↦ lived_own c.loop-n.invariant c.requires w.in-Some.is (w.own_fits.ensures.yes w.if-not-own_fits.false)
      | in-None+else-loop-i-test w ↦ lived_younger c.loop-n.invariant c.requires w.in-None.is (λ i h. w.loop-i.invariant i (omega arith))
    ]
