-- A sound ledger keeps the duties apart, and a step of the source's kind leads from a sound ledger to a sound one. Assumes nothing.
use mathlib.Core.Path.{◌≡◌, ap, refl, sym}
use mathlib.Core.Bool.{◌&&◌, false}
use Rattle.history.specs.Steps.{Duties, StepsTo, exec}
use Rattle.machine.proofs.Keep.{sound_step}
use Rattle.machine.specs.Machine.{left}
use Rattle.machine.specs.Sound.{Sound, verdict}
use Rattle.machine.specs.Tests.{approved, rejected}
use Rattle.machine.specs.Types.{Approved, Change, Decision, Ledger, Rejected, Undecided}

pub duties : {L : Ledger} → Sound L → Duties L
duties s = record {
  approvals = λ h e. (s.judged.other h (ap verdict e)).0;
  rejections = λ h e. (s.judged.other h (ap verdict e)).0;
  one = λ {r = r} h. apart r.decision;
}
  where
    apart : (d : Decision) → (approved d && rejected d) ≡ false
    apart Undecided = refl
    apart (Approved j v) = refl
    apart (Rejected v) = refl

module _ {L : Ledger} {c : Change} {M : Ledger} where
  pub steps_exec : StepsTo L c M → M ≡ exec L c
  steps_exec h = sym (ap (left L) h.does)

  pub steps_sound : Sound L → StepsTo L c M → Sound M
  steps_sound s h = rw (steps_exec h) (sound_step L s c)
