-- How a fact about a change is shown: of a refusal, which leaves the ledger as it was, and of what its plan does. Assumes nothing.
use mathlib.Core.Path.{◌≡◌, refl, sym}
use mathlib.Core.Bool.{Bool, false, false≢true, true}
use Rattle.history.specs.Steps.{exec, ok}
use Rattle.machine.proofs.Plans.{gives}
use Rattle.machine.specs.Machine.{Did, Given, left, plan, step}
use Rattle.machine.specs.Plan.{Gives, Holds, Outcome, did, refused, was_done}
use Rattle.machine.specs.Types.{Change, Ledger}

module _ (L : Ledger) (c : Change) where
  -- Q may ask whether the change was accepted
  pub by_plan : (Q : Bool → Ledger → Type 0) → Q false L → Gives (λ (d : Did Given). Q true d.ledger) (plan L c) → Q (ok L c) (exec L c)
  by_plan Q still h = go (step L c) (gives (λ (d : Did Given). Q true d.ledger) (plan L c) h)
    where
      go : (o : Outcome (Did Given)) → Holds (λ (d : Did Given). Q true d.ledger) o → Q (was_done o) (left L o)
      go (refused e) h = still
      go (did d) h = h

  -- .. and of an accepted change alone
  pub if_ok : (P : Ledger → Type 0) → Gives (λ (d : Did Given). P d.ledger) (plan L c) → ok L c ≡ true → P (exec L c)
  if_ok P h = go (step L c) (gives (λ (d : Did Given). P d.ledger) (plan L c) h)
    where
      go : (o : Outcome (Did Given)) → Holds (λ (d : Did Given). P d.ledger) o → was_done o ≡ true → P (left L o)
      go (refused e) h k = absurd (false≢true k)
      go (did d) h k = h

  pub if_refused : ok L c ≡ false → exec L c ≡ L
  if_refused = go (step L c)
    where
      go : (o : Outcome (Did Given)) → was_done o ≡ false → left L o ≡ L
      go (refused e) k = refl
      go (did d) k = absurd (false≢true (sym k))
