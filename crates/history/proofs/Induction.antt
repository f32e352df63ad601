-- One induction for every fact about a history: what each accepted change keeps, a run's accepted changes have. Assumes nothing.
use Prim.Native.Nat.{ℕ}
use mathlib.Core.List.{List, [], ◌++◌, ◌∷◌, append_assoc, append-nil}
use Rattle.history.specs.History.{accepted, if_accepted}
use Rattle.machine.proofs.Keep.{sound_opened, sound_step}
use Rattle.machine.proofs.Plans.{gives}
use Rattle.machine.specs.Machine.{Did, Given, left, opened, plan, run, step}
use Rattle.machine.specs.Plan.{Gives, Holds, Outcome, did, refused}
use Rattle.machine.specs.Sound.{Sound}
use Rattle.machine.specs.Types.{Change, Ledger}

module _ (I : List Change → Ledger → Type 0) (keeps : (h : List Change) (L : Ledger) → Sound L → I h L → (c : Change) → Gives (λ (d : Did Given). I (h ++ c ∷ []) d.ledger) (plan L c)) where
  pub replay : (h : List Change) (L : Ledger) → Sound L → I h L → (cs : List Change) → I (h ++ accepted L cs) (run L cs)
  replay h L s t [] = rw append-nil t
  replay h L s t (c ∷ cs) =
      go (step L c) (sound_step L s c) (gives (λ (d : Did Given). I (h ++ c ∷ []) d.ledger) (plan L c) (keeps h L s t c)) (λ h' L' s' t'. replay h' L' s' t' cs)
    where
      go : (o : Outcome (Did Given)) → Sound (left L o) → Holds (λ (d : Did Given). I (h ++ c ∷ []) d.ledger) o
          → ((h' : List Change) (L' : Ledger) → Sound L' → I h' L' → I (h' ++ accepted L' cs) (run L' cs))
          → I (h ++ (if_accepted c o ++ accepted (left L o) cs)) (run (left L o) cs)
      go (refused e) sound told ih = ih h L s t
      go (did d) sound told ih = rw append_assoc at (ih (h ++ c ∷ []) d.ledger sound told)

  -- .. from an opened ledger
  pub from_opened : (owner : ℕ) → I [] (opened owner) → (cs : List Change) → I (accepted (opened owner) cs) (run (opened owner) cs)
  from_opened owner t cs = replay [] (opened owner) (sound_opened owner) t cs
