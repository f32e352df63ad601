-- A status other than Pending is final: one change keeps it, and so does any run. Assumes nothing.
use mathlib.Core.Logic.{◌⊎◌, inl, inr}
use mathlib.Core.Path.{◌∙◌, ◌≡◌, ap, refl, sym}
use Prim.Native.Nat.{ℕ}
use borrow.Author.Tests.{not-true}
use lib.ListN.{get_elem?}
use mathlib.Core.Bool.{Bool, false, false≢true, not, true}
use mathlib.Core.List.{List, [], ◌∷◌}
use mathlib.Core.Option.{Option, none, some}
use Rattle.history.proofs.Grows.{advances_step, grows_step, still_there}
use Rattle.history.specs.Steps.{Grows, exec}
use Rattle.lists.proofs.Maps.{at_map}
use Rattle.lists.proofs.Places.{at_below}
use Rattle.lists.specs.Places.{At}
use Rattle.machine.proofs.Keep.{asked_of, sound_step}
use Rattle.machine.proofs.Live.{live_or_over, over}
use Rattle.machine.proofs.Look.{absent}
use Rattle.machine.specs.Machine.{run}
use Rattle.machine.specs.Plan.{Outcome, did, outcome}
use Rattle.machine.specs.Reads.{read_status, status, status_by}
use Rattle.machine.specs.Sound.{Sound}
use Rattle.machine.specs.Tests.{Place, asks, live, present, same}
use Rattle.machine.specs.Types.{Approved, Asked, Change, Decision, Ledger, Rejected, Request, Undecided}
use Rattle.records.specs.declared.BlockTime.{BlockTime}
use Rattle.records.specs.declared.status.RequestStatus.{RequestStatus}
use Rattle.records.specs.declared.status.RequestStatus.TheVariants as Status

abbrev pub settled : RequestStatus → Bool
settled Status.Pending = false
settled Status.Approved = true
settled Status.Rejected = true
settled Status.Void = true

-- a request that is not live stays so: the end of its registration stays
dead_still : {L M : Ledger} → Sound L → Sound M → Grows L M → {n : ℕ} {a : Asked} → At (asks L) n a → At (asks M) n a → live L n a ≡ none → live M n a ≡ none
dead_still {L} {M} s s' g {n} {a} ha hb dead = go (at_below L.revoked a.number (s.roll.known ha))
  where
    go : (o : Option BlockTime) × At L.revoked a.number o → live M n a ≡ none
    go (none, h) = let z : false ≡ true = ap over (sym h.is) ∙ live_or_over L s ha ∙ ap (λ (l : Option Place). not (present l)) dead in absurd (false≢true z)
    go (some t, h) = absent _ (not-true _ (sym (live_or_over M s' hb) ∙ ap over (g.revocations h).is))

-- what decides the status of a request, before a change and after it
status_still : (l m : Option Place) (d e : Decision) → (e ≡ d) ⊎ ((f : Place) × (d ≡ Undecided) × (l ≡ some f)) → (l ≡ none → m ≡ none)
    → settled (status_by l d) ≡ true → status_by m e ≡ status_by l d
status_still (some f) m Undecided e same dead closed = absurd (false≢true closed)
status_still none m Undecided e (inl same) dead closed = rw (same, dead refl)
status_still none m Undecided e (inr o) dead closed = cc
status_still l m (Approved j v) e (inl same) dead closed = rw same
status_still l m (Approved j v) e (inr o) dead closed = cc
status_still l m (Rejected v) e (inl same) dead closed = rw same
status_still l m (Rejected v) e (inr o) dead closed = cc

module _ (x : RequestStatus) (closed : settled x ≡ true) where
  pub final_step : (L : Ledger) → Sound L → (n : ℕ) → status L n ≡ did x → (c : Change) → status (exec L c) n ≡ did x
  final_step L s n e c = go (get_elem? L.requests n) refl e
    where
      go : (o : Option Request) → get_elem? L.requests n ≡ o → outcome (read_status L n o) ≡ did x → status (exec L c) n ≡ did x
      go none k e = cc
      go (some r) k e =
          let hr : At L.requests n r = record { is = k } in
          let g = grows_step L s c in
          let m = still_there g hr in
          let y = (advances_step L s c).requests.each hr m.1 in
          let was : status_by (live L n r.asked) r.decision ≡ x = cc in
          let dead = dead_still s (sound_step L s c) g (at_map asked_of hr) (rw y.asked at (at_map asked_of m.1)) in
          rw (m.1.is, y.asked) (ap {B = Outcome RequestStatus} did (status_still _ _ _ _ y.decision dead (ap settled was ∙ closed) ∙ was))

  pub final_run : (L : Ledger) → Sound L → (n : ℕ) → status L n ≡ did x → (cs : List Change) → status (run L cs) n ≡ did x
  final_run L s n e [] = e
  final_run L s n e (c ∷ cs) = final_run (exec L c) (sound_step L s c) n (final_step L s n e c) cs

pub approved_final : (L : Ledger) → Sound L → (n : ℕ) → status L n ≡ did Status.Approved → (cs : List Change) → status (run L cs) n ≡ did Status.Approved
approved_final = final_run Status.Approved refl

pub rejected_final : (L : Ledger) → Sound L → (n : ℕ) → status L n ≡ did Status.Rejected → (cs : List Change) → status (run L cs) n ≡ did Status.Rejected
rejected_final = final_run Status.Rejected refl

pub void_final : (L : Ledger) → Sound L → (n : ℕ) → status L n ≡ did Status.Void → (cs : List Change) → status (run L cs) n ≡ did Status.Void
void_final = final_run Status.Void refl
