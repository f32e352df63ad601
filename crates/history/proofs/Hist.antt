-- What one change may do to a sound ledger: every property of the source's `hist`. Assumes nothing.
use mathlib.Core.Path.{◌≡◌, refl}
use Prim.Native.Nat.{◌+◌, ℕ}
use borrow.Author.Tests.{eqb-true, not-false}
use lib.ListN.{get_elem?, length, length-set, set}
use mathlib.Core.Bool.{Bool, ◌&&◌, true}
use mathlib.Core.List.{[], ◌++◌, ◌∷◌}
use mathlib.Core.Option.{Option, none, some}
use native.Mathlib.Omega.{arith}
use Rattle.history.proofs.Exec.{by_plan, if_ok, if_refused}
use Rattle.history.proofs.Final.{final_step}
use Rattle.history.proofs.Grows.{grows_step, still_there}
use Rattle.history.specs.Steps.{Ended, Grows, Hist, Managed, exec, is_add, is_approve, is_request, ok, same_reg}
use Rattle.lists.proofs.Maps.{at_map}
use Rattle.lists.proofs.Places.{at_one, length_snoc}
use Rattle.lists.specs.Places.{At}
use Rattle.lists.specs.Tallies.{bit}
use Rattle.machine.proofs.Keep.{reg_of, regs_kept}
use Rattle.machine.proofs.Look.{lives, seen}
use Rattle.machine.specs.Examples.{key}
use Rattle.machine.specs.Machine.{Did, Given, asked_by, plan, verdict_of}
use Rattle.machine.specs.Plan.{Gives}
use Rattle.machine.specs.Reads.{approval, proof_by, proof_in}
use Rattle.machine.specs.Sound.{Sound}
use Rattle.machine.specs.Tests.{Place, live, regs, seek}
use Rattle.machine.specs.Told.{Texted}
use Rattle.machine.specs.Types.{Approved, Asked, Change, Decision, Holder, Ledger, Rejected, Request, Undecided, add, approve, reject, request, revoke}
use Rattle.records.specs.declared.ApprovalProof.{ApprovalProof}
use Rattle.records.specs.declared.status.RequestStatus.TheVariants as Status

-- HIST-4 and the count of HIST-10: how long each column is, if the change was accepted (b) or not
record Lengths (L : Ledger) (c : Change) (b : Bool) (M : Ledger) : Type 0 where
  requests : length M.requests ≡ length L.requests + bit (b && is_request c)
  log : length M.log ≡ length L.log + bit (b && is_approve c)
  made : length M.revoked ≡ length L.revoked + bit (b && is_add c)

module _ (L : Ledger) where
  lengths_plan : (c : Change) → Gives (λ (d : Did Given). Lengths L c true d.ledger) (plan L c)
  lengths_plan (add caller key account role) = λ owner fresh room space. omega (arith, length_snoc L.revoked none)
  lengths_plan (revoke caller key now) = λ owner f there. omega (arith, length-set L.revoked f.is.reg.number (some now))
  lengths_plan (request c text now) = λ direct f there role account some_text short few room fits.
      omega (arith, length_snoc L.requests (record { asked = asked_by c f text now; decision = Undecided }))
  lengths_plan (approve c n text now) = λ direct b there role account r is_request not_approved not-rejected f is_live same_text not-self.
      omega (arith, length_snoc L.log n, length-set L.requests n (record { asked = r.asked; decision = Approved (length L.log) (verdict_of c b now) }))
  lengths_plan (reject c n now) = λ direct b there role account r is_request not_approved not-rejected f is_live not-self.
      omega (arith, length-set L.requests n (record { asked = r.asked; decision = Rejected (verdict_of c b now) }))

  lengths : (c : Change) → Lengths L c (ok L c) (exec L c)
  lengths c = by_plan L c (Lengths L c) (omega arith) (lengths_plan c)

  -- HIST-6 and HIST-10 of a change that is not the owner's
  abbrev Aside : Ledger → Type 0
  Aside M = (regs M ≡ regs L) × (M.revoked ≡ L.revoked)

  live_here : (n : ℕ) (a : Asked) {f : Place} → live L n a ≡ some f → At L.keys f.at f.is
  live_here n a is_live = (seen a.key L.keys (lives n a _ is_live).0).here

  keyring : Sound L → (c : Change) → Managed L c (exec L c) × Ended L c (exec L c)
  keyring s (add caller key account role) =
      let h = if_ok L (add caller key account role) (λ M. (caller ≡ L.owner) × (M.revoked ≡ L.revoked ++ none ∷ []))
      (λ owner fresh room space. (eqb-true caller L.owner (not-false _ owner), refl)) in
      ((λ k. (h k).0), (λ k. (h k).1))
  keyring s (revoke caller key now) =
      let h = if_ok L (revoke caller key now) (λ M. (caller ≡ L.owner) × ((f : Place) × (seek key L.keys ≡ some f) × At L.revoked f.is.reg.number none × (M.revoked ≡ set L.revoked f.is.reg.number (some now))))
      (λ owner f there. (eqb-true caller L.owner (not-false _ owner), (f, there, s.roll.in_force (at_map reg_of (seen key L.keys there).here), refl))) in
      ((λ k. (h k).0), (λ k. (h k).1))
  keyring s (request c text now) = by_plan L (request c text now) (λ _ M. Aside M) (refl, refl) (λ direct f there role account some_text short few room fits.
      (regs_kept f _ L.keys (seen c.signer_key L.keys there).here, refl))
  keyring s (approve c n text now) = by_plan L (approve c n text now) (λ _ M. Aside M) (refl, refl) (λ direct b there role account r is_request not_approved not-rejected f is_live same_text not-self.
      (regs_kept f _ L.keys (live_here n r.asked is_live), refl))
  keyring s (reject c n now) = by_plan L (reject c n now) (λ _ M. Aside M) (refl, refl) (λ direct b there role account r is_request not_approved not-rejected f is_live not-self.
      (regs_kept f _ L.keys (live_here n r.asked is_live), refl))

-- HIST-6 in the source's words: of a registered key all but its pending count is kept
pub reg_kept : (L M : Ledger) → regs M ≡ regs L → {i : ℕ} {p q : Holder} → At L.keys i p → At M.keys i q → same_reg p q
reg_kept L M e hp hq = at_one (rw e at (at_map reg_of hq)) (at_map reg_of hp) refl

-- HIST-5: a proof given is given again, to the last field
pub proof_kept : {L M : Ledger} → Grows L M → (n : ℕ) (p : Texted ApprovalProof) → approval L n ≡ some p → approval M n ≡ some p
proof_kept {L} {M} g n p e = go (get_elem? L.requests n) refl e
  where
    by_decision : (r q : Request) → At L.requests n r → At M.requests n q → (d : Decision) → r.decision ≡ d → proof_by n r.asked d ≡ some p → proof_by n q.asked q.decision ≡ some p
    by_decision r q hr hq Undecided k e = cc
    by_decision r q hr hq (Approved j v) k e = rw (g.content hr hq, g.approvals hr hq k) e
    by_decision r q hr hq (Rejected v) k e = cc

    go : (o : Option Request) → get_elem? L.requests n ≡ o → proof_in n o ≡ some p → approval M n ≡ some p
    go none k e = cc
    go (some r) k e =
        let hr : At L.requests n r = record { is = k } in
        let m = still_there g hr in
        rw m.1.is (by_decision r m.0 hr m.1 r.decision refl e)

pub hist : (L : Ledger) → Sound L → (c : Change) → Hist L c (exec L c)
hist L s c =
    let g = grows_step L s c in
    let l = lengths L c in
    let k = keyring L s c in
    record {
      hist_1_2_3 = g;
      hist_4_requests = l.requests;
      hist_4_log = l.log;
      hist_5 = proof_kept g;
      hist_6_refused = if_refused L c;
      hist_6_managed = k.0;
      hist_8 = λ n e. final_step Status.Void refl L s n e c;
      hist_9 = λ n e. final_step Status.Rejected refl L s n e c;
      hist_10_made = l.made;
      hist_10_ended = k.1;
    }
