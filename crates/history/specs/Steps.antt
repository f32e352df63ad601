-- What one change may do, and what survives any number of them: the statements of inv.rs and hist.rs, over this machine (document 01, module 8).
-- The source's `Op` is `Change`, its `op_spec` is `step`; `full_inv`, which it names and does not show, is `Sound`. Assumes nothing.
use Rattle.std.specs.Prelude.{◌≢◌, ◌≡◌, ◌+◌, ◌-◌, ◌≤◌, ℕ, length, set, Bool, ◌&&◌, cond, false, true, List, [], ◌++◌, ◌∷◌}
use Rattle.std.proofs.Math.Option.{Option, none, some}
use Rattle.lists.specs.Places.{At}
use Rattle.lists.specs.Tallies.{bit}
use Rattle.machine.specs.Examples.{key}
use Rattle.machine.specs.Machine.{Given, left, step}
use Rattle.machine.specs.Plan.{did, was_done}
use Rattle.machine.specs.Reads.{approval, status}
use Rattle.machine.specs.Rooms.{pending_limit}
use Rattle.machine.specs.Sound.{verdict}
use Rattle.machine.specs.Tests.{Place, approved, regs, rejected, same_role, seek}
use Rattle.machine.specs.Told.{Texted}
use Rattle.machine.specs.Types.{Approved, Bytes, Change, Holder, Ledger, Rejected, Request, Verdict, add, approve, reject, request, revoke}
use Rattle.records.specs.declared.ApprovalProof.{ApprovalProof}
use Rattle.records.specs.declared.BlockTime.{BlockTime}
use Rattle.records.specs.declared.role.Role.TheVariants.{Agent}
use Rattle.records.specs.declared.status.RequestStatus.TheVariants as Status

-- ---- inv.rs
-- the source's `ok` and `exec`, which it uses and does not show
abbrev pub ok : Ledger → Change → Bool
ok L c = was_done (step L c)

abbrev pub exec : Ledger → Change → Ledger
exec L c = left L (step L c)

-- `steps_to`
pub record StepsTo (L : Ledger) (c : Change) (M : Ledger) : Type 0 where
  pub given : Given
  pub does : step L c ≡ did (record { ledger = M; given = given })

-- `duties`: no decision by the agent's account, and no request approved and rejected
pub record Duties (L : Ledger) : Type 0 where
  pub approvals : {n j : ℕ} {r : Request} {v : Verdict} → At L.requests n r → r.decision ≡ Approved j v → v.account ≢ r.asked.account
  pub rejections : {n : ℕ} {r : Request} {v : Verdict} → At L.requests n r → r.decision ≡ Rejected v → v.account ≢ r.asked.account
  pub one : {n : ℕ} {r : Request} → At L.requests n r → (approved r.decision && rejected r.decision) ≡ false

-- ---- hist.rs
-- `same_content` (a request's id is its place) and `same_reg`
abbrev pub same_content : Request → Request → Type 0
same_content r q = q.asked ≡ r.asked

abbrev pub same_reg : Holder → Holder → Type 0
same_reg p q = q.reg ≡ p.reg

-- `grows`, clause by clause in its order: HIST-1, HIST-1, HIST-2, HIST-2, HIST-3, HIST-3, HIST-6, HIST-10, HIST-10
pub record Grows (L M : Ledger) : Type 0 where
  pub longer : length L.requests ≤ length M.requests
  pub content : {n : ℕ} {r q : Request} → At L.requests n r → At M.requests n q → same_content r q
  pub approvals : {n j : ℕ} {r q : Request} {v : Verdict} → At L.requests n r → At M.requests n q → r.decision ≡ Approved j v → q.decision ≡ Approved j v
  pub rejections : {n : ℕ} {r q : Request} {v : Verdict} → At L.requests n r → At M.requests n q → r.decision ≡ Rejected v → q.decision ≡ Rejected v
  pub log_longer : length L.log ≤ length M.log
  pub log_kept : {j n : ℕ} → At L.log j n → At M.log j n
  pub owner : M.owner ≡ L.owner
  pub registrations : length L.revoked ≤ length M.revoked
  pub revocations : {g : ℕ} {t : BlockTime} → At L.revoked g (some t) → At M.revoked g (some t)

-- which change it is
abbrev pub is_add : Change → Bool
is_add (add caller key account role) = true
is_add (revoke caller key now) = false
is_add (request c text now) = false
is_add (approve c n text now) = false
is_add (reject c n now) = false

abbrev pub is_request : Change → Bool
is_request (add caller key account role) = false
is_request (revoke caller key now) = false
is_request (request c text now) = true
is_request (approve c n text now) = false
is_request (reject c n now) = false

abbrev pub is_approve : Change → Bool
is_approve (add caller key account role) = false
is_approve (revoke caller key now) = false
is_approve (request c text now) = false
is_approve (approve c n text now) = true
is_approve (reject c n now) = false

-- HIST-6: only the owner adds and revokes; any other change leaves the registered keys, and all of each but its pending count
abbrev pub Managed : Ledger → Change → Ledger → Type 0
Managed L (add caller key account role) M = ok L (add caller key account role) ≡ true → caller ≡ L.owner
Managed L (revoke caller key now) M = ok L (revoke caller key now) ≡ true → caller ≡ L.owner
Managed L (request c text now) M = regs M ≡ regs L
Managed L (approve c n text now) M = regs M ≡ regs L
Managed L (reject c n now) M = regs M ≡ regs L

-- HIST-10: an accepted revoke ends a registration that was not ended, and that one alone; any other change ends none. (An add makes room for one more.)
abbrev pub Ended : Ledger → Change → Ledger → Type 0
Ended L (add caller key account role) M = ok L (add caller key account role) ≡ true → M.revoked ≡ L.revoked ++ none ∷ []
Ended L (revoke caller key now) M =
    ok L (revoke caller key now) ≡ true
    → (f : Place) × (seek key L.keys ≡ some f) × At L.revoked f.is.reg.number none × (M.revoked ≡ set L.revoked f.is.reg.number (some now))
Ended L (request c text now) M = M.revoked ≡ L.revoked
Ended L (approve c n text now) M = M.revoked ≡ L.revoked
Ended L (reject c n now) M = M.revoked ≡ L.revoked

-- `hist`, each property by its name there
pub record Hist (L : Ledger) (c : Change) (M : Ledger) : Type 0 where
  pub hist_1_2_3 : Grows L M
  pub hist_4_requests : length M.requests ≡ length L.requests + bit (ok L c && is_request c)
  pub hist_4_log : length M.log ≡ length L.log + bit (ok L c && is_approve c)
  pub hist_5 : (n : ℕ) (p : Texted ApprovalProof) → approval L n ≡ some p → approval M n ≡ some p
  pub hist_6_refused : ok L c ≡ false → M ≡ L
  pub hist_6_managed : Managed L c M
  pub hist_8 : (n : ℕ) → status L n ≡ did Status.Void → status M n ≡ did Status.Void
  pub hist_9 : (n : ℕ) → status L n ≡ did Status.Rejected → status M n ≡ did Status.Rejected
  pub hist_10_made : length M.revoked ≡ length L.revoked + bit (ok L c && is_add c)
  pub hist_10_ended : Ended L c M

-- ---- time, under ASM-TIME: the times of successive calls never decrease
-- `tle`
pub record Tle (a b : BlockTime) : Type 0 where
  pub height : a.height ≤ b.height
  pub timestamp : a.timestamp_ns ≤ b.timestamp_ns

-- `op_now`: an add takes no time
abbrev pub op_now : Change → BlockTime → BlockTime
op_now (add caller key account role) t = t
op_now (revoke caller key now) t = now
op_now (request c text now) t = now
op_now (approve c n text now) t = now
op_now (reject c n now) t = now

-- `clock`: every time recorded of a request is at most t
pub record Clock (L : Ledger) (t : BlockTime) : Type 0 where
  pub asked : {n : ℕ} {r : Request} → At L.requests n r → Tle r.asked.time t
  pub decided : {n : ℕ} {r : Request} {v : Verdict} → At L.requests n r → verdict r.decision ≡ some v → Tle v.time t

-- `inv10`: no decision is earlier than its request
pub record Inv10 (L : Ledger) : Type 0 where
  pub later : {n : ℕ} {r : Request} {v : Verdict} → At L.requests n r → verdict r.decision ≡ some v → Tle r.asked.time v.time

-- `approved_at`: when log slot j was filled; `tr4`: these never decrease along the log
pub record ApprovedAt (L : Ledger) (j : ℕ) (t : BlockTime) : Type 0 where
  pub request : ℕ
  pub record_of : Request
  pub by_whom : Verdict
  pub slot : At L.log j request
  pub there : At L.requests request record_of
  pub decision : record_of.decision ≡ Approved j by_whom
  pub time : by_whom.time ≡ t

pub record Tr4 (L : Ledger) : Type 0 where
  pub rising : {i j : ℕ} {a b : BlockTime} → i ≤ j → ApprovedAt L i a → ApprovedAt L j b → Tle a b

-- `timed`
pub record Timed (L : Ledger) (t : BlockTime) : Type 0 where
  pub clock : Clock L t
  pub inv10 : Inv10 L
  pub tr4 : Tr4 L

-- ASM-TIME of a list of changes, from time t on
abbrev pub Rising : BlockTime → List Change → Type 0
Rising t [] = Unit {0}
Rising t (c ∷ cs) = Tle t (op_now c t) × Rising (op_now c t) cs

abbrev pub last_now : BlockTime → List Change → BlockTime
last_now t [] = t
last_now t (c ∷ cs) = last_now (op_now c t) cs

-- ---- `phi`: a registered Agent key's share of what may still be asked before somebody decides; 0 for any other key
abbrev pub phi_of : Option Place → ℕ
phi_of none = 0
phi_of (some f) = cond (same_role f.is.reg.role Agent) (pending_limit - f.is.pending) 0

abbrev pub phi : Ledger → Bytes → ℕ
phi L k = phi_of (seek k L.keys)
