-- The machine: what opening and each change do to a ledger, or why a change is refused (document 01, modules 4 to 6, 'Refusal table'; the source's
-- `add_spec` to `reject_spec`). A plan's lines stand in document 01's order, first match wins. Refusal 20 is the tables' and stands above this. Assumes nothing.
use Rattle.std.specs.Prelude.{ℕ, suc, pred, ◌+◌, not, List, [], ◌∷◌, ◌++◌, length, set, leb, ltb, eqb}
use Rattle.std.proofs.Math.Option.{Option, none, some}
use Rattle.std.proofs.Math.ListN.{get_elem?}
use Rattle.records.specs.declared.BlockTime.{BlockTime}
use Rattle.records.specs.declared.Caller.{Caller}
use Rattle.records.specs.declared.role.Role.{Role}
use Rattle.records.specs.declared.role.Role.TheVariants.{Agent, Approver}
use Rattle.records.specs.declared.Principal.{Principal}
use Rattle.records.specs.declared.ActionRequest.{ActionRequest}
use Rattle.records.specs.declared.ApprovalProof.{ApprovalProof}
use Rattle.records.specs.declared.refusal.Refusal.TheVariants.{NotOwner, IndirectCall, UnknownKey, WrongRole, KeyAccountMismatch, KeyAlreadyRegistered}
use Rattle.records.specs.declared.refusal.Refusal.TheVariants.{KeyNotRegistered, EmptyAction, ActionTooLong, TooManyPending, RequestNotFound, AlreadyApproved}
use Rattle.records.specs.declared.refusal.Refusal.TheVariants.{AlreadyRejected, AgentRevoked, ActionMismatch, SelfApproval, LogFull, KeysFull, TextFull}
use Rattle.lists.specs.Places.{erase}
use Rattle.machine.specs.Types.{Bytes, Holder, Verdict, Decision, Undecided, Approved, Rejected, Asked, Request, Ledger}
use Rattle.machine.specs.Types.{Change, add, revoke, request, approve, reject}
use Rattle.machine.specs.Rooms.{key_room, registration_room, request_room, text_room, text_limit, pending_limit}
use Rattle.machine.specs.Plan.{Plan, done, ◌>>=◌, ◌>>◌, refuse◌if◌, found, Outcome, outcome, refused, did}
use Rattle.machine.specs.Tests.{same, same_role, present, Place, seek, asks, used, approved, rejected, live}
use Rattle.machine.specs.Told.{Texted, principal_of, request_of, proof_of}

abbrev pub opened : ℕ → Ledger
opened owner = record { owner = owner; keys = []; revoked = []; requests = []; log = [] }

-- a ledger with new columns: the one place that says what no change changes
abbrev pub changed : Ledger → List Holder → List (Option BlockTime) → List Request → List ℕ → Ledger
changed L keys revoked requests log = record { owner = L.owner; keys = keys; revoked = revoked; requests = requests; log = log }

-- an accepted change: the ledger after it, and the source's record that it gives
pub record Did (A : Type 0) : Type 0 where
  pub ledger : Ledger
  pub given : A

-- ---- what may refuse first
-- 'Authentication: 2, 3, 4, 5'
abbrev pub authenticate : Ledger → Caller → Role → Plan Place
authenticate L c role = do
  refuse IndirectCall if not (eqb c.predecessor.0 c.signer.0)
  f ← found (seek c.signer_key L.keys) UnknownKey
  refuse WrongRole if not (same_role f.is.reg.role role)
  refuse KeyAccountMismatch if not (eqb f.is.reg.account c.signer.0)
  done f

-- a request that may be decided, and the key that it is live under: 11, 12, 13, 14
pub record Candidate : Type 0 where
  pub req : Request
  pub agent : Place

abbrev pub decidable : Ledger → ℕ → Plan Candidate
decidable L n = do
  r ← found (get_elem? L.requests n) RequestNotFound
  refuse AlreadyApproved if approved r.decision
  refuse AlreadyRejected if rejected r.decision
  f ← found (live L n r.asked) AgentRevoked
  done (record { req = r; agent = f })

-- ---- add: 1, 6, 17, 18
abbrev pub newly : Ledger → Bytes → ℕ → Role → Holder
newly L key account role = record { reg = record { key = key; account = account; role = role; number = length L.revoked; active = length L.requests }; pending = 0 }

abbrev pub did_add : Ledger → Bytes → ℕ → Role → Did Principal
did_add L key account role =
    let p : Holder = newly L key account role in
    record { ledger = changed L (L.keys ++ p ∷ []) (L.revoked ++ none ∷ []) L.requests L.log; given = principal_of p }

abbrev pub add_to : Ledger → ℕ → Bytes → ℕ → Role → Plan (Did Principal)
add_to L caller key account role = do
  refuse NotOwner if not (eqb caller L.owner)
  refuse KeyAlreadyRegistered if present (seek key L.keys)
  refuse LogFull if leb registration_room (length L.revoked)
  refuse KeysFull if leb key_room (length L.keys)
  done (did_add L key account role)

-- ---- revoke: 1, 7
abbrev pub did_revoke : Ledger → Place → BlockTime → Did Principal
did_revoke L f now =
    record { ledger = changed L (erase L.keys f.at) (set L.revoked f.is.reg.number (some now)) L.requests L.log; given = principal_of f.is }

abbrev pub revoke_in : Ledger → ℕ → Bytes → BlockTime → Plan (Did Principal)
revoke_in L caller key now = do
  refuse NotOwner if not (eqb caller L.owner)
  f ← found (seek key L.keys) KeyNotRegistered
  done (did_revoke L f now)

-- ---- request: authentication, 8, 9, 10, 17, 19
abbrev pub with_pending : Place → ℕ → List Holder → List Holder
with_pending f n ks = set ks f.at (record { reg = f.is.reg; pending = n })

abbrev pub asked_by : Caller → Place → Bytes → BlockTime → Asked
asked_by c f text now = record { key = c.signer_key; account = c.signer.0; number = f.is.reg.number; text = text; time = now }

abbrev pub did_request : Ledger → Caller → Place → Bytes → BlockTime → Did (Texted ActionRequest)
did_request L c f text now =
    let a : Asked = asked_by c f text now in
    record {
      ledger = changed L (with_pending f (suc f.is.pending) L.keys) L.revoked (L.requests ++ record { asked = a; decision = Undecided } ∷ []) L.log;
      given = request_of (length L.requests) a Undecided;
    }

abbrev pub request_in : Ledger → Caller → Bytes → BlockTime → Plan (Did (Texted ActionRequest))
request_in L c text now = do
  f ← authenticate L c Agent
  refuse EmptyAction if eqb (length text) 0
  refuse ActionTooLong if ltb text_limit (length text)
  refuse TooManyPending if leb pending_limit f.is.pending
  refuse LogFull if leb request_room (length L.requests)
  refuse TextFull if ltb text_room (used (asks L) + length text)
  done (did_request L c f text now)

-- ---- approve: authentication, 11, 12, 13, 14, 15, 16; reject: the same without 15
-- request n is decided by d, and the log becomes `log`
abbrev pub decided : Ledger → ℕ → Candidate → Decision → List ℕ → Ledger
decided L n x d log =
    changed L (with_pending x.agent (pred x.agent.is.pending) L.keys) L.revoked (set L.requests n (record { asked = x.req.asked; decision = d })) log

abbrev pub verdict_of : Caller → Place → BlockTime → Verdict
verdict_of c b now = record { key = c.signer_key; account = c.signer.0; number = b.is.reg.number; time = now }

abbrev pub did_approve : Ledger → Caller → Place → ℕ → Candidate → BlockTime → Did (Texted ApprovalProof)
did_approve L c b n x now =
    let j : ℕ = length L.log in
    let v : Verdict = verdict_of c b now in
    record { ledger = decided L n x (Approved j v) (L.log ++ n ∷ []); given = proof_of n x.req.asked j v }

abbrev pub approve_in : Ledger → Caller → ℕ → Bytes → BlockTime → Plan (Did (Texted ApprovalProof))
approve_in L c n text now = do
  b ← authenticate L c Approver
  x ← decidable L n
  refuse ActionMismatch if not (same x.req.asked.text text)
  refuse SelfApproval if eqb c.signer.0 x.req.asked.account
  done (did_approve L c b n x now)

abbrev pub did_reject : Ledger → Caller → Place → ℕ → Candidate → BlockTime → Did (Texted ActionRequest)
did_reject L c b n x now =
    let d : Decision = Rejected (verdict_of c b now) in
    record { ledger = decided L n x d L.log; given = request_of n x.req.asked d }

abbrev pub reject_in : Ledger → Caller → ℕ → BlockTime → Plan (Did (Texted ActionRequest))
reject_in L c n now = do
  b ← authenticate L c Approver
  y ← decidable L n
  refuse SelfApproval if eqb c.signer.0 y.req.asked.account
  done (did_reject L c b n y now)

-- ---- any change
pub data Given : Type 0 where
  principal : Principal → Given
  action : Texted ActionRequest → Given
  proof : Texted ApprovalProof → Given

-- the number by which an accepted change is told: a registration's, a request's, or an approval's index
abbrev pub told_by : Given → ℕ
told_by (principal p) = p.registration_id.0
told_by (action r) = r.is.id.0
told_by (proof p) = p.is.approval_index

abbrev pub giving : {A : Type 0} → (A → Given) → Did A → Plan (Did Given)
giving f d = done (record { ledger = d.ledger; given = f d.given })

abbrev pub plan : Ledger → Change → Plan (Did Given)
plan L (add caller key account role) = add_to L caller key account role >>= giving principal
plan L (revoke caller key now) = revoke_in L caller key now >>= giving principal
plan L (request c text now) = request_in L c text now >>= giving action
plan L (approve c n text now) = approve_in L c n text now >>= giving proof
plan L (reject c n now) = reject_in L c n now >>= giving action

abbrev pub step : Ledger → Change → Outcome (Did Given)
step L c = outcome (plan L c)

-- a refused change leaves the ledger as it was
abbrev pub left : {A : Type 0} → Ledger → Outcome (Did A) → Ledger
left L (refused e) = L
left L (did d) = d.ledger

abbrev pub run : Ledger → List Change → Ledger
run L [] = L
run L (c ∷ cs) = run (left L (step L c)) cs
