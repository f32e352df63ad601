-- The reads (document 01, module 7; the source's `status_spec`, `approval_spec`, `approvals_spec`, reads.rs): none changes the ledger. Assumes nothing.
use Rattle.std.specs.Prelude.{◌+◌, ◌-◌, min, suc, ℕ, ltb, drop, length, take, Bool, ◌&&◌, false, true, List, [], ◌++◌, ◌∷◌}
use Rattle.std.specs.Prelude as Std
use Rattle.std.proofs.Math.ListN.{get_elem?}
use Rattle.std.proofs.Math.Option.{Option, none, some}
use Rattle.machine.specs.Plan.{Outcome, Plan, ◌>>=◌, ◌>>◌, done, found, outcome, refuse◌if◌}
use Rattle.machine.specs.Rooms.{largest, page_limit}
use Rattle.machine.specs.Tests.{Place, live, same}
use Rattle.machine.specs.Told.{Texted, proof_of}
use Rattle.machine.specs.Types.{Approved, Asked, Bytes, Decision, Ledger, Rejected, Request, Undecided}
use Rattle.records.specs.declared.ApprovalProof.{ApprovalProof}
use Rattle.records.specs.declared.BlockTime.{BlockTime}
use Rattle.records.specs.declared.PageEntry.{PageEntry}
use Rattle.records.specs.declared.ProofRevocations.{ProofRevocations}
use Rattle.records.specs.declared.refusal.Refusal.TheVariants.{PageRoom, RequestNotFound}
use Rattle.records.specs.declared.status.RequestStatus.{RequestStatus}
use Rattle.records.specs.declared.status.RequestStatus.TheVariants as Status

-- ---- 'Status: 11'
abbrev pub status_by : Option Place → Decision → RequestStatus
status_by (some f) Undecided = Status.Pending
status_by none Undecided = Status.Void
status_by f (Approved j v) = Status.Approved
status_by f (Rejected v) = Status.Rejected

abbrev pub read_status : Ledger → ℕ → Option Request → Plan RequestStatus
read_status L n o = do
  r ← found o RequestNotFound
  done (status_by (live L n r.asked) r.decision)

abbrev pub status : Ledger → ℕ → Outcome RequestStatus
status L n = outcome (read_status L n (get_elem? L.requests n))

-- whether request r, of number n, is one of key k's Pending requests
abbrev pub is_pending : RequestStatus → Bool
is_pending Status.Pending = true
is_pending Status.Approved = false
is_pending Status.Rejected = false
is_pending Status.Void = false

abbrev pub pending_under : Ledger → Bytes → ℕ → Request → Bool
pending_under L k n r = same r.asked.key k && is_pending (status_by (live L n r.asked) r.decision)

-- ---- 'Proof of a request: its record, or none'
abbrev pub proof_by : ℕ → Asked → Decision → Option (Texted ApprovalProof)
proof_by n a Undecided = none
proof_by n a (Approved j v) = some (proof_of n a j v)
proof_by n a (Rejected v) = none

abbrev pub proof_in : ℕ → Option Request → Option (Texted ApprovalProof)
proof_in n none = none
proof_in n (some r) = proof_by n r.asked r.decision

abbrev pub approval : Ledger → ℕ → Option (Texted ApprovalProof)
approval L n = proof_in n (get_elem? L.requests n)

-- ---- 'Revocation read: for each of two registration numbers a time or none'
abbrev pub revocation_by : Option (Option BlockTime) → Std.Option BlockTime
revocation_by none = Std.None
revocation_by (some none) = Std.None
revocation_by (some (some t)) = Std.Some t

abbrev pub revocation : Ledger → ℕ → Std.Option BlockTime
revocation L g = revocation_by (get_elem? L.revoked g)

abbrev pub revocations : Ledger → ℕ → ℕ → ProofRevocations
revocations L agent approver = record { agent = revocation L agent; approver = revocation L approver }

-- ---- the page: from `from` up to, not including, the least of the log's length and `from` plus the clipped limit, that sum stopping at the largest number
abbrev pub page_end : Ledger → ℕ → ℕ → ℕ
page_end L from limit = min (length L.log) (min (from + min limit page_limit) largest)

-- its slots' requests
abbrev pub page : Ledger → ℕ → ℕ → List ℕ
page L from limit = take (page_end L from limit - from) (drop from L.log)

-- slot j, which names request n: an entry's other fields are those of the request's proof; a slot without a proof is passed over, as the source does
abbrev pub entry : ℕ → ApprovalProof → PageEntry
entry j p = record {
  slot = j;
  request_id = p.request_id;
  agent_registration_id = p.agent_registration_id;
  approver_registration_id = p.approver_registration_id;
  requested_at = p.requested_at;
  approved_at = p.approved_at;
}

abbrev pub entry_by : ℕ → Option (Texted ApprovalProof) → List PageEntry
entry_by j none = []
entry_by j (some p) = entry j p.is ∷ []

abbrev pub entries_from : Ledger → ℕ → List ℕ → List PageEntry
entries_from L j [] = []
entries_from L j (n ∷ ns) = entry_by j (approval L n) ++ entries_from L (suc j) ns

abbrev pub entries : Ledger → ℕ → ℕ → List PageEntry
entries L from limit = entries_from L from (page L from limit)

-- 'Page: 21, where the lent row has fewer places than the page has entries'
abbrev pub page_into : Ledger → ℕ → ℕ → ℕ → Plan (List PageEntry)
page_into L from limit room = do
  refuse PageRoom if ltb room (length (entries L from limit))
  done (entries L from limit)
