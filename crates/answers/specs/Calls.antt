-- The public calls, each as `Call`: its answer for unsound tables, its answer for a sound ledger, and the ledger after it. Assumes nothing.
use Rattle.std.specs.Prelude.{ℕ, length, List, Option, Result, Ok, Err}
use Rattle.answers.specs.Answers.{PageOut, page_in, paged, proved, registered, requested, shown, status_answer}
use Rattle.answers.specs.Does.{Call}
use Rattle.answers.specs.declared.Page.{Page}
use Rattle.ids.specs.declared.Account.{Account}
use Rattle.ids.specs.declared.RegistrationId.{RegistrationId}
use Rattle.ids.specs.declared.RequestId.{RequestId}
use Rattle.machine.specs.Machine.{Did, add_to, approve_in, left, plan, reject_in, request_in, revoke_in}
use Rattle.machine.specs.Plan.{Outcome, Plan, outcome, refused}
use Rattle.machine.specs.Reads.{approval, page_into, revocations, status}
use Rattle.machine.specs.Rooms.{page_limit}
use Rattle.machine.specs.Types.{Bytes, Ledger}
use Rattle.records.specs.declared.ActionRequest.{ActionRequest}
use Rattle.records.specs.declared.ApprovalProof.{ApprovalProof}
use Rattle.records.specs.declared.BlockTime.{BlockTime}
use Rattle.records.specs.declared.Caller.{Caller}
use Rattle.records.specs.declared.PageEntry.{PageEntry}
use Rattle.records.specs.declared.Principal.{Principal}
use Rattle.records.specs.declared.ProofRevocations.{ProofRevocations}
use Rattle.records.specs.declared.role.Role.{Role}
use Rattle.records.specs.declared.refusal.Refusal.{Refusal}
use Rattle.records.specs.declared.status.RequestStatus.{RequestStatus}
use Rattle.records.specs.declared.refusal.Refusal.TheVariants.{Damaged}

-- a change: the ledger after it is the machine's, and a refusal leaves it as it was
abbrev pub change_call : {A B : Type 0} → (Outcome (Did A) → B) → (Ledger → Plan (Did A)) → Call B
change_call tell plan = record { bad = tell (refused Damaged); answer = λ L. tell (outcome (plan L)); after = λ L. left L (outcome (plan L)) }

-- a read leaves the ledger as it is
abbrev pub read_call : {A : Type 0} → A → (Ledger → A) → Call A
read_call bad answer = record { bad = bad; answer = answer; after = λ L. L }

-- ---- the five changes
unfoldable pub add_call : Account → Bytes → Account → Role → Call (Result Principal Refusal)
add_call caller key account role = change_call registered (λ L. add_to L caller.0 key account.0 role)

unfoldable pub revoke_call : Account → Bytes → BlockTime → Call (Result Principal Refusal)
revoke_call caller key now = change_call registered (λ L. revoke_in L caller.0 key now)

unfoldable pub request_call : Caller → Bytes → BlockTime → Call (Result ActionRequest Refusal)
request_call c text now = change_call requested (λ L. request_in L c text now)

unfoldable pub approve_call : Caller → RequestId → Bytes → BlockTime → Call (Result ApprovalProof Refusal)
approve_call c n text now = change_call proved (λ L. approve_in L c n.0 text now)

unfoldable pub reject_call : Caller → RequestId → BlockTime → Call (Result ActionRequest Refusal)
reject_call c n now = change_call requested (λ L. reject_in L c n.0 now)

-- ---- the reads
unfoldable pub status_call : RequestId → Call (Result RequestStatus Refusal)
status_call n = read_call (Err Damaged) (λ L. status_answer (status L n.0))

unfoldable pub approval_call : RequestId → Call (Result (Option ApprovalProof) Refusal)
approval_call n = read_call (Err Damaged) (λ L. shown (approval L n.0))

unfoldable pub revocations_call : RegistrationId → RegistrationId → Call (Result ProofRevocations Refusal)
revocations_call agent approver = read_call (Err Damaged) (λ L. Ok (revocations L agent.0 approver.0))

-- the lent row as it was at entry
unfoldable pub page_call : {A : Type 0} → (PageEntry → A) → List A → ℕ → ℕ → Call (PageOut A)
page_call f rows from limit = read_call (record { answer = Err Damaged; rows = rows }) (λ L. paged f rows (outcome (page_into L from limit (length rows))))

-- the page in a record of its own
unfoldable pub page_in_call : ℕ → ℕ → Call (Result Page Refusal)
page_in_call from limit = read_call (Err Damaged) (λ L. page_in (outcome (page_into L from limit page_limit)))
