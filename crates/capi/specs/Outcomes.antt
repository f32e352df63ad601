-- What an answer is for a host, case by case: document 01's refusal number and the number of an accepted line ('Refusal table', 'Command file'). For the entries' promises.
-- Assumes nothing.
use Rattle.std.specs.Prelude.{ℕ, List, [], ◌++◌, ◌∷◌, Option, Some, None, Result, Ok, Err}
use Rattle.answers.specs.Answers.{PageOut}
use Rattle.answers.specs.Texts.{Extent}
use Rattle.capi.specs.declared.outcomes.Outcome.{Outcome}
use Rattle.machine.specs.Types.{Bytes}
use Rattle.records.specs.Refusals.{refusal_number}
use Rattle.records.specs.declared.ActionRequest.{ActionRequest}
use Rattle.records.specs.declared.ApprovalProof.{ApprovalProof}
use Rattle.records.specs.declared.BlockTime.{BlockTime}
use Rattle.records.specs.declared.Principal.{Principal}
use Rattle.records.specs.declared.ProofRevocations.{ProofRevocations}
use Rattle.records.specs.declared.refusal.Refusal.{Refusal}
use Rattle.records.specs.declared.status.RequestStatus.{RequestStatus}
use Rattle.records.specs.declared.status.RequestStatus.TheVariants as Status

-- ---- refusal 0 is none; beside a refusal the number is 0
abbrev pub accepted : ℕ → Outcome
accepted n = record { refusal = 0; number = n }

abbrev pub refused_as : Refusal → Outcome
refused_as e = record { refusal = refusal_number e; number = 0 }

-- a role that is neither 0 nor 1: no refusal of the ledger, which knows no such role, and so none of its numbers
abbrev pub no_such_role : Outcome
no_such_role = record { refusal = 255; number = 0 }

-- ---- an answer by the number that is read off what was done
abbrev pub outcome_by : {A : Type 0} → (A → ℕ) → Result A Refusal → Outcome
outcome_by number (Ok a) = accepted (number a)
outcome_by number (Err e) = refused_as e

abbrev pub outcome_of : Result ℕ Refusal → Outcome
outcome_of a = outcome_by (λ n. n) a

-- opening has no number
abbrev pub opened_outcome : Result (Unit {0}) Refusal → Outcome
opened_outcome a = outcome_by (λ _. 0) a

-- ---- registration number; request number; approval index
abbrev pub registered_outcome : Result Principal Refusal → Outcome
registered_outcome a = outcome_by (λ p. p.registration_id.0) a

abbrev pub requested_outcome : Result ActionRequest Refusal → Outcome
requested_outcome a = outcome_by (λ r. r.id.0) a

abbrev pub proved_outcome : Result ApprovalProof Refusal → Outcome
proved_outcome a = outcome_by (λ p. p.approval_index) a

-- ---- a status by its place in the source's `RequestStatus`; a page's number of entries, beside its rows
abbrev pub status_number : RequestStatus → ℕ
status_number Status.Pending = 0
status_number Status.Approved = 1
status_number Status.Rejected = 2
status_number Status.Void = 3

abbrev pub status_outcome : Result RequestStatus Refusal → Outcome
status_outcome a = outcome_by status_number a

pub record PageTold : Type 0 where
  pub outcome : Outcome
  pub rows : List (List ℕ)

abbrev pub page_told : PageOut (List ℕ) → PageTold
page_told p = record { outcome = outcome_of p.answer; rows = p.rows }

-- ---- the proof of a request, if it has one, in twelve numbers and two keys: index, request, agent's account, registration and time, approver's, and where the text lies. Else they stay.
-- The number is 1 where there is a proof, and 0 where there is none.
pub record ProofTold : Type 0 where
  pub outcome : Outcome
  pub row : List ℕ
  pub agent : Bytes
  pub approver : Bytes

abbrev pub proof_row : ApprovalProof → Extent → List ℕ
proof_row p x =
    p.approval_index ∷ p.request_id.0
    ∷ p.agent_account_id.0 ∷ p.agent_registration_id.0 ∷ p.requested_at.height ∷ p.requested_at.timestamp_ns
    ∷ p.approver_account_id.0 ∷ p.approver_registration_id.0 ∷ p.approved_at.height ∷ p.approved_at.timestamp_ns
    ∷ x.start ∷ x.len ∷ []

abbrev pub proof_told : List ℕ → Bytes → Bytes → Extent → Result (Option ApprovalProof) Refusal → ProofTold
proof_told row a b x (Ok (Some p)) = record { outcome = accepted 1; row = proof_row p x; agent = p.agent_key; approver = p.approver_key }
proof_told row a b x (Ok None) = record { outcome = accepted 0; row = row; agent = a; approver = b }
proof_told row a b x (Err e) = record { outcome = refused_as e; row = row; agent = a; approver = b }

-- ---- for each of two registrations whether it was revoked, 1 or 0, and when; six numbers, which stay where the read is refused
pub record RowTold : Type 0 where
  pub outcome : Outcome
  pub row : List ℕ

abbrev pub ended_cells : Option BlockTime → List ℕ
ended_cells None = 0 ∷ 0 ∷ 0 ∷ []
ended_cells (Some t) = 1 ∷ t.height ∷ t.timestamp_ns ∷ []

abbrev pub revocations_told : List ℕ → Result ProofRevocations Refusal → RowTold
revocations_told row (Ok p) = record { outcome = accepted 0; row = ended_cells p.agent ++ ended_cells p.approver }
revocations_told row (Err e) = record { outcome = refused_as e; row = row }
