-- A proof's record, told by its request's row, its agent's key and its approval. Assumes nothing.
use Rattle.std.specs.Prelude.{ℕ, get_or, List}
use Rattle.ids.specs.declared.RequestId.{RequestId}
use Rattle.machine.specs.Told.{account, id_of_registration}
use Rattle.records.specs.declared.Approval.{Approval}
use Rattle.records.specs.declared.ApprovalProof.{ApprovalProof}

-- its asked row, the agent's key, its approval
abbrev pub proof_told : RequestId → List ℕ → List ℕ → Approval → ApprovalProof
proof_told id asked agent approval = record {
  approval_index = approval.approval_index;
  request_id = id;
  agent_account_id = account (get_or asked 0 0);
  agent_key = agent;
  agent_registration_id = id_of_registration (get_or asked 1 0);
  requested_at = record { height = get_or asked 4 0; timestamp_ns = get_or asked 5 0 };
  approver_account_id = approval.approver_account_id;
  approver_key = approval.approver_key;
  approver_registration_id = approval.approver_registration_id;
  approved_at = approval.approved_at;
}
