-- The source's records, as the ledger's parts tell them (document 01, module 2: texts stand beside their records). Assumes nothing.
use Rattle.std.specs.Prelude.{ℕ, replicate, Option, Some, None}
use Rattle.ids.specs.declared.Account.{Account}
use Rattle.ids.specs.declared.RequestId.{RequestId}
use Rattle.ids.specs.declared.RegistrationId.{RegistrationId}
use Rattle.records.specs.declared.BlockTime.{BlockTime}
use Rattle.records.specs.declared.Principal.{Principal}
use Rattle.records.specs.declared.Approval.{Approval}
use Rattle.records.specs.declared.Rejection.{Rejection}
use Rattle.records.specs.declared.Decision.{Decision as Made}
use Rattle.records.specs.declared.Decision.TheVariants as Made
use Rattle.records.specs.declared.ActionRequest.{ActionRequest}
use Rattle.records.specs.declared.ApprovalProof.{ApprovalProof}
use Rattle.machine.specs.Types.{Bytes, Holder, Verdict, Decision, Undecided, Approved, Rejected, Asked}

-- a record, and the text that belongs to it
pub record Texted (A : Type 0) : Type 0 where
  pub is : A
  pub text : Bytes

abbrev pub account : ℕ → Account
account n = record { 0 = n }

abbrev pub id_of_request : ℕ → RequestId
id_of_request n = record { 0 = n }

abbrev pub id_of_registration : ℕ → RegistrationId
id_of_registration n = record { 0 = n }

abbrev pub principal_of : Holder → Principal
principal_of p = record {
  account_id = account p.reg.account;
  role = p.reg.role;
  registration_id = id_of_registration p.reg.number;
  active_from = id_of_request p.reg.active;
  pending = p.pending;
}

-- ---- a request and its decision
abbrev pub no_time : BlockTime
no_time = record { height = 0; timestamp_ns = 0 }

abbrev pub no_verdict : Verdict
no_verdict = record { key = replicate 32 0; account = 0; number = 0; time = no_time }

abbrev pub approval_by : ℕ → Verdict → Approval
approval_by j v = record {
  approval_index = j;
  approver_account_id = account v.account;
  approver_key = v.key;
  approver_registration_id = id_of_registration v.number;
  approved_at = v.time;
}

abbrev pub rejection_by : Verdict → Rejection
rejection_by v = record {
  approver_account_id = account v.account;
  approver_key = v.key;
  approver_registration_id = id_of_registration v.number;
  rejected_at = v.time;
}

-- the one decision, if there is one
abbrev pub made : Decision → Option Made
made Undecided = None
made (Approved j v) = Some (Made.Approved (approval_by j v))
made (Rejected v) = Some (Made.Rejected (rejection_by v))

-- request n
abbrev pub request_of : ℕ → Asked → Decision → Texted ActionRequest
request_of n a d = record {
  is = record {
    id = id_of_request n;
    agent_account_id = account a.account;
    agent_key = a.key;
    agent_registration_id = id_of_registration a.number;
    requested_at = a.time;
    decision = made d;
  };
  text = a.text;
}

-- ---- the proof of request n, approved with index j (the source's `proof_for_spec`)
abbrev pub proof_of : ℕ → Asked → ℕ → Verdict → Texted ApprovalProof
proof_of n a j v = record {
  is = record {
    approval_index = j;
    request_id = id_of_request n;
    agent_account_id = account a.account;
    agent_key = a.key;
    agent_registration_id = id_of_registration a.number;
    requested_at = a.time;
    approver_account_id = account v.account;
    approver_key = v.key;
    approver_registration_id = id_of_registration v.number;
    approved_at = v.time;
  };
  text = a.text;
}
