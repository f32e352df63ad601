-- Worked examples of ours that show whole records: what an accepted change gives, and what the reads then show. Two requests by A, the second approved first, both times and
-- both registrations different, then A revoked. Assumes nothing.
use Rattle.std.specs.Prelude.{◌+◌, ℕ, List, [], ◌++◌, ◌∷◌, Some, None}
use Rattle.std.proofs.Math.Option.{Option, none, some}
use Rattle.machine.specs.Examples.{a_asks, add_a, again, cast, key, maxrat, maxrate, signed}
use Rattle.machine.specs.Machine.{Did, Given, action, opened, principal, proof, run, step}
use Rattle.machine.specs.Plan.{Outcome, did, outcome, refused}
use Rattle.machine.specs.Reads.{approval, page_into, revocations, status}
use Rattle.machine.specs.Told.{Texted}
use Rattle.machine.specs.Types.{Change, Ledger, add, approve, reject, request, revoke}
use Rattle.records.specs.declared.ActionRequest.{ActionRequest}
use Rattle.records.specs.declared.Approval.{Approval}
use Rattle.records.specs.declared.ApprovalProof.{ApprovalProof}
use Rattle.records.specs.declared.BlockTime.{BlockTime}
use Rattle.records.specs.declared.PageEntry.{PageEntry}
use Rattle.records.specs.declared.Decision.TheVariants as Made
use Rattle.records.specs.declared.ProofRevocations.{ProofRevocations}
use Rattle.records.specs.declared.Rejection.{Rejection}
use Rattle.records.specs.declared.role.Role.TheVariants.{Agent, Approver}
use Rattle.records.specs.declared.refusal.Refusal.TheVariants.{PageRoom, RequestNotFound}
use Rattle.records.specs.declared.status.RequestStatus.{RequestStatus}

abbrev pub at_time : ℕ → BlockTime
at_time n = record { height = n; timestamp_ns = 100 + n }

-- B's registration is 1; a second Approver, D of account 4 with key 68, has registration 3
abbrev pub before : List Change
before = cast ++ add 7 (key 68) 4 Approver ∷ request (signed 1 65) maxrate (at_time 1) ∷ request (signed 1 65) maxrat (at_time 2) ∷ []

abbrev pub approve_1 : Change
approve_1 = approve (signed 4 68) 1 maxrat (at_time 3)

abbrev pub approve_0 : Change
approve_0 = approve (signed 2 66) 0 maxrate (at_time 4)

abbrev pub both : List Change
both = before ++ approve_1 ∷ approve_0 ∷ []

abbrev pub ended : List Change
ended = both ++ revoke 7 (key 65) (at_time 5) ∷ []

-- ---- what is given
abbrev pub given_by : Outcome (Did Given) → Option Given
given_by (refused e) = none
given_by (did d) = some d.given

abbrev pub gives : List Change → Change → Option Given
gives cs c = given_by (step (run (opened 7) cs) c)

abbrev pub given : List (Option Given)
given =
    gives [] add_a
    ∷ gives again (add 7 (key 70) 9 Approver)
    ∷ gives before (revoke 7 (key 65) (at_time 5))
    ∷ gives (cast ++ a_asks maxrate ∷ []) (request (signed 1 65) maxrat (at_time 2))
    ∷ gives (before ++ approve_1 ∷ []) approve_0
    ∷ gives before (reject (signed 4 68) 1 (at_time 6))
    ∷ []

-- ---- the records, field by field
abbrev pub undecided_1 : ActionRequest
undecided_1 = record {
  id = record { 0 = 1 };
  agent_account_id = record { 0 = 1 };
  agent_key = key 65;
  agent_registration_id = record { 0 = 0 };
  requested_at = record { height = 2; timestamp_ns = 102 };
  decision = None;
}

abbrev pub rejected_1 : ActionRequest
rejected_1 = record {
  id = record { 0 = 1 };
  agent_account_id = record { 0 = 1 };
  agent_key = key 65;
  agent_registration_id = record { 0 = 0 };
  requested_at = record { height = 2; timestamp_ns = 102 };
  decision = Some (Made.Rejected (record {
    approver_account_id = record { 0 = 4 };
    approver_key = key 68;
    approver_registration_id = record { 0 = 3 };
    rejected_at = record { height = 6; timestamp_ns = 106 };
  }));
}

abbrev pub proof_0 : ApprovalProof
proof_0 = record {
  approval_index = 1;
  request_id = record { 0 = 0 };
  agent_account_id = record { 0 = 1 };
  agent_key = key 65;
  agent_registration_id = record { 0 = 0 };
  requested_at = record { height = 1; timestamp_ns = 101 };
  approver_account_id = record { 0 = 2 };
  approver_key = key 66;
  approver_registration_id = record { 0 = 1 };
  approved_at = record { height = 4; timestamp_ns = 104 };
}

abbrev pub expected : List (Option Given)
expected =
    some (principal (record { account_id = record { 0 = 1 }; role = Agent; registration_id = record { 0 = 0 }; active_from = record { 0 = 0 }; pending = 0 }))
    ∷ some (principal (record { account_id = record { 0 = 9 }; role = Approver; registration_id = record { 0 = 4 }; active_from = record { 0 = 1 }; pending = 0 }))
    ∷ some (principal (record { account_id = record { 0 = 1 }; role = Agent; registration_id = record { 0 = 0 }; active_from = record { 0 = 0 }; pending = 2 }))
    ∷ some (action (record { is = undecided_1; text = maxrat }))
    ∷ some (proof (record { is = proof_0; text = maxrate }))
    ∷ some (action (record { is = rejected_1; text = maxrat }))
    ∷ []

-- ---- what the reads show after both approvals and the revocation
pub record Shown : Type 0 where
  pub proof_of_0 : Option (Texted ApprovalProof)
  pub proof_of_9 : Option (Texted ApprovalProof)
  pub revocations_0_1 : ProofRevocations
  pub revocations_3_9 : ProofRevocations
  pub page_of_2 : Outcome (List PageEntry)
  pub page_of_1 : Outcome (List PageEntry)
  pub status_of_9 : Outcome RequestStatus

abbrev pub shows : Ledger → Shown
shows L = record {
  proof_of_0 = approval L 0;
  proof_of_9 = approval L 9;
  revocations_0_1 = revocations L 0 1;
  revocations_3_9 = revocations L 3 9;
  page_of_2 = outcome (page_into L 0 100 2);
  page_of_1 = outcome (page_into L 0 100 1);
  status_of_9 = status L 9;
}

abbrev pub shown : Shown
shown = record {
  proof_of_0 = some (record { is = proof_0; text = maxrate });
  proof_of_9 = none;
  revocations_0_1 = record { agent = Some (record { height = 5; timestamp_ns = 105 }); approver = None };
  revocations_3_9 = record { agent = None; approver = None };
  page_of_2 = did (
      record {
        slot = 0;
        request_id = record { 0 = 1 };
        agent_registration_id = record { 0 = 0 };
        approver_registration_id = record { 0 = 3 };
        requested_at = record { height = 2; timestamp_ns = 102 };
        approved_at = record { height = 3; timestamp_ns = 103 };
      }
      ∷ record {
        slot = 1;
        request_id = record { 0 = 0 };
        agent_registration_id = record { 0 = 0 };
        approver_registration_id = record { 0 = 1 };
        requested_at = record { height = 1; timestamp_ns = 101 };
        approved_at = record { height = 4; timestamp_ns = 104 };
      }
      ∷ []
      );
  page_of_1 = refused PageRoom;
  status_of_9 = refused RequestNotFound;
}
