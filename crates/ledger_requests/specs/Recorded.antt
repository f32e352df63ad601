-- A request's record, told by its row and keys. Assumes nothing.
use Rattle.std.specs.Prelude.{ℕ, get_or, List, Option}
use Rattle.ids.specs.declared.RequestId.{RequestId}
use Rattle.machine.specs.Told.{account, id_of_registration}
use Rattle.records.specs.declared.ActionRequest.{ActionRequest}
use Rattle.records.specs.declared.Decision.{Decision}

-- its asked row, the agent's key, its decision if there is one
abbrev pub request_told : RequestId → List ℕ → List ℕ → Option Decision → ActionRequest
request_told id asked agent decision = record {
  id = id;
  agent_account_id = account (get_or asked 0 0);
  agent_key = agent;
  agent_registration_id = id_of_registration (get_or asked 1 0);
  requested_at = record { height = get_or asked 4 0; timestamp_ns = get_or asked 5 0 };
  decision = decision;
}
