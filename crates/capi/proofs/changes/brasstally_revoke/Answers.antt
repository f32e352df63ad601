-- `capi::changes::brasstally_revoke` meets its contract: the ledger's call, told.
use Rattle.std.proofs.Common.{rules}
use Rattle.capi.proofs.Telling.{told}
use Rattle.capi.specs.Outcomes.{registered_outcome}
use Rattle.capi.proofs.changes.brasstally_revoke.Goals as goal

pub returns : goal.returns
returns c = told registered_outcome (rw c.time_at-time.ensures at c.revoke_key-ended.ensures) (search rules)
