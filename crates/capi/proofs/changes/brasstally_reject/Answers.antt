-- `capi::changes::brasstally_reject` meets its contract: the ledger's call, told.
use Rattle.std.proofs.Common.{rules}
use Rattle.capi.proofs.Telling.{told}
use Rattle.capi.specs.Outcomes.{requested_outcome}
use Rattle.capi.proofs.changes.brasstally_reject.Goals as goal

pub returns : goal.returns
returns c = told requested_outcome (rw (c.signed-caller.ensures, c.time_at-time.ensures) at c.reject-made.ensures) (search rules)
