-- `capi::changes::brasstally_approve` meets its contract: the ledger's call, told.
use Rattle.std.proofs.Common.{rules}
use Rattle.capi.proofs.Telling.{told}
use Rattle.capi.specs.Outcomes.{proved_outcome}
use Rattle.capi.proofs.changes.brasstally_approve.Goals as goal

pub returns : goal.returns
returns c = told proved_outcome (rw (c.signed-caller.ensures, c.time_at-time.ensures) at c.approve-made.ensures) (search rules)
