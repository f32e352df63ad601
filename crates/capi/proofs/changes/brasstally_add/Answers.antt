-- `capi::changes::brasstally_add` meets its contract: past the two roles the check alone, else the ledger's call, told.
use Rattle.std.proofs.Common.{arith, rules}
use Rattle.capi.proofs.Telling.{adds, roleless, told}
use Rattle.capi.specs.Outcomes.{registered_outcome}
use Rattle.ledger.proofs.Checked.{passed}
use Rattle.capi.proofs.changes.brasstally_add.Goals as goal

pub returns-in-Ok : goal.returns-in-Ok
returns-in-Ok c = roleless _ _ _ c.args.role c.if-role-gt1.true (passed _ _ _ c.in-Ok.field-0 c.in-Ok.ensures)

pub returns : goal.returns
returns c = adds _ _ _ c.args.role (omega arith) (told registered_outcome (rw c.from-role.ensures at c.add_principal-added.ensures) (search rules))
