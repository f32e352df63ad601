-- `capi::proof::brasstally_revocations` meets its contract: the ledger's call, told.
use Rattle.std.proofs.Common.{rules}
use Rattle.capi.proofs.Showing.{halves}
use Rattle.capi.proofs.Telling.{told}
use Rattle.capi.specs.Outcomes.{revocations_told}
use Rattle.capi.proofs.proof.brasstally_revocations.Goals as goal

pub returns-in-Ok : goal.returns-in-Ok
returns-in-Ok c = told (revocations_told c.args.row.now) c.proof_revocations.ensures
    (rw (c.in-Ok.is, c.from.ensures, c.copy_from_slice.ensures.after, c.copy_from_slice-in-Ok.ensures.after, c.cells_of_end.ensures, c.cells_of_end-in-Ok.ensures)
    (halves c.args.row.now c.told-row c.in-Ok.both))

pub returns-in-Err : goal.returns-in-Err
returns-in-Err c = told (revocations_told c.args.row.now) c.proof_revocations.ensures (search rules)
