-- `acts::page` meets its contract: the public page, told as its command's. Assumes nothing.
use Rattle.std.proofs.Common.{arith, refl}
use Rattle.std.proofs.lemmas.Result.{err_from_is_err_and}
use Rattle.acts.proofs.Telling.{tells_page}
use Rattle.acts.proofs.page.Goals as goal

pub returns-in_err-count : goal.returns-in_err-count
returns-in_err-count c =
    let told = err_from_is_err_and c.from_residual.result c.from_residual.ensures.1 in
    rw (told.1, told.2) (tells_page _ _ _ (omega arith) c.approvals.ensures (rw c.in_err-count.was refl))

pub returns : goal.returns
returns c = tells_page _ _ _ (omega arith) c.approvals.ensures (rw (c.in_ok-count.was, c.list_requests.ensures) refl)
