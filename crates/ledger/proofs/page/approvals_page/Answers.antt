-- `ledger::page::approvals_page` meets its contract: `approvals` at a row of empty entries. Assumes nothing.
use Rattle.std.proofs.Common.{rules}
use Rattle.std.proofs.lemmas.Result.{err_from_is_err_and}
use Rattle.ledger.proofs.Pages.{page_in_own}
use Rattle.ledger.proofs.page.approvals_page.Goals as goal

pub returns-in_err-count : goal.returns-in_err-count
returns-in_err-count c =
    let told = err_from_is_err_and c.from_residual.result c.from_residual.ensures.1 in
    rw (told.1, told.2) (page_in_own _ _ _ (search rules) c.approvals.ensures c.in_err-count.was)

pub returns : goal.returns
returns c = page_in_own _ _ _ (search rules) c.approvals.ensures c.in_ok-count.was
