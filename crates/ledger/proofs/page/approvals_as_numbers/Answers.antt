-- `ledger::page::approvals_as_numbers` meets its contract: the check, and then its part. Assumes nothing.
use Rattle.std.proofs.Common.{◌≡◌, rules, Err}
use Rattle.answers.proofs.Doing.{does_damaged}
use Rattle.answers.specs.Calls.{page_call}
use Rattle.ledger.proofs.Checked.{read_passed}
use Rattle.records.specs.declared.refusal.Refusal.TheVariants.{Damaged}
use Rattle.ledger.proofs.page.approvals_as_numbers.Goals as goal

pub returns-in_err-sound : goal.returns-in_err-sound
unfolding page_call
returns-in_err-sound c =
    let told : c.from_residual.result ≡ Err Damaged = search rules in
    rw told (does_damaged _ c.in_err-sound.ensures.1)

pub returns : goal.returns
returns c = read_passed _ _ _ c.in_ok-sound.sound c.in_ok-sound.ensures c.page_sound.ensures
