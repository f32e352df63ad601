-- What is left of `ledger_requests::ask::request_sound`: the tables are sound, and each answer by the tests before it. Assumes nothing.
use Rattle.std.proofs.Common.{arith}
use Rattle.answers.proofs.Doing.{handed_on}
use Rattle.ledger_requests.proofs.Asking.{asks_for, empty, full, not_authentic, text_full, too_long, too_many}
use Rattle.tables.proofs.Once.{fits_standing}
use Rattle.ledger_requests.proofs.ask.request_sound.Goals as goal

pub invariant_of-authenticate : goal.invariant_of-authenticate
invariant_of-authenticate c = record { fits = fits_standing c.requires }

pub returns-in_err-i : goal.returns-in_err-i
returns-in_err-i c = rw (handed_on c.from_residual.ensures) (not_authentic _ _ _ c.in_err-i.ensures)

pub returns-then-is_empty : goal.returns-then-is_empty
returns-then-is_empty c = empty _ _ _ c.in_ok-i.ensures c.if-is_empty.ensures

pub returns-then-action-gt2048 : goal.returns-then-action-gt2048
returns-then-action-gt2048 c = too_long _ _ _ c.in_ok-i.ensures c.if-is_empty.ensures c.if-action-gt2048.true

pub returns-then-holder-ge16 : goal.returns-then-holder-ge16
returns-then-holder-ge16 c = too_many _ _ _ c.in_ok-i.ensures c.if-is_empty.ensures c.if-action-gt2048.false c.if-holder-ge16.true

pub returns-then-head-ge256 : goal.returns-then-head-ge256
returns-then-head-ge256 c = full _ _ _ c.in_ok-i.ensures c.if-is_empty.ensures c.if-action-gt2048.false (omega arith) c.if-head-ge256.true

pub returns-then-head-len-gt32768 : goal.returns-then-head-len-gt32768
returns-then-head-len-gt32768 c = text_full _ _ _ c.in_ok-i.ensures c.if-is_empty.ensures c.if-action-gt2048.false (omega arith) c.if-head-ge256.false c.if-head-len-gt32768.true

pub returns : goal.returns
returns c =
    rw c.request_of.ensures
    (asks_for _ _ _ c.in_ok-i.ensures c.if-is_empty.ensures c.if-action-gt2048.false (omega arith) c.if-head-ge256.false c.if-head-len-gt32768.false c.store.ensures)
