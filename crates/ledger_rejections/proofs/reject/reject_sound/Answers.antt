-- What is left of `ledger_rejections::reject::reject_sound`: the tables are sound, and each answer by the tests before it. Assumes nothing.
use Rattle.answers.proofs.Doing.{handed_on}
use Rattle.ledger_rejections.proofs.Rejecting.{rejects, self, stranger, undecidable}
use Rattle.tables.proofs.Once.{fits_standing}
use Rattle.ledger_rejections.proofs.reject.reject_sound.Goals as goal

pub invariant_of-sound : goal.invariant_of-sound
invariant_of-sound c = record { fits = fits_standing c.requires }

pub returns-in_err-by : goal.returns-in_err-by
returns-in_err-by c = rw (handed_on c.from_residual.ensures) (stranger _ _ _ c.in_err-by.ensures)

pub returns-in_err-i : goal.returns-in_err-i
returns-in_err-i c = rw (handed_on c.from_residual-in_err-i.ensures) (undecidable _ _ _ c.in_ok-by.ensures c.in_err-i.ensures)

pub returns-then-caller-asked : goal.returns-then-caller-asked
returns-then-caller-asked c = self _ _ _ c.in_ok-by.ensures c.in_ok-i.ensures c.if-caller-asked.true

pub returns : goal.returns
returns c =
    rw c.request_of.ensures
    (rejects _ _ _ c.in_ok-by.ensures c.in_ok-i.ensures c.if-caller-asked.false c.store.ensures.book_after c.store.ensures.keys_after)
