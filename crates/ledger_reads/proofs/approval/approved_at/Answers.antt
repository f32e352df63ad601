-- What is left of `ledger_reads::approval::approved_at`: no proof past the last request or without the mark. Assumes nothing.
use Rattle.ledger_reads.proofs.Requested.{no_approval, not_approved}
use Rattle.ledger_reads.proofs.approval.approved_at.Goals as goal

pub returns-then-request-sound : goal.returns-then-request-sound
returns-then-request-sound c = λ L st. no_approval st c.if-request-sound.true

pub returns-then-not-approved : goal.returns-then-not-approved
returns-then-not-approved c = λ L st. not_approved st c.if-request-sound.false c.if-not-approved.true
