-- What is left of `ledger_reads::revocations::ended_at`: the end past the last registration, or by the mark. Assumes nothing.
use Rattle.std.proofs.Common.{sym}
use Rattle.ledger_reads.proofs.Ended.{ended_then, in_force, never_made}
use Rattle.ledger_reads.proofs.revocations.ended_at.Goals as goal

pub returns-then-registration-sound : goal.returns-then-registration-sound
returns-then-registration-sound c = record { ended = λ L st. sym (never_made st c.if-registration-sound.true) }

pub returns-then-row-eq0 : goal.returns-then-row-eq0
returns-then-row-eq0 c = record { ended = λ L st. sym (in_force st c.if-registration-sound.false c.if-row-eq0.true) }

pub returns : goal.returns
returns c = record { ended = λ L st. sym (ended_then st c.if-registration-sound.false c.if-row-eq0.false) }
