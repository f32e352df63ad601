-- What is left of `ledger_reads::status::status_sound`: a return for each status, by the mark and then by liveness. Assumes nothing.
use Rattle.std.proofs.Common.{ap, arith, sym}
use Rattle.answers.proofs.Doing.{part_read}
use Rattle.answers.specs.Answers.{status_answer}
use Rattle.answers.specs.Calls.{status_call}
use Rattle.ledger_reads.proofs.Requested.{no_status, status_approved, status_rejected, status_waiting}
use Rattle.ledger_reads.proofs.status.status_sound.Goals as goal

pub returns-then-request-sound : goal.returns-then-request-sound
unfolding status_call
returns-then-request-sound c = part_read _ _ (λ L st. ap status_answer (sym (no_status st c.if-request-sound.true)))

pub returns-in-1 : goal.returns-in-1
unfolding status_call
returns-in-1 c = part_read _ _ (λ L st. ap status_answer (sym (status_approved st c.if-request-sound.false c.in-1.is)))

pub returns-in-2 : goal.returns-in-2
unfolding status_call
returns-in-2 c = part_read _ _ (λ L st. ap status_answer (sym (status_rejected st c.if-request-sound.false c.in-2.is)))

pub returns-in-Some : goal.returns-in-Some
unfolding status_call
returns-in-Some c =
    part_read _ _ (λ L st. ap status_answer (sym (status_waiting st c.if-request-sound.false (λ e. omega arith) (λ e. omega arith) _ c.in-Some.ensures)))

pub returns-in-None : goal.returns-in-None
unfolding status_call
returns-in-None c =
    part_read _ _ (λ L st. ap status_answer (sym (status_waiting st c.if-request-sound.false (λ e. omega arith) (λ e. omega arith) _ c.in-None.ensures)))
