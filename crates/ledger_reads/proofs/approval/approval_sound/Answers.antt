-- What is left of `ledger_reads::approval::approval_sound`: the record is that of the request's rows and keys. Assumes nothing.
use Rattle.std.proofs.Common.{ap, sym}
use Rattle.answers.proofs.Doing.{part_read}
use Rattle.answers.specs.Answers.{shown}
use Rattle.answers.specs.Calls.{approval_call}
use Rattle.ledger_reads.proofs.Requested.{proof_found}
use Rattle.ledger_reads.proofs.approval.approval_sound.Goals as goal

pub returns-in_default : goal.returns-in_default
unfolding approval_call
returns-in_default c = part_read _ _ (λ L st. ap shown (sym (c.in_default.ensures L st)))

pub returns : goal.returns
unfolding approval_call
returns c = part_read _ _ (λ L st. ap shown (sym (proof_found st c.in-Some.ensures).1))
