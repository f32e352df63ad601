-- What is left of `ledger_reads::revocations::revocations_sound`: one end, and the other. Assumes nothing.
use Rattle.std.proofs.Common.{Ok}
use Rattle.answers.proofs.Doing.{part_read}
use Rattle.answers.specs.Calls.{revocations_call}
use Rattle.ledger_reads.proofs.revocations.revocations_sound.Goals as goal

pub returns : goal.returns
unfolding revocations_call
returns c = part_read _ _ (λ L st. λ i. Ok (record { agent = c.ended_at.ensures.ended L st i; approver = c.ended_at-2.ensures.ended L st i }))
