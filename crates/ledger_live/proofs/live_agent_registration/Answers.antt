-- What is left of `ledger_live::live_agent_registration`: each test as one of liveness. Assumes nothing.
use Rattle.std.proofs.Common.{arith}
use Rattle.ledger_live.proofs.Lived.{alive, not_agent, other_account, registered_since, unregistered}
use Rattle.ledger_live.proofs.live_agent_registration.Goals as goal

pub returns-in_err-i : goal.returns-in_err-i
returns-in_err-i c = rw c.from_residual.ensures (record { lives = λ st hr. unregistered st hr c.in_err-i.ensures })

pub returns-then-holder-from : goal.returns-then-holder-from
returns-then-holder-from c = record { lives = λ st hr. not_agent st hr _ c.in_ok-i.ensures (λ e. omega arith) }

pub returns-then-holder-sound : goal.returns-then-holder-sound
returns-then-holder-sound c = record { lives = λ st hr. other_account st hr _ c.in_ok-i.ensures c.if-holder-sound.true }

pub returns-then-holder-n : goal.returns-then-holder-n
returns-then-holder-n c = record { lives = λ st hr. registered_since st hr _ c.in_ok-i.ensures c.if-holder-n.true }

pub returns : goal.returns
returns c = record { lives = λ st hr. alive st hr _ c.in_ok-i.ensures (omega arith) c.if-holder-sound.false c.if-holder-n.false }
