-- What is left of `ledger_requests::decidable::decidable_request`: each answer by the tests before it. Assumes nothing.
use Rattle.ledger_requests.proofs.Candidates.{agent_revoked, already_approved, already_rejected, may_be_decided, not_there}
use Rattle.ledger_requests.proofs.decidable.decidable_request.Goals as goal

pub returns-then-request-sound : goal.returns-then-request-sound
returns-then-request-sound c = not_there c.if-request-sound.true

pub returns-then-mark-eq1 : goal.returns-then-mark-eq1
returns-then-mark-eq1 c = already_approved c.if-request-sound.false c.if-mark-eq1.true

pub returns-then-mark-eq2 : goal.returns-then-mark-eq2
returns-then-mark-eq2 c = already_rejected c.if-request-sound.false c.if-mark-eq1.false c.if-mark-eq2.true

pub returns-in_default : goal.returns-in_default
returns-in_default c = agent_revoked c.if-request-sound.false c.if-mark-eq1.false c.if-mark-eq2.false c.in_default.ensures

pub returns : goal.returns
returns c = may_be_decided c.if-request-sound.false c.if-mark-eq1.false c.if-mark-eq2.false c.args.sound.now.fits c.in-Some.ensures
