-- `ledger::read::approval` meets its contract: the check, and then its part. Assumes nothing.
use Rattle.std.proofs.Common.{refl, rules}
use Rattle.answers.specs.Calls.{approval_call}
use Rattle.ledger.proofs.Checked.{not_passed, read_passed}
use Rattle.ledger.proofs.read.approval.Goals as goal

pub returns-in_err-sound : goal.returns-in_err-sound
unfolding approval_call
returns-in_err-sound c = not_passed _ refl c.in_err-sound.ensures (search rules)

pub returns : goal.returns
returns c = read_passed _ _ _ c.in_ok-sound.sound c.in_ok-sound.ensures c.approval_sound.ensures
