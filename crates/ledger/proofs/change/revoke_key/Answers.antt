-- `ledger::change::revoke_key` meets its contract: the check, and then its part. Assumes nothing.
use Rattle.std.proofs.Common.{refl, rules}
use Rattle.answers.proofs.Doing.{does_part}
use Rattle.answers.specs.Calls.{revoke_call}
use Rattle.ledger.proofs.Checked.{not_passed, passed}
use Rattle.ledger.proofs.change.revoke_key.Goals as goal

pub returns-in_err-checked : goal.returns-in_err-checked
unfolding revoke_call
returns-in_err-checked c = not_passed _ refl c.in_err-checked.ensures (search rules)

pub revoke_sound-requires : goal.revoke_sound-requires
revoke_sound-requires c = passed _ _ _ c.in_ok-checked.field-0 c.in_ok-checked.ensures

pub returns : goal.returns
returns c = does_part _ (passed _ _ _ c.in_ok-checked.field-0 c.in_ok-checked.ensures) c.revoke_sound.ensures
