-- `capi::proof::written` meets its contract: the check, and then the ledger's part, told.
use Rattle.std.proofs.Common.{rules}
use Rattle.answers.proofs.Doing.{handed_on}
use Rattle.capi.proofs.Showing.{shows}
use Rattle.ledger.proofs.Checked.{read_passed}
use Rattle.capi.proofs.proof.written.Goals as goal

pub returns-in_err-proof : goal.returns-in_err-proof
returns-in_err-proof c =
    read_passed _ _ _ c.in_ok-sound.sound c.in_ok-sound.ensures
    (shows _ _ _ c.args.request c.approval_sound.ensures (λ L st. rw (handed_on c.from_residual-in_err-proof.ensures, c.in_err-proof.was)))

pub returns-in_default : goal.returns-in_default
returns-in_default c = read_passed _ _ _ c.in_ok-sound.sound c.in_ok-sound.ensures (shows _ _ _ c.args.request c.approval_sound.ensures (λ L st. search rules))

pub returns : goal.returns
returns c =
    read_passed _ _ _ c.in_ok-sound.sound c.in_ok-sound.ensures
    (shows _ _ _ c.args.request c.approval_sound.ensures (λ L st. rw (c.numbers_of_proof.ensures, c.text_place.ensures.place L st, c.in_ok-proof.was, c.in-Some.is)))
