-- `acts::act` meets its contract: each kind's call, told as its command.
use Rattle.std.proofs.Common.{ap, sym}
use Rattle.acts.proofs.Telling.{adds, answered, approval, approves, asked, handed, registration, rejects, requests, revokes, tells_status}
use Rattle.lines.specs.Lines.{standing}
use Rattle.acts.proofs.act.Goals as goal

pub returns-in_err-made-in-Add : goal.returns-in_err-made-in-Add
returns-in_err-made-in-Add c = rw c.in-Add.is (adds _ _ _ _ c.add_principal.ensures (handed registration _ c.in_err-made-in-Add.was c.from_residual-in_err-made-in-Add.ensures))

pub returns-in_ok-made-in-Add : goal.returns-in_ok-made-in-Add
returns-in_ok-made-in-Add c = rw c.in-Add.is (adds _ _ _ _ c.add_principal.ensures (ap (answered registration) (sym c.in_ok-made-in-Add.was)))

pub returns-in_err-ended-in-Revoke : goal.returns-in_err-ended-in-Revoke
returns-in_err-ended-in-Revoke c = rw c.in-Revoke.is (revokes _ _ _ c.revoke_key.ensures (handed registration _ c.in_err-ended-in-Revoke.was c.from_residual-in_err-ended-in-Revoke.ensures))

pub returns-in_ok-ended-in-Revoke : goal.returns-in_ok-ended-in-Revoke
returns-in_ok-ended-in-Revoke c = rw c.in-Revoke.is (revokes _ _ _ c.revoke_key.ensures (ap (answered registration) (sym c.in_ok-ended-in-Revoke.was)))

pub returns-in_err-asked-in-Request : goal.returns-in_err-asked-in-Request
returns-in_err-asked-in-Request c = rw c.in-Request.is (requests _ _ _ c.request_action.ensures (handed asked _ c.in_err-asked-in-Request.was c.from_residual-in_err-asked-in-Request.ensures))

pub returns-in_ok-asked-in-Request : goal.returns-in_ok-asked-in-Request
returns-in_ok-asked-in-Request c = rw c.in-Request.is (requests _ _ _ c.request_action.ensures (ap (answered asked) (sym c.in_ok-asked-in-Request.was)))

pub returns-in_err-approved-in-Approve : goal.returns-in_err-approved-in-Approve
returns-in_err-approved-in-Approve c = rw c.in-Approve.is (approves _ _ _ _ c.approve.ensures (handed approval _ c.in_err-approved-in-Approve.was c.from_residual-in_err-approved-in-Approve.ensures))

pub returns-in_ok-approved-in-Approve : goal.returns-in_ok-approved-in-Approve
returns-in_ok-approved-in-Approve c = rw c.in-Approve.is (approves _ _ _ _ c.approve.ensures (ap (answered approval) (sym c.in_ok-approved-in-Approve.was)))

pub returns-in_err-rejected-in-Reject : goal.returns-in_err-rejected-in-Reject
returns-in_err-rejected-in-Reject c = rw c.in-Reject.is (rejects _ _ _ c.reject.ensures (handed asked _ c.in_err-rejected-in-Reject.was c.from_residual-in_err-rejected-in-Reject.ensures))

pub returns-in_ok-rejected-in-Reject : goal.returns-in_ok-rejected-in-Reject
returns-in_ok-rejected-in-Reject c = rw c.in-Reject.is (rejects _ _ _ c.reject.ensures (ap (answered asked) (sym c.in_ok-rejected-in-Reject.was)))

pub returns-in_err-status-in-Status : goal.returns-in_err-status-in-Status
returns-in_err-status-in-Status c = rw c.in-Status.is (tells_status _ c.request_status.ensures (handed standing _ c.in_err-status-in-Status.was c.from_residual-in_err-status-in-Status.ensures))

pub returns-in_ok-status-in-Status : goal.returns-in_ok-status-in-Status
returns-in_ok-status-in-Status c = rw c.in-Status.is (tells_status _ c.request_status.ensures (ap (answered standing) (sym c.in_ok-status-in-Status.was)))
