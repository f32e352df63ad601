-- What is left of `ledger_callers::authenticate`: each answer by the tests on its way. Assumes nothing.
use Rattle.std.proofs.Common.{arith, sym}
use Rattle.ledger_callers.proofs.Authentication.{authentic, mismatch, unknown, wrong_role}
use Rattle.ledger_callers.proofs.authenticate.Goals as goal

pub returns-in_default : goal.returns-in_default
returns-in_default c = unknown _ c.args.caller c.args.role (sym c.if-ne.ensures) c.in_default.ensures

pub returns-then-holder-from : goal.returns-then-holder-from
returns-then-holder-from c = wrong_role _ c.args.caller c.args.role (sym c.if-ne.ensures) _ c.in-Some.ensures (λ e. omega arith)

pub returns-then-holder-caller : goal.returns-then-holder-caller
returns-then-holder-caller c = mismatch _ c.args.caller c.args.role (sym c.if-ne.ensures) _ c.in-Some.ensures (omega arith) c.if-holder-caller.true

pub returns : goal.returns
returns c = authentic _ c.args.caller c.args.role (sym c.if-ne.ensures) _ c.in-Some.ensures (omega arith) c.if-holder-caller.false
