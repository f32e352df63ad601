-- What is left of `ledger_revocations::revoke_sound`: its indices, each answer by the tests on its way, and the stores, which take the registration out. Assumes nothing.
use Rattle.std.proofs.Common.{arith}
use Rattle.ledger_revocations.proofs.Placed.{placed_at}
use Rattle.ledger_revocations.proofs.Revoking.{not_owner, not_registered, revoked}
use Rattle.tables.proofs.Within.{within}
use Rattle.ledger_revocations.proofs.revoke_sound.Goals as goal

pub slice_copy_out-head : goal.slice_copy_out-head
slice_copy_out-head c = let w = within c.requires in omega arith

pub returns-then-caller-head : goal.returns-then-caller-head
returns-then-caller-head c = not_owner _ c.args.caller c.args.key c.args.time c.if-caller-head.true

pub find-requires : goal.find-requires
find-requires c = let w = within c.requires in omega arith

pub returns-in_default : goal.returns-in_default
returns-in_default c = not_registered _ c.args.caller c.args.key c.args.time c.if-caller-head.false c.in_default.ensures

pub slice_copy_out-row : goal.slice_copy_out-row
slice_copy_out-row c = let w = placed_at c.requires c.in-Some.i c.in-Some.ensures.0 in omega arith

pub slice_bounds-shift-end : goal.slice_bounds-shift-end
slice_bounds-shift-end c = let w = within c.requires in omega arith

pub shift-requires : goal.shift-requires
shift-requires c = let w = placed_at c.requires c.in-Some.i c.in-Some.ensures.0 in (w.below, w.keys_part)

pub slice_bounds-shift-end-2 : goal.slice_bounds-shift-end-2
slice_bounds-shift-end-2 c = let w = within c.requires in omega arith

pub shift-requires-2 : goal.shift-requires-2
shift-requires-2 c = let w = placed_at c.requires c.in-Some.i c.in-Some.ensures.0 in (w.below, w.rows_part)

pub overflow_add-row-2 : goal.overflow_add-row-2
overflow_add-row-2 c = let w = placed_at c.requires c.in-Some.i c.in-Some.ensures.0 in omega arith

pub offset_bounds-book-row : goal.offset_bounds-book-row
offset_bounds-book-row c = let w = placed_at c.requires c.in-Some.i c.in-Some.ensures.0 in omega arith

pub bounds-book-row : goal.bounds-book-row
bounds-book-row c = let w = placed_at c.requires c.in-Some.i c.in-Some.ensures.0 in omega arith

pub principal_in-requires : goal.principal_in-requires
principal_in-requires c = (placed_at c.requires c.in-Some.i c.in-Some.ensures.0).pending_fits

pub returns : goal.returns
returns c = revoked _ c.args.caller c.args.key c.args.time c.if-caller-head.false c.in-Some.ensures c.shift-2.ensures c.shift.ensures c.principal_in.ensures
