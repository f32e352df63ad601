-- What is left of `ledger_keys::add_sound`: its indices, each answer by the tests on its way, and the stores, which lay the new registration out. Assumes nothing.
use Rattle.std.proofs.Common.{arith, length-set, sym}
use Rattle.ledger_keys.proofs.Adding.{added, already, keys_full, log_full, not_owner}
use Rattle.tables.proofs.Within.{within}
use Rattle.ledger_keys.proofs.add_sound.Goals as goal

pub slice_copy_out-head : goal.slice_copy_out-head
slice_copy_out-head c = let w = within c.requires in omega arith

pub returns-then-caller-head : goal.returns-then-caller-head
returns-then-caller-head c = not_owner _ c.args.caller c.args.key c.args.account c.args.role c.if-caller-head.true

pub find-requires : goal.find-requires
find-requires c = let w = within c.requires in omega arith

pub returns-then-is_some : goal.returns-then-is_some
returns-then-is_some c = already _ c.args.caller c.args.key c.args.account c.args.role c.if-caller-head.false _ c.find.ensures (sym c.if-is_some.ensures)

pub returns-then-made-ge256 : goal.returns-then-made-ge256
returns-then-made-ge256 c = log_full _ c.args.caller c.args.key c.args.account c.args.role c.if-caller-head.false _ c.find.ensures (sym c.if-is_some.ensures) c.if-made-ge256.true

pub returns-then-n-ge64 : goal.returns-then-n-ge64
returns-then-n-ge64 c = keys_full _ c.args.caller c.args.key c.args.account c.args.role c.if-caller-head.false _ c.find.ensures (sym c.if-is_some.ensures) (omega arith) c.if-n-ge64.true

pub bounds-keys-n : goal.bounds-keys-n
bounds-keys-n c = let w = within c.requires in omega arith

pub bounds-book-n : goal.bounds-book-n
bounds-book-n c = let w = within c.requires in omega arith

pub bounds-book-0 : goal.bounds-book-0
bounds-book-0 c = let w = within c.requires in simp length-set (omega arith)

pub returns : goal.returns
returns c = added _ c.args.caller c.args.key c.args.account c.args.role c.if-caller-head.false _ c.find.ensures (sym c.if-is_some.ensures) (omega arith) (omega arith) c.from.ensures c.principal_in.ensures
