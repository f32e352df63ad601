-- What the reader's answers mean: the command that a declared one stands for, and the promise of each reader of a command. Assumes nothing.
use Rattle.std.specs.Prelude.{◌≡◌, ℕ, ◌+◌, ◌≤◌, length, take, drop, Some, None, Result, Ok, Err}
use Rattle.std.specs.Prelude as code
use Rattle.std.proofs.Math.Option.{Option, none, some}
use Rattle.machine.specs.Types.{Bytes, add, revoke, request, approve, reject}
use Rattle.fields.specs.declared.fault.Stop.{Stop}
use Rattle.fields.specs.declared.fault.Fault.TheVariants.{UnknownField}
use Rattle.commands.specs.declared.command.Command.TheVariants as Is
use Rattle.commands.specs.declared.command.Command.{Command as ReadCommand}
use Rattle.fields.specs.Reader.{Reader, stopped}
use Rattle.fields.specs.Fields.{Kind}
use Rattle.commands.specs.Commands.{Command, open_by, change, status_of, page_from, fields_of, command, end, stopped_by, command_read}

-- ---- what a command stands for
abbrev pub meant : ReadCommand → Command
meant (Is.Open a) = open_by a.0
meant (Is.Add c) = change (add c.caller.0 c.key c.account.0 c.role)
meant (Is.Revoke c) = change (revoke c.caller.0 c.key c.now)
meant (Is.Request c) = change (request c.caller c.text.now c.now)
meant (Is.Approve c) = change (approve c.caller c.request.0 c.text.now c.now)
meant (Is.Reject c) = change (reject c.caller c.request.0 c.now)
meant (Is.Status n) = status_of n.0
meant (Is.Page c) = page_from c.from c.limit

-- ---- the fields of the kind that a tag names; any other tag has been stopped before
abbrev pub fields_by : Option Kind → Reader Command
fields_by none = λ rest place. stopped UnknownField place
fields_by (some k) = fields_of k

-- ---- a text is a part of the input that lies in its command's value: the field of the time, of 19 bytes, stands between it and the next command
pub record Lies (input : Bytes) (at next : ℕ) (text : Bytes) : Type 0 where
  pub start : ℕ
  pub after : at + 3 ≤ start
  pub ends : start + length text + 19 ≡ next
  pub part : text ≡ take (length text) (drop start input)

abbrev pub Placed : Bytes → (at next : ℕ) → ReadCommand → Type 0
Placed input at next (Is.Request c) = Lies input at next c.text.now
Placed input at next (Is.Approve c) = Lies input at next c.text.now
Placed input at next c = Unit {0}

-- ---- THE PROMISE of `read_command`: the answer tells what stands at the place
pub record Told (input : Bytes) (at : ℕ) (c : ReadCommand) (next : ℕ) : Type 0 where
  pub means : command_read input at ≡ command (meant c) next
  pub within : next ≤ length input
  pub placed : Placed input at next c

abbrev pub Reads : Bytes → ℕ → Result (code.Option (ReadCommand × ℕ)) Stop → Type 0
Reads input at (Ok (Some taken)) = Told input at taken.0 taken.1
Reads input at (Ok None) = command_read input at ≡ end
Reads input at (Err s) = command_read input at ≡ stopped_by s.fault s.place
