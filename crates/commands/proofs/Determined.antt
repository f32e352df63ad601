-- Any two answers that the promise of `read_command` allows tell the same command, end or stop, a text by its bytes: what is read gives the answer back. Assumes nothing.
use Rattle.std.specs.Prelude.{◌≡◌, ℕ, Some, None, Result, Ok, Err}
use Rattle.std.specs.Prelude as code
use mathlib.Core.Path.{sym, ◌∙◌}
use Rattle.machine.specs.Types.{Bytes}
use Rattle.fields.specs.declared.fault.Stop.{Stop}
use Rattle.commands.specs.declared.command.Command.{Command as ReadCommand}
use Rattle.commands.specs.Commands.{Read, command, end, stopped_by, command_read}
use Rattle.commands.specs.Answers.{meant, Reads}

abbrev Answer : Type 0
Answer = Result (code.Option (ReadCommand × ℕ)) Stop

abbrev tells : Answer → Read
tells (Ok (Some taken)) = command (meant taken.0) taken.1
tells (Ok None) = end
tells (Err s) = stopped_by s.fault s.place

-- the promise is an equation
pub exact : (input : Bytes) (at : ℕ) (r : Answer) → Reads input at r → tells r ≡ command_read input at
exact input at (Ok (Some taken)) p = sym p.means
exact input at (Ok None) p = sym p
exact input at (Err s) p = sym p

pub determined : (input : Bytes) (at : ℕ) (r s : Answer) → Reads input at r → Reads input at s → tells r ≡ tells s
determined input at r s p q = exact input at r p ∙ sym (exact input at s q)
