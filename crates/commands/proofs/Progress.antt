-- A command that is read takes three bytes or more and ends within the input; so a file is read whole by any count past its length. Assumes nothing.
use mathlib.Core.Path.{◌≡◌, refl}
use Prim.Native.Nat.{ℕ, zero, suc, ◌+◌, ◌<◌, ◌≤◌}
use native.Mathlib.Omega.{arith}
use lib.ListN.{length}
use Rattle.machine.specs.Types.{Bytes}
use Rattle.commands.specs.Commands.{Command, command, command_read, read_from}
use Rattle.commands.proofs.Opened.{opened}
use Rattle.commands.proofs.Outer.{run_ends}

pub progress : (input : Bytes) (at : ℕ) (c : Command) (next : ℕ) → command_read input at ≡ command c next → (at + 3 ≤ next) × (next ≤ length input)
progress input at c next e = let o = opened input at c next e in (omega (arith, o.ends), o.within)

-- ---- more than enough
pub enough : (n m : ℕ) (input : Bytes) (at : ℕ) → length input < at + n → length input < at + m → read_from n input at ≡ read_from m input at
unfolding read_from
enough zero zero input at h k = refl
enough zero (suc m) input at h k = grind (arith, run_ends)
enough (suc n) zero input at h k = grind (arith, run_ends)
enough (suc n) (suc m) input at h k = grind (arith, progress, enough n m input)
