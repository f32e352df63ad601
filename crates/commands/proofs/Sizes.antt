-- A command that is read takes 14 bytes or more: its own tag and length, and the tag, the length and the 8 bytes of its first field. So a file that is short enough
-- to be read has at most 4,681 commands. Assumes nothing.
use mathlib.Core.Path.{◌≡◌}
use Prim.Native.Nat.{ℕ, zero, suc, ◌+◌, ◌*◌, ◌≤◌}
use native.Mathlib.Omega.{arith}
use lib.ListN.{length, drop}
use Rattle.machine.specs.Types.{Bytes}
use Rattle.fields.specs.Reader.{got}
use Rattle.fields.specs.Fields.{Kind, value_of}
use Rattle.commands.specs.Commands.{Command, command, fields_of, command_read}
use Rattle.commands.specs.Commands.{File, input_room, too_long, read_from, read_all}
use Rattle.commands.proofs.Takes.{number_takes, caller_takes}
use Rattle.commands.proofs.Opened.{opened}

-- every kind's first field is one of 8 bytes
long : (k : Kind) (rest left : Bytes) (c : Command) (place p : ℕ) → fields_of k rest place ≡ got c left p → 11 ≤ length rest
unfolding fields_of
long k rest left c place p e = grind (arith, number_takes, caller_takes)

pub command_long : (input : Bytes) (at : ℕ) (c : Command) (next : ℕ) → command_read input at ≡ command c next → (at + 14 ≤ next) × (next ≤ length input)
command_long input at c next e =
    let o = opened input at c next e in
    (omega (arith, o.ends, long o.kind (value_of (drop at input)) o.left c (at + 3) o.p o.reads), o.within)

-- ---- a file
abbrev count : File → ℕ
count f = length f.commands

few_from : (n : ℕ) (input : Bytes) (at : ℕ) → at ≤ length input → at + 14 * count (read_from n input at) ≤ length input
unfolding read_from
few_from zero input at h = omega arith
few_from (suc n) input at h = grind (arith, command_long, few_from n input)

pub few_commands : (input : Bytes) → 14 * length (read_all input).commands ≤ input_room
unfolding too_long
few_commands input = grind (arith, few_from)
