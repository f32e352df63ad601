-- The first command that is read is an open. Assumes nothing.
use mathlib.Core.Path.{◌≡◌}
use mathlib.Core.Bool.{true}
use mathlib.Core.Option.{some}
use Prim.Native.Nat.{ℕ, ◌+◌}
use native.Mathlib.Omega.{arith}
use lib.ListN.{drop}
use Rattle.machine.specs.Types.{Bytes}
use Rattle.fields.specs.Reader.{got}
use Rattle.fields.specs.Fields as fields
use Rattle.fields.specs.Fields.{Kind, opening, kind_of, tag_of, value_of, number_field}
use Rattle.commands.specs.Commands.{Command, open_by, command, due, fields_of, command_read}
use Rattle.commands.proofs.Takes.{after}
use Rattle.commands.proofs.Opened.{opened}

opens : (k : Kind) (rest left : Bytes) (c : Command) (place p : ℕ) → k ≡ opening → fields_of k rest place ≡ got c left p → (owner : ℕ) × (c ≡ open_by owner)
unfolding fields_of
opens opening rest left c place p e r = let n = after (number_field fields.signer rest place) _ r in (n.a, cc)
opens k rest left c place p e r = absurd (grind arith)

only_opening : (tag : ℕ) (k : Kind) → due true tag ≡ true → kind_of tag ≡ some k → k ≡ opening
only_opening tag k d e = grind arith

pub first_opens : (input : Bytes) (c : Command) (next : ℕ) → command_read input 0 ≡ command c next → (owner : ℕ) × (c ≡ open_by owner)
first_opens input c next e =
    let o = opened input 0 c next e in
    opens o.kind (value_of (drop 0 input)) o.left c (0 + 3) o.p (only_opening (tag_of (drop 0 input)) o.kind o.due o.is) o.reads
