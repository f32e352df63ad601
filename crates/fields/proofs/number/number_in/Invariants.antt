-- The loop's invariant: n is the number in the bytes passed, and fits them.
use Rattle.std.proofs.Common.{◌≡◌, ◌<◌, ◌^◌, take}
use Rattle.fields.specs.Numbers.{number}
use Rattle.fields.proofs.number.number_in.Given as goal

abbrev pub invariant-loop-byte : goal.invariant-loop-byte
invariant-loop-byte l = (l.n ≡ number (take l.byte-index l.part)) × (l.n < 256 ^ l.byte-index)
