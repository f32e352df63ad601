-- How long the lines of a run are at most: 428 bytes for a command that is told few and small numbers, 46 for the stop, 95 for the end. Assumes nothing.
use mathlib.Core.Path.{refl}
use mathlib.Core.Option.{Option, none, some}
use mathlib.Core.List.{List, [], ◌∷◌}
use Prim.Native.Nat.{ℕ, zero, suc, ◌+◌, ◌*◌, ◌/◌, ◌%◌, ◌^◌, ◌≤◌, ◌<◌}
use native.Mathlib.Nat.{pow-suc}
use native.Mathlib.Omega.{arith}
use lib.ListN.{length, length-append}
use Rattle.std.proofs.lemmas.Bool.Decides.{nat_tests}
use Rattle.lists.proofs.Places.{length_snoc, up}
use Rattle.lists.specs.Places.{At}
use Rattle.records.specs.Refusals.{refusal_number, text_of_refusal}
use Rattle.records.specs.Statuses.{status_text}
use Rattle.records.specs.declared.refusal.Refusal.{Refusal}
use Rattle.records.specs.declared.status.RequestStatus.{RequestStatus}
use Rattle.fields.specs.Faults.{fault_text}
use Rattle.fields.specs.declared.fault.Fault.{Fault}
use Rattle.fields.specs.declared.fault.Stop.{Stop}
use Rattle.lines.specs.Decimal.{decimal, decimal_by}
use Rattle.lines.specs.Lines.{Told, accepted, standing, refused, spaced, said, line, line_of_stop, end_line}
use Rattle.lines.specs.declared.tally.Tally.{Tally}

-- ---- digits
no_more : (k n : ℕ) → length (decimal_by k n) ≤ k
no_more zero n = omega arith
no_more (suc k) n = grind (arith, nat_tests, length_snoc (decimal_by k (n / 10)) (48 + n % 10), no_more k (n / 10))

-- a number below 10 to the j has at most j digits, and 0 has one
few_digits : (k j n : ℕ) → n < 10 ^ suc j → length (decimal_by k n) ≤ suc j
few_digits zero j n h = omega arith
few_digits (suc k) zero n h = grind (arith, nat_tests, pow-suc 10 0)
few_digits (suc k) (suc j) n h = grind (arith, nat_tests, length_snoc (decimal_by k (n / 10)) (48 + n % 10), few_digits k j (n / 10) (omega (arith, pow-suc 10 (suc j))))

pub decimal_short : (n : ℕ) → length (decimal n) ≤ 20
unfolding decimal
decimal_short n = no_more 20 n

pub decimal_3 : (n : ℕ) → n < 1000 → length (decimal n) ≤ 3
unfolding decimal
decimal_3 n h = few_digits 20 2 n h

-- ---- what a command is told: at most 101 numbers, each below 1000
abbrev pub Small : List ℕ → Type 0
Small ns = (i n : ℕ) → At ns i n → n < 1000

abbrev pub Few : Told → Type 0
Few (accepted ns) = (length ns ≤ 101) × Small ns
Few (standing s) = Unit {0}
Few (refused e) = Unit {0}

spaced_short : (ns : List ℕ) → Small ns → length (spaced ns) ≤ 4 * length ns
spaced_short [] h = omega arith
spaced_short (n ∷ ns) h =
    omega (arith, length-append (decimal n) (spaced ns), decimal_3 n (h 0 n (record { is = refl })), spaced_short ns (λ i m a. h (suc i) m (up a)))

status_short : (s : RequestStatus) → length (status_text s) ≤ 8
unfolding status_text
status_short s = grind arith

refusal_short : (e : Refusal) → length (text_of_refusal e) ≤ 45
unfolding text_of_refusal
refusal_short e = grind arith

said_short : (t : Told) → Few t → length (said t) ≤ 407
unfolding said
said_short (accepted ns) h = omega (arith, h.0, spaced_short ns h.1)
said_short (standing s) h = omega (arith, status_short s)
said_short (refused e) h =
    simp length-append (omega (arith, decimal_short (refusal_number e), refusal_short e))

pub line_short : (i : ℕ) (t : Told) → Few t → length (line i t) ≤ 428
unfolding line
line_short i t h = simp length-append (omega (arith, decimal_short i, said_short t h))

-- ---- the last two lines
fault_short : (e : Fault) → length (fault_text e) ≤ 12
unfolding fault_text
fault_short e = grind arith

pub stopped_short : (o : Option Stop) → length (line_of_stop o) ≤ 46
unfolding line_of_stop
stopped_short none = omega arith
stopped_short (some s) =
    simp length-append (omega (arith, decimal_short s.place, fault_short s.fault))

pub end_short : (t : Tally) → length (end_line t) ≤ 95
unfolding end_line
end_short t =
    simp length-append (omega (arith, decimal_short t.commands, decimal_short t.accepted, decimal_short t.refused))
