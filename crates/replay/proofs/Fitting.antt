-- The lines of any run fit into 2 MiB: at most 4,681 commands of at most 428 bytes of line each, the stopped line and the end line; and what is told of them. Assumes nothing.
use mathlib.Core.Path.{◌≡◌, subst, sym}
use mathlib.Core.Bool.{Bool, true, false}
use mathlib.Core.Option.{Option, none, some}
use mathlib.Core.List.{List, [], ◌∷◌}
use Prim.Native.Nat.{ℕ, ◌+◌, ◌*◌, ◌≤◌}
use native.Mathlib.Omega.{arith}
use lib.ListN.{length, take, length-append}
use Rattle.std.proofs.lemmas.Bool.Decides.{nat_tests}
use Rattle.lists.proofs.Places.{at_nil}
use Rattle.machine.proofs.Keep.{sound_opened}
use Rattle.machine.specs.Sound.{Sound}
use Rattle.machine.specs.Types.{Bytes, Ledger}
use Rattle.tables.specs.Tables.{Tables}
use Rattle.commands.proofs.Sizes.{few_commands}
use Rattle.commands.specs.Commands.{Command, open_by, change, status_of, page_from, read_all}
use Rattle.lines.proofs.Appending.{in_full}
use Rattle.lines.proofs.Short.{Few, end_short, line_short, stopped_short}
use Rattle.lines.specs.Lines.{line}
use Rattle.lines.specs.Output.{Wrote}
use Rattle.acts.proofs.Few.{after_sound, told_few}
use Rattle.replay.specs.declared.file.Ran.{Ran}
use Rattle.replay.specs.Run.{Acted, Replays, State, acted, all, on, one, lines_room, opening, output, Prints, sized, start, whole}

-- ---- the ledger that stands, if one was opened, is sound; so what is told is short
abbrev Sane : Option Ledger → Type 0
Sane none = Unit {0}
Sane (some L) = Sound L

record Brief (a : Acted) : Type 0 where
  few : Few a.told
  sane : Sane a.held

on_brief : (h : Option Ledger) (c : Command) → Sane h → Brief (on h c)
on_brief none c s = record { few = tt; sane = tt }
on_brief (some L) c s = record { few = told_few L s c; sane = after_sound L s c }

opening_brief : (c : Command) (h : Option Ledger) → Sane h → Brief (opening c h)
opening_brief (open_by owner) h s = record { few = (omega arith, λ i n a. absurd (at_nil a)); sane = sound_opened owner }
opening_brief (change c) h s = on_brief h (change c) s
opening_brief (status_of n) h s = on_brief h (status_of n) s
opening_brief (page_from from limit) h s = on_brief h (page_from from limit) s

acted_brief : (fit : Bool) (c : Command) (h : Option Ledger) → Sane h → Brief (acted fit c h)
unfolding acted
acted_brief false c h s = record { few = tt; sane = s }
acted_brief true c h s = opening_brief c h s

-- ---- a line for each command
all_short : (fit : Bool) (cs : List Command) (s : State) → Sane s.held → length (all fit cs s).text ≤ length s.text + 428 * length cs
all_short fit [] s h = omega arith
all_short fit (c ∷ cs) s h =
    let b = acted_brief fit c s.held h in
    let a = acted fit c s.held in
    omega (
      arith,
      all_short fit cs (one fit c s) b.sane,
      length-append s.text (line s.tally.commands a.told),
      line_short s.tally.commands a.told b.few,
    )

-- ---- the whole run
pub lines_fit : (fit : Bool) (input : Bytes) → length (output (whole fit input)) ≤ lines_room
unfolding whole
lines_fit fit input =
    let f = read_all input in
    let s = all fit f.commands start in
    simp length-append (omega (arith, few_commands input, all_short fit f.commands start tt, stopped_short f.stop, end_short s.tally))

-- so that a row of 2 MiB or more holds them all
pub lines_whole : (input : Bytes) {t t' : Tables} (out : Bytes) {out' : Bytes} {r : Ran} → lines_room ≤ length out → Replays input t t' out out' r
    → (r.wrote ≡ length (output (whole (sized t) input))) × (take r.wrote out' ≡ output (whole (sized t) input))
lines_whole input {t} out long p = in_full out (output (whole (sized t) input)) p.lines (omega (arith, lines_fit (sized t) input))

-- a program's own tables have the right lengths
right : (t : Tables) → 1089 ≡ length t.book → 576 ≡ length t.keys → 32768 ≡ length t.texts → sized t ≡ true
unfolding sized
right t b k w = grind (arith, nat_tests)

-- whatever the row's room, it has the run's output as far as that goes
pub writes : (input : Bytes) (t : Tables) {t' : Tables} (out : Bytes) {out' : Bytes} {r : Ran} → 1089 ≡ length t.book → 576 ≡ length t.keys → 32768 ≡ length t.texts
    → Replays input t t' out out' r → Wrote out (output (whole true input)) out' r.wrote
writes input t out {out'} {r} b k w p = subst (λ (fit : Bool). Wrote out (output (whole fit input)) out' r.wrote) (right t b k w) p.lines

pub prints : (input : Bytes) (t : Tables) {t' : Tables} (out : Bytes) {out' : Bytes} {r : Ran} → 1089 ≡ length t.book → 576 ≡ length t.keys → 32768 ≡ length t.texts
    → lines_room ≤ length out → Replays input t t' out out' r → Prints input out' r.wrote
prints input t out {out'} {r} b k w long p =
    subst (λ (fit : Bool). take r.wrote out' ≡ output (whole fit input)) (right t b k w) (lines_whole input out long p).1

-- ---- what is told, by a count that is the run's and of a file that is the one that was read
pub counted_as : {was text out : Bytes} {m n : ℕ} → Wrote was text out m → n ≡ m → Wrote was text out n
counted_as {was} {text} {out} w e = subst (λ (k : ℕ). Wrote was text out k) (sym e) w

pub shown_as : (input out : Bytes) {m n : ℕ} → Prints input out m → n ≡ m → Prints input out n
shown_as input out p e = subst (λ (k : ℕ). Prints input out k) (sym e) p

pub read_as : {input given : Bytes} {t t' : Tables} {out out' : Bytes} {r : Ran} → Replays given t t' out out' r → given ≡ input → Replays input t t' out out' r
read_as {t = t} {t'} {out} {out'} {r} p e = subst (λ (x : Bytes). Replays x t t' out out' r) e p
