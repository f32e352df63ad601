-- THE RUN of a command file (document 01, 'Command file'): what the machine answers to the commands that the definition reads, up to the first fault; the lines,
-- the tally, and the ledger that then stands. And the promise of `replay::run`. Assumes nothing.
use Rattle.std.specs.Prelude.{◌≡◌, Bool, true, false, ◌&&◌, List, [], ◌∷◌, ◌++◌, ℕ, eqb, length, take}
use Rattle.std.proofs.Math.Option.{Option, none, some}
use Rattle.records.specs.declared.refusal.Refusal.TheVariants.{Damaged}
use Rattle.machine.specs.Machine.{opened}
use Rattle.machine.specs.Types.{Bytes, Ledger}
use Rattle.tables.specs.Tables.{Stands, Tables}
use Rattle.commands.specs.Commands.{Command, File, open_by, change, status_of, page_from, read_all}
use Rattle.lines.specs.Lines.{Told, accepted, refused, counted, no_tally, line, line_of_stop, end_line}
use Rattle.lines.specs.Output.{Wrote}
use Rattle.lines.specs.declared.tally.Tally.{Tally}
use Rattle.acts.specs.Acts.{told_of, after_of}
use Rattle.replay.specs.declared.file.Ran.{Ran}

-- ---- one command: what it is told, and the ledger that stands after it, if one was opened
pub record Acted : Type 0 where
  pub told : Told
  pub held : Option Ledger

abbrev pub damaged : Option Ledger → Acted
damaged h = record { told = refused Damaged; held = h }

abbrev pub on : Option Ledger → Command → Acted
on none c = damaged none
on (some L) c = record { told = told_of L c; held = some (after_of L c) }

abbrev pub opening : Command → Option Ledger → Acted
opening (open_by owner) h = record { told = accepted []; held = some (opened owner) }
opening (change c) h = on h (change c)
opening (status_of n) h = on h (status_of n)
opening (page_from from limit) h = on h (page_from from limit)

-- tables of the wrong lengths are refused whatever is asked
unfoldable pub acted : (sized : Bool) → Command → Option Ledger → Acted
acted false c h = damaged h
acted true c h = opening c h

-- ---- the run so far: its tally, the ledger that stands, and the lines
pub record State : Type 0 where
  pub tally : Tally
  pub held : Option Ledger
  pub text : Bytes

abbrev pub start : State
start = record { tally = no_tally; held = none; text = [] }

-- a line begins with the number of commands before it
abbrev pub told_more : Acted → State → State
told_more a s = record { tally = counted a.told s.tally; held = a.held; text = s.text ++ line s.tally.commands a.told }

abbrev pub one : Bool → Command → State → State
one sized c s = told_more (acted sized c s.held) s

abbrev pub all : Bool → List Command → State → State
all sized [] s = s
all sized (c ∷ cs) s = all sized cs (one sized c s)

-- a command is read wholly before it acts; the run stops at the first fault and keeps what went before
abbrev pub stopping : Bytes → State → State
stopping more s = record { tally = s.tally; held = s.held; text = s.text ++ more }

abbrev pub through : Bool → File → State → State
through sized f s = stopping (line_of_stop f.stop) (all sized f.commands s)

unfoldable pub whole : Bool → Bytes → State
whole sized input = through sized (read_all input) start

abbrev pub output : State → Bytes
output s = s.text ++ end_line s.tally

-- ---- on lent tables
-- 'Table lengths are exactly the rooms'
unfoldable pub sized : Tables → Bool
sized t = eqb (length t.book) 1089 && eqb (length t.keys) 576 && eqb (length t.texts) 32768

-- the tables at the end: as they were where no ledger was opened, else that ledger's
abbrev pub Ends : Tables → Tables → Option Ledger → Type 0
Ends t t' none = t' ≡ t
Ends t t' (some L) = Stands t' L

-- ---- what a program prints that has tables of the right lengths, and room for the lines of any run: the whole output
abbrev pub lines_room : ℕ
lines_room = 2097152

abbrev pub Prints : Bytes → Bytes → ℕ → Type 0
Prints input out n = take n out ≡ output (whole true input)

-- ---- THE PROMISE: lines, tally and tables are those of the run
pub record Replays (input : Bytes) (t t' : Tables) (out out' : Bytes) (r : Ran) : Type 0 where
  pub lines : Wrote out (output (whole (sized t) input)) out' r.wrote
  pub tally : r.tally ≡ (whole (sized t) input).tally
  pub tables : Ends t t' (whole (sized t) input).held
