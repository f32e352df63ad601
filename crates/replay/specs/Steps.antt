-- A run under way: what stands at a place of the input, and the promise of one step from there. Assumes nothing.
use Rattle.std.specs.Prelude.{◌≡◌, Bool, true, false, ℕ, suc, ◌≤◌, ◌<◌, length, Option, Some, None}
use Rattle.std.proofs.Math.Option.{Option as Held·Option}
use Rattle.machine.specs.Tests.{present}
use Rattle.machine.specs.Types.{Bytes, Ledger}
use Rattle.tables.specs.Tables.{Tables, tables}
use Rattle.commands.specs.Commands.{read_from}
use Rattle.lines.specs.Output.{Wrote}
use Rattle.lines.specs.declared.output.Out.{Out}
use Rattle.lines.specs.declared.tally.Tally.{Tally}
use Rattle.replay.specs.declared.each.Progress.{Progress}
use Rattle.replay.specs.declared.each.Lent.{Lent}
use Rattle.replay.specs.Run.{State, Ends, sized, through, whole}

-- ---- what is lent: the tables as they stand, and that the references to them stay
abbrev pub lent : Lent → Tables
lent a = tables a.book.now a.keys.now a.texts.now

pub record Keeps (a b : Lent) : Type 0 where
  pub book : b.book.ghost_name ≡ a.book.ghost_name
  pub keys : b.keys.ghost_name ≡ a.keys.ghost_name
  pub texts : b.texts.ghost_name ≡ a.texts.ghost_name

-- ---- the tables t, of a run that was lent t₀, at a place of the input: past the first command a ledger stands, if the lengths are right
pub record Held (t₀ t : Tables) (place : ℕ) (h : Held·Option Ledger) : Type 0 where
  pub ends : Ends t₀ t h
  pub present_then : (place ≡ 0 → ⊥) → sized t₀ ≡ true → present h ≡ true
  pub unsized : sized t₀ ≡ false → present h ≡ false

-- what is still to come: the rest of the file from the next command's place on, or nothing
abbrev pub Coming : Bool → Bytes → Option ℕ → State → Type 0
Coming fit input (Some at) s = whole fit input ≡ through fit (read_from (suc (length input)) input at) s
Coming fit input None s = whole fit input ≡ s

-- the place that a run at `at` has come to: the next command's, or still this where it ended
abbrev pub place_of : ℕ → Option ℕ → ℕ
place_of at (Some next) = next
place_of at None = at

pub record Going (input : Bytes) (t₀ t : Tables) (out₀ : Bytes) (o : Out) (at : ℕ) (p : Progress) : Type 0 where
  pub state : State
  pub lines : Wrote out₀ state.text o.row.now o.at
  pub tally : p.tally ≡ state.tally
  pub tables : Held t₀ t (place_of at p.next) state.held
  pub coming : Coming (sized t₀) input p.next state

-- a step reads on, within the input, or is the last
abbrev pub Onward : ℕ → ℕ → Option ℕ → Type 0
Onward n at (Some next) = (at < next) × (next ≤ n)
Onward n at None = Unit {0}

-- one step of a run that goes on: it keeps to the run, and reads on
pub record Steps (input : Bytes) (a b : Lent) (o o' : Out) (tally : Tally) (at : ℕ) (p : Progress) : Type 0 where
  pub keeps : Keeps a b
  pub row : o'.row.ghost_name ≡ o.row.ghost_name
  pub goes : (t₀ : Tables) (out₀ : Bytes) → Going input t₀ (lent a) out₀ o at (record { tally = tally; next = Some at }) → Going input t₀ (lent b) out₀ o' at p
  pub onward : Onward (length input) at p.next

-- the start of a run
pub record Begins (input : Bytes) (o o' : Out) (p : Progress) : Type 0 where
  pub row : o'.row.ghost_name ≡ o.row.ghost_name
  pub goes : (t₀ : Tables) → o.at ≡ 0 → Going input t₀ t₀ o.row.now o' 0 p
  pub onward : place_of 0 p.next ≤ length input
