-- A run under way goes on as its definition says: a command done, the end met, a fault met. Assumes nothing.
use mathlib.Core.Path.{◌≡◌, refl, sym, ap, subst, ◌∙◌}
use mathlib.Core.Bool.{true, false}
use mathlib.Core.Option.{Option, none, some}
use mathlib.Core.List.{List, [], ◌++◌}
use Prim.Native.Nat.{ℕ, suc, ◌-◌, ◌≤◌, ◌<◌}
use native.Mathlib.Omega.{arith}
use lib.ListN.{length, take, drop, length-append}
use lib.Seq.{take-nil, length-take-le}
use Rattle.std.specs.Prelude.{Option as CodeOption, Some, None}
use Rattle.io.specs.Counts.{IsPrefixLen}
use Rattle.machine.specs.Types.{Bytes, Ledger}
use Rattle.tables.specs.Tables.{Tables, tables}
use Rattle.fields.specs.declared.fault.Stop.{Stop}
use Rattle.fields.specs.declared.fault.Fault.TheVariants.{InputTooLong}
use Rattle.commands.specs.Commands.{Command, open_by, command, end, stopped_by, after, empty, command_read, read_from, too_long}
use Rattle.commands.proofs.First.{first_opens}
use Rattle.commands.proofs.Progress.{enough, progress}
use Rattle.lines.specs.Lines.{Told, counted, line, end_line, no_tally, line_of_stop}
use Rattle.lines.specs.Output.{Wrote, Appends}
use Rattle.lines.specs.declared.output.Out.{Out}
use Rattle.lines.specs.declared.tally.Tally.{Tally}
use Rattle.lines.proofs.Appending.{nothing}
use Rattle.acts.specs.Acts.{Acts}
use Rattle.replay.specs.declared.each.Progress.{Progress}
use Rattle.replay.specs.declared.each.Lent.{Lent}
use Rattle.replay.specs.declared.file.Ran.{Ran}
use Rattle.replay.specs.Run.{Ends, Replays, State, acted, one, sized, start, stopping, through, whole}
use Rattle.replay.specs.Steps.{Begins, Coming, Going, Held, Keeps, Onward, Steps, lent, place_of}
use Rattle.replay.proofs.Standing.{command_done}

-- ---- the file, from a place on
module _ (input : Bytes) (at : ℕ) where
  -- the place behind a command is further on, within the input
  pub further : (c : Command) (next : ℕ) → command_read input at ≡ command c next → Onward (length input) at (Some next)
  further c next e = let p = progress input at c next e in (omega (arith, p.0), p.1)

  reads_on : (c : Command) (next : ℕ) → command_read input at ≡ command c next → read_from (suc (length input)) input at ≡ after c (read_from (suc (length input)) input next)
  unfolding read_from
  reads_on c next e =
      let p = progress input at c next e in
      rw e (ap (after c) (enough (length input) (suc (length input)) input next (omega (arith, p.0)) (omega (arith, p.0))))

  reads_end : command_read input at ≡ end → read_from (suc (length input)) input at ≡ empty none
  unfolding read_from
  reads_end e = rw e refl

  reads_stop : (s : Stop) → command_read input at ≡ stopped_by s.fault s.place → read_from (suc (length input)) input at ≡ empty (some s)
  unfolding read_from
  reads_stop s e = rw e refl

-- ---- a command done
module _ (input : Bytes) {t t' : Tables} {o o' : Out} {tally : Tally} {at : ℕ} (c : Command) (w : Told) {next : ℕ}
    (read : command_read input at ≡ command c next) (acts : Acts c t t' w) (says : Appends (line tally.commands w) o o') where
  pub went_on : (t₀ : Tables) (out₀ : Bytes) → Going input t₀ t out₀ o at (record { tally = tally; next = Some at })
      → Going input t₀ t' out₀ o' at (record { tally = counted w tally; next = Some next }) × Onward (length input) at (Some next)
  went_on t₀ out₀ g =
      let s = g.state in
      let past = further input at c next read in
      let first : at ≡ 0 → (owner : ℕ) × (c ≡ open_by owner) = λ z. first_opens input c next (subst (λ (n : ℕ). command_read input n ≡ command c next) z read) in
      let d = command_done t₀ t t' at next (λ z. omega (arith, past.0)) w c s.held g.tables first acts in
      let a = acted (sized t₀) c s.held in
      let same : ◌≡◌ {A = Bytes} (line tally.commands w) (line s.tally.commands a.told) = (λ i. line (g.tally i).commands (d.told_as i)) in (
        record {
          state = one (sized t₀) c s;
          lines = subst (λ (x : Bytes). Wrote out₀ (s.text ++ x) o'.row.now o'.at) same (says.then out₀ s.text g.lines);
          tally = (λ i. counted (d.told_as i) (g.tally i));
          tables = d.held_then;
          coming = g.coming ∙ ap (λ f. through (sized t₀) f s) (reads_on input at c next read);
        },
        past,
      )

-- ---- the end, and a fault
module _ (input : Bytes) {t : Tables} {o o' : Out} {tally : Tally} {at : ℕ} (stop : Option Stop)
    (read : read_from (suc (length input)) input at ≡ empty stop) (says : Appends (line_of_stop stop) o o') where
  stopped_there : (t₀ : Tables) (out₀ : Bytes) → Going input t₀ t out₀ o at (record { tally = tally; next = Some at }) → Going input t₀ t out₀ o' at (record { tally = tally; next = None })
  stopped_there t₀ out₀ g = record {
    state = stopping (line_of_stop stop) g.state;
    lines = says.then out₀ g.state.text g.lines;
    tally = g.tally;
    tables = g.tables;
    coming = g.coming ∙ ap (λ f. through (sized t₀) f g.state) read;
  }

-- nothing is said at the end
silent : (o : Out) → Appends (line_of_stop none) o o
unfolding line_of_stop
silent o = nothing o

module _ (input : Bytes) {t : Tables} {o : Out} {tally : Tally} {at : ℕ} where
  pub ended_there : command_read input at ≡ end → (t₀ : Tables) (out₀ : Bytes) → Going input t₀ t out₀ o at (record { tally = tally; next = Some at })
      → Going input t₀ t out₀ o at (record { tally = tally; next = None })
  ended_there e = stopped_there input none (reads_end input at e) (silent o)

  pub fault_there : {o' : Out} (s : Stop) → command_read input at ≡ stopped_by s.fault s.place → Appends (line_of_stop (some s)) o o'
      → (t₀ : Tables) (out₀ : Bytes) → Going input t₀ t out₀ o at (record { tally = tally; next = Some at }) → Going input t₀ t out₀ o' at (record { tally = tally; next = None })
  fault_there s e says = stopped_there input (some s) (reads_stop input at s e) says

-- ---- the start
not_started : (t : Tables) → Held t t 0 none
not_started t = record { ends = refl; present_then = λ n _. absurd (n refl); unsized = λ _. refl }

unwritten : (out : Bytes) → Wrote out [] out 0
unwritten out = let e = take-nil {A = ℕ} (length out) in record { bytes = ap (λ (x : Bytes). x ++ out) (sym e); count = ap length (sym e) }

abbrev too_long_stop : Stop
too_long_stop = record { fault = InputTooLong; place = 0 }

pub begun : (input : Bytes) (o : Out) (tally : Tally) → tally ≡ no_tally → too_long input ≡ false → Begins input o o (record { tally = tally; next = Some 0 })
unfolding whole
begun input o tally z e = record {
  row = refl;
  goes = λ t front.
      record {
        state = start;
        lines = rw front (unwritten o.row.now);
        tally = z;
        tables = not_started t;
        coming = rw e refl;
      };
  onward = omega arith;
}

pub never_begun : (input : Bytes) (o o' : Out) (tally : Tally) → tally ≡ no_tally → too_long input ≡ true → Appends (line_of_stop (some too_long_stop)) o o'
    → Begins input o o' (record { tally = tally; next = None })
unfolding whole
never_begun input o o' tally z e says = record {
  row = says.row;
  goes = λ t front.
      record {
        state = stopping (line_of_stop (some too_long_stop)) start;
        lines = says.then o.row.now [] (rw front (unwritten o.row.now));
        tally = z;
        tables = not_started t;
        coming = rw e refl;
      };
  onward = omega arith;
}

-- ---- the end
-- the whole file is done: its lines, its tally and the tables are as promised
pub whole_ran : (input : Bytes) {t t' : Tables} {out : Bytes} {o o' : Out} {tally : Tally} (s : State) → whole (sized t) input ≡ s → Wrote out s.text o.row.now o.at → tally ≡ s.tally → Ends t t' s.held
    → Appends (end_line tally) o o' → Replays input t t' out o'.row.now (record { tally = tally; wrote = o'.at })
whole_ran input {out = out} s e lines tally tables says = record { lines = rw (e, ← tally) (says.then out s.text lines); tally = rw e tally; tables = rw e tables }

pub ran : (input : Bytes) {t t' : Tables} {out : Bytes} {o o' : Out} {at : ℕ} (p : Progress) → p.next ≡ None → Going input t t' out o at p → Appends (end_line p.tally) o o'
    → Replays input t t' out o'.row.now (record { tally = p.tally; wrote = o'.at })
ran input {t} p e g says =
    let c : whole (sized t) input ≡ g.state = subst (λ (n : CodeOption ℕ). Coming (sized t) input n g.state) e g.coming in
    whole_ran input g.state c g.lines g.tally g.tables.ends says

-- as a caller's `&out[..wrote]` asks
pub wrote_counts : (was text : Bytes) {out : Bytes} {n : ℕ} → Wrote was text out n → IsPrefixLen n out
wrote_counts was text {out} {n} w =
    let within : n ≤ length out = omega (arith, w.count, ap length w.bytes, length-append (take (length was) text) (drop (length text) was)) in
    (within, sym (length-take-le n out within))

-- what was lent comes back as it then stands
pub came_back : (a : Lent) {input : Bytes} {t : Tables} {out o o' x : Bytes} {b k : List (List ℕ)} {r : Ran} → Replays input t (lent a) out o' r
    → b ≡ a.book.now → k ≡ a.keys.now → x ≡ a.texts.now → o ≡ o' → Replays input t (tables b k x) out o r
came_back a p e f g h = rw (e, f, g, h) p

-- ---- the loop of steps: the run goes on, on what it was lent; the last step was taken `from` there
pub record Reached (input : Bytes) (t₀ : Tables) (out₀ : Bytes) (a b : Lent) (o o' : Out) (from : ℕ) (p : Progress) : Type 0 where
  pub keeps : Keeps a b
  pub row : o'.row.ghost_name ≡ o.row.ghost_name
  pub going : Going input t₀ (lent b) out₀ o' from p

-- and the place that it has come to lies within the input
pub record Under (input : Bytes) (t₀ : Tables) (out₀ : Bytes) (a b : Lent) (o o' : Out) (p : Progress) : Type 0 where
  pub from : ℕ
  pub reached : Reached input t₀ out₀ a b o o' from p
  pub within : place_of from p.next ≤ length input

abbrev pub left : ℕ → CodeOption ℕ → ℕ
left n (Some at) = suc (n - at)
left n None = 0

module _ (input : Bytes) {t₀ : Tables} {out₀ : Bytes} {a b c : Lent} {o o' o'' : Out} {p q : Progress} {from at : ℕ}
    (more : p.next ≡ Some at) (r : Reached input t₀ out₀ a b o o' from p) (s : Steps input b c o' o'' p.tally at q) where
  -- where the run goes on, it stands at the next command, wherever it came from
  here : Going input t₀ (lent b) out₀ o' at (record { tally = p.tally; next = Some at })
  here =
      let g = r.going in
      let held : Held t₀ (lent b) at g.state.held = subst (λ (n : CodeOption ℕ). Held t₀ (lent b) (place_of from n) g.state.held) more g.tables in
      record { state = g.state; lines = g.lines; tally = g.tally; tables = held; coming = subst (λ (n : CodeOption ℕ). Coming (sized t₀) input n g.state) more g.coming }

  pub reached_more : Reached input t₀ out₀ a c o o'' at q
  reached_more =
      let k = r.keeps in
      let m = s.keeps in
      record { keeps = record { book = m.book ∙ k.book; keys = m.keys ∙ k.keys; texts = m.texts ∙ k.texts }; row = s.row ∙ r.row; going = s.goes t₀ out₀ here }

  -- it ends: each step reads on, or is the last
  pub nearer : left (length input) q.next < left (length input) p.next
  nearer = rw more (go q.next s.onward)
    where
      go : (n : CodeOption ℕ) → Onward (length input) at n → left (length input) n < suc (length input - at)
      go (Some next) o = omega (arith, o.0, o.1)
      go None o = omega arith

module _ (input : Bytes) {t₀ : Tables} {out₀ : Bytes} {a b c : Lent} {o o' o'' : Out} {p q : Progress} {at : ℕ}
    (more : p.next ≡ Some at) (u : Under input t₀ out₀ a b o o' p) (s : Steps input b c o' o'' p.tally at q) where
  -- wherever the run then stands, it is within the input
  there : (n : CodeOption ℕ) → Onward (length input) at n → place_of at n ≤ length input
  there (Some next) o = o.1
  there None o = subst (λ (n : CodeOption ℕ). place_of u.from n ≤ length input) more u.within

  pub under_more : Under input t₀ out₀ a c o o'' q
  under_more = record { from = at; reached = reached_more input more u.reached s; within = there q.next s.onward }

-- ---- any two outcomes that the promise allows are the same
ends_same : (t : Tables) {u v : Tables} (h : Option Ledger) → Ends t u h → Ends t v h → u ≡ v
ends_same t none a b = a ∙ sym b
ends_same t (some L) a b = a.laid ∙ sym b.laid

pub run_fixed : (input out : Bytes) {t u v : Tables} {o p : Bytes} {r q : Ran} → Replays input t u out o r → Replays input t v out p q → (u ≡ v) × (o ≡ p) × (r ≡ q)
run_fixed input out {t} a b =
    let wrote = a.lines.count ∙ sym b.lines.count in
    let tally = a.tally ∙ sym b.tally in
    (ends_same t (whole (sized t) input).held a.tables b.tables, a.lines.bytes ∙ sym b.lines.bytes, λ i. record { tally = tally i; wrote = wrote i })
