-- A lent row of bytes that texts are written to, one after the other; what passes its end is left out. Assumes nothing.
use Rattle.std.specs.Prelude.{◌≡◌, ◌++◌, ℕ, length, take, drop}
use Rattle.machine.specs.Types.{Bytes}
use Rattle.lines.specs.declared.output.Out.{Out}

-- the row `was` with a text over its front; n bytes of the text are there
pub record Wrote (was text out : Bytes) (n : ℕ) : Type 0 where
  pub bytes : out ≡ take (length was) text ++ drop (length text) was
  pub count : n ≡ length (take (length was) text)

-- the promise of all that writes: whatever text stands in the row at entry, `more` follows it at exit, and the row is the same one
pub record Appends (more : Bytes) (o o' : Out) : Type 0 where
  pub row : o'.row.ghost_name ≡ o.row.ghost_name
  pub then : (was text : Bytes) → Wrote was text o.row.now o.at → Wrote was (text ++ more) o'.row.now o'.at
