-- Texts that lie in request order without gaps: one more that starts where the last ended. For `all_asked_fit`. Assumes nothing.
use mathlib.Core.Path.{◌≡◌, ap, sym, ◌∙◌}
use Prim.Native.Nat.{ℕ, ◌+◌}
use native.Mathlib.Numerals.{add-one}
use borrow.Author.Count.{below_more}
use lib.ListN.{get_or}
use mathlib.Core.List.{List, []}
use Rattle.tables.specs.Fit.{AllAskedFit, AskedFits, begins}
use Rattle.tables.specs.Parts.{cell}

pub joined_more : (rows : List (List ℕ)) (made n start : ℕ) (row : List ℕ)
    → AllAskedFit n made start rows → row ≡ get_or rows n [] → AskedFits made row → get_or row 2 0 ≡ start → AllAskedFit (n + 1) made (start + get_or row 3 0) rows
joined_more rows made n start row j e f s = record {
  each = below_more (λ (k : ℕ). AskedFits made (get_or rows k [])) n j.each (rw e at f);
  joined = below_more (λ (k : ℕ). cell k 2 rows ≡ begins rows k) n j.joined (rw (← e) (s ∙ sym j.ends));
  ends = rw (add-one, e) (ap (λ (m : ℕ). m + cell n 3 rows) j.ends);
}
