-- `rows::search::distinct`. The loops' invariants: the pairs passed differ. Assumes nothing.
use Rattle.std.proofs.Common.{◌≡◌, ◌<◌, ℕ, get_or, []}
use Rattle.rows.proofs.search.distinct.Given as goal

abbrev pub invariant-loop-j : goal.invariant-loop-j
invariant-loop-j l = (b : ℕ) → b < l.j → l.i < b → get_or l.keys l.i [] ≡ get_or l.keys b [] → ⊥

abbrev pub invariant-loop-i : goal.invariant-loop-i
invariant-loop-i l = (a : ℕ) → a < l.i → (b : ℕ) → a < b → b < l.n → get_or l.keys a [] ≡ get_or l.keys b [] → ⊥
