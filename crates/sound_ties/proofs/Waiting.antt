-- Counting, request by request, how many wait under each registration. For `pending`. Assumes nothing.
use Prim.Native.Nat.{ℕ, ◌≤◌, ◌<◌}
use native.Mathlib.Omega.{arith}
use lib.Dec.{eqb}
use lib.ListN.{get_or, length-replicate, get_or-replicate, replicate}
use mathlib.Core.Bool.{◌&&◌}
use mathlib.Core.List.{List}
use Rattle.tables.specs.Parts.{cell}
use Rattle.sound_ties.specs.Places.{Counts}
use Rattle.sound_log.proofs.Tallied.{count_le}

module _ {asked decided : List (List ℕ)} where
  pub counts_none : Counts 0 asked decided (replicate 256 0)
  counts_none = record { room = length-replicate {A = ℕ} 256 0; is = λ g l. get_or-replicate 256 g 0 0 l }

  pub counts_few : {n : ℕ} {counts : List ℕ} → Counts n asked decided counts → (g : ℕ) → g < 256 → get_or counts g 0 ≤ n
  counts_few {n} c g l = omega (arith, c.is g l, count_le (λ i. eqb (cell i 0 decided) 0 && eqb (cell i 1 asked) g) n)
