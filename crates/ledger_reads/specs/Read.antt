-- What the reads' own functions promise, for whatever sound ledger the tables hold. Assumes nothing.
use Rattle.std.specs.Prelude as Std
use Rattle.std.specs.Prelude.{◌≡◌, ◌+◌, ◌<◌, ℕ}
use Rattle.std.proofs.Math.Option.{none}
use Rattle.machine.specs.Reads.{approval, revocation}
use Rattle.machine.specs.Types.{Ledger}
use Rattle.records.specs.declared.BlockTime.{BlockTime}
use Rattle.tables.specs.Parts.{cell, request_count}
use Rattle.tables.specs.Tables.{Stands, Tables}

-- request n, if it is there and approved: it has a proof, or none
abbrev pub ApprovedAt : Tables → ℕ → Std.Option ℕ → Type 0
ApprovedAt t n (Std.Some i) = (i ≡ n) × (i < request_count t) × (cell (i + 321) 0 t.book ≡ 1)
ApprovedAt t n Std.None = (L : Ledger) → Stands t L → approval L n ≡ none

-- the end of registration g
pub record EndedAt (t : Tables) (g : ℕ) (r : Std.Option BlockTime) : Type 0 where
  pub ended : (L : Ledger) → Stands t L → r ≡ revocation L g
