-- What the place of a live request's key says of the ledger in the tables. For the contract of `live_agent_registration`. Assumes nothing.
use Rattle.std.specs.Prelude as Std
use Rattle.std.specs.Prelude.{◌≡◌, ℕ, Some, None}
use Rattle.std.proofs.Math.Option.{Option, none, some}
use Rattle.lists.specs.Places.{At}
use Rattle.machine.specs.Tests.{Place, live}
use Rattle.machine.specs.Types.{Holder, Ledger, Request}
use Rattle.tables.specs.Tables.{Stands, Tables}

-- the machine's answer, told by the place alone
abbrev pub LivesAs : Ledger → Option Place → Std.Option ℕ → Type 0
LivesAs L o (Some i) = (p : Holder) × At L.keys i p × (o ≡ some (record { at = i; is = p }))
LivesAs L o None = o ≡ none

-- for whatever sound ledger the tables hold, and its request n
pub record Lives (t : Tables) (n : ℕ) (l : Std.Option ℕ) : Type 0 where
  pub lives : {L : Ledger} {r : Request} → Stands t L → At L.requests n r → LivesAs L (live L n r.asked) l
