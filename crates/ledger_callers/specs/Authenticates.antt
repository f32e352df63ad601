-- What `authenticate` answers, by cases: the machine's authentication of whatever sound ledger the tables hold. Assumes nothing.
use Rattle.std.specs.Prelude.{◌≡◌, ◌<◌, ℕ, Result, Ok, Err}
use Rattle.lists.specs.Places.{At}
use Rattle.machine.specs.Machine.{authenticate}
use Rattle.machine.specs.Plan.{did, outcome, refused}
use Rattle.machine.specs.Types.{Holder, Ledger}
use Rattle.records.specs.declared.Caller.{Caller}
use Rattle.records.specs.declared.refusal.Refusal.{Refusal}
use Rattle.records.specs.declared.role.Role.{Role}
use Rattle.tables.specs.Parts.{key_count}
use Rattle.tables.specs.Tables.{Stands, Tables}

-- the registered key at place i is the caller's, in that role; or the machine's refusal
abbrev pub Authenticates : Tables → Caller → Role → Result ℕ Refusal → Type 0
Authenticates t caller role (Ok i) =
    (i < key_count t) × ((L : Ledger) → Stands t L → (p : Holder) × At L.keys i p × (outcome (authenticate L caller role) ≡ did (record { at = i; is = p })))
Authenticates t caller role (Err e) = (L : Ledger) → Stands t L → outcome (authenticate L caller role) ≡ refused e
