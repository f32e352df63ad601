-- What an answer by place says of the ledger that the tables hold: whether a request may be decided. Assumes nothing.
use Rattle.std.specs.Prelude.{◌≡◌, ◌<◌, ◌≤◌, ◌+◌, ℕ, Result, Ok, Err}
use Rattle.lists.specs.Places.{At}
use Rattle.machine.specs.Machine.{Candidate, decidable}
use Rattle.machine.specs.Plan.{Outcome, did, outcome, refused}
use Rattle.machine.specs.Rooms.{log_room, text_room}
use Rattle.machine.specs.Types.{Holder, Ledger, Request, Undecided}
use Rattle.records.specs.declared.refusal.Refusal.{Refusal}
use Rattle.tables.specs.Parts.{cell, key_count, log_count, request_count}
use Rattle.tables.specs.Tables.{Stands, Tables}

-- the machine's `decidable`, told by the place alone; a request that may be decided is undecided
abbrev pub DecidesAs : Ledger → ℕ → Outcome Candidate → Result ℕ Refusal → Type 0
DecidesAs L n o (Ok i) =
    (r : Request) × (p : Holder) × At L.requests n r × At L.keys i p × (r.decision ≡ Undecided) × (o ≡ did (record { req = r; agent = record { at = i; is = p } }))
DecidesAs L n o (Err e) = o ≡ refused e

-- request n waits under the registered key at place i: what whoever decides it relies on
pub record Waits (t : Tables) (n i : ℕ) : Type 0 where
  pub number : n < request_count t
  pub place : i < key_count t
  pub pending : 0 < cell (i + 1) 4 t.book
  pub text : cell (n + 65) 2 t.book + cell (n + 65) 3 t.book ≤ text_room
  pub slot : log_count t < log_room

abbrev pub WaitsAs : Tables → ℕ → Result ℕ Refusal → Type 0
WaitsAs t n (Ok i) = Waits t n i
WaitsAs t n (Err e) = Unit {0}

pub record MayDecide (t : Tables) (n : ℕ) (d : Result ℕ Refusal) : Type 0 where
  pub decides : {L : Ledger} → Stands t L → DecidesAs L n (outcome (decidable L n)) d
  pub waits : WaitsAs t n d
