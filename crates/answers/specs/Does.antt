-- The promise of every public call (document 01, demands 1 and 2): one record for all. Assumes nothing.
use Rattle.std.specs.Prelude.{◌⊎◌, ◌≡◌, ℕ, Result, Ok, Err}
use Rattle.machine.specs.Machine.{opened}
use Rattle.machine.specs.Types.{Ledger}
use Rattle.records.specs.declared.refusal.Refusal.{Refusal}
use Rattle.records.specs.declared.refusal.Refusal.TheVariants.{Damaged}
use Rattle.tables.specs.Tables.{Sized, Standing, Stands, Tables}

-- a call: its answer where the tables hold no sound ledger; and for a sound ledger its answer, and the ledger after it
pub record Call (A : Type 0) : Type 0 where
  pub bad : A
  pub answer : Ledger → A
  pub after : Ledger → Ledger

-- the part that is given sound tables: whatever sound ledger they hold at entry, the answer is the call's, and at exit they hold the ledger after it
pub record Part {A : Type 0} (call : Call A) (t t' : Tables) (r : A) : Type 0 where
  pub does : (L : Ledger) → Stands t L → (r ≡ call.answer L) × Stands t' (call.after L)

-- the whole: so it is of sound tables; of any others the answer is `bad` and nothing has changed; and it is known which of the two they are
pub record Does {A : Type 0} (call : Call A) (t t' : Tables) (r : A) : Type 0 where
  pub sound : (L : Ledger) → Stands t L → (r ≡ call.answer L) × Stands t' (call.after L)
  pub damaged : (Standing t → ⊥) → (r ≡ call.bad) × (t' ≡ t)
  pub known : Standing t ⊎ (Standing t → ⊥)

-- opening asks only for the right lengths
pub record Opens (owner : ℕ) (t t' : Tables) (r : Result (Unit {0}) Refusal) : Type 0 where
  pub opened_then : Sized t → (r ≡ Ok tt) × Stands t' (opened owner)
  pub unsized : (Sized t → ⊥) → (r ≡ Err Damaged) × (t' ≡ t)
  pub known : Sized t ⊎ (Sized t → ⊥)
