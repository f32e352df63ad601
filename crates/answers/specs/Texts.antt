-- The promise of a read that hands back a part of the lent text table: which bytes, and that they lie where they lay (document 01, 'Refusal table', proof of a request).
-- Assumes nothing.
use Rattle.std.specs.Prelude.{◌⊎◌, ◌≡◌, ◌+◌, ℕ, drop, length, take, List}
use Rattle.std.specs.Borrow.{Bor}
use Rattle.std.proofs.Math.Option.{Option, none, some}
use Rattle.machine.specs.Reads.{approval}
use Rattle.machine.specs.Tests.{asks, used}
use Rattle.machine.specs.Told.{Texted}
use Rattle.machine.specs.Types.{Ledger}
use Rattle.records.specs.declared.ApprovalProof.{ApprovalProof}
use Rattle.tables.specs.Tables.{Standing, Stands, Tables}

-- a part: where it starts, and its length
pub record Extent : Type 0 where
  pub start : ℕ
  pub len : ℕ

abbrev pub nowhere : Extent
nowhere = record { start = 0; len = 0 }

-- the text of request n, if it has a proof; else an empty part
abbrev pub extent_by : Ledger → ℕ → Option (Texted ApprovalProof) → Extent
extent_by L n none = nowhere
extent_by L n (some p) = record { start = used (take n (asks L)); len = length p.text }

abbrev pub extent : Ledger → ℕ → Extent
extent L n = extent_by L n (approval L n)

-- r is that part of s: the same block of memory, that place, those bytes
pub record Lies (s : Bor (List ℕ)) (x : Extent) (r : Bor (List ℕ)) : Type 0 where
  pub bytes : r.now ≡ take x.len (drop x.start s.now)
  pub block : r.ref_ptr.0 ≡ s.ref_ptr.0
  pub place : r.ref_ptr.1 ≡ s.ref_ptr.1 + x.start

-- on tables that hold a sound ledger
pub record TextPart (n : ℕ) (texts : Bor (List ℕ)) (t : Tables) (r : Bor (List ℕ)) : Type 0 where
  pub lies : (L : Ledger) → Stands t L → Lies texts (extent L n) r

-- on any tables
pub record TextRead (n : ℕ) (texts : Bor (List ℕ)) (t : Tables) (r : Bor (List ℕ)) : Type 0 where
  pub sound : (L : Ledger) → Stands t L → Lies texts (extent L n) r
  pub damaged : (Standing t → ⊥) → Lies texts nowhere r
  pub known : Standing t ⊎ (Standing t → ⊥)
