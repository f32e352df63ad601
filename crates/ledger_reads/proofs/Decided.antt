-- What a request's row of its decision says: its status, and the proof that it gives. Assumes nothing.
use mathlib.Core.Path.{◌≡◌, refl}
use Prim.Native.Nat.{◌≤◌, suc, zero, ℕ}
use lib.ListN.{get_or}
use mathlib.Core.List.{List}
use mathlib.Core.Option.{Option, none, some}
use native.Mathlib.Omega.{arith}
use Rattle.machine.specs.Reads.{proof_by, status_by}
use Rattle.machine.specs.Sound.{slot}
use Rattle.machine.specs.Tests.{Place}
use Rattle.machine.specs.Types.{Approved, Asked, Decision, Rejected, Undecided, Verdict}
use Rattle.records.specs.declared.status.RequestStatus.{RequestStatus}
use Rattle.tables.specs.Tables.{decided_key, decided_row}
use Rattle.records.specs.declared.status.RequestStatus.TheVariants as Status

-- ---- the mark
pub mark_small : (d : Decision) → get_or (decided_row d) 0 0 ≤ 2
mark_small Undecided = omega arith
mark_small (Approved j v) = omega arith
mark_small (Rejected v) = omega arith

abbrev pub status_marked : Option Place → ℕ → RequestStatus
status_marked (some f) zero = Status.Pending
status_marked none zero = Status.Void
status_marked o (suc zero) = Status.Approved
status_marked o (suc (suc m)) = Status.Rejected

pub status_by_mark : (o : Option Place) (d : Decision) → status_by o d ≡ status_marked o (get_or (decided_row d) 0 0)
status_by_mark (some f) Undecided = refl
status_by_mark none Undecided = refl
status_by_mark (some f) (Approved j v) = refl
status_by_mark none (Approved j v) = refl
status_by_mark (some f) (Rejected v) = refl
status_by_mark none (Rejected v) = refl

pub approved_marked : (o : Option Place) → status_marked o 1 ≡ Status.Approved
approved_marked none = refl
approved_marked (some f) = refl

pub rejected_marked : (o : Option Place) → status_marked o 2 ≡ Status.Rejected
rejected_marked none = refl
rejected_marked (some f) = refl

-- ---- the proof, by its rows and keys
abbrev pub verdict_in : List ℕ → List ℕ → Verdict
verdict_in key row = record { key = key; account = get_or row 2 0; number = get_or row 3 0; time = record { height = get_or row 4 0; timestamp_ns = get_or row 5 0 } }

pub approved_is : (d : Decision) → get_or (decided_row d) 0 0 ≡ 1 → d ≡ Approved (get_or (decided_row d) 1 0) (verdict_in (decided_key d) (decided_row d))
approved_is Undecided e = absurd (omega arith)
approved_is (Approved j v) e = refl
approved_is (Rejected v) e = absurd (omega arith)

pub unapproved : (n : ℕ) (a : Asked) (d : Decision) → (get_or (decided_row d) 0 0 ≡ 1 → ⊥) → proof_by n a d ≡ none
unapproved n a Undecided h = refl
unapproved n a (Approved j v) h = absurd (h refl)
unapproved n a (Rejected v) h = refl

pub slot_marked : (d : Decision) {j : ℕ} → slot d ≡ some j → get_or (decided_row d) 0 0 ≡ 1
slot_marked Undecided e = let z : ◌≡◌ {A = ℕ} 0 1 = cc in absurd (omega arith)
slot_marked (Approved i v) e = refl
slot_marked (Rejected v) e = let z : ◌≡◌ {A = ℕ} 0 1 = cc in absurd (omega arith)
