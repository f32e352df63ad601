-- What the page's own functions promise, for whatever sound ledger the tables hold. Assumes nothing.
use Rattle.std.specs.Prelude.{◌≡◌, ◌+◌, ◌-◌, min, ℕ}
use Rattle.std.proofs.Math.Option.{some}
use Rattle.lists.specs.Places.{At}
use Rattle.machine.specs.Reads.{approval, entry}
use Rattle.machine.specs.Rooms.{largest, page_limit}
use Rattle.machine.specs.Told.{Texted}
use Rattle.machine.specs.Types.{Ledger}
use Rattle.records.specs.declared.ApprovalProof.{ApprovalProof}
use Rattle.records.specs.declared.PageEntry.{PageEntry}
use Rattle.tables.specs.Tables.{Stands, Tables}

-- how many entries a page has, of a log of `count` slots
abbrev pub size_of_page : ℕ → ℕ → ℕ → ℕ
size_of_page count from limit = min count (min (from + min limit page_limit) largest) - from

-- slot j names request n: the entry of n's proof
pub record SlotEntry (t : Tables) (j : ℕ) (r : PageEntry) : Type 0 where
  pub shows : {L : Ledger} {n : ℕ} {p : Texted ApprovalProof} → Stands t L → At L.log j n → approval L n ≡ some p → r ≡ entry j p.is
