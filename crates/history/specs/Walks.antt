-- Reading the log page by page: document 01, the walk at the end of 'What the history says', and the source's `client` (reads.rs). Assumes nothing.
use Rattle.std.specs.Prelude.{◌≡◌, ◌+◌, suc, zero, ℕ, length, List, [], ◌++◌, ◌∷◌, map}
use Rattle.std.proofs.Math.Option.{some}
use Rattle.lists.specs.Places.{At, upto}
use Rattle.machine.specs.Machine.{run}
use Rattle.machine.specs.Reads.{approval, entries, entry}
use Rattle.machine.specs.Told.{Texted}
use Rattle.machine.specs.Types.{Change, Ledger}
use Rattle.records.specs.declared.ApprovalProof.{ApprovalProof}
use Rattle.records.specs.declared.PageEntry.{PageEntry}

-- a walk so far: the ledger as it now stands, and what has been listed
pub record Walk : Type 0 where
  pub ledger : Ledger
  pub listed : List PageEntry

abbrev pub setting_out : Ledger → Walk
setting_out L = record { ledger = L; listed = [] }

-- the page due, from where the last ended
abbrev pub due : ℕ → Walk → List PageEntry
due limit w = entries w.ledger (length w.listed) limit

-- a page for each list of changes, which come after it and before the next
abbrev pub walk : ℕ → Walk → List (List Change) → Walk
walk limit w [] = w
walk limit w (cs ∷ css) = walk limit (record { ledger = run w.ledger cs; listed = w.listed ++ due limit w }) css

-- what a walk that ends at an empty page has listed: each slot once, in order, and the log's requests
pub record Lists (w : Walk) : Type 0 where
  pub slots : map (λ e. e.slot) w.listed ≡ upto 0 (length w.ledger.log)
  pub requests : map (λ e. e.request_id.0) w.listed ≡ w.ledger.log
  pub proofs : {j : ℕ} {e : PageEntry} → At w.listed j e → (p : Texted ApprovalProof) × (approval w.ledger e.request_id.0 ≡ some p) × (e ≡ entry j p.is)

-- the source's client: pages from `from` on, one after the other, `fuel` of them at the most
abbrev pub client : Ledger → ℕ → ℕ → ℕ → List PageEntry
client L zero from limit = []
client L (suc fuel) from limit = let p : List PageEntry = entries L from limit in p ++ client L fuel (from + length p) limit
