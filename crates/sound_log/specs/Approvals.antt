-- The log, from its slots and from the approvals: the parts of `LogFits`, in its words. For the contracts of `log`. Assumes nothing.
use Rattle.std.specs.Prelude.{◌≡◌, ◌<◌, ℕ, get_or, List, []}
use Rattle.tables.specs.Fit.{SlotFits}
use Rattle.tables.specs.Parts.{cell}

abbrev pub Slots : ℕ → ℕ → List (List ℕ) → List (List ℕ) → Type 0
Slots k m log decided = (j : ℕ) → j < k → SlotFits m j decided (get_or log j [])

abbrev pub Indexed : ℕ → List (List ℕ) → List (List ℕ) → ℕ → Type 0
Indexed k log decided n = cell n 0 decided ≡ 1 → (cell n 1 decided < k) × (cell (cell n 1 decided) 0 log ≡ n)

abbrev pub Indices : ℕ → ℕ → List (List ℕ) → List (List ℕ) → Type 0
Indices k m log decided = (n : ℕ) → n < m → Indexed k log decided n
