-- No two of the first rows of a table are the same. For the contract of `distinct`. Assumes nothing.
use Rattle.std.specs.Prelude.{ℕ, ◌<◌, ◌≡◌, List, [], get_or}

abbrev pub Distinct : ℕ → List (List ℕ) → Type 0
Distinct n t = (i : ℕ) → i < n → (j : ℕ) → i < j → j < n → get_or t i [] ≡ get_or t j [] → ⊥
