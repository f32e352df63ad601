-- The first place of a row among the first n of a table. For the contract of `find`. Assumes nothing.
use Rattle.std.specs.Prelude.{ℕ, ◌<◌, ◌≡◌, List, [], get_or, Option, Some, None}

-- none of the first n rows is `row`
abbrev pub Missing : ℕ → List (List ℕ) → List ℕ → Type 0
Missing n t row = (k : ℕ) → k < n → get_or t k [] ≡ row → ⊥

abbrev pub Finds : ℕ → List (List ℕ) → List ℕ → Option ℕ → Type 0
Finds n t row (Some i) = (i < n) × (get_or t i [] ≡ row) × Missing i t row
Finds n t row None = Missing n t row
