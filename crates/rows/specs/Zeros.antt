-- What is zero: a row, a key, and a table from a place on. For the contracts of the tests and of what clears. Assumes nothing.
use Rattle.std.specs.Prelude.{ℕ, ◌≤◌, ◌<◌, ◌≡◌, List, length, get_or, replicate}

abbrev pub zero_row : List ℕ
zero_row = replicate 6 0

abbrev pub zero_key : List ℕ
zero_key = replicate 32 0

-- every entry of t from `from` on is z; past the end `get_or` reads z too, which no clause sees
abbrev pub ZeroFrom : {A : Type 0} → A → ℕ → List A → Type 0
ZeroFrom z from t = (k : ℕ) → k < length t → from ≤ k → get_or t k z ≡ z
