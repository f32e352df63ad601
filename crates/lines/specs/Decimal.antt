-- A number as decimal digits, the highest first and no zero in front (document 01, 'Command file', the output lines). Assumes nothing.
use Rattle.std.specs.Prelude.{ℕ, zero, suc, ◌+◌, ◌/◌, ◌%◌, cond, List, [], ◌∷◌, ◌++◌, ltb}

-- at most k digits
abbrev pub decimal_by : ℕ → ℕ → List ℕ
decimal_by zero n = []
decimal_by (suc k) n = cond (ltb n 10) ((48 + n) ∷ []) (decimal_by k (n / 10) ++ ((48 + n % 10) ∷ []))

-- 20 digits hold every 64-bit number
unfoldable pub decimal : ℕ → List ℕ
decimal n = decimal_by 20 n
