-- A text as the list of its bytes. Assumes nothing.
use Rattle.std.specs.Prelude.{ℕ, zero, suc, List, [], ◌∷◌}
use Prim.Native.Char.{code}
use Prim.Native.String.{String, len, char_at}

abbrev pub letters : String → ℕ → ℕ → List ℕ
letters s zero i = []
letters s (suc n) i = code (char_at s i) ∷ letters s n (suc i)

-- the bytes of a quoted text; of plain letters, each is its code
abbrev pub ascii : String → List ℕ
ascii s = letters s (len s) 0
