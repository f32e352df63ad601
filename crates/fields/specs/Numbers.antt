-- Numbers in a command file, high byte first, in any number of bytes (document 01, 'Command file', its first lines). Assumes nothing.
use Rattle.std.specs.Prelude.{ℕ, zero, suc, ◌+◌, ◌*◌, ◌/◌, ◌%◌, [], ◌∷◌, ◌++◌}
use Rattle.machine.specs.Types.{Bytes}

-- the number n, and then each byte as its next lower digit
abbrev pub continued : ℕ → Bytes → ℕ
continued n [] = n
continued n (b ∷ bs) = continued (n * 256 + b) bs

unfoldable pub number : Bytes → ℕ
number bs = continued 0 bs

-- the k bytes of x
abbrev pub bytes_of : ℕ → ℕ → Bytes
bytes_of zero x = []
bytes_of (suc k) x = bytes_of k (x / 256) ++ (x % 256 ∷ [])
