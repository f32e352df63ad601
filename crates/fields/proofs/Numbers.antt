-- Numbers of any width, high byte first: how they grow by a byte, how large they are, and that reading undoes writing and writing reading. Assumes nothing.
use mathlib.Core.Path.{◌≡◌, refl, sym, ap, ◌∙◌}
use mathlib.Core.List.{[], ◌∷◌, ◌++◌}
use Prim.Native.Nat.{ℕ, zero, suc, ◌+◌, ◌*◌, ◌/◌, ◌%◌, ◌<◌, ◌^◌}
use native.Mathlib.Nat.{pow-suc, pow-le-pow_right}
use native.Mathlib.Omega.{arith}
use lib.ListN.{length, get_or, take}
use lib.Seq.{take-suc, take_all, length-take-le}
use Rattle.machine.specs.Types.{Bytes}
use Rattle.fields.specs.Numbers.{continued, number, bytes_of}

continued_more : (n : ℕ) (xs : Bytes) (b : ℕ) → continued n (xs ++ b ∷ []) ≡ continued n xs * 256 + b
continued_more n [] b = refl
continued_more n (x ∷ xs) b = continued_more (n * 256 + x) xs b

pub number_more : (xs : Bytes) (b : ℕ) → number (xs ++ b ∷ []) ≡ number xs * 256 + b
unfolding number
number_more xs b = continued_more 0 xs b

-- one byte of a list more
pub number_next : (l : Bytes) (i : ℕ) → i < length l → number (take (suc i) l) ≡ number (take i l) * 256 + get_or l i 0
number_next l i h = rw (take-suc l i 0 h) (number_more (take i l) (get_or l i 0))

-- of a whole list, by its last byte
number_last : (k : ℕ) (l : Bytes) → length l ≡ suc k → number l ≡ number (take k l) * 256 + get_or l k 0
number_last k l e = ap number (sym (take_all (suc k) l (omega arith))) ∙ number_next l k (omega arith)

-- ---- how large a number of so many bytes is, so that a byte more fits below the eighth
pub room : (n k : ℕ) → n < 256 ^ k → k < 8 → n < 2 ^ 56
room n k h e = omega (arith, h, pow-le-pow_right {n = 256} (omega arith) {i = k} {j = 7} (omega arith))

pub larger : (n k b : ℕ) → n < 256 ^ k → b < 256 → n * 256 + b < 256 ^ suc k
larger n k b h e = omega (arith, h, pow-suc 256 k)

-- the first bytes of bytes are bytes
small_take : (k : ℕ) (l : Bytes) → ((i : ℕ) → get_or l i 0 < 256) → (i : ℕ) → get_or (take k l) i 0 < 256
small_take zero l s i = omega arith
small_take (suc k) [] s i = omega arith
small_take (suc k) (x ∷ xs) s zero = s zero
small_take (suc k) (x ∷ xs) s (suc i) = small_take k xs (λ j. s (suc j)) i

-- ---- both round trips
pub written_read : (k x : ℕ) → x < 256 ^ k → number (bytes_of k x) ≡ x
unfolding number
written_read zero x h = omega arith
written_read (suc k) x h =
    let p : x < 256 ^ k * 256 = rw (← pow-suc) h in
    number_more (bytes_of k (x / 256)) (x % 256) ∙ omega (arith, written_read k (x / 256) (omega arith))

pub read_written : (k : ℕ) (l : Bytes) → length l ≡ k → ((i : ℕ) → get_or l i 0 < 256) → bytes_of k (number l) ≡ l
read_written zero [] e small = refl
read_written zero (b ∷ bs) e small = absurd (omega arith)
read_written (suc k) l e small =
    let n : ℕ = number (take k l) in
    let b : ℕ = get_or l k 0 in
    let s : b < 256 = small k in
    let high : (n * 256 + b) / 256 ≡ n = omega arith in
    let low : (n * 256 + b) % 256 ≡ b = omega arith in
    rw (number_last k l e, high, low)
    (ap (λ (m : Bytes). m ++ b ∷ []) (read_written k (take k l) (length-take-le k l (omega arith)) (small_take k l small))
    ∙ sym (take-suc l k 0 (omega arith))
    ∙ take_all (suc k) l (omega arith))

pub ruleset grows = (room, larger, number_next)
