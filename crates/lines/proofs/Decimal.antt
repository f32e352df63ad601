-- The fewest decimal digits of a number are its decimal text. Assumes nothing.
use mathlib.Core.Path.{◌≡◌}
use mathlib.Core.Logic.{◌⊎◌, inl, inr}
use Prim.Native.Nat.{ℕ, zero, suc, ◌+◌, ◌-◌, ◌/◌, ◌%◌, ◌^◌, ◌≤◌, ◌<◌}
use native.Mathlib.Nat.{pow-suc, pow-le-pow_right}
use native.Mathlib.Omega.{arith}
use borrow.Author.Tests.{lt-ltb, le-ltb}
use Rattle.ids.proofs.Flags.{lt_or_ge}
use Rattle.io.specs.Digits.{last_digits, hex_digit_ascii, IsDigitCount}
use Rattle.lines.specs.Decimal.{decimal, decimal_by}

digit : (n : ℕ) → n < 10 → hex_digit_ascii n ≡ 48 + n
digit n h = rw (lt-ltb n 10 h)

pub fewest : (f k n : ℕ) → k ≤ f → IsDigitCount 10 1 n k → last_digits 10 k n ≡ decimal_by f n
fewest zero k n h d = absurd (omega (arith, d.0))
fewest (suc f) zero n h d = absurd (omega (arith, d.0))
fewest (suc f) (suc zero) n h d =
    let small : n < 10 = omega (arith, d.1, pow-suc 10 0) in
    let same : n % 10 ≡ n = omega arith in
    rw (lt-ltb n 10 small, same, digit n small)
fewest (suc f) (suc (suc k)) n h d =
    let less : suc (suc k) - 1 ≡ suc k = omega arith in
    let low : 10 ^ suc k ≤ n = rw less at (d.2 (omega arith)) in
    let p = pow-suc 10 k in
    let q = pow-suc 10 (suc k) in
    let big : 10 ≤ n = omega (arith, pow-le-pow_right {n = 10} (omega arith) {i = 1} {j = suc k} (omega arith), low) in
    let high : n / 10 < 10 ^ suc k = omega (arith, d.1, q) in
    let under : suc k - 1 ≡ k = omega arith in
    let last : 10 ^ (suc k - 1) ≤ n / 10 = rw under (omega (arith, low, p)) in
    rw (le-ltb n 10 big, fewest f (suc k) (n / 10) (omega arith) (omega arith, high, λ more. last), digit (n % 10) (omega arith))

-- 20 digits hold a 64-bit number
pub at_most_20 : (k n : ℕ) → n < 10 ^ 20 → IsDigitCount 10 1 n k → k ≤ 20
at_most_20 k n h d = go (lt_or_ge 20 k)
  where
    go : (20 < k) ⊎ (k ≤ 20) → k ≤ 20
    go (inl l) = absurd (omega (arith, h, d.2 (omega arith), pow-le-pow_right {n = 10} (omega arith) {i = 20} {j = k - 1} (omega arith)))
    go (inr l) = l

-- as `io::decimal` gives them
pub decimal_text : (k n : ℕ) → k ≤ 20 → IsDigitCount 10 1 n k → last_digits 10 k n ≡ decimal n
unfolding decimal
decimal_text k n h d = fewest 20 k n h d

-- of a number of code, in the form that `push_decimal` needs
pub number_text : (k n : ℕ) → n < 2 ^ 64 → IsDigitCount 10 1 n k → last_digits 10 k n ≡ decimal n
number_text k n h d = decimal_text k n (at_most_20 k n (omega (arith, h)) d) d
