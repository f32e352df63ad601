-- A test of numbers that holds on a run of them, by computing it at each: one law for every run of tags. Assumes nothing.
use mathlib.Core.Path.{◌≡◌, refl, sym}
use mathlib.Core.Bool.{Bool, true, false, ◌&&◌, false≢true}
use Prim.Native.Nat.{ℕ, zero, suc, ◌+◌, ◌<◌, ◌≤◌}
use native.Mathlib.Omega.{arith}
use lib.Dec.{eqb}
use borrow.Author.Tests.{eqb-true, eqb-false}

-- two flags are the same
abbrev pub agree : Bool → Bool → Bool
agree true b = b
agree false true = false
agree false false = true

agreed : (a b : Bool) → agree a b ≡ true → a ≡ b
agreed true b e = sym e
agreed false true e = e
agreed false false e = refl

-- b is what p says of lo and of the n - 1 numbers after it
abbrev pub throughout : Bool → (ℕ → Bool) → ℕ → ℕ → Bool
throughout b p lo zero = true
throughout b p lo (suc n) = agree b (p lo) && throughout b p (suc lo) n

both : (a b : Bool) → a && b ≡ true → (a ≡ true) × (b ≡ true)
both true b e = (refl, e)
both false b e = absurd (false≢true e)

pub at : (b : Bool) (p : ℕ → Bool) (lo n : ℕ) → throughout b p lo n ≡ true → (t : ℕ) → lo ≤ t → t < lo + n → b ≡ p t
at b p lo zero all t h₁ h₂ = absurd (omega arith)
at b p lo (suc n) all t h₁ h₂ =
    let rest = at b p (suc lo) n (both (agree b (p lo)) (throughout b p (suc lo) n) all).1 t in
    go (eqb t lo) refl rest
  where
    go : (d : Bool) → eqb t lo ≡ d → (suc lo ≤ t → t < suc lo + n → b ≡ p t) → b ≡ p t
    go true e rest = rw (eqb-true t lo e) (agreed b (p lo) (both (agree b (p lo)) (throughout b p (suc lo) n) all).0)
    go false e rest = let ne = eqb-false t lo e in rest (omega arith) (omega arith)
