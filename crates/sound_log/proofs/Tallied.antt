-- Counting the numbers below n that pass a test. For the counts of approvals and of waiting requests. Assumes nothing.
use mathlib.Core.Path.{◌≡◌, refl}
use Prim.Native.Nat.{ℕ, zero, suc, ◌≤◌}
use native.Mathlib.Numerals.{add-one}
use native.Mathlib.Omega.{arith}
use mathlib.Core.Bool.{Bool, true, false, cond}
use mathlib.Core.List.{List}
use lib.ListN.{get_or, length, take}
use Rattle.std.specs.List.{count_by}
use Rattle.std.proofs.lemmas.List.Sums.{sum_by_more}
use Rattle.lists.proofs.Tallies.{bit_le}
use Rattle.lists.specs.Tallies.{bit, count}

pub count_le : (p : ℕ → Bool) (n : ℕ) → count n p ≤ n
count_le p zero = omega arith
count_le p (suc n) = omega (arith, count_le p n, bit_le (p n))

bit_is : (b : Bool) → cond b 1 0 ≡ bit b
bit_is true = refl
bit_is false = refl

-- the elements of a list's first n that pass are counted by their places
pub count_by-take : {A : Type 0} (p : A → Bool) (l : List A) (d : A) (n : ℕ) → n ≤ length l → count_by p (take n l) ≡ count n (λ i. p (get_or l i d))
count_by-take p l d zero h = refl
count_by-take p l d (suc n) h =
    rw (← add-one n) (omega (arith, sum_by_more (λ x. cond (p x) 1 0) l n d (omega arith), bit_is (p (get_or l n d)), count_by-take p l d n (omega arith)))
