-- How many elements of a list pass a test. Assumes nothing.
use Rattle.std.specs.Prelude.{◌+◌, suc, zero, ℕ, Bool, false, true, List, [], ◌∷◌}

abbrev pub bit : Bool → ℕ
bit true = 1
bit false = 0

module _ {A : Type 0} where
  abbrev pub tally : (A → Bool) → List A → ℕ
  tally p [] = 0
  tally p (x ∷ xs) = bit (p x) + tally p xs

  -- the same for a test that reads the place too, counted from n
  abbrev pub tally_from : (ℕ → A → Bool) → ℕ → List A → ℕ
  tally_from p n [] = 0
  tally_from p n (x ∷ xs) = bit (p n x) + tally_from p (suc n) xs

-- how many of the numbers below n pass
abbrev pub count : ℕ → (ℕ → Bool) → ℕ
count zero p = 0
count (suc n) p = count n p + bit (p n)
