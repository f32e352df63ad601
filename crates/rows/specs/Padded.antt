-- A table of a fixed length: the entries listed and then zeros, and what it becomes when one is taken out. Assumes nothing.
use Rattle.std.specs.Prelude.{ℕ, zero, suc, List, [], ◌∷◌, ◌++◌, take, drop}
use Rattle.lists.specs.Places.{erase}

module _ {A : Type 0} where
  -- a table of n entries: those listed, and then entries z
  unfoldable pub padded : ℕ → A → List A → List A
  padded zero z xs = []
  padded (suc n) z [] = z ∷ padded n z []
  padded (suc n) z (x ∷ xs) = x ∷ padded n z xs

  -- entry `at` taken out of the first n: the later ones of them move down, z follows, and the rest stays
  abbrev pub slid : ℕ → ℕ → A → List A → List A
  slid at n z t = erase (take n t) at ++ (z ∷ drop n t)
