-- Several tables in one list, one after the other. For a book whose tables are parts of one slice. Assumes nothing.
use Rattle.std.specs.Prelude.{ℕ, ◌+◌, ◌≡◌, List, [], ◌∷◌, ◌++◌, map, length, take, drop}

module _ {A : Type 0} where
  abbrev pub flat : List (List A) → List A
  flat [] = []
  flat (r ∷ rs) = r ++ flat rs

  -- the tables of the lengths ss in the list n, from place a on
  abbrev pub regions : ℕ → List ℕ → List A → List (List A)
  regions a [] n = []
  regions a (s ∷ ss) n = take s (drop a n) ∷ regions (a + s) ss n

  -- the list n is the tables rs, of the lengths ss
  pub record Holds (ss : List ℕ) (n : List A) (rs : List (List A)) : Type 0 where
    pub is : n ≡ flat rs
    pub long : map length rs ≡ ss
