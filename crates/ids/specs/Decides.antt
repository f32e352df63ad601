-- What a function that answers yes or no promises. For every contract of a test. Assumes nothing.
use Rattle.std.specs.Prelude.{◌≡◌, Bool, true, false}

-- the flag r says whether P holds
pub record Decides (r : Bool) (P : Type 0) : Type 0 where
  pub yes : r ≡ true → P
  pub no : r ≡ false → P → ⊥
