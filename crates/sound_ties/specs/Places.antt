-- Where each registration is in force, by its number, and what the passes over registrations decide. For the contracts of `registrations`, `lives` and `pending`. Assumes nothing.
use Rattle.std.specs.Prelude.{◌≡◌, ◌<◌, ℕ, get_or, length, List, [], Option, Some, None, IsSome}
use Rattle.tables.specs.Fit.{waiting}
use Rattle.tables.specs.Parts.{cell}

-- the registration numbers in column c of the rows lie below the room of 256
abbrev pub Numbered : ℕ → List (List ℕ) → Type 0
Numbered c rows = (i : ℕ) → i < length rows → cell i c rows < 256

-- `place` has i at the number of each of the first n keys i, and nothing elsewhere
pub record Places (n : ℕ) (holders : List (List ℕ)) (place : List (Option ℕ)) : Type 0 where
  pub room : length place ≡ 256
  pub placed : (i : ℕ) → i < n → get_or place (cell i 2 holders) None ≡ Some i
  pub holder : (g i : ℕ) → get_or place g None ≡ Some i → (i < n) × (cell i 2 holders ≡ g)

-- no key's registration is revoked, and no two keys have the same
pub record InForce (n : ℕ) (holders revoked : List (List ℕ)) : Type 0 where
  pub in_force : (i : ℕ) → i < n → cell (cell i 2 holders) 0 revoked ≡ 0
  pub one_key : (i j : ℕ) → i < n → j < n → cell i 2 holders ≡ cell j 2 holders → i ≡ j

-- each registration that is not revoked has a place
abbrev pub EachPlaced : ℕ → List (Option ℕ) → List (List ℕ) → Type 0
EachPlaced made place revoked = (g : ℕ) → g < made → cell g 0 revoked ≡ 0 → IsSome (get_or place g None)

-- the keys' places are noted if P holds, and nothing is answered if it does not
abbrev pub Noted : Option (List (Option ℕ)) → Type 0 → List (List ℕ) → Type 0
Noted (Some place) P holders = P × Places (length holders) holders place
Noted None P holders = P → ⊥

-- at each registration's number, how many of the first m requests wait under it
pub record Counts (m : ℕ) (asked decided : List (List ℕ)) (counts : List ℕ) : Type 0 where
  pub room : length counts ≡ 256
  pub is : (g : ℕ) → g < 256 → get_or counts g 0 ≡ waiting m asked decided g

-- key i, if it is request n's, is younger than the request
abbrev pub Younger : List (List ℕ) → List (List ℕ) → List (List ℕ) → ℕ → ℕ → Type 0
Younger holders held agents n i = get_or held i [] ≡ get_or agents n [] → n < cell i 3 holders
