-- What a search found, as a fact on the places of the list that was searched. For the crates that search a laid out table. Assumes nothing.
use Prim.Native.Nat.{ℕ, ◌≤◌, ◌<◌}
use mathlib.Core.Path.{◌≡◌, sym, ◌∙◌, subst}
use mathlib.Core.List.{List, []}
use native.Mathlib.Omega.{arith}
use lib.ListN.{length, get_or, take}
use lib.Seq.{get_or-take}
use Rattle.std.specs.Prelude.{Option, Some, None}
use Rattle.lists.specs.Places.{At}
use Rattle.lists.proofs.Places.{at_lt}
use Rattle.lists.proofs.Getting.{at_get_d, get_d_of_at}
use Rattle.rows.specs.Padded.{padded}
use Rattle.rows.specs.Finds.{Missing, Finds}
use Rattle.rows.proofs.Padded.{get_d_padded}

-- tables that agree on the first n rows
missing_via : (t u : List (List ℕ)) (n : ℕ) (row : List ℕ) → ((k : ℕ) → k < n → get_or t k [] ≡ get_or u k []) → Missing n t row → Missing n u row
missing_via t u n row e m k h p = m k h (e k h ∙ p)

finds_via : (t u : List (List ℕ)) (n : ℕ) (row : List ℕ) (r : Option ℕ) → ((k : ℕ) → k < n → get_or t k [] ≡ get_or u k []) → Finds n t row r → Finds n u row r
finds_via t u n row (Some i) e f = (f.0, sym (e i f.0) ∙ f.1, missing_via t u i row (λ k h. e k (omega (arith, f.0))) f.2)
finds_via t u n row None e f = missing_via t u n row e f

-- a search of a padded table is one of its rows
pub finds_padded : (room : ℕ) (z : List ℕ) (xs : List (List ℕ)) (n : ℕ) (row : List ℕ) (r : Option ℕ) → n ≡ length xs → n ≤ room → Finds n (padded room z xs) row r → Finds n xs row r
finds_padded room z xs n row r e h f = finds_via (padded room z xs) xs n row r (λ k l. get_d_padded room z xs k [] (omega arith) (omega arith)) f

pub finds_take : (t : List (List ℕ)) (n : ℕ) (row : List ℕ) (r : Option ℕ) → Finds n t row r → Finds n (take n t) row r
finds_take t n row r f = finds_via t (take n t) n row r (λ k l. sym (get_or-take n t k [] l)) f

-- as facts on places
module _ {xs : List (List ℕ)} {n : ℕ} {row : List ℕ} (e : n ≡ length xs) where
  pub found_place : {i : ℕ} → Finds n xs row (Some i) → At xs i row
  found_place {i} f = let l : i < length xs = omega (arith, f.0) in subst (At xs i) f.1 (at_get_d xs i [] l)

  pub found_first : {i : ℕ} → Finds n xs row (Some i) → {k : ℕ} → At xs k row → i ≤ k
  found_first {i} f {k} p = first (λ l. f.2 k l (get_d_of_at [] p))
    where
      first : (k < i → ⊥) → i ≤ k
      first never = omega arith

  pub missing_place : Missing n xs row → {k : ℕ} → At xs k row → ⊥
  missing_place m {k} p = let l = at_lt p in m k (omega arith) (get_d_of_at [] p)

  pub place_missing : ((k : ℕ) → At xs k row → ⊥) → Missing n xs row
  place_missing never k h p = never k (subst (At xs k) p (at_get_d xs k [] (omega arith)))
