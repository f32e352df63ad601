-- A list by its places: what stands at a place, and a list with one place taken out. Assumes nothing.
use Rattle.std.specs.Prelude.{◌≡◌, suc, zero, ℕ, List, [], ◌∷◌}
use Rattle.std.proofs.Math.ListN.{get_elem?}
use Rattle.std.proofs.Math.Option.{some}

module _ {A : Type 0} where
  -- place i of l holds x. A record, and not the equation itself: a proof of it then shows l, i and x, and no caller writes them
  pub record At (l : List A) (i : ℕ) (x : A) : Type 0 where
    pub is : get_elem? l i ≡ some x

  -- l without its place i: the later ones move down
  abbrev pub erase : List A → ℕ → List A
  erase [] i = []
  erase (x ∷ xs) zero = xs
  erase (x ∷ xs) (suc i) = x ∷ erase xs i

-- n numbers, from k on
abbrev pub upto : ℕ → ℕ → List ℕ
upto k zero = []
upto k (suc n) = k ∷ upto (suc k) n

-- f 0, f 1, .. f (n - 1)
unfoldable pub tab : {A : Type 0} → ℕ → (ℕ → A) → List A
tab zero f = []
tab (suc n) f = f 0 ∷ tab n (λ i. f (suc i))
