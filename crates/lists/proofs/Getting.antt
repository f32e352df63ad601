-- What `get_or` reads of a list and of one with a place taken out, what equal lists of two parts share, and what is stored and taken under a map. For the laws of tables. Assumes nothing.
use mathlib.Core.Path.{◌≡◌, refl, ap}
use Prim.Native.Nat.{ℕ, zero, suc, ◌≤◌, ◌<◌}
use native.Mathlib.Omega.{arith}
use mathlib.Core.List.{List, [], ◌∷◌, ◌++◌, map}
use lib.ListN.{length, get_or, set, take}
use Rattle.lists.specs.Places.{At, erase}
use Rattle.lists.proofs.Places.{at_nil, at_head, down, up}

module _ {A : Type 0} where
  pub at_get_d : (l : List A) (i : ℕ) (d : A) → i < length l → At l i (get_or l i d)
  at_get_d [] i d h = absurd (omega arith)
  at_get_d (x ∷ xs) zero d h = record { is = refl }
  at_get_d (x ∷ xs) (suc i) d h = up (at_get_d xs i d (omega arith))

  pub get_d_of_at : {l : List A} {i : ℕ} {x : A} (d : A) → At l i x → get_or l i d ≡ x
  get_d_of_at {l = []} d h = absurd (at_nil h)
  get_d_of_at {l = y ∷ ys} {i = zero} d h = at_head h
  get_d_of_at {l = y ∷ ys} {i = suc i} d h = get_d_of_at {l = ys} d (down h)

  -- ---- a place taken out
  pub take_erase : (l : List A) (i : ℕ) → take i (erase l i) ≡ take i l
  take_erase l zero = refl
  take_erase [] (suc i) = refl
  take_erase (x ∷ xs) (suc i) = ap (λ (r : List A). x ∷ r) (take_erase xs i)

  pub before_erase : (l : List A) (i k : ℕ) (d : A) → k < i → get_or (erase l i) k d ≡ get_or l k d
  before_erase [] i k d h = refl
  before_erase (x ∷ xs) zero k d h = absurd (omega arith)
  before_erase (x ∷ xs) (suc i) zero d h = refl
  before_erase (x ∷ xs) (suc i) (suc k) d h = before_erase xs i k d (omega arith)

  pub after_erase : (l : List A) (i k : ℕ) (d : A) → i ≤ k → get_or (erase l i) k d ≡ get_or l (suc k) d
  after_erase [] i k d h = refl
  after_erase (x ∷ xs) zero k d h = refl
  after_erase (x ∷ xs) (suc i) zero d h = absurd (omega arith)
  after_erase (x ∷ xs) (suc i) (suc k) d h = after_erase xs i k d (omega arith)

  -- ---- two parts: where the front ones are as long, equal lists have equal parts
  pub parts_equal : (a b : List A) {c d : List A} → length a ≡ length b → a ++ c ≡ b ++ d → (a ≡ b) × (c ≡ d)
  parts_equal [] [] e p = (refl, p)
  parts_equal [] (y ∷ b) e p = absurd (omega arith)
  parts_equal (x ∷ a) [] e p = absurd (omega arith)
  parts_equal (x ∷ a) (y ∷ b) {c} {d} e p =
      let q : x ≡ y = cc in
      let r : a ++ c ≡ b ++ d = cc in
      let s = parts_equal a b (omega arith) r in
      (λ i. q i ∷ s.0 i, s.1)

pub map_set : {A B : Type 0} (f : A → B) (l : List A) (i : ℕ) (x : A) → map f (set l i x) ≡ set (map f l) i (f x)
map_set f [] i x = refl
map_set f (y ∷ ys) zero x = refl
map_set {B = B} f (y ∷ ys) (suc i) x = ap (λ (r : List B). f y ∷ r) (map_set f ys i x)

pub map_take : {A B : Type 0} (f : A → B) (n : ℕ) (l : List A) → map f (take n l) ≡ take n (map f l)
map_take f zero l = refl
map_take f (suc n) [] = refl
map_take {B = B} f (suc n) (y ∷ ys) = ap (λ (r : List B). f y ∷ r) (map_take f n ys)
