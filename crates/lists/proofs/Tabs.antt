-- Lists made of a function of the place, and counts over the numbers below one. Assumes nothing.
use mathlib.Core.Path.{◌∙◌, ◌≡◌, ap, refl, sym}
use Prim.Native.Nat.{◌+◌, ◌<◌, ◌≤◌, suc, suc-le-suc, zero, ℕ}
use lib.ListN.{get_or, length, take}
use mathlib.Core.Bool.{Bool}
use mathlib.Core.List.{List, [], ◌++◌, ◌∷◌, map}
use native.Mathlib.Omega.{arith}
use Rattle.lists.proofs.Places.{at_head, at_nil, down, up}
use Rattle.lists.proofs.Tallies.{bit_le}
use Rattle.lists.specs.Places.{At, tab}
use Rattle.lists.specs.Tallies.{bit, count, tally}

module _ {A : Type 0} where
  pub length_tab : (n : ℕ) (f : ℕ → A) → length (tab n f) ≡ n
  unfolding tab
  length_tab zero f = refl
  length_tab (suc n) f = ap suc (length_tab n (λ i. f (suc i)))

  pub get_d_tab : (n : ℕ) (f : ℕ → A) (i : ℕ) (d : A) → i < n → get_or (tab n f) i d ≡ f i
  unfolding tab
  get_d_tab zero f i d h = absurd (omega arith)
  get_d_tab (suc n) f zero d h = refl
  get_d_tab (suc n) f (suc i) d h = get_d_tab n (λ i. f (suc i)) i d (omega arith)

  pub at_tab : (n : ℕ) (f : ℕ → A) {i : ℕ} {x : A} → At (tab n f) i x → (i < n) × (x ≡ f i)
  unfolding tab
  at_tab zero f h = absurd (at_nil h)
  at_tab (suc n) f {i = zero} h = (omega arith, sym (at_head h))
  at_tab (suc n) f {i = suc i} h = let r = at_tab n (λ i. f (suc i)) (down h) in (suc-le-suc r.0, r.1)

  pub tab_at : (n : ℕ) (f : ℕ → A) (i : ℕ) → i < n → At (tab n f) i (f i)
  unfolding tab
  tab_at zero f i h = absurd (omega arith)
  tab_at (suc n) f zero h = record { is = refl }
  tab_at (suc n) f (suc i) h = up (tab_at n (λ i. f (suc i)) i (omega arith))

  pub tab_ext : (n : ℕ) (f g : ℕ → A) → ((i : ℕ) → i < n → f i ≡ g i) → tab n f ≡ tab n g
  unfolding tab
  tab_ext zero f g h = refl
  tab_ext (suc n) f g h = λ i. h 0 (omega arith) i ∷ tab_ext n (λ i. f (suc i)) (λ i. g (suc i)) (λ i l. h (suc i) (omega arith)) i

  pub tab_snoc : (n : ℕ) (f : ℕ → A) → tab (suc n) f ≡ tab n f ++ f n ∷ []
  unfolding tab
  tab_snoc zero f = refl
  tab_snoc (suc n) f = ap (λ (l : List A). f 0 ∷ l) (tab_snoc n (λ i. f (suc i)))

  -- the first n of a list, read one by one
  pub tab_of : (l : List A) (n : ℕ) (f : ℕ → A) (d : A) → n ≤ length l → ((i : ℕ) → i < n → get_or l i d ≡ f i) → take n l ≡ tab n f
  unfolding tab
  tab_of l zero f d h e = refl
  tab_of [] (suc n) f d h e = absurd (omega arith)
  tab_of (x ∷ l) (suc n) f d h e = λ i. e 0 (omega arith) i ∷ tab_of l n (λ i. f (suc i)) d (omega arith) (λ i q. e (suc i) (omega arith)) i

  -- a list is what stands at its places
  pub tab_places : (l : List A) (n : ℕ) (f : ℕ → A) → length l ≡ n → ((i : ℕ) (x : A) → At l i x → x ≡ f i) → l ≡ tab n f
  unfolding tab
  tab_places [] zero f e h = refl
  tab_places [] (suc n) f e h = absurd (omega arith)
  tab_places (x ∷ l) zero f e h = absurd (omega arith)
  tab_places (x ∷ l) (suc n) f e h = λ i. h 0 x (record { is = refl }) i ∷ tab_places l n (λ j. f (suc j)) (omega arith) (λ j y a. h (suc j) y (up a)) i

  pub take_tab : (n m : ℕ) (f : ℕ → A) → n ≤ m → take n (tab m f) ≡ tab n f
  take_tab n m f h = tab_of (tab m f) n f (f 0) (rw length_tab h) (λ i l. get_d_tab m f i (f 0) (omega arith))

module _ {A B : Type 0} (g : A → B) where
  pub map_tab : (n : ℕ) (f : ℕ → A) → map g (tab n f) ≡ tab n (λ i. g (f i))
  unfolding tab
  map_tab zero f = refl
  map_tab (suc n) f = ap (λ (l : List B). g (f 0) ∷ l) (map_tab n (λ i. f (suc i)))

-- ---- counts
pub count_le : (n : ℕ) (p : ℕ → Bool) → count n p ≤ n
count_le zero p = omega arith
count_le (suc n) p = omega (arith, count_le n p, bit_le (p n))

-- tests that agree place by place count alike
pub count_ext : (n : ℕ) (p q : ℕ → Bool) → ((i : ℕ) → i < n → p i ≡ q i) → count n p ≡ count n q
count_ext zero p q h = refl
count_ext (suc n) p q h = omega (arith, count_ext n p q (λ i l. h i (omega arith)), ap bit (h n (omega arith)))

-- a count may as well begin with the first
count_first : (n : ℕ) (p : ℕ → Bool) → count (suc n) p ≡ bit (p 0) + count n (λ i. p (suc i))
count_first zero p = omega arith
count_first (suc n) p = omega (arith, count_first n p)

pub count_tally : {A : Type 0} (l : List A) (p : ℕ → Bool) (q : A → Bool) → ((i : ℕ) (x : A) → At l i x → p i ≡ q x) → count (length l) p ≡ tally q l
count_tally [] p q h = refl
count_tally (x ∷ l) p q h =
    count_first (length l) p ∙ let rest = count_tally l (λ i. p (suc i)) q (λ i y a. h (suc i) y (up a)) in omega (arith, rest, ap bit (h 0 x (record { is = refl })))
