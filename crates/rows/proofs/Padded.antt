-- A table is its entries, padded with zeros: reading, storing, appending, taking out, decoding. For the laws of every laid out table. Assumes nothing.
use Prim.Native.Nat.{ℕ, zero, suc, ◌+◌, ◌≤◌, ◌<◌}
use mathlib.Core.Path.{◌≡◌, refl, sym, ap, ◌∙◌}
use mathlib.Core.List.{List, [], ◌∷◌, ◌++◌, map, map-append}
use native.Mathlib.Omega.{arith}
use native.Mathlib.Nat.{zero-add, suc-add}
use lib.ListN.{length, get_or, set, take, drop, replicate, length-map}
use lib.Seq.{paste, take-length}
use Rattle.lists.specs.Places.{erase}
use Rattle.lists.proofs.Getting.{map_set}
use Rattle.lists.proofs.Maps.{map_erase}
use Rattle.rows.specs.Zeros.{ZeroFrom}
use Rattle.rows.specs.Padded.{padded, slid}

module _ {A : Type 0} where
  -- ---- its length, and what is read of it
  pub length_padded : (n : ℕ) (z : A) (xs : List A) → length (padded n z xs) ≡ n
  unfolding padded
  length_padded zero z xs = refl
  length_padded (suc n) z [] = ap suc (length_padded n z [])
  length_padded (suc n) z (x ∷ xs) = ap suc (length_padded n z xs)

  pub take_padded : (n : ℕ) (z : A) (xs : List A) → length xs ≤ n → take (length xs) (padded n z xs) ≡ xs
  unfolding padded
  take_padded n z [] h = refl
  take_padded zero z (x ∷ xs) h = absurd (omega arith)
  take_padded (suc n) z (x ∷ xs) h = ap (λ (r : List A). x ∷ r) (take_padded n z xs (omega arith))

  pub get_d_padded : (n : ℕ) (z : A) (xs : List A) (i : ℕ) (d : A) → i < length xs → length xs ≤ n → get_or (padded n z xs) i d ≡ get_or xs i d
  unfolding padded
  get_d_padded n z [] i d l h = absurd (omega arith)
  get_d_padded zero z (x ∷ xs) i d l h = absurd (omega arith)
  get_d_padded (suc n) z (x ∷ xs) zero d l h = refl
  get_d_padded (suc n) z (x ∷ xs) (suc i) d l h = get_d_padded n z xs i d (omega arith) (omega arith)

  pub rest_padded : (n : ℕ) (z : A) (xs : List A) (i : ℕ) (d : A) → length xs ≤ i → i < n → get_or (padded n z xs) i d ≡ z
  unfolding padded
  rest_padded zero z xs i d l h = absurd (omega arith)
  rest_padded (suc n) z [] zero d l h = refl
  rest_padded (suc n) z [] (suc i) d l h = rest_padded n z [] i d (omega arith) (omega arith)
  rest_padded (suc n) z (x ∷ xs) zero d l h = absurd (omega arith)
  rest_padded (suc n) z (x ∷ xs) (suc i) d l h = rest_padded n z xs i d (omega arith) (omega arith)

  pub zero_rest : (n : ℕ) (z : A) (xs : List A) (m : ℕ) → length xs ≡ m → ZeroFrom z m (padded n z xs)
  zero_rest n z xs m e k h l = let p = length_padded n z xs in rest_padded n z xs k z (omega arith) (omega arith)

  pub none_padded : (n : ℕ) (z : A) → padded n z [] ≡ replicate n z
  unfolding padded
  none_padded zero z = refl
  none_padded (suc n) z = ap (λ (r : List A). z ∷ r) (none_padded n z)

  -- ---- a table tells its entries
  -- where all from m on are zero, it is its first m entries, padded
  pub decode : (t : List A) (n m : ℕ) (z : A) → length t ≡ n → ZeroFrom z m t → t ≡ padded n z (take m t)
  unfolding padded
  decode [] zero m z e h = refl
  decode [] (suc n) m z e h = absurd (omega arith)
  decode (x ∷ t) zero m z e h = absurd (omega arith)
  decode (x ∷ t) (suc n) zero z e h =
      let a = h 0 (omega arith) (omega arith) in
      let b = decode t n zero z (omega arith) (λ k l _. h (suc k) (omega arith) (omega arith)) in
      cc
  decode (x ∷ t) (suc n) (suc m) z e h =
      ap (λ (r : List A). x ∷ r) (decode t n m z (omega arith) (λ k l g. h (suc k) (omega arith) (omega arith)))

  pub padded_injective : (n : ℕ) (z : A) (xs ys : List A) → length xs ≡ length ys → length xs ≤ n → padded n z xs ≡ padded n z ys → xs ≡ ys
  padded_injective n z xs ys e h p =
      sym (take_padded n z xs h) ∙ (λ i. take (e i) (p i)) ∙ take_padded n z ys (omega arith)

  -- ---- a store, and one more
  pub set_padded : (n : ℕ) (z : A) (xs : List A) (i : ℕ) (a : A) → i < length xs → length xs ≤ n
      → set (padded n z xs) i a ≡ padded n z (set xs i a)
  unfolding padded
  set_padded n z [] i a l h = absurd (omega arith)
  set_padded zero z (x ∷ xs) i a l h = absurd (omega arith)
  set_padded (suc n) z (x ∷ xs) zero a l h = refl
  set_padded (suc n) z (x ∷ xs) (suc i) a l h = ap (λ (r : List A). x ∷ r) (set_padded n z xs i a (omega arith) (omega arith))

  pub snoc_padded : (n : ℕ) (z : A) (xs : List A) (a : A) → length xs < n → set (padded n z xs) (length xs) a ≡ padded n z (xs ++ (a ∷ []))
  unfolding padded
  snoc_padded zero z xs a h = absurd (omega arith)
  snoc_padded (suc n) z [] a h = refl
  snoc_padded (suc n) z (x ∷ xs) a h = ap (λ (r : List A). x ∷ r) (snoc_padded n z xs a (omega arith))

  -- one more zero is there already
  pub zero_padded : (n : ℕ) (z : A) (xs : List A) → length xs < n → padded n z xs ≡ padded n z (xs ++ (z ∷ []))
  unfolding padded
  zero_padded zero z xs h = absurd (omega arith)
  zero_padded (suc n) z [] h = refl
  zero_padded (suc n) z (x ∷ xs) h = ap (λ (r : List A). x ∷ r) (zero_padded n z xs (omega arith))

  -- ---- several more: what is pasted behind the entries
  drop_none : (n k : ℕ) (z : A) (s : List A) → length s ≡ k → k ≤ n → s ++ drop k (padded n z []) ≡ padded n z s
  unfolding padded
  drop_none n zero z [] e h = refl
  drop_none n (suc k) z [] e h = absurd (omega arith)
  drop_none n zero z (x ∷ s) e h = absurd (omega arith)
  drop_none zero (suc k) z (x ∷ s) e h = absurd (omega arith)
  drop_none (suc n) (suc k) z (x ∷ s) e h = ap (λ (r : List A). x ∷ r) (drop_none n k z s (omega arith) (omega arith))

  pub paste_padded : (n : ℕ) (z : A) (xs s : List A) → length xs + length s ≤ n → paste (padded n z xs) (length xs) s (length s) ≡ padded n z (xs ++ s)
  unfolding padded
  paste_padded n z [] s h = rw (zero-add, take-length) (drop_none n (length s) z s refl (omega arith))
  paste_padded zero z (x ∷ xs) s h = absurd (omega arith)
  paste_padded (suc n) z (x ∷ xs) s h = rw suc-add (ap (λ (r : List A). x ∷ r) (paste_padded n z xs s (omega arith)))

  -- ---- an entry taken out
  one_more : (n : ℕ) (z : A) (xs : List A) → length xs ≤ n → take (length xs) (padded n z xs) ++ (z ∷ drop (length xs) (padded n z xs)) ≡ padded (suc n) z xs
  unfolding padded
  one_more n z [] h = refl
  one_more zero z (x ∷ xs) h = absurd (omega arith)
  one_more (suc n) z (x ∷ xs) h = ap (λ (r : List A). x ∷ r) (one_more n z xs (omega arith))

  slid_all : (room : ℕ) (z : A) (xs : List A) (at : ℕ) → at < length xs → length xs ≤ room
      → slid at (length xs) z (padded room z xs) ≡ padded room z (erase xs at)
  unfolding padded
  slid_all room z [] at l h = absurd (omega arith)
  slid_all zero z (x ∷ xs) at l h = absurd (omega arith)
  slid_all (suc room) z (x ∷ xs) zero l h = one_more room z xs (omega arith)
  slid_all (suc room) z (x ∷ xs) (suc at) l h = ap (λ (r : List A). x ∷ r) (slid_all room z xs at (omega arith) (omega arith))

  pub slid_padded : (room : ℕ) (z : A) (xs : List A) (at n : ℕ) → n ≡ length xs → at < n → n ≤ room
      → slid at n z (padded room z xs) ≡ padded room z (erase xs at)
  slid_padded room z xs at n e l h = rw e (slid_all room z xs at (omega arith) (omega arith))

-- ---- entries seen through a function of what they stand for
module _ {A B : Type 0} (n : ℕ) (z : B) (f : A → B) (xs : List A) where
  pub snoc_map : (x : A) → length xs < n → set (padded n z (map f xs)) (length xs) (f x) ≡ padded n z (map f (xs ++ (x ∷ [])))
  snoc_map x h =
      let e = length-map xs f in
      ap (λ (k : ℕ). set (padded n z (map f xs)) k (f x)) (sym e)
      ∙ snoc_padded n z (map f xs) (f x) (omega arith)
      ∙ ap (padded n z) (sym (map-append f xs (x ∷ [])))

  pub set_map : (i : ℕ) (x : A) → i < length xs → length xs ≤ n → set (padded n z (map f xs)) i (f x) ≡ padded n z (map f (set xs i x))
  set_map i x l h =
      let e = length-map xs f in
      set_padded n z (map f xs) i (f x) (omega arith) (omega arith) ∙ ap (padded n z) (sym (map_set f xs i x))

  pub slid_map : (at : ℕ) → at < length xs → length xs ≤ n → slid at (length xs) z (padded n z (map f xs)) ≡ padded n z (map f (erase xs at))
  slid_map at l h =
      let e = length-map xs f in
      slid_padded n z (map f xs) at (length xs) (sym e) l h ∙ ap (padded n z) (sym (map_erase f xs at))
