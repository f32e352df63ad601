-- What each place of a changed list holds: one more at the end, a store, a place taken out, a part. Assumes nothing.
use mathlib.Core.Logic.{◌≢◌, ◌⊎◌, inl, inr}
use mathlib.Core.Path.{◌≡◌, ap, refl, sym}
use Prim.Native.Nat.{◌+◌, ◌<◌, ◌≤◌, suc, suc-le-suc, zero, ℕ}
use lib.ListN.{drop, get_elem?, length, set, take}
use mathlib.Core.List.{List, [], ◌++◌, ◌∷◌}
use mathlib.Core.Option.{none}
use native.Mathlib.Nat.{add-suc, add-zero, le_of_suc-le-suc, not-suc-le-zero, suc-add, suc_inj, zero-add, zero-lt-suc}
use native.Mathlib.Omega.{arith}
use Rattle.lists.specs.Places.{At, erase, upto}

module _ {A : Type 0} where
  -- ---- a place that holds something, and the length
  pub at_one : {l : List A} {i j : ℕ} {x y : A} → At l i x → At l j y → i ≡ j → x ≡ y
  at_one p q e = cc

  pub at_nil : {i : ℕ} {x : A} → At [] i x → ⊥
  at_nil h = let z : ◌≡◌ {A = ℕ} 0 1 = cc in omega arith

  pub at_head : {y : A} {l : List A} {x : A} → At (y ∷ l) zero x → y ≡ x
  at_head h = cc

  pub down : {y : A} {l : List A} {i : ℕ} {x : A} → At (y ∷ l) (suc i) x → At l i x
  down h = record { is = h.is }

  pub up : {y : A} {l : List A} {i : ℕ} {x : A} → At l i x → At (y ∷ l) (suc i) x
  up h = record { is = h.is }

  pub at_lt : {l : List A} {i : ℕ} {x : A} → At l i x → i < length l
  at_lt {l = []} h = absurd (at_nil h)
  at_lt {l = y ∷ ys} {i = zero} h = zero-lt-suc (length ys)
  at_lt {l = y ∷ ys} {i = suc i} h = suc-le-suc (at_lt {l = ys} (down h))

  pub at_below : (l : List A) (i : ℕ) → i < length l → (x : A) × At l i x
  at_below [] i h = absurd (not-suc-le-zero h)
  at_below (y ∷ ys) zero h = (y, record { is = refl })
  at_below (y ∷ ys) (suc i) h = let r = at_below ys i (le_of_suc-le-suc h) in (r.0, up r.1)

  -- ---- one more at the end
  pub length_snoc : (l : List A) (x : A) → length (l ++ x ∷ []) ≡ suc (length l)
  length_snoc [] x = refl
  length_snoc (y ∷ ys) x = ap suc (length_snoc ys x)

  pub at_old : {l : List A} {i : ℕ} {x : A} (m : List A) → At l i x → At (l ++ m) i x
  at_old {l = []} m h = absurd (at_nil h)
  at_old {l = y ∷ ys} {i = zero} m h = record { is = h.is }
  at_old {l = y ∷ ys} {i = suc i} m h = up (at_old {l = ys} m (down h))

  pub at_end : (l : List A) (x : A) → At (l ++ x ∷ []) (length l) x
  at_end [] x = record { is = refl }
  at_end (y ∷ ys) x = up (at_end ys x)

  -- a place of the longer list is an old place, or the new one
  pub at_snoc : (l : List A) (x : A) {i : ℕ} {y : A} → At (l ++ x ∷ []) i y → At l i y ⊎ ((i ≡ length l) × (y ≡ x))
  at_snoc [] x {i = zero} h = inr (refl, sym (at_head h))
  at_snoc [] x {i = suc i} h = absurd (at_nil (down h))
  at_snoc (z ∷ zs) x {i = zero} h = inl (record { is = h.is })
  at_snoc (z ∷ zs) x {i = suc i} {y} h = go (at_snoc zs x (down h))
    where
      go : At zs i y ⊎ ((i ≡ length zs) × (y ≡ x)) → At (z ∷ zs) (suc i) y ⊎ ((suc i ≡ suc (length zs)) × (y ≡ x))
      go (inl a) = inl (up a)
      go (inr e) = inr (ap suc e.0, e.1)

  -- ---- a store
  pub at_set_same : (l : List A) (i : ℕ) (x : A) → i < length l → At (set l i x) i x
  at_set_same [] i x h = absurd (not-suc-le-zero h)
  at_set_same (y ∷ ys) zero x h = record { is = refl }
  at_set_same (y ∷ ys) (suc i) x h = up (at_set_same ys i x (le_of_suc-le-suc h))

  pub at_set_other : {l : List A} {j : ℕ} {y : A} (i : ℕ) (x : A) → j ≢ i → At l j y → At (set l i x) j y
  at_set_other {l = []} i x n h = absurd (at_nil h)
  at_set_other {l = y ∷ ys} {j = zero} zero x n h = absurd (n refl)
  at_set_other {l = y ∷ ys} {j = suc j} zero x n h = up (down h)
  at_set_other {l = y ∷ ys} {j = zero} (suc i) x n h = record { is = h.is }
  at_set_other {l = y ∷ ys} {j = suc j} (suc i) x n h = up (at_set_other {l = ys} i x (λ e. n (ap suc e)) (down h))

  -- a place of the changed list is the changed one, or an old one elsewhere
  pub at_set : (l : List A) (i : ℕ) (x : A) {j : ℕ} {y : A} → At (set l i x) j y → ((j ≡ i) × (y ≡ x)) ⊎ ((j ≢ i) × At l j y)
  at_set [] i x h = absurd (at_nil h)
  at_set (z ∷ zs) zero x {j = zero} h = inl (refl, sym (at_head h))
  at_set (z ∷ zs) zero x {j = suc j} h = inr ((λ e. omega arith), up (down h))
  at_set (z ∷ zs) (suc i) x {j = zero} h = inr ((λ e. omega arith), record { is = h.is })
  at_set (z ∷ zs) (suc i) x {j = suc j} {y} h = go (at_set zs i x (down h))
    where
      go : ((j ≡ i) × (y ≡ x)) ⊎ ((j ≢ i) × At zs j y) → ((suc j ≡ suc i) × (y ≡ x)) ⊎ ((suc j ≢ suc i) × At (z ∷ zs) (suc j) y)
      go (inl e) = inl (ap suc e.0, e.1)
      go (inr n) = inr ((λ e. n.0 (suc_inj e)), up n.1)

  -- ---- a place taken out: place j of what is left was place j or suc j
  pub at_erase : (l : List A) (i : ℕ) {j : ℕ} {y : A} → At (erase l i) j y → ((j < i) × At l j y) ⊎ ((i ≤ j) × At l (suc j) y)
  at_erase [] i h = absurd (at_nil h)
  at_erase (z ∷ zs) zero h = inr (omega arith, up h)
  at_erase (z ∷ zs) (suc i) {j = zero} h = inl (omega arith, record { is = h.is })
  at_erase (z ∷ zs) (suc i) {j = suc j} {y} h = go (at_erase zs i (down h))
    where
      go : ((j < i) × At zs j y) ⊎ ((i ≤ j) × At zs (suc j) y) → ((suc j < suc i) × At (z ∷ zs) (suc j) y) ⊎ ((suc i ≤ suc j) × At (z ∷ zs) (suc (suc j)) y)
      go (inl e) = inl (suc-le-suc e.0, up e.1)
      go (inr n) = inr (suc-le-suc n.0, up n.1)

  -- so it is an old one, other than the one taken out; and different places were different places
  pub at_back : (l : List A) (i : ℕ) {j : ℕ} {y : A} → At (erase l i) j y → (k : ℕ) × At l k y × (k ≢ i)
  at_back l i {j} h = elim (at_erase l i h) [ inl a ↦ (j, a.1, omega arith) | inr a ↦ (suc j, a.1, omega arith) ]

  pub at_back_two : (l : List A) (i : ℕ) {j k : ℕ} {x y : A} → At (erase l i) j x → At (erase l i) k y
      → (m : ℕ) × (n : ℕ) × At l m x × At l n y × (m ≡ n → j ≡ k)
  at_back_two l i {j} {k} h g = elim (at_erase l i h) [
    | inl a ↦ elim (at_erase l i g) [ inl b ↦ (j, k, a.1, b.1, λ e. e) | inr b ↦ (j, suc k, a.1, b.1, λ e. omega arith) ]
    | inr a ↦ elim (at_erase l i g) [ inl b ↦ (suc j, k, a.1, b.1, λ e. omega arith) | inr b ↦ (suc j, suc k, a.1, b.1, λ e. omega arith) ]
  ]

  -- a place other than the one taken out is still there
  pub at_kept : {l : List A} {j : ℕ} {y : A} (i : ℕ) → j ≢ i → At l j y → (k : ℕ) × At (erase l i) k y
  at_kept {l = []} i n h = absurd (at_nil h)
  at_kept {l = z ∷ zs} {j = zero} zero n h = absurd (n refl)
  at_kept {l = z ∷ zs} {j = suc j} zero n h = (j, down h)
  at_kept {l = z ∷ zs} {j = zero} (suc i) n h = (0, record { is = h.is })
  at_kept {l = z ∷ zs} {j = suc j} (suc i) n h = let r = at_kept {l = zs} i (λ e. n (ap suc e)) (down h) in (suc r.0, up r.1)

  pub length_erase : (l : List A) (i : ℕ) → i < length l → suc (length (erase l i)) ≡ length l
  length_erase [] i h = absurd (not-suc-le-zero h)
  length_erase (z ∷ zs) zero h = refl
  length_erase (z ∷ zs) (suc i) h = ap suc (length_erase zs i (le_of_suc-le-suc h))

  -- ---- a place of a part
  pub at_take : (k : ℕ) (l : List A) {i : ℕ} {x : A} → At (take k l) i x → At l i x
  at_take zero l h = absurd (at_nil h)
  at_take (suc k) [] h = absurd (at_nil h)
  at_take (suc k) (y ∷ ys) {i = zero} h = record { is = h.is }
  at_take (suc k) (y ∷ ys) {i = suc i} h = up (at_take k ys (down h))

  pub at_drop : (k : ℕ) (l : List A) {i : ℕ} {x : A} → At (drop k l) i x → At l (k + i) x
  at_drop zero l h = rw zero-add h
  at_drop (suc k) [] h = absurd (at_nil h)
  at_drop (suc k) (y ∷ ys) h = rw suc-add (up (at_drop k ys h))

  -- ---- nothing there
  pub at_none : (l : List A) (i : ℕ) → get_elem? l i ≡ none → length l ≤ i
  at_none [] i h = omega arith
  at_none (y ∷ ys) zero h = let z : ◌≡◌ {A = ℕ} 0 1 = cc in absurd (omega arith)
  at_none (y ∷ ys) (suc i) h = suc-le-suc (at_none ys i h)

  pub past_end : (l : List A) (i : ℕ) → length l ≤ i → get_elem? l i ≡ none
  past_end [] i h = refl
  past_end (y ∷ ys) zero h = absurd (not-suc-le-zero h)
  past_end (y ∷ ys) (suc i) h = past_end ys i (le_of_suc-le-suc h)

  pub get_elem?_old : (l m : List A) (i : ℕ) → i < length l → get_elem? (l ++ m) i ≡ get_elem? l i
  get_elem?_old [] m i h = absurd (not-suc-le-zero h)
  get_elem?_old (x ∷ xs) m zero h = refl
  get_elem?_old (x ∷ xs) m (suc i) h = get_elem?_old xs m i (le_of_suc-le-suc h)

  -- two lists are equal when they are as long and agree at each place
  pub ext_at : (l m : List A) → length l ≡ length m → ((i : ℕ) (x y : A) → At l i x → At m i y → x ≡ y) → l ≡ m
  ext_at [] [] e h = refl
  ext_at [] (y ∷ ys) e h = absurd (omega arith)
  ext_at (x ∷ xs) [] e h = absurd (omega arith)
  ext_at (x ∷ xs) (y ∷ ys) e h =
      λ i. h 0 x y (record { is = refl }) (record { is = refl }) i ∷ ext_at xs ys (suc_inj e) (λ j a b p q. h (suc j) a b (up p) (up q)) i

-- two lists that grow in step
module _ {A B : Type 0} where
  pub at_snoc_two : (l : List A) (m : List B) (x : A) (y : B) → length l ≡ length m → {i : ℕ} {a : A} {b : B} → At (l ++ x ∷ []) i a → At (m ++ y ∷ []) i b
      → (At l i a × At m i b) ⊎ ((a ≡ x) × (b ≡ y))
  at_snoc_two l m x y e ha hb = elim (at_snoc l x ha) [
    | inl p ↦ elim (at_snoc m y hb) [ inl q ↦ inl (p, q) | inr q ↦ absurd (omega (arith, at_lt p)) ]
    | inr p ↦ elim (at_snoc m y hb) [ inl q ↦ absurd (omega (arith, at_lt q)) | inr q ↦ inr (p.1, q.1) ]
  ]

-- two lists, one after the other
module _ {A : Type 0} where
  pub at_append : (l m : List A) {i : ℕ} {x : A} → At (l ++ m) i x → At l i x ⊎ ((k : ℕ) × (i ≡ length l + k) × At m k x)
  at_append [] m {i} h = inr (i, omega arith, h)
  at_append (y ∷ ys) m {i = zero} h = inl (record { is = h.is })
  at_append (y ∷ ys) m {i = suc i} {x} h = go (at_append ys m (down h))
    where
      go : At ys i x ⊎ ((k : ℕ) × (i ≡ length ys + k) × At m k x) → At (y ∷ ys) (suc i) x ⊎ ((k : ℕ) × (suc i ≡ suc (length ys) + k) × At m k x)
      go (inl a) = inl (up a)
      go (inr b) = inr (b.0, omega (arith, b.1), b.2)

  -- a list that holds all that l holds, where l holds it, goes on from l
  pub goes_on_from : (l m : List A) → ((i : ℕ) (x : A) → At l i x → At m i x) → (more : List A) × (m ≡ l ++ more)
  goes_on_from [] m h = (m, refl)
  goes_on_from (y ∷ ys) [] h = absurd (at_nil (h 0 y (record { is = refl })))
  goes_on_from (y ∷ ys) (z ∷ zs) h =
      let r = goes_on_from ys zs (λ i x a. down (h (suc i) x (up a))) in
      let e = at_head (h 0 y (record { is = refl })) in
      (r.0, λ i. e i ∷ r.1 i)

pub length_upto : (k n : ℕ) → length (upto k n) ≡ n
length_upto k zero = refl
length_upto k (suc n) = ap suc (length_upto (suc k) n)

pub upto_append : (k m n : ℕ) → upto k (m + n) ≡ upto k m ++ upto (k + m) n
upto_append k zero n = rw (zero-add, add-zero)
upto_append k (suc m) n = rw (suc-add, add-suc, ← suc-add) (ap (λ (l : List ℕ). k ∷ l) (upto_append (suc k) m n))
