-- What is left of a table that is written from the front, cleared, or one of whose entries is taken out. For the loops and copies that do so. Assumes nothing.
use Prim.Native.Nat.{ℕ, zero, suc, ◌+◌, ◌<◌, ◌≤◌}
use mathlib.Core.Path.{◌≡◌, refl, ap}
use mathlib.Core.List.{List, [], ◌∷◌, ◌++◌}
use native.Mathlib.Omega.{arith}
use native.Mathlib.Nat.{zero-add, suc-add}
use native.Mathlib.Numerals.{add-one}
use lib.ListN.{length, get_or, set, take, drop, replicate, length-append, length-drop}
use lib.Seq.{length-take-le, paste}
use Rattle.lists.specs.Places.{erase}
use Rattle.lists.proofs.Places.{length_erase}
use Rattle.rows.specs.Padded.{slid}

-- the first j entries are those of xs
abbrev pub over : {A : Type 0} → List A → ℕ → List A → List A
over d j xs = take j xs ++ drop j d

module _ {A : Type 0} where
  over_next : (d xs : List A) (j : ℕ) (e : A) → j < length d → j < length xs → set (over d j xs) j (get_or xs j e) ≡ over d (suc j) xs
  over_next [] xs j e h l = absurd (omega arith)
  over_next (y ∷ d) [] j e h l = absurd (omega arith)
  over_next (y ∷ d) (x ∷ xs) zero e h l = refl
  over_next (y ∷ d) (x ∷ xs) (suc j) e h l = ap (λ (r : List A). x ∷ r) (over_next d xs j e (omega arith) (omega arith))

  pub over_more : (d t xs : List A) (j : ℕ) (a e : A) → j < length d → j < length xs → a ≡ get_or xs j e → t ≡ over d j xs → set t j a ≡ over d (j + 1) xs
  over_more d t xs j a e h l p q = rw (q, p, add-one) (over_next d xs j e h l)

  -- ---- every entry is written with z
  cleared : (d : List A) (z : A) (i : ℕ) → i < length d → set (replicate i z ++ drop i d) i z ≡ replicate (suc i) z ++ drop (suc i) d
  cleared [] z i h = absurd (omega arith)
  cleared (x ∷ d) z zero h = refl
  cleared (x ∷ d) z (suc i) h = ap (λ (r : List A). z ∷ r) (cleared d z i (omega arith))

  pub cleared_more : (d t : List A) (z : A) (i : ℕ) → i < length d → t ≡ replicate i z ++ drop i d → set t i z ≡ replicate (i + 1) z ++ drop (i + 1) d
  cleared_more d t z i h e = rw (e, add-one) (cleared d z i h)

  -- ---- a table stays as long where an entry is taken out of its first n
  pub length_slid : (d : List A) (at n : ℕ) (z : A) → at < n → n ≤ length d → length (slid at n z d) ≡ length d
  length_slid d at n z in-n in-d =
      let m = length-take-le n d in-d in
      let front = length_erase (take n d) at (omega arith) in
      rw (length-append (erase (take n d) at) (z ∷ drop n d)) (omega (arith, length-drop n d))

  -- ---- the entries behind one are copied a place down, and z follows
  moved : (x : A) (xs : List A) (m : ℕ) (z : A) → m ≤ length xs → set (take m xs ++ drop m (x ∷ xs)) m z ≡ take m xs ++ (z ∷ drop m xs)
  moved x xs zero z h = refl
  moved x [] (suc m) z h = absurd (omega arith)
  moved x (y ∷ xs) (suc m) z h = ap (λ (r : List A). y ∷ r) (moved y xs m z (omega arith))

  slid_by : (t : List A) (at m : ℕ) (z : A) → at + m < length t → set (paste t at (drop (suc at) t) m) (at + m) z ≡ slid at (suc (at + m)) z t
  slid_by [] at m z h = absurd (omega arith)
  slid_by (x ∷ t) zero m z h = rw zero-add (moved x t m z (omega arith))
  slid_by (x ∷ t) (suc at) m z h = rw suc-add (ap (λ (r : List A). x ∷ r) (slid_by t at m z (omega arith)))

  pub shifted : (t : List A) (at m n last : ℕ) (z : A) → at + m ≡ last → last + 1 ≡ n → n ≤ length t → set (paste t at (drop (at + 1) t) m) last z ≡ slid at n z t
  shifted t at m n last z e f h = rw (← f, ← e, add-one at, add-one (at + m)) (slid_by t at m z (omega arith))
