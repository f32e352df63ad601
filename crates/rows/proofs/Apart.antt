-- Distinct rows stay so in a padded table, with one more at the end, and with one taken out; and as a fact on places. For what keeps a table of keys sound. Assumes nothing.
use Prim.Native.Nat.{ℕ, suc, ◌+◌, ◌≤◌, ◌<◌}
use mathlib.Core.Path.{◌≡◌, sym, ◌∙◌}
use mathlib.Core.List.{List, [], ◌∷◌, ◌++◌}
use mathlib.Core.Logic.{⊎_elim}
use native.Mathlib.Omega.{arith}
use lib.ListN.{length, get_or, take, get_or-append}
use lib.Seq.{get_or_at, get_or-take}
use Rattle.ids.proofs.Flags.{lt_or_ge}
use Rattle.lists.specs.Places.{At, erase}
use Rattle.lists.proofs.Places.{at_lt}
use Rattle.lists.proofs.Getting.{at_get_d, get_d_of_at, before_erase, after_erase}
use Rattle.rows.specs.Padded.{padded}
use Rattle.rows.specs.Apart.{Distinct}
use Rattle.rows.specs.Finds.{Missing}
use Rattle.rows.proofs.Padded.{get_d_padded}

-- tables that agree on the first m rows
distinct_via : (t u : List (List ℕ)) (m : ℕ) → ((k : ℕ) → k < m → get_or t k [] ≡ get_or u k []) → Distinct m t → Distinct m u
distinct_via t u m e d i h j l g p = d i h j l g (e i h ∙ p ∙ sym (e j g))

pub distinct_padded : (n : ℕ) (z : List ℕ) (xs : List (List ℕ)) (m : ℕ) → length xs ≡ m → m ≤ n → Distinct m xs → Distinct m (padded n z xs)
distinct_padded n z xs m e f d = distinct_via xs (padded n z xs) m (λ k h. sym (get_d_padded n z xs k [] (omega arith) (omega arith))) d

pub distinct_take : (m : ℕ) (t : List (List ℕ)) → Distinct m t → Distinct m (take m t)
distinct_take m t d = distinct_via t (take m t) m (λ k h. sym (get_or-take m t k [] h)) d

pub distinct_snoc : (xs : List (List ℕ)) (x : List ℕ) (m : ℕ) → length xs ≡ m → Distinct m xs → Missing m xs x → Distinct (m + 1) (xs ++ (x ∷ []))
distinct_snoc xs x m e d new i h j l g p =
    let a = get_or-append xs (x ∷ []) [] i (omega arith) in
    ⊎_elim
    (λ lt. d i (omega arith) j l lt (sym a ∙ p ∙ get_or-append xs (x ∷ []) [] j (omega arith)))
    (λ ge. new i (omega arith) (sym a ∙ p ∙ get_or_at xs x [] [] j (omega arith)))
    (lt_or_ge j m)

pub distinct_erase : (xs : List (List ℕ)) (at m : ℕ) → length xs ≡ m + 1 → Distinct (m + 1) xs → Distinct m (erase xs at)
distinct_erase xs at m e d i h j l g p =
    ⊎_elim
    (λ b. ⊎_elim
    (λ b'. d i (omega arith) j l (omega arith) (sym (before_erase xs at i [] b) ∙ p ∙ before_erase xs at j [] b'))
    (λ a'. d i (omega arith) (suc j) (omega arith) (omega arith) (sym (before_erase xs at i [] b) ∙ p ∙ after_erase xs at j [] a'))
    (lt_or_ge j at))
    (λ a. d (suc i) (omega arith) (suc j) (omega arith) (omega arith) (sym (after_erase xs at i [] a) ∙ p ∙ after_erase xs at j [] (omega arith)))
    (lt_or_ge i at)

-- ---- as a fact on places: equal rows stand at one place
same_place : (t : List (List ℕ)) (m i j : ℕ) → Distinct m t → i < m → j < m → get_or t i [] ≡ get_or t j [] → i ≡ j
same_place t m i j d h g p =
    ⊎_elim
    (λ lt. absurd (d i h j lt g p))
    (λ ge. ⊎_elim (λ gt. absurd (d j g i gt h (sym p))) (λ le. omega arith) (lt_or_ge j i))
    (lt_or_ge i j)

pub places_of_distinct : {xs : List (List ℕ)} {m : ℕ} → length xs ≡ m → Distinct m xs → {i j : ℕ} {x y : List ℕ} → At xs i x → At xs j y → x ≡ y → i ≡ j
places_of_distinct {xs} {m} e d {i} {j} p q s =
    let a = at_lt p in
    let b = at_lt q in
    same_place xs m i j d (omega arith) (omega arith) (get_d_of_at [] p ∙ s ∙ sym (get_d_of_at [] q))

pub distinct_of_places : (xs : List (List ℕ)) (m : ℕ) → length xs ≡ m → ((i j : ℕ) (x y : List ℕ) → At xs i x → At xs j y → x ≡ y → i ≡ j) → Distinct m xs
distinct_of_places xs m e one i h j l g p =
    let s : i ≡ j = one i j _ _ (at_get_d xs i [] (omega arith)) (at_get_d xs j [] (omega arith)) p in
    omega arith
