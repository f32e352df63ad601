-- What a change of a list does to a tally. Assumes nothing.
use mathlib.Core.Path.{◌≡◌, refl, sym, ap, ◌∙◌}
use Prim.Native.Nat.{ℕ, zero, suc, ◌+◌, ◌≤◌, ◌<◌}
use native.Mathlib.Nat.{suc_inj, add-zero, add-suc, suc-add}
use native.Mathlib.Omega.{arith}
use mathlib.Core.Bool.{Bool, true, false}
use mathlib.Core.List.{List, [], ◌∷◌, ◌++◌}
use lib.ListN.{length, set}
use Rattle.lists.specs.Places.{At}
use Rattle.lists.specs.Tallies.{bit, tally, tally_from}
use Rattle.lists.proofs.Places.{at_nil, at_head, down, up}

pub bit_le : (b : Bool) → bit b ≤ 1
bit_le true = omega arith
bit_le false = omega arith

module _ {A : Type 0} where
  -- ---- tallies
  pub tally_snoc : (p : A → Bool) (l : List A) (x : A) → tally p (l ++ x ∷ []) ≡ tally p l + bit (p x)
  tally_snoc p [] x = omega arith
  tally_snoc p (y ∷ ys) x = omega (arith, tally_snoc p ys x)

  pub tally_set : {l : List A} {i : ℕ} {x : A} (p : A → Bool) (y : A) → At l i x → tally p (set l i y) + bit (p x) ≡ tally p l + bit (p y)
  tally_set {l = []} p y h = absurd (at_nil h)
  tally_set {l = z ∷ zs} {i = zero} {x} p y h = let e : bit (p z) ≡ bit (p x) = ap (λ (w : A). bit (p w)) (at_head h) in omega arith
  tally_set {l = z ∷ zs} {i = suc i} p y h = omega (arith, tally_set {l = zs} p y (down h))

  pub tally_le : (p : A → Bool) (l : List A) → tally p l ≤ length l
  tally_le p [] = omega arith
  tally_le p (z ∷ zs) = omega (arith, tally_le p zs, bit_le (p z))

  pub tally_lt : {l : List A} {i : ℕ} {x : A} (p : A → Bool) → At l i x → p x ≡ false → tally p l < length l
  tally_lt {l = []} p h e = absurd (at_nil h)
  tally_lt {l = z ∷ zs} {i = zero} p h e = omega (arith, tally_le p zs, ap bit (ap p (at_head h) ∙ e))
  tally_lt {l = z ∷ zs} {i = suc i} p h e = omega (arith, tally_lt {l = zs} p (down h) e, bit_le (p z))

  pub tally_some : {l : List A} {i : ℕ} {x : A} (p : A → Bool) → At l i x → p x ≡ true → 0 < tally p l
  tally_some {l = []} p h e = absurd (at_nil h)
  tally_some {l = z ∷ zs} {i = zero} p h e = omega (arith, ap bit (ap p (at_head h) ∙ e))
  tally_some {l = z ∷ zs} {i = suc i} p h e = omega (arith, tally_some {l = zs} p (down h) e)

  pub tally_none : (p : A → Bool) (l : List A) → ((i : ℕ) (x : A) → At l i x → p x ≡ false) → tally p l ≡ 0
  tally_none p [] h = refl
  tally_none p (z ∷ zs) h =
      let e : bit (p z) ≡ 0 = ap bit (h 0 z (record { is = refl })) in
      omega (arith, tally_none p zs (λ i x a. h (suc i) x (up a)))

module _ {A B : Type 0} where
  -- tests that agree place by place count alike
  pub tally_two : (p : ℕ → A → Bool) (q : B → Bool) (k : ℕ) (l : List A) (m : List B) → length l ≡ length m
      → ((n : ℕ) (x : A) (y : B) → At l n x → At m n y → p (k + n) x ≡ q y) → tally_from p k l ≡ tally q m
  tally_two p q k [] [] e h = refl
  tally_two p q k [] (y ∷ ys) e h = absurd (omega arith)
  tally_two p q k (x ∷ xs) [] e h = absurd (omega arith)
  tally_two p q k (x ∷ xs) (y ∷ ys) e h =
      let here : p k x ≡ q y = rw add-zero at (h 0 x y (record { is = refl }) (record { is = refl })) in
      let rest = tally_two p q (suc k) xs ys (suc_inj e) (λ n a b ha hb. rw (suc-add k n ∙ sym (add-suc k n)) (h (suc n) a b (up ha) (up hb))) in
      omega (arith, ap bit here, rest)
