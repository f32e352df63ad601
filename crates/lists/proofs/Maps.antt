-- Places and changes of a list, under a map. Assumes nothing.
use mathlib.Core.Path.{◌≡◌, refl, sym, ap, ◌∙◌}
use Prim.Native.Nat.{ℕ, zero, suc}
use mathlib.Core.Option.{some}
use mathlib.Core.List.{List, [], ◌∷◌, ◌++◌, map}
use lib.ListN.{set}
use Rattle.lists.specs.Places.{At, erase}
use Rattle.lists.proofs.Places.{at_nil, at_head, down, up}

module _ {A B : Type 0} (f : A → B) where
  pub at_map : {l : List A} {i : ℕ} {x : A} → At l i x → At (map f l) i (f x)
  at_map {l = []} h = absurd (at_nil h)
  at_map {l = z ∷ zs} {i = zero} {x} h = record { is = ap (λ (w : A). some (f w)) (at_head h) }
  at_map {l = z ∷ zs} {i = suc i} h = up (at_map {l = zs} (down h))

  pub at_unmap : (l : List A) {i : ℕ} {y : B} → At (map f l) i y → (x : A) × At l i x × (f x ≡ y)
  at_unmap [] h = absurd (at_nil h)
  at_unmap (z ∷ zs) {i = zero} h = (z, record { is = refl }, at_head h)
  at_unmap (z ∷ zs) {i = suc i} h = let r = at_unmap zs (down h) in (r.0, up r.1, r.2)

  pub map_snoc : (l : List A) (x : A) → map f (l ++ x ∷ []) ≡ map f l ++ f x ∷ []
  map_snoc [] x = refl
  map_snoc (y ∷ ys) x = ap (λ (r : List B). f y ∷ r) (map_snoc ys x)

  pub map_erase : (l : List A) (i : ℕ) → map f (erase l i) ≡ erase (map f l) i
  map_erase [] i = refl
  map_erase (y ∷ ys) zero = refl
  map_erase (y ∷ ys) (suc i) = ap (λ (r : List B). f y ∷ r) (map_erase ys i)

  -- a store that f cannot tell from what was there
  pub map_set_same : {l : List A} {i : ℕ} {x : A} (y : A) → At l i x → f y ≡ f x → map f (set l i y) ≡ map f l
  map_set_same {l = []} y h e = refl
  map_set_same {l = z ∷ zs} {i = zero} y h e = ap (λ (b : B). b ∷ map f zs) (e ∙ sym (ap f (at_head h)))
  map_set_same {l = z ∷ zs} {i = suc i} y h e = ap (λ (r : List B). f z ∷ r) (map_set_same {l = zs} y (down h) e)
