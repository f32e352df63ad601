-- A table of a fixed length is zero where all its entries are. For the test of an array. Assumes nothing.
use Prim.Native.Nat.{ℕ}
use mathlib.Core.Path.{◌≡◌, sym, ap, ◌∙◌}
use mathlib.Core.List.{List}
use mathlib.Core.Bool.{Bool}
use native.Mathlib.Omega.{arith}
use lib.ListN.{length, get_or, replicate, length-replicate, get_or-replicate}
use lib.Seq.{ext_get_or}
use Rattle.ids.specs.Decides.{Decides}
use Rattle.ids.proofs.Flags.{decides_via}
use Rattle.rows.specs.Zeros.{ZeroFrom}

module _ {A : Type 0} (t : List A) (n : ℕ) (z : A) (wide : length t ≡ n) where
  to_zero : ZeroFrom z 0 t → t ≡ replicate n z
  to_zero all = ext_get_or z t (replicate n z) (wide ∙ sym (length-replicate n z)) (λ k l. all k l (omega arith) ∙ sym (get_or-replicate n k z z (omega arith)))

  of_zero : t ≡ replicate n z → ZeroFrom z 0 t
  of_zero e k l h = ap (λ (r : List A). get_or r k z) e ∙ get_or-replicate n k z z (omega arith)

  pub zero_whole : {r : Bool} → Decides r (ZeroFrom z 0 t) → Decides r (t ≡ replicate n z)
  zero_whole d = decides_via to_zero of_zero d
