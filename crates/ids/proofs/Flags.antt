-- How a flag comes to decide a fact, and what a caller's tests of it then say. For every proof over `Decides`. Assumes nothing.
use Prim.Native.Nat.{ℕ, ◌<◌, ◌≤◌}
use mathlib.Core.Path.{◌≡◌, sym}
use mathlib.Core.Bool.{Bool, true, false, not, false≢true}
use mathlib.Core.Logic.{◌⊎◌, inl, inr}
use native.Mathlib.Omega.{arith}
use native.Mathlib.Decide.{dec_lt}
use borrow.Author.Tests.{not-true, not-false}
use Rattle.ids.specs.Decides.{Decides}

pub holds : {P : Type 0} → P → Decides true P
holds p = record { yes = λ _. p; no = λ e _. false≢true (sym e) }

pub fails : {P : Type 0} → (P → ⊥) → Decides false P
fails n = record { yes = λ e. absurd (false≢true e); no = λ _. n }

-- after `if !f(..) { return .. }`: in the branch, and past it
pub refuted : {r : Bool} {P : Type 0} → Decides r P → not r ≡ true → P → ⊥
refuted {r} d e = d.no (not-true r e)

pub confirmed : {r : Bool} {P : Type 0} → Decides r P → not r ≡ false → P
confirmed {r} d e = d.yes (not-false r e)

-- a flag that decides a fact decides any that is as true
pub decides_via : {r : Bool} {P Q : Type 0} → (P → Q) → (Q → P) → Decides r P → Decides r Q
decides_via f g d = record { yes = λ e. f (d.yes e); no = λ e q. d.no e (g q) }

pub lt_or_ge : (a b : ℕ) → (a < b) ⊎ (b ≤ a)
lt_or_ge a b = go (dec_lt a b)
  where
    go : Dec (a < b) → (a < b) ⊎ (b ≤ a)
    go (yes h) = inl h
    go (no h) = inr (omega arith)
