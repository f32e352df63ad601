-- How a value is read: by readers one after the other, each from where the last ended, up to the first fault. Assumes nothing.
use Rattle.std.specs.Prelude.{ℕ, Bool, cond, List, [], ◌∷◌, length, eqb}
use Rattle.std.proofs.Math.Option.{Option, none, some}
use Rattle.machine.specs.Types.{Bytes}
use Rattle.fields.specs.declared.fault.Fault.{Fault}

-- what was read, the bytes left in the enclosing value, and the first of them's offset in the input (its end's, where none is left); or a fault and its place
pub data Got (A : Type 0) : Type 0 where
  got : A → (rest : Bytes) → (place : ℕ) → Got A
  stopped : Fault → (place : ℕ) → Got A

-- a reader is given the bytes left and their place
abbrev pub Reader : Type 0 → Type 0
Reader A = Bytes → ℕ → Got A

module _ {A B : Type 0} where
  abbrev pub onward : Got A → (A → Reader B) → Got B
  onward (got a rest place) f = f a rest place
  onward (stopped e place) f = stopped e place

  infixl 20 ◌>>=◌ ◌>>◌
  abbrev pub ◌>>=◌ : Reader A → (A → Reader B) → Reader B
  (m >>= f) rest place = onward (m rest place) f

  abbrev pub ◌>>◌ : Reader A → Reader B → Reader B
  (m >> n) rest place = onward (m rest place) (λ a. n)

module _ {A : Type 0} where
  abbrev pub done : A → Reader A
  done a rest place = got a rest place

  -- what m reads if any byte is left, else a
  abbrev pub if_any_byte_is_left : Reader A → A → Reader A
  if_any_byte_is_left m a rest place = cond (eqb (length rest) 0) (got a rest place) (m rest place)

-- ---- rules, the first that is broken decides
pub record Rule : Type 0 where
  pub fault : Fault
  pub broken : Bool

infix 70 ◌if◌
abbrev pub ◌if◌ : Fault → Bool → Rule
f if b = record { fault = f; broken = b }

abbrev pub first : List Rule → Option Fault
first [] = none
first (r ∷ rs) = cond r.broken (some r.fault) (first rs)

-- the fault, at the place; or what is got where there is none
abbrev pub unless : {A : Type 0} → Option Fault → ℕ → Got A → Got A
unless none place g = g
unless (some e) place g = stopped e place
