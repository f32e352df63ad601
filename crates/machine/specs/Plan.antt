-- A call as a plan: its tests in order, each with its refusal, and what is done if none refuses. `outcome` runs a plan, first match wins.
-- `Gives P` says what is to be shown so that P holds of what a plan does: it computes to a function of the tests' answers. Assumes nothing.
use Rattle.std.specs.Prelude.{◌≡◌, Bool, cond, false, true}
use Rattle.std.proofs.Math.Option.{Option, none, some}
use Rattle.records.specs.declared.refusal.Refusal.{Refusal}

pub data Plan (A : Type 0) : Type 1 where
  done : A → Plan A
  test : Refusal → Bool → Plan A → Plan A
  look : {X : Type 0} → Refusal → Option X → (X → Plan A) → Plan A

module _ {A B : Type 0} where
  infixl 20 ◌>>=◌ ◌>>◌
  abbrev pub ◌>>=◌ : Plan A → (A → Plan B) → Plan B
  done a >>= f = f a
  test e b m >>= f = test e b (m >>= f)
  look e o k >>= f = look e o (λ x. k x >>= f)

  abbrev pub ◌>>◌ : Plan A → Plan B → Plan B
  m >> n = m >>= (λ a. n)

infixl 25 refuse◌if◌
abbrev pub refuse◌if◌ : Refusal → Bool → Plan (Unit {0})
refuse e if b = test e b (done tt)

-- what is there, or the refusal
abbrev pub found : {A : Type 0} → Option A → Refusal → Plan A
found o e = look e o (λ x. done x)

-- ---- a plan, run
pub data Outcome (A : Type 0) : Type 0 where
  refused : Refusal → Outcome A
  did : A → Outcome A

module _ {A : Type 0} where
  abbrev pub outcome : Plan A → Outcome A
  outcome (done a) = did a
  outcome (test e b m) = let r = outcome m in cond b (refused e) r
  outcome (look {X = X} e o k) = elim o [ none ↦ refused e | some x ↦ outcome (k x) ]

  abbrev pub Gives : (A → Type 0) → Plan A → Type 0
  Gives P (done a) = P a
  Gives P (test e b m) = b ≡ false → Gives P m
  Gives P (look {X = X} e o k) = (x : X) → o ≡ some x → Gives P (k x)

  -- P holds of what was done
  abbrev pub Holds : (A → Type 0) → Outcome A → Type 0
  Holds P (refused e) = Unit {0}
  Holds P (did a) = P a

-- what was done, made into something else
abbrev pub onto : {A B : Type 0} → (A → B) → Outcome A → Outcome B
onto f (refused e) = refused e
onto f (did a) = did (f a)

abbrev pub was_done : {A : Type 0} → Outcome A → Bool
was_done (refused e) = false
was_done (did a) = true
