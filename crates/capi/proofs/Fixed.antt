-- Demand 1 for hosts: any two outcomes that an entry's promise allows are the same, with every lent byte after it. Assumes nothing.
use mathlib.Core.Logic.{inl, inr}
use mathlib.Core.Path.{◌∙◌, ◌≡◌, ap, sym}
use Prim.Native.Nat.{ℕ}
use Rattle.answers.proofs.Determined.{determined, opens_determined}
use Rattle.answers.specs.Does.{Call, Does}
use Rattle.capi.specs.Entries.{Flags, OpensTold}
use Rattle.capi.specs.Outcomes.{opened_outcome}
use Rattle.capi.specs.declared.outcomes.Outcome.{Outcome}
use Rattle.tables.specs.Tables.{Tables}

-- the changes and the reads, each by its call; what was lent to a read is part of its answer
pub entry_fixed : {A : Type 0} (call : Call A) {t u v : Tables} {r q : A} → Does call t u r → Does call t v q → (r ≡ q) × (u ≡ v)
entry_fixed = determined

pub open_fixed : {owner : ℕ} {t u v : Tables} {r q : Outcome} → OpensTold owner t u r → OpensTold owner t v q → (r ≡ q) × (u ≡ v)
open_fixed a b = let w = opens_determined a.opens b.opens in (a.told ∙ ap opened_outcome w.0 ∙ sym b.told, w.1)

-- the check
pub flag_fixed : {P : Type 0} {r q : ℕ} → Flags r P → Flags q P → r ≡ q
flag_fixed a b = elim a.known [
  | inl p ↦ a.one p ∙ sym (b.one p)
  | inr n ↦ a.zero n ∙ sym (b.zero n)
]
