-- How an entry meets its promise: the ledger's promise, its answer told; the two roles and all other numbers. For the entries' proofs. Assumes nothing.
use mathlib.Core.Path.{◌≡◌, ap, refl}
use Prim.Native.Nat.{◌<◌, ◌≤◌, suc, zero, ℕ}
use native.Mathlib.Omega.{arith}
use Rattle.answers.proofs.Doing.{does_as, does_part, part_read}
use Rattle.answers.specs.Calls.{add_call, read_call}
use Rattle.answers.specs.Does.{Call, Does}
use Rattle.capi.specs.Entries.{add_entry, told_call}
use Rattle.capi.specs.Outcomes.{accepted, no_such_role, outcome_by, outcome_of, refused_as, registered_outcome}
use Rattle.capi.specs.declared.outcomes.Outcome.{Outcome}
use Rattle.machine.specs.Told.{account}
use Rattle.machine.specs.Types.{Bytes}
use Rattle.records.specs.Roles.{role_of}
use Rattle.records.specs.declared.refusal.Refusal.{Refusal}
use Rattle.records.specs.declared.refusal.Refusal.TheVariants.{Damaged}
use Rattle.std.specs.Prelude.{Result, Ok, Err}
use Rattle.std.specs.Result.{IsOkAnd, MatchResult}
use Rattle.tables.specs.Tables.{Standing, Tables}

-- what does a call does the told call, its answer told
pub told : {A B : Type 0} (f : A → B) {call : Call A} {t u : Tables} {r : A} {q : B} → Does call t u r → q ≡ f r → Does (told_call f call) t u q
told f d e = does_as f refl (λ L. refl) (λ L. refl) d e

-- the answer is that number of what was done, or the refusal
pub mapped : {A : Type 0} (number : A → ℕ) {P : A → ℕ → Type 0} (r : Result A Refusal) (m : Result ℕ Refusal) → ((a : A) (n : ℕ) → P a n → n ≡ number a)
    → MatchResult r (λ a. IsOkAnd m (P a)) (λ e. m ≡ Err e) → outcome_of m ≡ outcome_by number r
mapped number (Ok a) (Ok n) h w = ap accepted (h a n w)
mapped number (Ok a) (Err e) h w = absurd w
mapped number (Err e) m h w = ap outcome_of w

-- ---- adding: role 0 or 1 is the ledger's own call; of other numbers there is no role
module _ (caller : ℕ) (key : Bytes) (who : ℕ) where
  pub adds : (role : ℕ) → role ≤ 1 → {t u : Tables} {r : Outcome}
      → Does (told_call registered_outcome (add_call (account caller) key (account who) (role_of role))) t u r → Does (add_entry caller key who role) t u r
  adds zero h d = d
  adds (suc zero) h d = d
  adds (suc (suc n)) h d = absurd (omega (arith, h))

  pub roleless : (role : ℕ) → 1 < role → {t : Tables} → Standing t → Does (add_entry caller key who role) t t no_such_role
  roleless zero h w = absurd (omega (arith, h))
  roleless (suc zero) h w = absurd (omega (arith, h))
  roleless (suc (suc n)) h w = does_part _ w (part_read (refused_as Damaged) (λ _. no_such_role) (λ _ _. refl))
