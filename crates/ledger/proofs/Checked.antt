-- A public call by its check: the tables pass, and its part is called; or they hold no sound ledger, and the answer is Damaged. Assumes nothing.
use mathlib.Core.Path.{◌∙◌, ◌≡◌, ap, subst, sym}
use mathlib.Core.List.{List}
use Prim.Native.Nat.{ℕ}
use denote.Ref.{Bor}
use Rattle.std.specs.Prelude.{Result, Ok, Err}
use Rattle.answers.proofs.Doing.{does_damaged, does_part}
use Rattle.answers.specs.Does.{Call, Does, Part}
use Rattle.records.specs.declared.refusal.Refusal.{Refusal}
use Rattle.records.specs.declared.refusal.Refusal.TheVariants.{Damaged}
use Rattle.soundness.specs.Checks.{Checks}
use Rattle.tables.proofs.Once.{standing}
use Rattle.tables.specs.Lent.{lent}
use Rattle.tables.specs.Tables.{Standing, Tables, tables}
use Rattle.tables.specs.declared.Sound.{Sound}

-- ---- passed: the tables are those that were lent
module _ (book keys : Bor (List (List ℕ))) (texts : Bor (List ℕ)) (sound : Sound) (same : Checks book keys texts (Ok sound)) where
  lent_is : lent sound ≡ tables book.now keys.now texts.now
  lent_is = λ i. tables (same.0 i).now (same.1 i).now (same.2 i).now

  pub passed : Standing (tables book.now keys.now texts.now)
  passed = subst Standing lent_is (standing sound.fits)

  pub read_passed : {A : Type 0} {call : Call A} {r : A} → Part call (lent sound) (lent sound) r → Does call (tables book.now keys.now texts.now) (tables book.now keys.now texts.now) r
  read_passed {call = call} {r} p = does_part call passed (subst (λ (t : Tables). Part call t t r) lent_is p)

-- ---- or not
pub not_passed : {A : Type 0} (call : Call (Result A Refusal)) {t : Tables} {why : Refusal} {r : Result A Refusal} → call.bad ≡ Err Damaged
    → (why ≡ Damaged) × (Standing t → ⊥) → r ≡ Err why → Does call t t r
not_passed call bad damaged is =
    let told = is ∙ ap Err damaged.0 ∙ sym bad in
    rw told (does_damaged call damaged.1)
