-- How a plan's outcome follows from its tests: P holds of what is done (`gives`), and what the outcome is once a test's answer is known. Assumes nothing.
use mathlib.Core.Path.{◌≡◌, ap, refl}
use Prim.Native.Nat.{ℕ}
use mathlib.Core.Bool.{Bool, cond, false, true}
use mathlib.Core.Option.{Option, none, some}
use native.Mathlib.Omega.{arith}
use Rattle.machine.specs.Plan.{Gives, Holds, Plan, ◌>>=◌, did, done, look, outcome, refused, test}
use Rattle.records.specs.declared.refusal.Refusal.{Refusal}

module _ {A : Type 0} where
  pub gives : (P : A → Type 0) (m : Plan A) → Gives P m → Holds P (outcome m)
  gives P (done a) h = h
  gives P (test e b m) h = go b (λ q. gives P m (h q))
    where
      go : (c : Bool) → (c ≡ false → Holds P (outcome m)) → Holds P (cond c (refused e) (outcome m))
      go true k = tt
      go false k = k refl
  gives P (look {X = X} e o k) h = go o (λ x q. gives P (k x) (h x q))
    where
      go : (c : Option X) → ((x : X) → c ≡ some x → Holds P (outcome (k x))) → Holds P (elim c [ none ↦ refused e | some x ↦ outcome (k x) ])
      go none h = tt
      go (some x) h = h x refl

  -- the same walk for a proof of code: what the outcome is once a test's answer is known
  pub stops : (e : Refusal) {b : Bool} (m : Plan A) → b ≡ true → outcome (test e b m) ≡ refused e
  stops e m h = rw h

  pub goes_on : (e : Refusal) {b : Bool} (m : Plan A) → b ≡ false → outcome (test e b m) ≡ outcome m
  goes_on e m h = rw h

  pub misses : {X : Type 0} (e : Refusal) {o : Option X} (k : X → Plan A) → o ≡ none → outcome (look e o k) ≡ refused e
  misses e k h = rw h

  pub finds : {X : Type 0} (e : Refusal) {o : Option X} (k : X → Plan A) {x : X} → o ≡ some x → outcome (look e o k) ≡ outcome (k x)
  finds e k h = rw h

-- ---- one plan after another: a refusal of the first is handed on, and what it did goes to the second
module _ {A B : Type 0} (k : A → Plan B) where
  pub bind_did : (m : Plan A) {a : A} → outcome m ≡ did a → outcome (m >>= k) ≡ outcome (k a)
  bind_did (done b) {a} q = let e : b ≡ a = cc in ap (λ (x : A). outcome (k x)) e
  bind_did (test e b m) {a} q = go b (bind_did m) q
    where
      go : (b : Bool) → (outcome m ≡ did a → outcome (m >>= k) ≡ outcome (k a)) → cond b (refused e) (outcome m) ≡ did a → cond b (refused e) (outcome (m >>= k)) ≡ outcome (k a)
      go true ih q = let z : ◌≡◌ {A = ℕ} 0 1 = cc in absurd (omega arith)
      go false ih q = ih q
  bind_did (look {X = X} e o n) {a} q = go o (λ x. bind_did (n x)) q
    where
      go : (o : Option X) → ((x : X) → outcome (n x) ≡ did a → outcome (n x >>= k) ≡ outcome (k a)) → outcome (look e o n) ≡ did a → outcome (look e o n >>= k) ≡ outcome (k a)
      go none ih q = let z : ◌≡◌ {A = ℕ} 0 1 = cc in absurd (omega arith)
      go (some x) ih q = ih x q

  pub bind_refused : (m : Plan A) {e : Refusal} → outcome m ≡ refused e → outcome (m >>= k) ≡ refused e
  bind_refused (done b) q = let z : ◌≡◌ {A = ℕ} 0 1 = cc in absurd (omega arith)
  bind_refused (test e b m) {e = w} q = go b (bind_refused m) q
    where
      go : (b : Bool) → (outcome m ≡ refused w → outcome (m >>= k) ≡ refused w) → cond b (refused e) (outcome m) ≡ refused w → cond b (refused e) (outcome (m >>= k)) ≡ refused w
      go true ih q = cc
      go false ih q = ih q
  bind_refused (look {X = X} e o n) {e = w} q = go o (λ x. bind_refused (n x)) q
    where
      go : (o : Option X) → ((x : X) → outcome (n x) ≡ refused w → outcome (n x >>= k) ≡ refused w) → outcome (look e o n) ≡ refused w → outcome (look e o n >>= k) ≡ refused w
      go none ih q = cc
      go (some x) ih q = ih x q
