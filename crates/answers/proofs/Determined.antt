-- Demand 1, for every call at once: any two outcomes that the promise allows are the same; and a refused call changes no byte. Assumes nothing.
use Rattle.std.proofs.Common.{inl, inr, ◌∙◌, ◌≡◌, ap, sym, ℕ, Bor, List, Result}
use Rattle.answers.specs.Calls.{change_call}
use Rattle.answers.specs.Does.{Call, Does, Opens}
use Rattle.answers.specs.Texts.{Extent, Lies, TextRead}
use Rattle.machine.specs.Machine.{Did, left, plan}
use Rattle.machine.specs.Plan.{Outcome, Plan, outcome, refused}
use Rattle.machine.specs.Tests.{same}
use Rattle.machine.specs.Types.{Ledger}
use Rattle.records.specs.declared.refusal.Refusal.{Refusal}
use Rattle.tables.specs.Tables.{Stands, Tables, tables_of}

module _ {A : Type 0} (call : Call A) {t : Tables} where
  pub determined : {u v : Tables} {r q : A} → Does call t u r → Does call t v q → (r ≡ q) × (u ≡ v)
  determined a b = elim a.known [
    | inl w ↦
        let x = a.sound w.ledger w.stands in
        let y = b.sound w.ledger w.stands in
        (x.0 ∙ sym y.0, x.1.laid ∙ sym y.1.laid)
    | inr n ↦ let x = a.damaged n in let y = b.damaged n in (x.0 ∙ sym y.0, x.1 ∙ sym y.1)
  ]

  -- a call that leaves the ledger as it was leaves every byte as it was
  pub unchanged : {u : Tables} {r : A} → Does call t u r → ((L : Ledger) → Stands t L → call.after L ≡ L) → u ≡ t
  unchanged {u} a same = elim a.known [
    | inl w ↦ (a.sound w.ledger w.stands).1.laid ∙ ap tables_of (same w.ledger w.stands) ∙ sym w.stands.laid
    | inr n ↦ (a.damaged n).1
  ]

-- a change that is answered by a refusal: the machine refused, so nothing has changed
pub refusal_changes_nothing : {A B : Type 0} (tell : Outcome (Did A) → B) (plan : Ledger → Plan (Did A)) {t u : Tables} {r : B}
    → Does (change_call tell plan) t u r → ((L : Ledger) → Stands t L → (e : Refusal) × (outcome (plan L) ≡ refused e)) → u ≡ t
refusal_changes_nothing tell plan a h = unchanged (change_call tell plan) a (λ L st. ap (left L) (h L st).1)

-- ---- opening, and the read that hands a part back
pub opens_determined : {owner : ℕ} {t u v : Tables} {r q : Result (Unit {0}) Refusal} → Opens owner t u r → Opens owner t v q → (r ≡ q) × (u ≡ v)
opens_determined a b = elim a.known [
  | inl w ↦ let x = a.opened_then w in let y = b.opened_then w in (x.0 ∙ sym y.0, x.1.laid ∙ sym y.1.laid)
  | inr n ↦ let x = a.unsized n in let y = b.unsized n in (x.0 ∙ sym y.0, x.1 ∙ sym y.1)
]

lies_same : {s : Bor (List ℕ)} {x : Extent} {r q : Bor (List ℕ)} → Lies s x r → Lies s x q → (r.now ≡ q.now) × (r.ref_ptr.0 ≡ q.ref_ptr.0) × (r.ref_ptr.1 ≡ q.ref_ptr.1)
lies_same a b = (a.bytes ∙ sym b.bytes, a.block ∙ sym b.block, a.place ∙ sym b.place)

pub text_determined : {n : ℕ} {s : Bor (List ℕ)} {t : Tables} {r q : Bor (List ℕ)} → TextRead n s t r → TextRead n s t q → (r.now ≡ q.now) × (r.ref_ptr.0 ≡ q.ref_ptr.0) × (r.ref_ptr.1 ≡ q.ref_ptr.1)
text_determined a b = elim a.known [
  | inl w ↦ lies_same (a.sound w.ledger w.stands) (b.sound w.ledger w.stands)
  | inr n ↦ lies_same (a.damaged n) (b.damaged n)
]
