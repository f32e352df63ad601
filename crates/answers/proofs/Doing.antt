-- The ways to meet the promise: a return that refuses, one that did what the machine does, one that only read; and a public call, as its check and its part. Assumes nothing.
use Rattle.std.proofs.Common.{inl, inr, ◌∙◌, ◌≡◌, ap, refl, subst, sym}
use Rattle.std.specs.Prelude.{Result, Err}
use Rattle.std.specs.Result.{IsErr, IsErrAnd}
use Rattle.std.proofs.lemmas.Result.{err_from_is_err_and}
use Rattle.answers.specs.Calls.{change_call, read_call}
use Rattle.answers.specs.Does.{Call, Does, Part}
use Rattle.machine.specs.Machine.{Did, left}
use Rattle.machine.specs.Plan.{Outcome, Plan, did, outcome, refused}
use Rattle.machine.specs.Sound.{Sound}
use Rattle.machine.specs.Types.{Ledger}
use Rattle.records.specs.declared.refusal.Refusal.{Refusal}
use Rattle.tables.specs.Tables.{Standing, Stands, Tables, tables_of}

-- what `?` hands on is the refusal that came with the answer
pub handed_on : {A : Type 0} {e : Refusal} {r : Result A Refusal} → IsErr r × IsErrAnd r (λ x. x ≡ e) → r ≡ Err e
handed_on {r = r} h = let p = err_from_is_err_and r h.1 in p.1 ∙ ap Err p.2

-- ---- a part's returns
module _ {A B : Type 0} (tell : Outcome (Did A) → B) (plan : Ledger → Plan (Did A)) {t : Tables} where
  -- refused: the machine refuses too, and nothing was stored
  pub part_refused : (e : Refusal) → ((L : Ledger) → Stands t L → outcome (plan L) ≡ refused e) → Part (change_call tell plan) t t (tell (refused e))
  part_refused e h = record {
    does = λ L st. let q = h L st in (ap tell (sym q), subst (λ (o : Outcome (Did A)). Stands t (left L o)) (sym q) st);
  }

  -- done: what was stored is the machine's ledger, and what is answered is its record
  pub part_did : {t' : Tables} {r : B} → ((L : Ledger) → Sound L → Sound (left L (outcome (plan L))))
      → ((L : Ledger) → Stands t L → (d : Did A) × (outcome (plan L) ≡ did d) × (r ≡ tell (did d)) × (t' ≡ tables_of d.ledger)) → Part (change_call tell plan) t t' r
  part_did {t'} {r} keeps h = record {
    does = λ L st.
        let w = h L st in
        let ledger : w.0.ledger ≡ left L (outcome (plan L)) = ap (left L) (sym w.1) in
        (w.2 ∙ ap tell (sym w.1), record { sound = keeps L st.sound; laid = w.3 ∙ ap tables_of ledger });
  }

-- read: nothing was stored
pub part_read : {A : Type 0} (bad : A) (answer : Ledger → A) {t : Tables} {r : A} → ((L : Ledger) → Stands t L → r ≡ answer L) → Part (read_call bad answer) t t r
part_read bad answer h = record { does = λ L st. (h L st, st) }

-- ---- a public call: the check said no, or its part was called
module _ {A : Type 0} (call : Call A) {t : Tables} where
  pub does_damaged : (Standing t → ⊥) → Does call t t call.bad
  does_damaged n = record { sound = λ L st. absurd (n (record { ledger = L; stands = st })); damaged = λ _. (refl, refl); known = inr n }

  pub does_part : {t' : Tables} {r : A} → Standing t → Part call t t' r → Does call t t' r
  does_part w p = record { sound = p.does; damaged = λ n. absurd (n w); known = inl w }

-- ---- a call told as another: f of its answers is the other's, and the ledger after it is the same
pub does_as : {A B : Type 0} (f : A → B) {call : Call A} {other : Call B}
    → f call.bad ≡ other.bad → ((L : Ledger) → f (call.answer L) ≡ other.answer L) → ((L : Ledger) → call.after L ≡ other.after L)
    → {t t' : Tables} {r : A} {q : B} → Does call t t' r → q ≡ f r → Does other t t' q
does_as f bad answer after {t' = t'} d e = record {
  sound = λ L st. let w = d.sound L st in (e ∙ ap f w.0 ∙ answer L, subst (λ (M : Ledger). Stands t' M) (after L) w.1);
  damaged = λ n. let w = d.damaged n in (e ∙ ap f w.0 ∙ bad, w.1);
  known = d.known;
}
