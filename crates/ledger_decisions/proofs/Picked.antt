-- What authentication and decidability say together, and the ways out that approving and rejecting share. Assumes nothing.
use mathlib.Core.Path.{◌∙◌, ◌≡◌}
use Prim.Native.Nat.{ℕ}
use Rattle.std.proofs.Common.{Ok, Err}
use Rattle.answers.proofs.Doing.{part_did, part_refused}
use Rattle.answers.specs.Calls.{change_call}
use Rattle.answers.specs.Does.{Part}
use Rattle.ledger_callers.specs.Authenticates.{Authenticates}
use Rattle.ledger_requests.specs.Candidates.{MayDecide}
use Rattle.lists.specs.Places.{At}
use Rattle.machine.proofs.Plans.{bind_did, bind_refused}
use Rattle.machine.specs.Machine.{Candidate, Did, authenticate, decidable, left}
use Rattle.machine.specs.Plan.{Outcome, Plan, ◌>>=◌, did, outcome, refused}
use Rattle.machine.specs.Sound.{Sound}
use Rattle.machine.specs.Tests.{Place}
use Rattle.machine.specs.Types.{Holder, Ledger, Request, Undecided, Verdict}
use Rattle.records.specs.declared.BlockTime.{BlockTime}
use Rattle.records.specs.declared.Caller.{Caller}
use Rattle.records.specs.declared.role.Role.TheVariants.{Approver}
use Rattle.records.specs.declared.refusal.Refusal.{Refusal}
use Rattle.tables.specs.Tables.{Stands, Tables, tables_of}

-- who decides, and when; the registration as code reads it
abbrev pub verdict : Caller → BlockTime → ℕ → Verdict
verdict c time number = record { key = c.signer_key; account = c.signer.0; number = number; time = time }

-- request n, undecided, live under the key at place i; the caller's key at place b
pub record Picked (L : Ledger) (c : Caller) (n b i : ℕ) : Type 0 where
  pub approver : Holder
  pub approver_at : At L.keys b approver
  pub authentic : outcome (authenticate L c Approver) ≡ did (record { at = b; is = approver })
  pub req : Request
  pub req_at : At L.requests n req
  pub fresh : req.decision ≡ Undecided
  pub agent : Holder
  pub agent_at : At L.keys i agent
  pub decides : outcome (decidable L n) ≡ did (record { req = req; agent = record { at = i; is = agent } })

abbrev pub approver_of : {L : Ledger} {c : Caller} {n b i : ℕ} → Picked L c n b i → Place
approver_of {b = b} w = record { at = b; is = w.approver }

abbrev pub candidate_of : {L : Ledger} {c : Caller} {n b i : ℕ} → Picked L c n b i → Candidate
candidate_of {i = i} w = record { req = w.req; agent = record { at = i; is = w.agent } }

module _ (c : Caller) {t : Tables} {n b i : ℕ} (a : Authenticates t c Approver (Ok b)) (d : MayDecide t n (Ok i)) where
  pub picked : {L : Ledger} → Stands t L → Picked L c n b i
  picked {L} st =
      let x = a.1 L st in
      let y = d.decides st in
      record {
        approver = x.0;
        approver_at = x.1;
        authentic = x.2;
        req = y.0;
        req_at = y.2;
        fresh = y.4;
        agent = y.1;
        agent_at = y.3;
        decides = y.5;
      }

-- ---- a plan that authenticates, looks whether request n may be decided, and goes on
module _ {A B : Type 0} (tell : Outcome (Did A) → B) (c : Caller) (n : ℕ) (rest : Ledger → Place → Candidate → Plan (Did A)) where
  abbrev pub deciding : Ledger → Plan (Did A)
  deciding L = authenticate L c Approver >>= (λ b. decidable L n >>= rest L b)

  pub not_authentic : {t : Tables} {e : Refusal} → Authenticates t c Approver (Err e) → Part (change_call tell deciding) t t (tell (refused e))
  not_authentic a = part_refused tell deciding _ (λ L st. bind_refused (λ b. decidable L n >>= rest L b) (authenticate L c Approver) (a L st))

  pub not_decidable : {t : Tables} {b : ℕ} {e : Refusal} → Authenticates t c Approver (Ok b) → MayDecide t n (Err e) → Part (change_call tell deciding) t t (tell (refused e))
  not_decidable a d = part_refused tell deciding _ (λ L st.
      bind_did (λ b. decidable L n >>= rest L b) (authenticate L c Approver) (a.1 L st).2 ∙ bind_refused (rest L _) (decidable L n) (d.decides st))

  went_on : {L : Ledger} {b i : ℕ} (w : Picked L c n b i) → outcome (deciding L) ≡ outcome (rest L (approver_of w) (candidate_of w))
  went_on {L} w = bind_did (λ b. decidable L n >>= rest L b) (authenticate L c Approver) w.authentic ∙ bind_did (rest L (approver_of w)) (decidable L n) w.decides

  module _ {t : Tables} {b i : ℕ} (a : Authenticates t c Approver (Ok b)) (d : MayDecide t n (Ok i)) where
    pub refuses : (e : Refusal) → ((L : Ledger) → Stands t L → (w : Picked L c n b i) → outcome (rest L (approver_of w) (candidate_of w)) ≡ refused e)
        → Part (change_call tell deciding) t t (tell (refused e))
    refuses e h = part_refused tell deciding e (λ L st. let w = picked c a d st in went_on w ∙ h L st w)

    pub does : {u : Tables} {r : B} → ((L : Ledger) → Sound L → Sound (left L (outcome (deciding L))))
        → ((L : Ledger) → Stands t L → (w : Picked L c n b i) → (x : Did A) × (outcome (rest L (approver_of w) (candidate_of w)) ≡ did x) × (r ≡ tell (did x)) × (u ≡ tables_of x.ledger))
        → Part (change_call tell deciding) t u r
    does keeps h = part_did tell deciding keeps (λ L st. let w = picked c a d st in let y = h L st w in (y.0, went_on w ∙ y.1, y.2, y.3))
