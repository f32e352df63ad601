-- Demand 1 for hosts: an entry that refuses leaves every lent byte as it was. Assumes nothing.
use mathlib.Core.Logic.{inl, inr}
use mathlib.Core.Option.{Option, none, some}
use mathlib.Core.Path.{◌∙◌, ◌≡◌, ap, refl}
use Prim.Native.Nat.{suc, zero, ℕ}
use lib.ListN.{length}
use mathlib.Core.List.{List}
use Rattle.std.specs.Prelude.{Result}
use Rattle.answers.proofs.Determined.{refusal_changes_nothing, unchanged}
use Rattle.answers.specs.Answers.{entry_row, paged, proved, registered, requested, shown}
use Rattle.answers.specs.Calls.{add_call, approve_call, change_call, page_call, read_call, reject_call, request_call, revocations_call, revoke_call}
use Rattle.answers.specs.Does.{Does}
use Rattle.answers.specs.Texts.{extent}
use Rattle.capi.specs.Entries.{OpensTold, add_entry, approve_entry, block_time, page_entry, proof_entry, reject_entry, request_entry, revocations_entry, revoke_entry}
use Rattle.capi.specs.Outcomes.{PageTold, ProofTold, RowTold, opened_outcome, page_told, proof_told, proved_outcome, registered_outcome, requested_outcome}
use Rattle.capi.specs.declared.outcomes.Outcome.{Outcome}
use Rattle.machine.specs.Machine.{Did, add_to, approve_in, reject_in, request_in, revoke_in}
use Rattle.machine.specs.Plan.{Outcome as Told, Plan, did, outcome, refused}
use Rattle.machine.specs.Reads.{approval, page_into}
use Rattle.machine.specs.Told.{Texted}
use Rattle.machine.specs.Types.{Bytes, Ledger}
use Rattle.records.specs.declared.ApprovalProof.{ApprovalProof}
use Rattle.records.specs.declared.Caller.{Caller}
use Rattle.records.specs.declared.PageEntry.{PageEntry}
use Rattle.records.specs.declared.role.Role.TheVariants.{Agent, Approver}
use Rattle.records.specs.declared.refusal.Refusal.{Refusal}
use Rattle.tables.specs.Tables.{Tables}

-- a refusal's number is not 0
abbrev pub Refuses : Outcome → Type 0
Refuses r = r.refusal ≡ 0 → ⊥

-- ---- opening
pub refused_open : {owner : ℕ} {t u : Tables} {r : Outcome} → OpensTold owner t u r → Refuses r → u ≡ t
refused_open o h = elim o.opens.known [
  | inl s ↦ absurd (h (ap (λ (x : Outcome). x.refusal) o.told ∙ ap (λ (a : Result (Unit {0}) Refusal). (opened_outcome a).refusal) (o.opens.opened_then s).0))
  | inr n ↦ (o.opens.unsized n).1
]

-- ---- the changes
module _ {A : Type 0} (tell : Told (Did A) → Outcome) (accepts : (d : Did A) → (tell (did d)).refusal ≡ 0) where
  why_refused : (o : Told (Did A)) → Refuses (tell o) → (e : Refusal) × (o ≡ refused e)
  why_refused (refused e) h = (e, refl)
  why_refused (did d) h = absurd (h (accepts d))

  changes_nothing : (plan : Ledger → Plan (Did A)) {t u : Tables} {r : Outcome} → Does (change_call tell plan) t u r → Refuses r → u ≡ t
  changes_nothing plan d h = refusal_changes_nothing tell plan d (λ L st. why_refused (outcome (plan L)) (λ z. h (ap (λ (x : Outcome). x.refusal) (d.sound L st).0 ∙ z)))

module _ {t u : Tables} {r : Outcome} where
  pub refused_add : (caller : ℕ) (key : Bytes) (who role : ℕ) → Does (add_entry caller key who role) t u r → Refuses r → u ≡ t
  unfolding add_call
  refused_add caller key who zero d = changes_nothing (λ o. registered_outcome (registered o)) (λ _. refl) (λ L. add_to L caller key who Agent) d
  refused_add caller key who (suc zero) d = changes_nothing (λ o. registered_outcome (registered o)) (λ _. refl) (λ L. add_to L caller key who Approver) d
  refused_add caller key who (suc (suc n)) d = λ h. unchanged (add_entry caller key who (suc (suc n))) d (λ L st. refl)

  pub refused_revoke : (caller : ℕ) (key : Bytes) (height timestamp : ℕ) → Does (revoke_entry caller key height timestamp) t u r → Refuses r → u ≡ t
  unfolding revoke_call
  refused_revoke caller key height timestamp d = changes_nothing (λ o. registered_outcome (registered o)) (λ _. refl) (λ L. revoke_in L caller key (block_time height timestamp)) d

  pub refused_request : (c : Caller) (text : Bytes) (height timestamp : ℕ) → Does (request_entry c text height timestamp) t u r → Refuses r → u ≡ t
  unfolding request_call
  refused_request c text height timestamp d = changes_nothing (λ o. requested_outcome (requested o)) (λ _. refl) (λ L. request_in L c text (block_time height timestamp)) d

  pub refused_approve : (c : Caller) (n : ℕ) (text : Bytes) (height timestamp : ℕ) → Does (approve_entry c n text height timestamp) t u r → Refuses r → u ≡ t
  unfolding approve_call
  refused_approve c n text height timestamp d = changes_nothing (λ o. proved_outcome (proved o)) (λ _. refl) (λ L. approve_in L c n text (block_time height timestamp)) d

  pub refused_reject : (c : Caller) (n height timestamp : ℕ) → Does (reject_entry c n height timestamp) t u r → Refuses r → u ≡ t
  unfolding reject_call
  refused_reject c n height timestamp d = changes_nothing (λ o. requested_outcome (requested o)) (λ _. refl) (λ L. reject_in L c n (block_time height timestamp)) d

-- ---- the reads change no table; refused, they leave what is lent for the answer
module _ {O : Type 0} (bad : O) (tell : Ledger → O) {t u : Tables} {r : O} (d : Does (read_call bad tell) t u r) where
  pub a_read : u ≡ t
  a_read = unchanged (read_call bad tell) d (λ L st. refl)

  -- of what is lent: it is as it was where the tables are damaged, and where a sound ledger's answer refuses
  left_alone : {B : Type 0} (lent : O → B) (out : O → Outcome) → ((L : Ledger) → Refuses (out (tell L)) → lent (tell L) ≡ lent bad) → Refuses (out r) → lent r ≡ lent bad
  left_alone lent out sound h = elim d.known [
    | inl w ↦ let e = (d.sound w.ledger w.stands).0 in ap lent e ∙ sound w.ledger (λ z. h (ap (λ (x : O). (out x).refusal) e ∙ z))
    | inr n ↦ ap lent (d.damaged n).0
  ]

pub refused_page : (rows : List (List ℕ)) (start limit : ℕ) {t u : Tables} {r : PageTold} → Does (page_entry rows start limit) t u r → Refuses r.outcome → r.rows ≡ rows
unfolding page_call
refused_page rows start limit d h = left_alone _ _ d (λ (x : PageTold). x.rows) (λ (x : PageTold). x.outcome) (λ L. go (outcome (page_into L start limit (length rows)))) h
  where
    go : (o : Told (List PageEntry)) → Refuses (page_told (paged entry_row rows o)).outcome → (page_told (paged entry_row rows o)).rows ≡ rows
    go (refused e) h = refl
    go (did es) h = absurd (h refl)

pub refused_proof : (row : List ℕ) (a b : Bytes) (n : ℕ) {t u : Tables} {r : ProofTold} → Does (proof_entry row a b n) t u r → Refuses r.outcome → (r.row ≡ row) × (r.agent ≡ a) × (r.approver ≡ b)
refused_proof row a b n d h = (
  left_alone _ _ d (λ (x : ProofTold). x.row) (λ (x : ProofTold). x.outcome) (λ L z. absurd (told L (approval L n) z)) h,
  left_alone _ _ d (λ (x : ProofTold). x.agent) (λ (x : ProofTold). x.outcome) (λ L z. absurd (told L (approval L n) z)) h,
  left_alone _ _ d (λ (x : ProofTold). x.approver) (λ (x : ProofTold). x.outcome) (λ L z. absurd (told L (approval L n) z)) h,
)
  where
    -- a sound ledger's answer is no refusal
    told : (L : Ledger) (p : Option (Texted ApprovalProof)) → Refuses (proof_told row a b (extent L n) (shown p)).outcome → ⊥
    told L none h = h refl
    told L (some p) h = h refl

pub refused_revocations : (row : List ℕ) (agent approver : ℕ) {t u : Tables} {r : RowTold} → Does (revocations_entry row agent approver) t u r → Refuses r.outcome → r.row ≡ row
unfolding revocations_call
refused_revocations row agent approver d h = left_alone _ _ d (λ (x : RowTold). x.row) (λ (x : RowTold). x.outcome) (λ L z. absurd (z refl)) h
