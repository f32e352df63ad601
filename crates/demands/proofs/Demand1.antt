-- Demand 1: every public call's answer, and every byte that it leaves, is determined; and a refused call changes no byte of a table or page. (That every call ends, for any
-- arguments and any tables, is what it means that it is proved with no `requires`.) Assumes nothing.
use Rattle.std.proofs.Common.{◌≡◌, refl, subst, ℕ, Bor, List, Result}
use Rattle.std.specs.Result.{IsErr}
use Rattle.answers.proofs.Determined.{determined, opens_determined, refusal_changes_nothing, text_determined, unchanged}
use Rattle.answers.proofs.Pages.{page_refused}
use Rattle.answers.specs.Answers.{PageOut, as_is, told}
use Rattle.answers.specs.Calls.{add_call, approve_call, change_call, page_call, read_call, reject_call, request_call, revoke_call}
use Rattle.answers.specs.Does.{Call, Does, Opens}
use Rattle.answers.specs.Texts.{TextRead}
use Rattle.ids.specs.declared.Account.{Account}
use Rattle.ids.specs.declared.RequestId.{RequestId}
use Rattle.machine.specs.Machine.{Did, add_to, approve_in, plan, reject_in, request_in, revoke_in}
use Rattle.machine.specs.Plan.{Outcome, Plan, did, outcome, refused}
use Rattle.machine.specs.Types.{Bytes, Ledger}
use Rattle.records.specs.declared.ActionRequest.{ActionRequest}
use Rattle.records.specs.declared.ApprovalProof.{ApprovalProof}
use Rattle.records.specs.declared.BlockTime.{BlockTime}
use Rattle.records.specs.declared.Caller.{Caller}
use Rattle.records.specs.declared.PageEntry.{PageEntry}
use Rattle.records.specs.declared.Principal.{Principal}
use Rattle.records.specs.declared.role.Role.{Role}
use Rattle.records.specs.declared.refusal.Refusal.{Refusal}
use Rattle.tables.specs.Tables.{Tables}

-- any two outcomes that the promise of a call allows are the same
pub every_answer : {A : Type 0} (call : Call A) {t u v : Tables} {r q : A} → Does call t u r → Does call t v q → (r ≡ q) × (u ≡ v)
every_answer = determined

pub every_opening : {owner : ℕ} {t u v : Tables} {r q : Result (Unit {0}) Refusal} → Opens owner t u r → Opens owner t v q → (r ≡ q) × (u ≡ v)
every_opening = opens_determined

pub every_text : {n : ℕ} {s : Bor (List ℕ)} {t : Tables} {r q : Bor (List ℕ)} → TextRead n s t r → TextRead n s t q → (r.now ≡ q.now) × (r.ref_ptr.0 ≡ q.ref_ptr.0) × (r.ref_ptr.1 ≡ q.ref_ptr.1)
every_text = text_determined

-- a change whose answer is a refusal
module _ {A B : Type 0} (give : Did A → B) where
  refused_then : (o : Outcome (Did A)) → IsErr (told give o) → (e : Refusal) × (o ≡ refused e)
  refused_then (refused e) h = (e, refl)
  refused_then (did d) h = cc

  nothing_changed : (plan : Ledger → Plan (Did A)) {t u : Tables} {r : Result B Refusal} → Does (change_call (told give) plan) t u r → IsErr r → u ≡ t
  nothing_changed plan d h = refusal_changes_nothing (told give) plan d (λ L st. refused_then (outcome (plan L)) (subst IsErr (d.sound L st).0 h))

module _ {t u : Tables} where
  pub refused_add : {r : Result Principal Refusal} (caller : Account) (key : Bytes) (who : Account) (role : Role) → Does (add_call caller key who role) t u r → IsErr r → u ≡ t
  unfolding add_call
  refused_add caller key who role d = nothing_changed (λ x. x.given) (λ L. add_to L caller.0 key who.0 role) d

  pub refused_revoke : {r : Result Principal Refusal} (caller : Account) (key : Bytes) (now : BlockTime) → Does (revoke_call caller key now) t u r → IsErr r → u ≡ t
  unfolding revoke_call
  refused_revoke caller key now d = nothing_changed (λ x. x.given) (λ L. revoke_in L caller.0 key now) d

  pub refused_request : {r : Result ActionRequest Refusal} (c : Caller) (text : Bytes) (now : BlockTime) → Does (request_call c text now) t u r → IsErr r → u ≡ t
  unfolding request_call
  refused_request c text now d = nothing_changed (λ x. x.given.is) (λ L. request_in L c text now) d

  pub refused_approve : {r : Result ApprovalProof Refusal} (c : Caller) (n : RequestId) (text : Bytes) (now : BlockTime) → Does (approve_call c n text now) t u r → IsErr r → u ≡ t
  unfolding approve_call
  refused_approve c n text now d = nothing_changed (λ x. x.given.is) (λ L. approve_in L c n.0 text now) d

  pub refused_reject : {r : Result ActionRequest Refusal} (c : Caller) (n : RequestId) (now : BlockTime) → Does (reject_call c n now) t u r → IsErr r → u ≡ t
  unfolding reject_call
  refused_reject c n now d = nothing_changed (λ x. x.given.is) (λ L. reject_in L c n.0 now) d

-- a read changes no table, refused or not; and a refused page nothing that is lent for it
module _ {A : Type 0} (bad : A) (tell : Ledger → A) {t u : Tables} {r : A} where
  pub a_read : Does (read_call bad tell) t u r → u ≡ t
  a_read d = unchanged (read_call bad tell) d (λ L st. refl)

pub refused_page : {A : Type 0} (f : PageEntry → A) (rows : List A) (start limit : ℕ) {t u : Tables} {r : PageOut A} → Does (page_call f rows start limit) t u r → IsErr r.answer → r.rows ≡ rows
refused_page = page_refused

pub refused_entries : (page : List PageEntry) (start limit : ℕ) {t u : Tables} {r : PageOut PageEntry} → Does (page_call as_is page start limit) t u r → IsErr r.answer → r.rows ≡ page
refused_entries = refused_page as_is
