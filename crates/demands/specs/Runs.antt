-- Public calls made on lent tables, one after the other, each with any outcome that its promise allows; nothing else writes the tables. Assumes nothing.
use Rattle.std.specs.Prelude.{ℕ, List, [], ◌++◌, ◌∷◌, Option, Result}
use Rattle.answers.specs.Answers.{PageOut, as_is, entry_row, proved, registered, requested}
use Rattle.answers.specs.Calls.{add_call, approval_call, approve_call, page_call, page_in_call, reject_call, request_call, revocations_call, revoke_call, status_call}
use Rattle.answers.specs.Does.{Does}
use Rattle.answers.specs.declared.Page.{Page}
use Rattle.ids.specs.declared.Account.{Account}
use Rattle.ids.specs.declared.RegistrationId.{RegistrationId}
use Rattle.ids.specs.declared.RequestId.{RequestId}
use Rattle.machine.specs.Machine.{Did, Given, add_to, approve_in, left, reject_in, request_in, revoke_in, step}
use Rattle.machine.specs.Plan.{Outcome, did, outcome, refused}
use Rattle.machine.specs.Types.{Bytes, Change, Ledger, add, approve, reject, request, revoke}
use Rattle.records.specs.declared.ActionRequest.{ActionRequest}
use Rattle.records.specs.declared.ApprovalProof.{ApprovalProof}
use Rattle.records.specs.declared.BlockTime.{BlockTime}
use Rattle.records.specs.declared.Caller.{Caller}
use Rattle.records.specs.declared.PageEntry.{PageEntry}
use Rattle.records.specs.declared.Principal.{Principal}
use Rattle.records.specs.declared.ProofRevocations.{ProofRevocations}
use Rattle.records.specs.declared.refusal.Refusal.{Refusal}
use Rattle.records.specs.declared.role.Role.{Role}
use Rattle.records.specs.declared.status.RequestStatus.{RequestStatus}
use Rattle.tables.specs.Tables.{Tables}

-- ---- what a change is answered, whichever it is
pub data Heard : Type 0 where
  registered_as : Result Principal Refusal → Heard
  requested_as : Result ActionRequest Refusal → Heard
  proved_as : Result ApprovalProof Refusal → Heard

abbrev pub heard : Ledger → Change → Heard
heard L (add caller key account role) = registered_as (registered (outcome (add_to L caller key account role)))
heard L (revoke caller key now) = registered_as (registered (outcome (revoke_in L caller key now)))
heard L (request c text now) = requested_as (requested (outcome (request_in L c text now)))
heard L (approve c n text now) = proved_as (proved (outcome (approve_in L c n text now)))
heard L (reject c n now) = requested_as (requested (outcome (reject_in L c n now)))

-- the answers to the changes cs, made one after the other from L; and of those only the accepted ones'
abbrev pub heards : Ledger → List Change → List Heard
heards L [] = []
heards L (c ∷ cs) = heard L c ∷ heards (left L (step L c)) cs

abbrev pub if_heard : Heard → Outcome (Did Given) → List Heard
if_heard h (refused e) = []
if_heard h (did d) = h ∷ []

abbrev pub accepted_heards : Ledger → List Change → List Heard
accepted_heards L [] = []
accepted_heards L (c ∷ cs) = if_heard (heard L c) (step L c) ++ accepted_heards (left L (step L c)) cs

-- ---- one call on tables t that left tables u: the change that was tried and its answer, or, for a read, none
pub data Made (t : Tables) : List Change → List Heard → Tables → Type 0 where
  adds : {u : Tables} {r : Result Principal Refusal} (caller : Account) (key : Bytes) (who : Account) (role : Role)
      → Does (add_call caller key who role) t u r → Made t (add caller.0 key who.0 role ∷ []) (registered_as r ∷ []) u
  revokes : {u : Tables} {r : Result Principal Refusal} (caller : Account) (key : Bytes) (now : BlockTime)
      → Does (revoke_call caller key now) t u r → Made t (revoke caller.0 key now ∷ []) (registered_as r ∷ []) u
  requests : {u : Tables} {r : Result ActionRequest Refusal} (c : Caller) (text : Bytes) (now : BlockTime)
      → Does (request_call c text now) t u r → Made t (request c text now ∷ []) (requested_as r ∷ []) u
  approves : {u : Tables} {r : Result ApprovalProof Refusal} (c : Caller) (n : RequestId) (text : Bytes) (now : BlockTime)
      → Does (approve_call c n text now) t u r → Made t (approve c n.0 text now ∷ []) (proved_as r ∷ []) u
  rejects : {u : Tables} {r : Result ActionRequest Refusal} (c : Caller) (n : RequestId) (now : BlockTime)
      → Does (reject_call c n now) t u r → Made t (reject c n.0 now ∷ []) (requested_as r ∷ []) u
  asks_status : {u : Tables} {r : Result RequestStatus Refusal} (n : RequestId) → Does (status_call n) t u r → Made t [] [] u
  asks_proof : {u : Tables} {r : Result (Option ApprovalProof) Refusal} (n : RequestId) → Does (approval_call n) t u r → Made t [] [] u
  asks_revocations : {u : Tables} {r : Result ProofRevocations Refusal} (a b : RegistrationId) → Does (revocations_call a b) t u r → Made t [] [] u
  asks_entries : {u : Tables} {r : PageOut PageEntry} (page : List PageEntry) (start limit : ℕ) → Does (page_call as_is page start limit) t u r → Made t [] [] u
  asks_page : {u : Tables} {r : PageOut (List ℕ)} (rows : List (List ℕ)) (start limit : ℕ) → Does (page_call entry_row rows start limit) t u r → Made t [] [] u
  asks_record : {u : Tables} {r : Result Page Refusal} (start limit : ℕ) → Does (page_in_call start limit) t u r → Made t [] [] u

-- ---- any calls, without opening again
pub data Calls (t : Tables) : List Change → List Heard → Tables → Type 0 where
  none_yet : Calls t [] [] t
  one_more : {cs ds : List Change} {hs ks : List Heard} {u v : Tables} → Calls t cs hs u → Made u ds ks v → Calls t (cs ++ ds) (hs ++ ks) v
