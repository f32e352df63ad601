-- Each public call's promise, told as its command's: the answer becomes what the machine's outcome is told as, and the tables are the call's. Assumes nothing.
use mathlib.Core.List.{List, [], ◌∷◌, ◌++◌, map, map-append, map-id}
use mathlib.Core.Path.{◌≡◌, ◌∙◌, ap, refl, sym}
use Prim.Native.Nat.{ℕ}
use lib.ListN.{drop, length, length-map, take}
use lib.Seq.{take_at}
use Rattle.std.specs.Prelude.{Result, Ok, Err}
use Rattle.std.specs.Result.{IsErr, IsErrAnd}
use Rattle.answers.proofs.Doing.{does_as, handed_on}
use Rattle.answers.specs.Answers as answers
use Rattle.answers.specs.Answers.{PageOut, as_is}
use Rattle.answers.specs.Calls.{add_call, approve_call, change_call, page_call, reject_call, request_call, revoke_call, status_call}
use Rattle.answers.specs.Does.{Does}
use Rattle.ids.specs.declared.Account.{Account}
use Rattle.ids.specs.declared.RequestId.{RequestId}
use Rattle.records.specs.declared.ActionRequest.{ActionRequest}
use Rattle.records.specs.declared.ApprovalProof.{ApprovalProof}
use Rattle.records.specs.declared.BlockTime.{BlockTime}
use Rattle.records.specs.declared.Caller.{Caller}
use Rattle.records.specs.declared.PageEntry.{PageEntry}
use Rattle.records.specs.declared.Principal.{Principal}
use Rattle.records.specs.declared.refusal.Refusal.{Refusal}
use Rattle.records.specs.declared.role.Role.{Role}
use Rattle.records.specs.declared.status.RequestStatus.{RequestStatus}
use Rattle.machine.proofs.Keep.{left_giving}
use Rattle.machine.proofs.Plans.{bind_did, bind_refused}
use Rattle.machine.specs.Machine.{Did, Given, action, add_to, approve_in, giving, left, principal, proof, reject_in, request_in, revoke_in, step, told_by}
use Rattle.machine.specs.Plan.{Outcome, Plan, ◌>>=◌, did, outcome, refused}
use Rattle.machine.specs.Reads.{page_into, status}
use Rattle.machine.specs.Rooms.{page_limit}
use Rattle.machine.specs.Types.{Bytes, Change, Ledger, add, approve, reject, request, revoke}
use Rattle.tables.specs.Tables.{Tables}
use Rattle.commands.specs.Commands.{change, status_of, page_from}
use Rattle.lines.specs.Lines as lines
use Rattle.lines.specs.Lines.{Told, accepted, standing}
use Rattle.lines.specs.Replies.{told}
use Rattle.lines.specs.declared.reply.Reply.{Reply}
use Rattle.acts.specs.Acts.{Acts, after_of, request_of, told_as, told_change, told_of, told_page}

-- ---- what an answer is told as: f of what was done, or the refusal
abbrev pub answered : {B : Type 0} → (B → Told) → Result B Refusal → Told
answered f (Ok b) = f b
answered f (Err e) = lines.refused e

-- what `?` hands on tells the refusal
pub handed : {B : Type 0} (f : B → Told) {r : Result B Refusal} (q : Result Reply Refusal) {e : Refusal} → r ≡ Err e → IsErr q × IsErrAnd q (λ x. x ≡ e) → told q ≡ answered f r
handed f q was h = ap told (handed_on h) ∙ ap (answered f) (sym was)

-- the machine's outcome is told the same
tells : {A B : Type 0} (f : B → Told) (g : A → B) (h : A → Told) → ((a : A) → f (g a) ≡ h a) → (o : Outcome A) → answered f (answers.told g o) ≡ told_as h o
tells f g h same (refused e) = refl
tells f g h same (did a) = same a

-- ---- a change: its own plan is the machine's step, with the record that it gives
module _ {A : Type 0} (give : A → Given) where
  abbrev number : Did A → Told
  number d = accepted (told_by (give d.given) ∷ [])

  stepped : (m : Plan (Did A)) → told_change (outcome (m >>= giving give)) ≡ told_as number (outcome m)
  stepped m = go (outcome m) refl
    where
      go : (o : Outcome (Did A)) → outcome m ≡ o → told_change (outcome (m >>= giving give)) ≡ told_as number o
      go (refused e) q = ap told_change (bind_refused (giving give) m q)
      go (did d) q = ap told_change (bind_did (giving give) m q)

  changes : {B : Type 0} (f : B → Told) (g : Did A → B) → ((d : Did A) → f (g d) ≡ number d) → (own : Ledger → Plan (Did A)) (c : Change) → ((L : Ledger) → step L c ≡ outcome (own L >>= giving give))
      → {t t' : Tables} {r : Result B Refusal} {w : Told} → Does (change_call (answers.told g) own) t t' r → w ≡ answered f r → Acts (change c) t t' w
  unfolding told_of after_of
  changes f g same own c is =
      does_as (answered f) refl (λ L. tells f g number same (outcome (own L)) ∙ sym (stepped (own L)) ∙ ap told_change (sym (is L)))
      (λ L. sym (left_giving L give (own L)) ∙ ap (left L) (sym (is L)))

-- the numbers that are told: of a registration, of a request, of an approval
abbrev pub registration : Principal → Told
registration p = accepted (p.registration_id.0 ∷ [])

abbrev pub asked : ActionRequest → Told
asked r = accepted (r.id.0 ∷ [])

abbrev pub approval : ApprovalProof → Told
approval p = accepted (p.approval_index ∷ [])

-- a page's number of entries, and the request numbers of those that it has in the lent row
abbrev pub paged : PageOut PageEntry → Told
paged o = answered (λ n. accepted (n ∷ take n (map request_of o.rows))) o.answer

page_told : (rows : List PageEntry) (o : Outcome (List PageEntry)) → paged (answers.paged as_is rows o) ≡ told_page o
page_told rows (refused e) = refl
page_told rows (did es) =
    ap (λ (xs : List PageEntry). accepted (length es ∷ take (length es) (map request_of (xs ++ drop (length es) rows)))) (map-id es)
    ∙ ap (λ (ns : List ℕ). accepted (length es ∷ ns))
    (ap (take (length es)) (map-append request_of es (drop (length es) rows)) ∙ take_at (map request_of es) (map request_of (drop (length es) rows)) (length es) (length-map es request_of))

module _ {t t' : Tables} {w : Told} where
  pub adds : (caller : Account) (key : Bytes) (who : Account) (role : Role) {r : Result Principal Refusal} → Does (add_call caller key who role) t t' r → w ≡ answered registration r
      → Acts (change (add caller.0 key who.0 role)) t t' w
  unfolding add_call
  adds caller key who role = changes principal registration (λ d. d.given) (λ d. refl) (λ L. add_to L caller.0 key who.0 role) (add caller.0 key who.0 role) (λ L. refl)

  pub revokes : (caller : Account) (key : Bytes) (now : BlockTime) {r : Result Principal Refusal} → Does (revoke_call caller key now) t t' r → w ≡ answered registration r
      → Acts (change (revoke caller.0 key now)) t t' w
  unfolding revoke_call
  revokes caller key now = changes principal registration (λ d. d.given) (λ d. refl) (λ L. revoke_in L caller.0 key now) (revoke caller.0 key now) (λ L. refl)

  pub requests : (c : Caller) (text : Bytes) (now : BlockTime) {r : Result ActionRequest Refusal} → Does (request_call c text now) t t' r → w ≡ answered asked r
      → Acts (change (request c text now)) t t' w
  unfolding request_call
  requests c text now = changes action asked (λ d. d.given.is) (λ d. refl) (λ L. request_in L c text now) (request c text now) (λ L. refl)

  pub approves : (c : Caller) (n : RequestId) (text : Bytes) (now : BlockTime) {r : Result ApprovalProof Refusal} → Does (approve_call c n text now) t t' r → w ≡ answered approval r
      → Acts (change (approve c n.0 text now)) t t' w
  unfolding approve_call
  approves c n text now = changes proof approval (λ d. d.given.is) (λ d. refl) (λ L. approve_in L c n.0 text now) (approve c n.0 text now) (λ L. refl)

  pub rejects : (c : Caller) (n : RequestId) (now : BlockTime) {r : Result ActionRequest Refusal} → Does (reject_call c n now) t t' r → w ≡ answered asked r
      → Acts (change (reject c n.0 now)) t t' w
  unfolding reject_call
  rejects c n now = changes action asked (λ d. d.given.is) (λ d. refl) (λ L. reject_in L c n.0 now) (reject c n.0 now) (λ L. refl)

  -- ---- reads
  pub tells_status : (n : RequestId) {r : Result RequestStatus Refusal} → Does (status_call n) t t' r → w ≡ answered standing r → Acts (status_of n.0) t t' w
  unfolding status_call told_of after_of
  tells_status n = does_as (answered standing) refl (λ L. tells standing (λ s. s) standing (λ s. refl) (status L n.0)) (λ L. refl)

  -- a row of as many places as a page may have entries has room for any page
  pub tells_page : (from limit : ℕ) (rows : List PageEntry) {r : PageOut PageEntry} → length rows ≡ page_limit → Does (page_call as_is rows from limit) t t' r → w ≡ paged r
      → Acts (page_from from limit) t t' w
  unfolding page_call told_of after_of
  tells_page from limit rows long =
      does_as paged refl
      (λ L. page_told rows (outcome (page_into L from limit (length rows))) ∙ ap (λ (room : ℕ). told_page (outcome (page_into L from limit room))) long)
      (λ L. refl)
