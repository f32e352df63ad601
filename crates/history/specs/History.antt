-- Document 01, 'What the history says': what is reckoned from the accepted changes, in their order, and from nothing else. Assumes nothing.
use Rattle.std.specs.Prelude.{ℕ, eqb, Bool, ◌&&◌, ◌||◌, cond, false, not, List, [], ◌++◌, ◌∷◌, map}
use Rattle.std.proofs.Math.ListN.{get_elem?}
use Rattle.std.proofs.Math.Option.{Option, none, some}
use Rattle.lists.specs.Tallies.{tally_from}
use Rattle.machine.specs.Examples.{key}
use Rattle.machine.specs.Machine.{Did, Given, left, step}
use Rattle.machine.specs.Plan.{Outcome, did, refused}
use Rattle.machine.specs.Tests.{Ruling, denying, granting, present, same, same_ruling}
use Rattle.machine.specs.Types.{Bytes, Change, Ledger, add, approve, reject, request, revoke}
use Rattle.records.specs.declared.BlockTime.{BlockTime}
use Rattle.records.specs.declared.refusal.Refusal.{Refusal}
use Rattle.records.specs.declared.status.RequestStatus.{RequestStatus}
use Rattle.records.specs.declared.status.RequestStatus.TheVariants as Status

-- ---- only accepted changes count
abbrev pub if_accepted : Change → Outcome (Did Given) → List Change
if_accepted c (refused e) = []
if_accepted c (did d) = c ∷ []

-- those of the changes cs that are accepted, tried one after the other from L
abbrev pub accepted : Ledger → List Change → List Change
accepted L [] = []
accepted L (c ∷ cs) = if_accepted c (step L c) ++ accepted (left L (step L c)) cs

abbrev pub any : (Change → Bool) → List Change → Bool
any p [] = false
any p (c ∷ cs) = p c || any p cs

-- ---- what a change says
-- the request that a change decides, and how
pub record Naming : Type 0 where
  pub how : Ruling
  pub request : ℕ

abbrev pub naming : Change → Option Naming
naming (add caller key account role) = none
naming (revoke caller key now) = none
naming (request c text now) = none
naming (approve c m text now) = some (record { how = granting; request = m })
naming (reject c m now) = some (record { how = denying; request = m })

abbrev pub names_so : Ruling → ℕ → Option Naming → Bool
names_so k n none = false
names_so k n (some u) = same_ruling u.how k && eqb u.request n

abbrev pub names : Ruling → ℕ → Change → Bool
names k n c = names_so k n (naming c)

abbrev pub approves : ℕ → Change → Bool
approves = names granting

abbrev pub rejects : ℕ → Change → Bool
rejects = names denying

-- the key that a change asks by, the key that it adds, and when it ends a key
abbrev pub asks_by : Change → Option Bytes
asks_by (add caller key account role) = none
asks_by (revoke caller key now) = none
asks_by (request c text now) = some c.signer_key
asks_by (approve c m text now) = none
asks_by (reject c m now) = none

abbrev pub adds : Change → Option Bytes
adds (add caller key account role) = some key
adds (revoke caller key now) = none
adds (request c text now) = none
adds (approve c m text now) = none
adds (reject c m now) = none

abbrev pub ends : Bytes → Change → Option BlockTime
ends k (add caller key account role) = none
ends k (revoke caller key now) = cond (same key k) (some now) none
ends k (request c text now) = none
ends k (approve c m text now) = none
ends k (reject c m now) = none

abbrev pub revokes : Bytes → Change → Bool
revokes k c = present (ends k c)

abbrev pub is_key : Bytes → Option Bytes → Bool
is_key k none = false
is_key k (some key) = same key k

abbrev pub adds_key : Bytes → Change → Bool
adds_key k c = is_key k (adds c)

-- ---- the events of one kind in a history, in order, each with what came after it
pub record Event (A : Type 0) : Type 0 where
  pub what : A
  pub after : List Change

module _ {A : Type 0} where
  abbrev pub event : Option A → List Change → List (Event A)
  event none h = []
  event (some a) h = record { what = a; after = h } ∷ []

  abbrev pub pick : (Change → Option A) → List Change → List (Event A)
  pick f [] = []
  pick f (c ∷ h) = event (f c) h ++ pick f h

-- the n-th accepted request is request n; registration g is the g-th add
abbrev pub askings : List Change → List (Event Bytes)
askings = pick asks_by

abbrev pub addings : List Change → List (Event Bytes)
addings = pick adds

-- ---- a status: Approved if an accepted approve names it; else Rejected if a reject does; else Void if its key was revoked after it; else Pending
abbrev pub fate : List Change → ℕ → Option (Event Bytes) → Option RequestStatus
fate h n none = none
fate h n (some x) =
    some (cond (any (approves n) h) Status.Approved (cond (any (rejects n) h) Status.Rejected (cond (any (revokes x.what) x.after) Status.Void Status.Pending)))

abbrev pub status_told : List Change → ℕ → Option RequestStatus
status_told h n = fate h n (get_elem? (askings h) n)

-- ---- a registered Agent key's pending count: the requests made under it since its latest add, less those decided
abbrev pub pends : List Change → Bytes → ℕ → Event Bytes → Bool
pends h k n x = same x.what k && not (any (adds_key k) x.after) && not (any (approves n) h) && not (any (rejects n) h)

abbrev pub pending_told : List Change → Bytes → ℕ
pending_told h k = tally_from (pends h k) 0 (askings h)

-- ---- log slot j is the request of the j-th approve
abbrev pub approved_by : Change → List ℕ
approved_by (add caller key account role) = []
approved_by (revoke caller key now) = []
approved_by (request c text now) = []
approved_by (approve c m text now) = m ∷ []
approved_by (reject c m now) = []

abbrev pub log_told : List Change → List ℕ
log_told [] = []
log_told (c ∷ h) = approved_by c ++ log_told h

-- ---- a registration's revocation time is that of the revoke that removed it: the first of its key after its add
abbrev pub or_else : Option BlockTime → Option BlockTime → Option BlockTime
or_else none o = o
or_else (some t) o = some t

abbrev pub first_end : Bytes → List Change → Option BlockTime
first_end k [] = none
first_end k (c ∷ h) = or_else (ends k c) (first_end k h)

abbrev pub end_told : Event Bytes → Option BlockTime
end_told x = first_end x.what x.after

abbrev pub revoked_told : List Change → List (Option BlockTime)
revoked_told h = map end_told (addings h)

-- ---- a status as an answer or none, to hold beside what is told
abbrev pub answer_of : Outcome RequestStatus → Option RequestStatus
answer_of (refused e) = none
answer_of (did x) = some x

-- ---- replay: the records that the changes cs give, those refused passed over; and the outcomes of trying each
abbrev pub if_given : Outcome (Did Given) → List Given
if_given (refused e) = []
if_given (did d) = d.given ∷ []

abbrev pub gifts : Ledger → List Change → List Given
gifts L [] = []
gifts L (c ∷ cs) = if_given (step L c) ++ gifts (left L (step L c)) cs

pub data Answer : Type 0 where
  no : Refusal → Answer
  gave : Given → Answer

abbrev pub answer : Outcome (Did Given) → Answer
answer (refused e) = no e
answer (did d) = gave d.given

abbrev pub answers : Ledger → List Change → List Answer
answers L [] = []
answers L (c ∷ cs) = answer (step L c) ∷ answers (left L (step L c)) cs

-- ---- decisions: whether a change decides request n, and the account by which it does; the account that a change asks for
abbrev pub decides : ℕ → Change → Bool
decides n c = approves n c || rejects n c

abbrev pub decider : Change → Option ℕ
decider (add caller key account role) = none
decider (revoke caller key now) = none
decider (request c text now) = none
decider (approve c m text now) = some c.signer.0
decider (reject c m now) = some c.signer.0

abbrev pub asker : Change → Option ℕ
asker (add caller key account role) = none
asker (revoke caller key now) = none
asker (request c text now) = some c.signer.0
asker (approve c m text now) = none
asker (reject c m now) = none
