-- What the machine's outcomes are as answers of code: for each case of an answer, the refusal, or the record and its values. Assumes nothing.
use Rattle.std.specs.Prelude as Std
use Rattle.std.specs.Prelude.{ℕ, drop, length, replicate, List, [], ◌++◌, ◌∷◌, map, Result, Ok, Err}
use Rattle.std.proofs.Math.Option.{Option, none, some}
use Rattle.answers.specs.declared.Page.{Page}
use Rattle.machine.specs.Machine.{Did}
use Rattle.machine.specs.Plan.{Outcome, did, refused}
use Rattle.machine.specs.Reads.{entry}
use Rattle.machine.specs.Told.{Texted, no_time, no_verdict, proof_of}
use Rattle.machine.specs.Types.{Asked, Bytes}
use Rattle.records.specs.declared.ActionRequest.{ActionRequest}
use Rattle.records.specs.declared.ApprovalProof.{ApprovalProof}
use Rattle.records.specs.declared.PageEntry.{PageEntry}
use Rattle.records.specs.declared.Principal.{Principal}
use Rattle.records.specs.declared.refusal.Refusal.{Refusal}
use Rattle.records.specs.declared.status.RequestStatus.{RequestStatus}
use Rattle.rows.specs.Zeros.{zero_key}

-- ---- records of nothing
abbrev pub no_asked : Asked
no_asked = record { key = zero_key; account = 0; number = 0; text = []; time = no_time }

abbrev pub no_proof : ApprovalProof
no_proof = (proof_of 0 no_asked 0 no_verdict).is

abbrev pub empty_entry : PageEntry
empty_entry = entry 0 no_proof

-- ---- an outcome as an answer: the refusal, or the record made of what was done
abbrev pub told : {A B : Type 0} → (A → B) → Outcome A → Result B Refusal
told f (refused e) = Err e
told f (did a) = Ok (f a)

-- ---- changes
abbrev pub registered : Outcome (Did Principal) → Result Principal Refusal
registered o = told (λ d. d.given) o

abbrev pub requested : Outcome (Did (Texted ActionRequest)) → Result ActionRequest Refusal
requested o = told (λ d. d.given.is) o

abbrev pub proved : Outcome (Did (Texted ApprovalProof)) → Result ApprovalProof Refusal
proved o = told (λ d. d.given.is) o

-- ---- reads
abbrev pub status_answer : Outcome RequestStatus → Result RequestStatus Refusal
status_answer o = told (λ x. x) o

abbrev pub shown : Option (Texted ApprovalProof) → Result (Std.Option ApprovalProof) Refusal
shown none = Ok Std.None
shown (some p) = Ok (Std.Some p.is)

-- the text of a proof, or none
abbrev pub text_of : Option (Texted ApprovalProof) → Bytes
text_of none = []
text_of (some p) = p.text

-- ---- a page, and the lent row that it is written to: what f makes of each entry, at the front of the row, whose other places stay
pub record PageOut (A : Type 0) : Type 0 where
  pub answer : Result ℕ Refusal
  pub rows : List A

abbrev pub paged : {A : Type 0} → (PageEntry → A) → List A → Outcome (List PageEntry) → PageOut A
paged f rows (refused e) = record { answer = Err e; rows = rows }
paged f rows (did es) = record { answer = Ok (length es); rows = map f es ++ drop (length es) rows }

-- an entry as a record, and as plain numbers: slot, request, both registrations, both times
abbrev pub as_is : PageEntry → PageEntry
as_is e = e

abbrev pub entry_row : PageEntry → List ℕ
entry_row e =
    e.slot ∷ e.request_id.0 ∷ e.agent_registration_id.0 ∷ e.approver_registration_id.0
    ∷ e.requested_at.height ∷ e.requested_at.timestamp_ns ∷ e.approved_at.height ∷ e.approved_at.timestamp_ns ∷ []

-- ---- a page in a record of its own: how many entries it has, and the row that holds them, at first with nothing in it
abbrev pub no_entries : List PageEntry
no_entries = replicate 100 empty_entry

abbrev pub page_in : Outcome (List PageEntry) → Result Page Refusal
page_in o = told (λ es. record { count = length es; entries = es ++ drop (length es) no_entries }) o

-- and the same as a lent row tells it: the count, and the row; a refusal leaves the row with nothing in it
abbrev pub apart : Result Page Refusal → PageOut PageEntry
apart (Ok p) = record { answer = Ok p.count; rows = p.entries }
apart (Err e) = record { answer = Err e; rows = no_entries }
