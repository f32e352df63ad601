-- What each entry does, on plain numbers: the ledger's own call, its answer told as an outcome. For the entries' promises. Assumes nothing.
use Rattle.std.specs.Prelude.{◌⊎◌, ◌≡◌, suc, zero, ℕ, List, [], ◌∷◌, Result}
use Rattle.answers.specs.Answers.{entry_row, shown}
use Rattle.answers.specs.Calls.{add_call, approve_call, page_call, read_call, reject_call, request_call, revocations_call, revoke_call, status_call}
use Rattle.answers.specs.Does.{Call, Opens}
use Rattle.answers.specs.Texts.{extent}
use Rattle.capi.specs.Outcomes.{PageTold, ProofTold, RowTold, no_such_role, opened_outcome, page_told, proof_told, proved_outcome}
use Rattle.capi.specs.Outcomes.{refused_as, registered_outcome, requested_outcome, revocations_told, status_outcome}
use Rattle.capi.specs.declared.outcomes.Outcome.{Outcome}
use Rattle.machine.specs.Reads.{approval}
use Rattle.machine.specs.Told.{account, id_of_registration, id_of_request}
use Rattle.machine.specs.Types.{Bytes, Ledger}
use Rattle.records.specs.declared.BlockTime.{BlockTime}
use Rattle.records.specs.declared.Caller.{Caller}
use Rattle.records.specs.declared.role.Role.TheVariants.{Agent, Approver}
use Rattle.records.specs.declared.refusal.Refusal.{Refusal}
use Rattle.records.specs.declared.refusal.Refusal.TheVariants.{Damaged}
use Rattle.tables.specs.Tables.{Stands, Tables}

-- a call whose answers are told by f; the ledger after it is the same
abbrev pub told_call : {A B : Type 0} → (A → B) → Call A → Call B
told_call f call = record { bad = f call.bad; answer = λ L. f (call.answer L); after = call.after }

-- opening, its answer told
pub record OpensTold (owner : ℕ) (t t' : Tables) (r : Outcome) : Type 0 where
  pub answer : Result (Unit {0}) Refusal
  pub opens : Opens owner t t' answer
  pub told : r ≡ opened_outcome answer

-- the number r says whether P holds: 1 if so, else 0; and it is known which
pub record Flags (r : ℕ) (P : Type 0) : Type 0 where
  pub one : P → r ≡ 1
  pub zero : (P → ⊥) → r ≡ 0
  pub known : P ⊎ (P → ⊥)

-- ---- records from plain numbers
abbrev pub block_time : ℕ → ℕ → BlockTime
block_time height timestamp = record { height = height; timestamp_ns = timestamp }

abbrev pub caller_of : ℕ → ℕ → Bytes → Caller
caller_of predecessor signer key = record { predecessor = account predecessor; signer = account signer; signer_key = key }

-- ---- the changes
-- a role of no meaning adds nothing; 20 comes before it, as before all else
abbrev pub add_entry : ℕ → Bytes → ℕ → ℕ → Call Outcome
add_entry caller key who zero = told_call registered_outcome (add_call (account caller) key (account who) Agent)
add_entry caller key who (suc zero) = told_call registered_outcome (add_call (account caller) key (account who) Approver)
add_entry caller key who (suc (suc n)) = read_call (refused_as Damaged) (λ _. no_such_role)

abbrev pub revoke_entry : ℕ → Bytes → ℕ → ℕ → Call Outcome
revoke_entry caller key height timestamp = told_call registered_outcome (revoke_call (account caller) key (block_time height timestamp))

abbrev pub request_entry : Caller → Bytes → ℕ → ℕ → Call Outcome
request_entry caller text height timestamp = told_call requested_outcome (request_call caller text (block_time height timestamp))

abbrev pub approve_entry : Caller → ℕ → Bytes → ℕ → ℕ → Call Outcome
approve_entry caller n text height timestamp = told_call proved_outcome (approve_call caller (id_of_request n) text (block_time height timestamp))

abbrev pub reject_entry : Caller → ℕ → ℕ → ℕ → Call Outcome
reject_entry caller n height timestamp = told_call requested_outcome (reject_call caller (id_of_request n) (block_time height timestamp))

-- ---- the reads
abbrev pub status_entry : ℕ → Call Outcome
status_entry n = told_call status_outcome (status_call (id_of_request n))

-- the lent rows as they were at entry
abbrev pub page_entry : List (List ℕ) → ℕ → ℕ → Call PageTold
page_entry rows start limit = told_call page_told (page_call entry_row rows start limit)

-- what is lent as it was at entry; the proof with the place of its text
abbrev pub proof_entry : List ℕ → Bytes → Bytes → ℕ → Call ProofTold
proof_entry row a b n =
    read_call (record { outcome = refused_as Damaged; row = row; agent = a; approver = b }) (λ L. proof_told row a b (extent L n) (shown (approval L n)))

-- the place of request n's text in tables that hold a sound ledger, as two numbers
pub record TextPlace (t : Tables) (n : ℕ) (r : List ℕ) : Type 0 where
  pub place : (L : Ledger) → Stands t L → r ≡ (extent L n).start ∷ (extent L n).len ∷ []

abbrev pub revocations_entry : List ℕ → ℕ → ℕ → Call RowTold
revocations_entry row agent approver = told_call (revocations_told row) (revocations_call (id_of_registration agent) (id_of_registration approver))
