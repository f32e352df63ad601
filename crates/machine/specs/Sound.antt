-- Document 01, 'The sound ledger', but for what it says of tables. Four groups of clauses, each over just the columns that it speaks of, so that a change
-- which leaves a column as it was keeps the group. Assumes nothing.
use Rattle.std.specs.Prelude.{◌↔◌, ◌≢◌, ◌≡◌, ◌<◌, ◌≤◌, ℕ, eqb, length, Bool, ◌&&◌, not, List}
use Rattle.std.proofs.Math.Option.{Option, none, some}
use Rattle.lists.specs.Places.{At}
use Rattle.lists.specs.Tallies.{tally}
use Rattle.machine.specs.Rooms.{key_room, pending_limit, registration_room, request_room, text_limit, text_room}
use Rattle.machine.specs.Tests.{approved, asks, present, regs, ruled, used}
use Rattle.machine.specs.Types.{Approved, Asked, Decision, Holder, Ledger, Registration, Rejected, Request, Undecided, Verdict}
use Rattle.records.specs.declared.BlockTime.{BlockTime}
use Rattle.records.specs.declared.role.Role.TheVariants.{Agent, Approver}

abbrev pub verdict : Decision → Option Verdict
verdict Undecided = none
verdict (Approved j v) = some v
verdict (Rejected v) = some v

-- the log slot that a decision names
abbrev pub slot : Decision → Option ℕ
slot Undecided = none
slot (Approved j v) = some j
slot (Rejected v) = none

abbrev pub undecided_yet : Decision → Bool
undecided_yet d = not (present (ruled d))

-- request r is undecided, and was made under registration g: while g is in force, this is 'live under' g's key (Pending.antt has the theorem)
abbrev pub waits : ℕ → Request → Bool
waits g r = undecided_yet r.decision && eqb r.asked.number g

-- what was asked is the doing of p's holder
pub record Own (p : Registration) (a : Asked) : Type 0 where
  pub same_key : a.key ≡ p.key
  pub agent : p.role ≡ Agent
  pub same_account : a.account ≡ p.account

-- ---- registrations and requests
-- `distinct`: registered keys are distinct. `in_force`, `one_key`, `every`: each registration number below the count, which is the length of `revoked`, is in
-- force under one key or has one revocation, never both, and there are no others. `since`: active_from is at most the request count. `alive`: a request with a
-- registered key has at least its active_from for number exactly if its registration is that key's; `own`: and then the role is Agent and the accounts agree; and
-- a request whose registration is in force has that registration's key. `known`: a request's registration lies below the count.
pub record Roll (regs : List Registration) (revoked : List (Option BlockTime)) (asks : List Asked) : Type 0 where
  pub distinct : {i j : ℕ} {p q : Registration} → At regs i p → At regs j q → p.key ≡ q.key → i ≡ j
  pub in_force : {i : ℕ} {p : Registration} → At regs i p → At revoked p.number none
  pub one_key : {i j : ℕ} {p q : Registration} → At regs i p → At regs j q → p.number ≡ q.number → i ≡ j
  pub every : {g : ℕ} → At revoked g none → (i : ℕ) × (p : Registration) × At regs i p × (p.number ≡ g)
  pub since : {i : ℕ} {p : Registration} → At regs i p → p.active ≤ length asks
  pub alive : {i n : ℕ} {p : Registration} {a : Asked} → At regs i p → At asks n a → a.key ≡ p.key → (p.active ≤ n) ↔ (a.number ≡ p.number)
  pub own : {i n : ℕ} {p : Registration} {a : Asked} → At regs i p → At asks n a → a.number ≡ p.number → Own p a
  pub known : {n : ℕ} {a : Asked} → At asks n a → a.number < length revoked

-- ---- the rooms: counts lie within them, texts are of legal length. (The log's is a theorem, `log_short`: it has a slot for each approved request.)
pub record Rooms (regs : List Registration) (revoked : List (Option BlockTime)) (asks : List Asked) : Type 0 where
  pub keys : length regs ≤ key_room
  pub registrations : length revoked ≤ registration_room
  pub requests : length asks ≤ request_room
  pub text : used asks ≤ text_room
  pub legal : {n : ℕ} {a : Asked} → At asks n a → (0 < length a.text) × (length a.text ≤ text_limit)

-- ---- decisions and the log
-- A request has at most one decision by its type. `other`: it is by an account other than the agent's, under a registration below the count. `logged`, `slotted`:
-- slot j names exactly the request whose approval index is j. `log_length`: the log is as long as there are approved requests.
pub record Judged (revoked : List (Option BlockTime)) (requests : List Request) (log : List ℕ) : Type 0 where
  pub other : {n : ℕ} {r : Request} {v : Verdict} → At requests n r → verdict r.decision ≡ some v → (v.account ≢ r.asked.account) × (v.number < length revoked)
  pub logged : {j n : ℕ} → At log j n → (r : Request) × At requests n r × (slot r.decision ≡ some j)
  pub slotted : {j n : ℕ} {r : Request} → At requests n r → slot r.decision ≡ some j → At log j n
  pub log_length : length log ≡ tally (λ r. approved r.decision) requests

-- ---- the pending counts: exact, at most 16, and 0 for an Approver
pub record Counted (keys : List Holder) (requests : List Request) : Type 0 where
  pub pending : {i : ℕ} {p : Holder} → At keys i p → p.pending ≡ tally (waits p.reg.number) requests
  pub few : {i : ℕ} {p : Holder} → At keys i p → p.pending ≤ pending_limit
  pub idle : {i : ℕ} {p : Holder} → At keys i p → p.reg.role ≡ Approver → p.pending ≡ 0

pub record Sound (L : Ledger) : Type 0 where
  pub roll : Roll (regs L) L.revoked (asks L)
  pub rooms : Rooms (regs L) L.revoked (asks L)
  pub judged : Judged L.revoked L.requests L.log
  pub counted : Counted L.keys L.requests
