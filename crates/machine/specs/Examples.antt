-- Document 01, 'Pump-side examples', as a list of sentences: after these changes, this is asked, and this is said. Owner 7; key A Agent of account 1; B Approver
-- of 2; C Approver of 1. Assumes nothing.
use Rattle.std.specs.Prelude.{◌+◌, suc, zero, ℕ, length, replicate, List, [], ◌++◌, ◌∷◌}
use Rattle.std.proofs.Math.Option.{Option, none, some}
use Rattle.machine.specs.Machine.{Did, Given, opened, run, step, told_by}
use Rattle.machine.specs.Plan.{Outcome, did, refused}
use Rattle.machine.specs.Reads.{entries, status}
use Rattle.machine.specs.Tests.{Place, seek}
use Rattle.machine.specs.Types.{Bytes, Change, Ledger, add, approve, reject, request, revoke}
use Rattle.records.specs.Letters.{ascii}
use Rattle.records.specs.Refusals.{refusal_number}
use Rattle.records.specs.declared.BlockTime.{BlockTime}
use Rattle.records.specs.declared.Caller.{Caller}
use Rattle.records.specs.declared.role.Role.TheVariants.{Agent, Approver}
use Rattle.records.specs.declared.status.RequestStatus.{RequestStatus}
use Rattle.records.specs.declared.status.RequestStatus.TheVariants as Status

-- ---- what is asked, and what is said
pub data Ask : Type 0 where
  try : Change → Ask
  status_of : ℕ → Ask
  page_from : ℕ → ℕ → Ask
  key_of : Bytes → Ask

pub data Says : Type 0 where
  no : ℕ → Says
  yes_with : ℕ → Says
  stands : RequestStatus → Says
  rows : ℕ → Says
  holds : (active pending : ℕ) → Says
  nothing : Says

abbrev pub says_did : Outcome (Did Given) → Says
says_did (refused e) = no (refusal_number e)
says_did (did d) = yes_with (told_by d.given)

abbrev pub says_status : Outcome RequestStatus → Says
says_status (refused e) = no (refusal_number e)
says_status (did x) = stands x

abbrev pub says_key : Option Place → Says
says_key none = nothing
says_key (some f) = holds f.is.reg.active f.is.pending

abbrev pub reply : Ledger → Ask → Says
reply L (try c) = says_did (step L c)
reply L (status_of n) = says_status (status L n)
reply L (page_from from limit) = rows (length (entries L from limit))
reply L (key_of k) = says_key (seek k L.keys)

pub record Sentence : Type 0 where
  pub after : List Change
  pub ask : Ask
  pub says : Says

infixl 10 ◌⟫◌gives◌
abbrev pub ◌⟫◌gives◌ : List Change → Ask → Says → Sentence
cs ⟫ q gives a = record { after = cs; ask = q; says = a }

-- ---- who
abbrev pub key : ℕ → Bytes
key b = replicate 32 b

abbrev pub noon : BlockTime
noon = record { height = 1; timestamp_ns = 1 }

abbrev pub signed : ℕ → ℕ → Caller
signed n b = record { predecessor = record { 0 = n }; signer = record { 0 = n }; signer_key = key b }

abbrev pub add_a : Change
add_a = add 7 (key 65) 1 Agent

abbrev pub cast : List Change
cast = add_a ∷ add 7 (key 66) 2 Approver ∷ add 7 (key 67) 1 Approver ∷ []

abbrev pub a_asks : Bytes → Change
a_asks t = request (signed 1 65) t noon

abbrev pub b_approves : ℕ → Bytes → Change
b_approves n t = approve (signed 2 66) n t noon

abbrev pub b_rejects : ℕ → Change
b_rejects n = reject (signed 2 66) n noon

abbrev pub c_approves : ℕ → Bytes → Change
c_approves n t = approve (signed 1 67) n t noon

abbrev pub c_rejects : ℕ → Change
c_rejects n = reject (signed 1 67) n noon

-- ---- what came before
abbrev pub maxrate : Bytes
maxrate = ascii "maxrate=50"

abbrev pub maxrat : Bytes
maxrat = ascii "maxrat=50"

abbrev pub asked : List Change
asked = cast ++ a_asks maxrate ∷ []

abbrev pub revoked : List Change
revoked = asked ++ revoke 7 (key 65) noon ∷ []

abbrev pub again : List Change
again = revoked ++ add_a ∷ []

-- f 0, f 1, .. one after the other
abbrev pub each : ℕ → (ℕ → List Change) → List Change
each zero f = []
each (suc n) f = each n f ++ f n

abbrev pub logged : ℕ → List Change
logged n = cast ++ each n (λ i. a_asks maxrate ∷ b_approves i maxrate ∷ [])

-- gone keys added and revoked, then 64 that stay
abbrev pub churned : ℕ → List Change
churned gone = each gone (λ i. add 7 (key i) 9 Agent ∷ revoke 7 (key i) noon ∷ []) ++ each 64 (λ i. add 7 (key (1000 + i)) 9 Agent ∷ [])

-- ---- the sentences that document 01 marks
abbrev pub marked : List Sentence
marked =
    ([] ⟫ try (add 8 (key 65) 1 Agent) gives no 1)
    ∷ (cast ⟫ try add_a gives no 6)
    ∷ (cast ⟫ try (revoke 7 (key 68) noon) gives no 7)
    ∷ (cast ⟫ try (a_asks []) gives no 8)
    ∷ (cast ⟫ try (a_asks (replicate 2048 1)) gives yes_with 0)
    ∷ (cast ⟫ try (a_asks (replicate 2049 1)) gives no 9)
    ∷ (cast ++ replicate 16 (a_asks maxrate) ⟫ try (a_asks maxrate) gives no 10)
    ∷ (cast ++ replicate 16 (a_asks maxrate) ⟫ try (a_asks []) gives no 8)
    ∷ (asked ⟫ try (b_approves 0 maxrat) gives no 15)
    ∷ (asked ⟫ try (b_approves 0 []) gives no 15)
    ∷ (asked ⟫ try (b_approves 0 (replicate 2049 1)) gives no 15)
    ∷ (asked ⟫ try (b_approves 0 maxrate) gives yes_with 0)
    ∷ (asked ⟫ try (c_approves 0 maxrate) gives no 16)
    ∷ (asked ⟫ try (c_approves 0 maxrat) gives no 15)
    ∷ (asked ⟫ try (c_rejects 0) gives no 16)
    ∷ (asked ⟫ status_of 0 gives stands Status.Pending)
    ∷ (revoked ⟫ status_of 0 gives stands Status.Void)
    ∷ (again ⟫ key_of (key 65) gives holds 1 0)
    ∷ (again ⟫ status_of 0 gives stands Status.Void)
    ∷ (again ⟫ try (b_approves 0 maxrate) gives no 14)
    ∷ (asked ++ b_approves 0 maxrate ∷ [] ⟫ try (b_rejects 0) gives no 12)
    ∷ (asked ++ b_rejects 0 ∷ [] ⟫ try (b_approves 0 maxrat) gives no 13)
    ∷ (logged 1 ⟫ page_from 18446744073709551615 5 gives rows 0)
    ∷ (logged 120 ⟫ page_from 0 250 gives rows 100)
    ∷ []

-- ---- and those that it leaves to be run
abbrev pub unmarked : List Sentence
unmarked =
    (churned 36 ⟫ try (add 7 (key 200) 9 Agent) gives no 18)
    ∷ (churned 36 ++ revoke 7 (key 1020) noon ∷ [] ⟫ try (add 7 (key 200) 9 Agent) gives yes_with 100)
    ∷ (churned 192 ⟫ try (add 7 (key 200) 9 Agent) gives no 17)
    ∷ (cast ++ add 7 (key 80) 5 Agent ∷ [] ++ replicate 16 (a_asks (replicate 2048 1)) ⟫ try (request (signed 5 80) (1 ∷ []) noon) gives no 19)
    ∷ []

-- ---- where two refusals apply, document 01's order decides
abbrev pub by_another : ℕ → ℕ → ℕ → Caller
by_another p n b = record { predecessor = record { 0 = p }; signer = record { 0 = n }; signer_key = key b }

-- 256 requests of 128 bytes each, all approved: the requests and the text room are used up
abbrev pub brim : List Change
brim = cast ++ each 256 (λ i. a_asks (replicate 128 1) ∷ b_approves i (replicate 128 1) ∷ [])

-- 256 requests, of which sixteen of A's are Pending
abbrev pub waiting : List Change
waiting = logged 240 ++ replicate 16 (a_asks maxrate)

abbrev pub ordered : List Sentence
ordered =
    (cast ⟫ try (add 8 (key 65) 1 Agent) gives no 1)
    ∷ (churned 192 ⟫ try (add 7 (key 1001) 9 Agent) gives no 6)
    ∷ (churned 192 ⟫ try (add 7 (key 200) 9 Agent) gives no 17)
    ∷ (cast ⟫ try (revoke 8 (key 68) noon) gives no 1)
    ∷ (cast ⟫ try (request (by_another 9 1 68) [] noon) gives no 2)
    ∷ (cast ⟫ try (request (by_another 2 2 68) [] noon) gives no 3)
    ∷ (cast ⟫ try (request (by_another 9 9 66) [] noon) gives no 4)
    ∷ (cast ⟫ try (request (by_another 9 9 65) [] noon) gives no 5)
    ∷ (cast ++ replicate 16 (a_asks maxrate) ⟫ try (a_asks (replicate 2049 1)) gives no 9)
    ∷ (waiting ⟫ try (a_asks maxrate) gives no 10)
    ∷ (brim ⟫ try (a_asks maxrate) gives no 17)
    ∷ (cast ⟫ try (approve (by_another 9 9 66) 0 [] noon) gives no 5)
    ∷ (cast ⟫ try (b_approves 0 []) gives no 11)
    ∷ (logged 1 ++ revoke 7 (key 65) noon ∷ [] ⟫ try (b_approves 0 []) gives no 12)
    ∷ (asked ++ b_rejects 0 ∷ revoke 7 (key 65) noon ∷ [] ⟫ try (b_approves 0 []) gives no 13)
    ∷ (revoked ⟫ try (c_approves 0 []) gives no 14)
    ∷ (asked ⟫ try (c_approves 0 []) gives no 15)
    ∷ (revoked ⟫ try (c_rejects 0) gives no 14)
    ∷ []

abbrev pub machine_says : Sentence → Says
machine_says s = reply (run (opened 7) s.after) s.ask
