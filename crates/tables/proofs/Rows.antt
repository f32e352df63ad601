-- The rows of the tables that a sound ledger lies in, one by one. Assumes nothing.
use mathlib.Core.Path.{◌∙◌, ◌≡◌, ap, refl}
use Prim.Native.Nat.{◌+◌, ◌≤◌, suc, zero, ℕ}
use lib.ListN.{get_or, length, length-append, length-map, take}
use mathlib.Core.List.{List, [], ◌++◌, ◌∷◌, map}
use mathlib.Core.Option.{Option}
use native.Mathlib.Nat.{add_assoc, add-zero, zero-add}
use Rattle.lists.proofs.Getting.{get_d_of_at}
use Rattle.lists.proofs.Maps.{at_map}
use Rattle.lists.proofs.Places.{at_head, at_lt, at_nil, down, up}
use Rattle.lists.specs.Places.{At}
use Rattle.machine.proofs.Keep.{asked_of, reg_of}
use Rattle.machine.proofs.Pages.{log_short}
use Rattle.machine.specs.Rooms.{key_room, log_room, registration_room, request_room}
use Rattle.machine.specs.Sound.{Sound}
use Rattle.machine.specs.Tests.{asks, regs, used}
use Rattle.machine.specs.Types.{Asked, Decision, Holder, Ledger, Request}
use Rattle.records.specs.declared.BlockTime.{BlockTime}
use Rattle.rows.proofs.Padded.{get_d_padded}
use Rattle.rows.specs.Padded.{padded}
use Rattle.rows.specs.Zeros.{zero_key, zero_row}
use Rattle.tables.proofs.Laid.{Laid}
use Rattle.tables.specs.Parts.{agents, approvers, asked, cell, decided, held, holders, key_count, log, log_count, made, owner, request_count, revoked, text_used}
use Rattle.tables.specs.Tables.{Tables, agent_of, asked_row, asked_rows, decided_key, decided_row, decision_of, decisions, head_row, holder_row, key_of, log_row, revoked_row, words}

-- ---- what was asked, with the places of the texts
pub length_asked : (start : ℕ) (all : List Asked) → length (asked_rows start all) ≡ length all
length_asked start [] = refl
length_asked start (a ∷ rest) = ap suc (length_asked (start + length a.text) rest)

pub places : (start : ℕ) (all : List Asked) {n : ℕ} {a : Asked} → At all n a → At (asked_rows start all) n (asked_row (start + used (take n all)) a)
places start [] h = absurd (at_nil h)
places start (b ∷ rest) {n = zero} {a} h = rw (at_head h, add-zero) (record { is = refl })
places start (b ∷ rest) {n = suc n} {a} h = up (rw add_assoc at (places (start + length b.text) rest (down h)))

-- one more starts where the texts before it end
pub asked_snoc : (start : ℕ) (all : List Asked) (a : Asked) → asked_rows start (all ++ a ∷ []) ≡ asked_rows start all ++ asked_row (start + used all) a ∷ []
asked_snoc start [] a = rw add-zero
asked_snoc start (b ∷ rest) a =
    ap (λ (rows : List (List ℕ)). asked_row start b ∷ rows) (asked_snoc (start + length b.text) rest a ∙ rw add_assoc)

pub length_words : (all : List Asked) → length (words all) ≡ used all
length_words [] = refl
length_words (a ∷ rest) = length-append a.text (words rest) ∙ ap (λ (n : ℕ). length a.text + n) (length_words rest)

-- ---- a row of a padded part
row_at : {part rows : List (List ℕ)} (room : ℕ) (z : List ℕ) → part ≡ padded room z rows → length rows ≤ room → {i : ℕ} {row : List ℕ} → At rows i row → get_or part i [] ≡ row
row_at {rows = rows} room z e fits {i} h = ap (λ (p : List (List ℕ)). get_or p i []) e ∙ get_d_padded room z rows i [] (at_lt h) fits ∙ get_d_of_at [] h

module _ {t : Tables} {L : Ledger} (s : Sound L) (l : Laid t L) where
  -- ---- the head
  head_cell : (c : ℕ) → cell 0 c t.book ≡ get_or (head_row L) c 0
  head_cell c = ap (λ (r : List ℕ). get_or r c 0) l.head_is

  pub owner_is : owner t ≡ L.owner
  owner_is = head_cell 0

  pub key_count_is : key_count t ≡ length L.keys
  key_count_is = head_cell 1

  pub made_is : made t ≡ length L.revoked
  made_is = head_cell 2

  pub request_count_is : request_count t ≡ length L.requests
  request_count_is = head_cell 3

  pub log_count_is : log_count t ≡ length L.log
  log_count_is = head_cell 4

  pub text_used_is : text_used t ≡ used (asks L)
  text_used_is = head_cell 5

  -- ---- the ledger's lists within their rooms
  pub keys_room : length L.keys ≤ key_room
  keys_room = rw (length-map L.keys reg_of) at s.rooms.keys

  pub requests_room : length L.requests ≤ request_room
  requests_room = rw (length-map L.requests asked_of) at s.rooms.requests

  -- ---- the rows
  pub holder_row_lem : {i : ℕ} {p : Holder} → At L.keys i p → get_or (holders t) i [] ≡ holder_row p
  holder_row_lem h = row_at key_room zero_row l.holders_are (rw (length-map L.keys holder_row) keys_room) (at_map holder_row h)

  pub held_row : {i : ℕ} {p : Holder} → At L.keys i p → get_or (held t) i [] ≡ p.reg.key
  held_row h = row_at key_room zero_key l.held_are (rw (length-map (regs L) key_of) s.rooms.keys) (at_map key_of (at_map reg_of h))

  pub asked_row_lem : {n : ℕ} {r : Request} → At L.requests n r → get_or (asked t) n [] ≡ asked_row (used (take n (asks L))) r.asked
  asked_row_lem h = row_at request_room zero_row l.asked_are (rw length_asked s.rooms.requests) (rw zero-add at (places 0 (asks L) (at_map asked_of h)))

  pub agent_row : {n : ℕ} {r : Request} → At L.requests n r → get_or (agents t) n [] ≡ r.asked.key
  agent_row h = row_at request_room zero_key l.agents_are (rw (length-map (asks L) agent_of) s.rooms.requests) (at_map agent_of (at_map asked_of h))

  decisions_room : {A : Type 0} (f : Decision → A) → length (map f (decisions L)) ≤ request_room
  decisions_room f = rw (length-map (decisions L) f, length-map L.requests decision_of) requests_room

  pub decided_row_lem : {n : ℕ} {r : Request} → At L.requests n r → get_or (decided t) n [] ≡ decided_row r.decision
  decided_row_lem h = row_at request_room zero_row l.decided_are (decisions_room decided_row) (at_map decided_row (at_map decision_of h))

  pub approver_row : {n : ℕ} {r : Request} → At L.requests n r → get_or (approvers t) n [] ≡ decided_key r.decision
  approver_row h = row_at request_room zero_key l.approvers_are (decisions_room decided_key) (at_map decided_key (at_map decision_of h))

  pub revoked_row_lem : {g : ℕ} {o : Option BlockTime} → At L.revoked g o → get_or (revoked t) g [] ≡ revoked_row o
  revoked_row_lem h = row_at registration_room zero_row l.revoked_are (rw (length-map L.revoked revoked_row) s.rooms.registrations) (at_map revoked_row h)

  pub log_row_lem : {j n : ℕ} → At L.log j n → get_or (log t) j [] ≡ log_row n
  log_row_lem h = row_at log_room zero_row l.log_is (rw (length-map L.log log_row) (log_short L s)) (at_map log_row h)
