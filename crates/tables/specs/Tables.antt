-- How a ledger lies in the tables that a caller lends: a book of rows of six numbers, a table of keys, a table of text bytes (document 01, 'Rooms' and the first
-- clause of 'The sound ledger'; docs/DECISIONS.md says why so). Assumes nothing.
use Rattle.std.specs.Prelude.{◌≡◌, ◌+◌, ℕ, length, List, [], ◌++◌, ◌∷◌, map}
use Rattle.std.proofs.Math.Option.{Option, none, some}
use Rattle.machine.specs.Rooms.{key_room, log_room, registration_room, request_room, text_room}
use Rattle.machine.specs.Sound.{Sound}
use Rattle.machine.specs.Tests.{asks, regs, used}
use Rattle.machine.specs.Types.{Approved, Asked, Decision, Holder, Ledger, Registration, Rejected, Request, Undecided}
use Rattle.records.specs.Roles.{role_number}
use Rattle.records.specs.declared.BlockTime.{BlockTime}
use Rattle.rows.specs.Padded.{padded}
use Rattle.rows.specs.Regions.{flat}
use Rattle.rows.specs.Zeros.{zero_key, zero_row}

pub record Tables : Type 0 where
  pub book : List (List ℕ)
  pub keys : List (List ℕ)
  pub texts : List ℕ

abbrev pub tables : List (List ℕ) → List (List ℕ) → List ℕ → Tables
tables b k x = record { book = b; keys = k; texts = x }

-- ---- rows
abbrev pub head_row : Ledger → List ℕ
head_row L = L.owner ∷ length L.keys ∷ length L.revoked ∷ length L.requests ∷ length L.log ∷ used (asks L) ∷ []

abbrev pub holder_row : Holder → List ℕ
holder_row p = p.reg.account ∷ role_number p.reg.role ∷ p.reg.number ∷ p.reg.active ∷ p.pending ∷ 0 ∷ []

-- a request's text starts where the one before it ends
abbrev pub asked_row : ℕ → Asked → List ℕ
asked_row start a = a.account ∷ a.number ∷ start ∷ length a.text ∷ a.time.height ∷ a.time.timestamp_ns ∷ []

abbrev pub asked_rows : ℕ → List Asked → List (List ℕ)
asked_rows start [] = []
asked_rows start (a ∷ rest) = asked_row start a ∷ asked_rows (start + length a.text) rest

-- mark 0 undecided, 1 approved, 2 rejected; the approval's index; who and when
abbrev pub decided_row : Decision → List ℕ
decided_row Undecided = zero_row
decided_row (Approved j v) = 1 ∷ j ∷ v.account ∷ v.number ∷ v.time.height ∷ v.time.timestamp_ns ∷ []
decided_row (Rejected v) = 2 ∷ 0 ∷ v.account ∷ v.number ∷ v.time.height ∷ v.time.timestamp_ns ∷ []

abbrev pub decided_key : Decision → List ℕ
decided_key Undecided = zero_key
decided_key (Approved j v) = v.key
decided_key (Rejected v) = v.key

abbrev pub revoked_row : Option BlockTime → List ℕ
revoked_row none = zero_row
revoked_row (some t) = 1 ∷ t.height ∷ t.timestamp_ns ∷ 0 ∷ 0 ∷ 0 ∷ []

abbrev pub log_row : ℕ → List ℕ
log_row n = n ∷ 0 ∷ 0 ∷ 0 ∷ 0 ∷ 0 ∷ []

-- all texts, in request order without gaps
abbrev pub words : List Asked → List ℕ
words [] = []
words (a ∷ rest) = a.text ++ words rest

-- ---- the tables
abbrev pub key_of : Registration → List ℕ
key_of p = p.key

abbrev pub agent_of : Asked → List ℕ
agent_of a = a.key

abbrev pub decision_of : Request → Decision
decision_of r = r.decision

abbrev pub decisions : Ledger → List Decision
decisions L = map decision_of L.requests

-- the book's regions and the key table's, each with its unused room zero
abbrev pub book_of : Ledger → List (List (List ℕ))
book_of L =
    (head_row L ∷ [])
    ∷ padded key_room zero_row (map holder_row L.keys)
    ∷ padded request_room zero_row (asked_rows 0 (asks L))
    ∷ padded request_room zero_row (map decided_row (decisions L))
    ∷ padded registration_room zero_row (map revoked_row L.revoked)
    ∷ padded log_room zero_row (map log_row L.log)
    ∷ []

abbrev pub keys_of : Ledger → List (List (List ℕ))
keys_of L =
    padded key_room zero_key (map key_of (regs L))
    ∷ padded request_room zero_key (map agent_of (asks L))
    ∷ padded request_room zero_key (map decided_key (decisions L))
    ∷ []

unfoldable pub tables_of : Ledger → Tables
tables_of L = tables (flat (book_of L)) (flat (keys_of L)) (padded text_room 0 (words (asks L)))

-- the tables t hold the sound ledger L
pub record Stands (t : Tables) (L : Ledger) : Type 0 where
  pub sound : Sound L
  pub laid : t ≡ tables_of L

-- they hold one
pub record Standing (t : Tables) : Type 0 where
  pub ledger : Ledger
  pub stands : Stands t ledger

-- 'Opening fills tables of the right lengths, whatever they held': these are the lengths
pub record Sized (t : Tables) : Type 0 where
  pub book_long : length t.book ≡ 1089
  pub keys_long : length t.keys ≡ 576
  pub texts_long : length t.texts ≡ 32768
