-- What storing a request does to the lent tables, store by store. For the contract of `store`. Assumes nothing.
use Rattle.std.specs.Prelude.{◌≡◌, ◌+◌, ◌<◌, ◌≤◌, ℕ, get_or, length, set, List, []}
use Rattle.std.proofs.Math.Seq.{paste}
use Rattle.machine.specs.Rooms.{pending_limit, request_room, text_room}
use Rattle.tables.specs.Parts.{cell, request_count, text_used}
use Rattle.tables.specs.Tables.{Sized, Tables}

-- there is room for one more request, of `len` bytes, and one more Pending of the key at place i
pub record Storable (t : Tables) (i len : ℕ) : Type 0 where
  pub sized : Sized t
  pub place : i < 64
  pub few : cell (i + 1) 4 t.book < pending_limit
  pub room : request_count t < request_room
  pub text : text_used t + len ≤ text_room

-- the head counts the request and its bytes
abbrev pub headed : ℕ → List ℕ → List ℕ
headed len head = set (set head 3 (get_or head 3 0 + 1)) 5 (get_or head 5 0 + len)

-- a row's pending count is one more
abbrev pub raised : List ℕ → List ℕ
raised row = set row 4 (get_or row 4 0 + 1)

pub record Stored (t : Tables) (i : ℕ) (asked key text : List ℕ) (u : Tables) : Type 0 where
  pub book : u.book ≡ set (set (set t.book (request_count t + 65) asked) (i + 1) (raised (get_or t.book (i + 1) []))) 0 (headed (length text) (get_or t.book 0 []))
  pub keys : u.keys ≡ set t.keys (request_count t + 64) key
  pub texts : u.texts ≡ paste t.texts (text_used t) text (length text)
