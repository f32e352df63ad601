-- What storing a decision does to the book, store by store. For the contract of `store`. Assumes nothing.
use Rattle.std.specs.Prelude.{◌≡◌, ◌+◌, ◌-◌, ◌<◌, ℕ, get_or, length, set, List, []}
use Rattle.machine.specs.Rooms.{key_room, request_room}
use Rattle.tables.specs.Parts.{cell}

-- tables of the right lengths, and a key at place i with at least one Pending
pub record Storable (book keys : List (List ℕ)) (n i : ℕ) : Type 0 where
  pub book_long : length book ≡ 1089
  pub keys_long : length keys ≡ 576
  pub number : n < request_room
  pub place : i < key_room
  pub waits : 0 < cell (i + 1) 4 book

-- a row's pending count is one less
abbrev pub lowered : List ℕ → List ℕ
lowered row = set row 4 (get_or row 4 0 - 1)

abbrev pub settled : ℕ → ℕ → List ℕ → List (List ℕ) → List (List ℕ)
settled n i decided book = set (set book (i + 1) (lowered (get_or book (i + 1) []))) (n + 321) decided
