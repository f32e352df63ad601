-- The cells that code reads of tables that hold a sound ledger: of a holder's row, of a request's, and the counts in the head. Assumes nothing.
use mathlib.Core.Path.{◌≡◌, ap}
use Prim.Native.Nat.{◌+◌, ◌<◌, ℕ}
use lib.ListN.{get_or, length, take}
use mathlib.Core.List.{List}
use native.Mathlib.Omega.{arith}
use Rattle.lists.proofs.Places.{at_lt}
use Rattle.lists.specs.Places.{At}
use Rattle.machine.specs.Rooms.{key_room}
use Rattle.machine.specs.Tests.{asks, used}
use Rattle.machine.specs.Types.{Holder, Ledger, Request}
use Rattle.tables.proofs.Indexed.{asked_index, holder_index}
use Rattle.tables.proofs.Laid.{laid}
use Rattle.tables.proofs.Rows.{keys_room, log_count_is, request_count_is, text_used_is}
use Rattle.tables.specs.Parts.{cell, log_count, request_count, text_used}
use Rattle.tables.specs.Tables.{Stands, Tables, asked_row, holder_row}

module _ {t : Tables} {L : Ledger} (st : Stands t L) where
  pub holder_cell : {i : ℕ} {p : Holder} → At L.keys i p → (col : ℕ) → cell (i + 1) col t.book ≡ get_or (holder_row p) col 0
  holder_cell {i} hp col = ap (λ (row : List ℕ). get_or row col 0) (holder_index st hp (i + 1) (omega arith))

  pub asked_cell : {n : ℕ} {r : Request} → At L.requests n r → (col : ℕ) → cell (n + 65) col t.book ≡ get_or (asked_row (used (take n (asks L))) r.asked) col 0
  asked_cell {n} hr col = ap (λ (row : List ℕ). get_or row col 0) (asked_index st hr (n + 65) (omega arith))

  pub count_is : request_count t ≡ length L.requests
  count_is = request_count_is st.sound (laid L st.laid)

  pub logged_is : log_count t ≡ length L.log
  logged_is = log_count_is st.sound (laid L st.laid)

  pub used_is : text_used t ≡ used (asks L)
  used_is = text_used_is st.sound (laid L st.laid)

  -- a place of a registered key lies within the room
  pub place_in : {i : ℕ} {p : Holder} → At L.keys i p → i < key_room
  place_in hp = omega (arith, at_lt hp, keys_room st.sound (laid L st.laid))
