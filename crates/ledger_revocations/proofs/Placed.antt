-- What a registration's place tells of its row and of the parts that are shifted: for the indices, sums and casts of `revoke_sound`, which know of no ledger. Assumes nothing.
use Prim.Native.Nat.{◌+◌, ◌<◌, ◌≤◌, ℕ}
use lib.ListN.{length}
use mathlib.Core.List.{map}
use native.Mathlib.Omega.{arith}
use Rattle.ledger_keys.proofs.Counted.{counts}
use Rattle.lists.proofs.Maps.{at_map}
use Rattle.lists.proofs.Places.{at_below, at_lt}
use Rattle.machine.proofs.Keep.{reg_of}
use Rattle.machine.specs.Rooms.{key_room, pending_limit, registration_room}
use Rattle.machine.specs.Tests.{regs}
use Rattle.rows.proofs.Padded.{length_padded}
use Rattle.rows.specs.Zeros.{zero_key, zero_row}
use Rattle.tables.proofs.Indexed.{holder_index}
use Rattle.tables.proofs.Laid.{laid}
use Rattle.tables.proofs.Within.{Within, within}
use Rattle.tables.specs.Parts.{cell, held, holders, key_count}
use Rattle.tables.specs.Tables.{Standing, Tables, holder_row, key_of}

pub record Placed (t : Tables) (i : ℕ) : Type 0 where
  pub rooms : Within t
  pub below : i < key_count t
  pub number_fits : cell (i + 1) 2 t.book < registration_room
  pub pending_fits : cell (i + 1) 4 t.book ≤ pending_limit
  pub rows_part : key_count t ≤ length (holders t)
  pub keys_part : key_count t ≤ length (held t)

pub placed_at : {t : Tables} → Standing t → (i : ℕ) → i < key_count t → Placed t i
placed_at {t} w i h =
    let st = w.stands in
    let n = counts st in
    let l = laid w.ledger st.laid in
    let r = within w in
    let (p, here) = at_below w.ledger.keys i (omega arith) in
    let row = holder_index st here (i + 1) (omega arith) in
    record {
      rooms = r;
      below = h;
      number_fits = rw row (omega (arith, at_lt (st.sound.roll.in_force (at_map reg_of here))));
      pending_fits = rw row (st.sound.counted.few here);
      rows_part = rw (l.holders_are, length_padded key_room zero_row (map holder_row w.ledger.keys)) r.keys_few;
      keys_part = rw (l.held_are, length_padded key_room zero_key (map key_of (regs w.ledger))) r.keys_few;
    }
