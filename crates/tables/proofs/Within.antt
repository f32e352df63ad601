-- The lengths and counts of tables that hold a sound ledger: what every index, sum and cast of code over them asks. Assumes nothing.
use Prim.Native.Nat.{◌≤◌}
use Rattle.machine.proofs.Pages.{log_short}
use Rattle.machine.specs.Rooms.{key_room, log_room, registration_room, request_room, text_room}
use Rattle.tables.proofs.Laid.{laid}
use Rattle.tables.proofs.Rows.{key_count_is, keys_room, log_count_is, made_is, request_count_is, requests_room, text_used_is}
use Rattle.tables.proofs.Stored.{lengths}
use Rattle.tables.specs.Parts.{key_count, log_count, made, request_count, text_used}
use Rattle.tables.specs.Tables.{Sized, Standing, Tables}

pub record Within (t : Tables) : Type 0 where
  pub sized : Sized t
  pub keys_few : key_count t ≤ key_room
  pub made_few : made t ≤ registration_room
  pub requests_few : request_count t ≤ request_room
  pub logged_few : log_count t ≤ log_room
  pub text_in : text_used t ≤ text_room

pub within : {t : Tables} → Standing t → Within t
within w =
    let s = w.stands.sound in
    let l = laid w.ledger w.stands.laid in
    record {
      sized = lengths w.stands;
      keys_few = rw (key_count_is s l) (keys_room s l);
      made_few = rw (made_is s l) s.rooms.registrations;
      requests_few = rw (request_count_is s l) (requests_room s l);
      logged_few = rw (log_count_is s l) (log_short w.ledger s);
      text_in = rw (text_used_is s l) s.rooms.text;
    }
