-- The ledger that tables show, row by row: of tables that hold a sound ledger it is that ledger. Assumes nothing.
use Rattle.std.specs.Prelude.{ℕ, eqb, drop, get_or, take, cond, List, []}
use Rattle.std.proofs.Math.Option.{Option, none, some}
use Rattle.lists.specs.Places.{tab}
use Rattle.machine.specs.Types.{Approved, Asked, Bytes, Decision, Holder, Ledger, Registration, Rejected, Request, Undecided, Verdict}
use Rattle.records.specs.Roles.{role_of}
use Rattle.records.specs.declared.BlockTime.{BlockTime}
use Rattle.tables.specs.Parts.{agents, approvers, asked, cell, decided, held, holders, key_count, log, log_count, made, owner, request_count, revoked}
use Rattle.tables.specs.Tables.{Tables}

-- the time in cells c and c + 1 of row i
abbrev pub time_at : List (List ℕ) → ℕ → ℕ → ℕ → BlockTime
time_at rows i c d = record { height = cell i c rows; timestamp_ns = cell i d rows }

abbrev pub registration_at : Tables → ℕ → Registration
registration_at t i = record {
  key = get_or (held t) i [];
  account = cell i 0 (holders t);
  role = role_of (cell i 1 (holders t));
  number = cell i 2 (holders t);
  active = cell i 3 (holders t);
}

abbrev pub holder_at : Tables → ℕ → Holder
holder_at t i = record { reg = registration_at t i; pending = cell i 4 (holders t) }

abbrev pub revocation_at : Tables → ℕ → Option BlockTime
revocation_at t g = cond (eqb (cell g 0 (revoked t)) 0) none (some (time_at (revoked t) g 1 2))

abbrev pub text_at : Tables → ℕ → Bytes
text_at t n = take (cell n 3 (asked t)) (drop (cell n 2 (asked t)) t.texts)

abbrev pub asked_at : Tables → ℕ → Asked
asked_at t n = record {
  key = get_or (agents t) n [];
  account = cell n 0 (asked t);
  number = cell n 1 (asked t);
  text = text_at t n;
  time = time_at (asked t) n 4 5;
}

abbrev pub verdict_at : Tables → ℕ → Verdict
verdict_at t n = record { key = get_or (approvers t) n []; account = cell n 2 (decided t); number = cell n 3 (decided t); time = time_at (decided t) n 4 5 }

abbrev pub decision_at : Tables → ℕ → Decision
decision_at t n =
    cond (eqb (cell n 0 (decided t)) 0) Undecided (cond (eqb (cell n 0 (decided t)) 1) (Approved (cell n 1 (decided t)) (verdict_at t n)) (Rejected (verdict_at t n)))

abbrev pub request_at : Tables → ℕ → Request
request_at t n = record { asked = asked_at t n; decision = decision_at t n }

abbrev pub slot_at : Tables → ℕ → ℕ
slot_at t j = cell j 0 (log t)

unfoldable pub view : Tables → Ledger
view t = record {
  owner = owner t;
  keys = tab (key_count t) (holder_at t);
  revoked = tab (made t) (revocation_at t);
  requests = tab (request_count t) (request_at t);
  log = tab (log_count t) (slot_at t);
}
