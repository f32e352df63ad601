-- Demand 2: opening gives a sound ledger and every call keeps it so, by the promise itself; and in tables that hold a sound ledger what the source's contracts leave open is
-- closed: pending counts, log slots, registrations. Assumes nothing.
use Rattle.std.proofs.Common.{◌↔◌, ◌⊎◌, ◌∙◌, ◌≡◌, ap, ◌<◌, ◌≤◌, ℕ, get_or, List, Result}
use mathlib.Core.Option.{some}
use Rattle.answers.specs.Does.{Call, Does, Opens}
use Rattle.lists.specs.Places.{At}
use Rattle.lists.specs.Tallies.{tally_from}
use Rattle.machine.proofs.Gaps.{InForce, Revoked, in_force_or_revoked, never_both, pending_exact, pending_few, slot_names, slot_one}
use Rattle.machine.specs.Machine.{opened}
use Rattle.machine.specs.Reads.{pending_under}
use Rattle.machine.specs.Rooms.{pending_limit}
use Rattle.machine.specs.Sound.{slot}
use Rattle.machine.specs.Types.{Holder, Ledger, Request}
use Rattle.records.specs.declared.refusal.Refusal.{Refusal}
use Rattle.tables.proofs.Laid.{Laid, laid}
use Rattle.tables.proofs.Rows.{holder_row_lem, log_row_lem, made_is}
use Rattle.tables.specs.Parts.{cell, holders, log, made}
use Rattle.tables.specs.Tables.{Sized, Standing, Stands, Tables}

-- opening, of tables of the right lengths, whatever they held
pub opening_is_sound : {owner : ℕ} {t u : Tables} {r : Result (Unit {0}) Refusal} → Opens owner t u r → Sized t → Stands u (opened owner)
opening_is_sound o s = (o.opened_then s).1

-- every call on tables that hold a sound ledger leaves tables that hold one: the machine's
pub calls_keep_it : {A : Type 0} {call : Call A} {t u : Tables} {r : A} → Does call t u r → (L : Ledger) → Stands t L → Stands u (call.after L)
calls_keep_it d L st = (d.sound L st).1

-- it is never refused as damaged, for the answer is the machine's; and tables that hold no sound ledger always are
pub never_damaged : {A : Type 0} {call : Call A} {t u : Tables} {r : A} → Does call t u r → (L : Ledger) → Stands t L → r ≡ call.answer L
never_damaged d L st = (d.sound L st).0

pub always_damaged : {A : Type 0} {call : Call A} {t u : Tables} {r : A} → Does call t u r → (Standing t → ⊥) → (r ≡ call.bad) × (u ≡ t)
always_damaged d n = d.damaged n

module _ {t : Tables} {L : Ledger} (st : Stands t L) where
  l : Laid t L
  l = laid L st.laid

  -- a registered key's pending cell is the number of its Pending requests, at most 16
  pub pending_cell : {i : ℕ} {p : Holder} → At L.keys i p → (cell i 4 (holders t) ≡ tally_from (pending_under L p.reg.key) 0 L.requests) × (cell i 4 (holders t) ≤ pending_limit)
  pending_cell hp =
      let row = ap (λ (r : List ℕ). get_or r 4 0) (holder_row_lem st.sound l hp) in
      (row ∙ pending_exact L st.sound hp, rw row (pending_few L st.sound hp))

  -- log row j names request n exactly if n is approved with index j, and no other request is
  pub log_cell : {j n : ℕ} → At L.log j n → cell j 0 (log t) ≡ n
  log_cell h = ap (λ (r : List ℕ). get_or r 0 0) (log_row_lem st.sound l h)

  pub log_names : {j n : ℕ} {r : Request} → At L.requests n r → At L.log j n ↔ (slot r.decision ≡ some j)
  log_names = slot_names L st.sound

  pub log_names_one : {j m n : ℕ} {r q : Request} → At L.requests m r → At L.requests n q → slot r.decision ≡ some j → slot q.decision ≡ some j → m ≡ n
  log_names_one = slot_one L st.sound

  -- a registration below the count is in force under one key or revoked
  pub registration : (g : ℕ) → g < made t → InForce L st.sound g ⊎ Revoked L st.sound g
  registration g h = in_force_or_revoked L st.sound g (rw (made_is st.sound l) at h)

  pub never_both_of : (g : ℕ) → InForce L st.sound g → Revoked L st.sound g → ⊥
  never_both_of = never_both L st.sound
