-- The head of sound tables in numbers: its cells are the ledger's owner and counts. For the proofs of adding and revoking. Assumes nothing.
use mathlib.Core.Path.{◌∙◌, ◌≡◌, sym}
use Prim.Native.Nat.{◌≤◌, ℕ}
use borrow.Author.Tests.{eq-eqb, ne_eqb}
use lib.Dec.{eqb}
use lib.ListN.{length}
use mathlib.Core.Bool.{false, true}
use Rattle.machine.specs.Rooms.{key_room, registration_room}
use Rattle.machine.specs.Tests.{asks, used}
use Rattle.machine.specs.Types.{Ledger}
use Rattle.tables.proofs.Laid.{laid}
use Rattle.tables.proofs.Rows.{key_count_is, keys_room, log_count_is, made_is, owner_is, request_count_is, text_used_is}
use Rattle.tables.specs.Parts.{key_count, log_count, made, owner, request_count, text_used}
use Rattle.tables.specs.Tables.{Stands, Tables}

module _ {t : Tables} {L : Ledger} where
  pub record Counts (st : Stands t L) : Type 0 where
    pub owner_n : owner t ≡ L.owner
    pub keys_n : key_count t ≡ length L.keys
    pub made_n : made t ≡ length L.revoked
    pub asked_n : request_count t ≡ length L.requests
    pub logged_n : log_count t ≡ length L.log
    pub used_n : text_used t ≡ used (asks L)
    pub keys_few : length L.keys ≤ key_room
    pub made_few : length L.revoked ≤ registration_room

  pub counts : (st : Stands t L) → Counts st
  counts st =
      let s = st.sound in
      let l = laid L st.laid in
      record {
        owner_n = owner_is s l;
        keys_n = key_count_is s l;
        made_n = made_is s l;
        asked_n = request_count_is s l;
        logged_n = log_count_is s l;
        used_n = text_used_is s l;
        keys_few = keys_room s l;
        made_few = s.rooms.registrations;
      }

  -- the test that adding and revoking start with
  pub is_owner : (st : Stands t L) {caller : ℕ} → caller ≡ owner t → eqb caller L.owner ≡ true
  is_owner st {caller} e = eq-eqb caller L.owner (e ∙ (counts st).owner_n)

  pub no_owner : (st : Stands t L) {caller : ℕ} → (caller ≡ owner t → ⊥) → eqb caller L.owner ≡ false
  no_owner st {caller} n = ne_eqb caller L.owner (λ e. n (e ∙ sym (counts st).owner_n))
