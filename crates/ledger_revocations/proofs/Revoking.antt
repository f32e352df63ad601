-- Each way out of `revoke_sound`: what its tests read in the tables, and what it stores there. Assumes nothing.
use mathlib.Core.Path.{◌∙◌, ◌≡◌, ap, refl, sym}
use Prim.Native.Nat.{◌+◌, ◌-◌, ◌<◌, ℕ}
use borrow.Rule.Slice.PartMut.{put_mid}
use lib.ListN.{get_or, length, length-map, length-set, set}
use mathlib.Core.List.{List, [], ◌∷◌, map}
use mathlib.Core.Option.{some}
use native.Mathlib.Omega.{arith}
use Rattle.std.specs.Prelude.{Some, None, Result, Ok, Err}
use Rattle.answers.proofs.Doing.{part_did, part_refused}
use Rattle.answers.specs.Answers.{registered}
use Rattle.answers.specs.Calls.{revoke_call}
use Rattle.answers.specs.Does.{Part}
use Rattle.ids.specs.declared.Account.{Account}
use Rattle.ledger_keys.proofs.Counted.{Counts, counts, is_owner, no_owner}
use Rattle.ledger_keys.specs.Registrations.{principal_of_row}
use Rattle.lists.proofs.Maps.{at_map, map_erase}
use Rattle.lists.proofs.Places.{at_lt, length_erase}
use Rattle.lists.specs.Places.{At}
use Rattle.machine.proofs.Keep.{reg_of, sound_revoke}
use Rattle.machine.specs.Machine.{Did, did_revoke, revoke_in}
use Rattle.machine.specs.Plan.{Plan}
use Rattle.machine.specs.Rooms.{key_room, registration_room}
use Rattle.machine.specs.Tests.{asks, regs, used}
use Rattle.machine.specs.Types.{Bytes, Holder, Ledger, Registration}
use Rattle.records.proofs.Roles.{role_back}
use Rattle.records.specs.declared.BlockTime.{BlockTime}
use Rattle.records.specs.declared.Principal.{Principal}
use Rattle.records.specs.declared.refusal.Refusal.{Refusal}
use Rattle.records.specs.declared.refusal.Refusal.TheVariants.{KeyNotRegistered, NotOwner}
use Rattle.rows.proofs.Padded.{length_padded, set_map, slid_map}
use Rattle.rows.proofs.Regions.{region_put, region_store}
use Rattle.rows.specs.Finds.{Finds}
use Rattle.rows.specs.Padded.{padded, slid}
use Rattle.rows.specs.Zeros.{zero_key, zero_row}
use Rattle.tables.proofs.Indexed.{holder_index}
use Rattle.tables.proofs.Laid.{Laid, laid}
use Rattle.tables.proofs.Seeks.{seek_found, seek_missing}
use Rattle.tables.proofs.Stored.{book_holds, keys_holds, stored, texts_hold}
use Rattle.tables.specs.Parts.{cell, held, holders, key_count, owner}
use Rattle.tables.specs.Tables.{Stands, Tables, book_of, head_row, holder_row, key_of, keys_of, revoked_row, tables, tables_of}

-- ---- what is stored: rows and keys without the registration at place i, its revocation by its number, and the count
abbrev pub struck : Tables → ℕ → BlockTime → List (List ℕ) → List (List ℕ)
struck t i time rows = set (put_mid 1 64 t.book rows) (cell (i + 1) 2 t.book + 577) (revoked_row (some time))

abbrev pub recounted : Tables → List (List ℕ) → List (List ℕ)
recounted t b = set b 0 (set (get_or b 0 []) 1 (key_count t - 1))

abbrev pub stores : Tables → ℕ → BlockTime → List (List ℕ) → List (List ℕ) → Tables
stores t i time rows ks = tables (recounted t (struck t i time rows)) (put_mid 0 64 t.keys ks) t.texts

-- ---- region by region they lay the machine's ledger out
module _ {t : Tables} {L : Ledger} (st : Stands t L) {i : ℕ} {p : Holder} (here : At L.keys i p) (time : BlockTime) where
  n : Counts st
  n = counts st

  l : Laid t L
  l = laid L st.laid

  abbrev after : Ledger
  after = (did_revoke L (record { at = i; is = p }) time).ledger

  holders_after : slid i (key_count t) zero_row (holders t) ≡ padded key_room zero_row (map holder_row after.keys)
  holders_after = rw (n.keys_n, l.holders_are) (slid_map key_room zero_row holder_row L.keys i (at_lt here) n.keys_few)

  held_after : slid i (key_count t) zero_key (held t) ≡ padded key_room zero_key (map key_of (regs after))
  held_after =
      let m = length-map L.keys reg_of in
      ap (λ (k : ℕ). slid i k zero_key (held t)) (n.keys_n ∙ sym m)
      ∙ ap (slid i (length (regs L)) zero_key) l.held_are
      ∙ slid_map key_room zero_key key_of (regs L) i (omega (arith, at_lt here)) (omega (arith, n))
      ∙ ap (λ (rs : List Registration). padded key_room zero_key (map key_of rs)) (sym (map_erase reg_of L.keys i))

  known : p.reg.number < length L.revoked
  known = at_lt (st.sound.roll.in_force (at_map reg_of here))

  revoked_after : set (padded registration_room zero_row (map revoked_row L.revoked)) p.reg.number (revoked_row (some time)) ≡ padded registration_room zero_row (map revoked_row after.revoked)
  revoked_after = set_map registration_room zero_row revoked_row L.revoked p.reg.number (some time) known n.made_few

  head_after : set (head_row L) 1 (key_count t - 1) ≡ head_row after
  head_after =
      let k : key_count t - 1 ≡ length after.keys = omega (arith, n, length_erase L.keys i (at_lt here)) in
      let m : length L.revoked ≡ length after.revoked = sym (length-set L.revoked p.reg.number (some time)) in
      λ j. L.owner ∷ k j ∷ m j ∷ length L.requests ∷ length L.log ∷ used (asks L) ∷ []

  pub revoked_laid : {rows ks : List (List ℕ)} → rows ≡ slid i (key_count t) zero_row (holders t) → ks ≡ slid i (key_count t) zero_key (held t) → stores t i time rows ks ≡ tables_of after
  revoked_laid {rows} {ks} er ek =
      let hr = er ∙ holders_after in
      let hk = ek ∙ held_after in
      let number : cell (i + 1) 2 t.book ≡ p.reg.number = ap (λ (r : List ℕ). get_or r 2 0) (holder_index st here (i + 1) (omega arith)) in
      let r = region_put (book_holds st) 1 (omega arith) 1 64 refl refl rows (ap length hr ∙ length_padded key_room zero_row (map holder_row after.keys)) in
      let s = region_store r 4 (omega arith) 577 256 refl refl (cell (i + 1) 2 t.book + 577) p.reg.number (revoked_row (some time)) (omega arith) (omega (arith, known, n)) in
      let top : get_or (struck t i time rows) 0 [] ≡ head_row L = ap (λ (b : List (List ℕ)). get_or b 0 []) s.is in
      let b = region_store s 0 (omega arith) 0 1 refl refl 0 0 (set (get_or (struck t i time rows) 0 []) 1 (key_count t - 1)) refl (omega arith) in
      let k = region_put (keys_holds st) 0 (omega arith) 0 64 refl refl ks (ap length hk ∙ length_padded key_room zero_key (map key_of (regs after))) in
      let h = ap (λ (x : List ℕ). set x 1 (key_count t - 1)) top ∙ head_after in
      stored after
      b (λ j. (h j ∷ []) ∷ hr j ∷ get_or (book_of L) 2 [] ∷ get_or (book_of L) 3 [] ∷ revoked_after j ∷ get_or (book_of L) 5 [] ∷ [])
      k (λ j. hk j ∷ get_or (keys_of L) 1 [] ∷ get_or (keys_of L) 2 [] ∷ [])
      (texts_hold st)

-- ---- each return
module _ (t : Tables) (caller : Account) (key : Bytes) (time : BlockTime) where
  abbrev planned : Ledger → Plan (Did Principal)
  planned L = revoke_in L caller.0 key time

  abbrev Revokes : Tables → Result Principal Refusal → Type 0
  Revokes t' r = Part (revoke_call caller key time) t t' r

  pub not_owner : (caller.0 ≡ owner t → ⊥) → Revokes t (Err NotOwner)
  unfolding revoke_call
  not_owner other = part_refused registered planned {t = t} NotOwner (λ L st. rw (no_owner st other))

  module _ (own : caller.0 ≡ owner t) where
    pub not_registered : Finds (key_count t) t.keys key None → Revokes t (Err KeyNotRegistered)
    unfolding revoke_call
    not_registered f = part_refused registered planned {t = t} KeyNotRegistered (λ L st. rw (is_owner st own, seek_missing st key (key_count t) refl f))

    pub revoked : {i : ℕ} → Finds (key_count t) t.keys key (Some i)
        → {rows ks : List (List ℕ)} → rows ≡ slid i (key_count t) zero_row (holders t) → ks ≡ slid i (key_count t) zero_key (held t)
        → {r : Principal} → r ≡ principal_of_row (get_or t.book (i + 1) [])
        → Revokes (stores t i time rows ks) (Ok r)
    unfolding revoke_call
    revoked {i} f er ek q = part_did registered planned {t = t} (λ L s. sound_revoke L s caller.0 key time) (λ L st.
        let s = seek_found st key (key_count t) i refl f in (
          did_revoke L (record { at = i; is = s.holder }) time,
          rw (is_owner st own, s.sought),
          rw (q, holder_index st s.here (i + 1) (omega arith), role_back s.holder.reg.role),
          revoked_laid st s.here time er ek,
        ))
