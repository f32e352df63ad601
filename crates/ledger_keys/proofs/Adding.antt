-- Each way out of `add_sound`: what its tests read in the tables, and what it stores there. Assumes nothing.
use mathlib.Core.Path.{◌∙◌, ◌≡◌, ap, refl, sym}
use Prim.Native.Nat.{◌+◌, ◌<◌, ◌≤◌, ℕ}
use borrow.Author.Tests.{le-leb, lt-leb}
use lib.Dec.{leb}
use lib.ListN.{get_or, length, length-map, set}
use mathlib.Core.Bool.{false, true}
use mathlib.Core.List.{List, [], ◌∷◌, map}
use mathlib.Core.Option.{none}
use native.Mathlib.Omega.{arith}
use Rattle.std.specs.Prelude.{Option, Some, None, Result, Ok, Err, is_some}
use Rattle.answers.proofs.Doing.{part_did, part_refused}
use Rattle.answers.specs.Answers.{registered}
use Rattle.answers.specs.Calls.{add_call}
use Rattle.answers.specs.Does.{Part}
use Rattle.ids.specs.declared.Account.{Account}
use Rattle.ledger_keys.proofs.Counted.{Counts, counts, is_owner, no_owner}
use Rattle.ledger_keys.specs.Registrations.{principal_of_row}
use Rattle.lists.proofs.Maps.{map_snoc}
use Rattle.lists.proofs.Places.{length_snoc}
use Rattle.machine.proofs.Keep.{reg_of, sound_add}
use Rattle.machine.specs.Machine.{Did, add_to, did_add, newly}
use Rattle.machine.specs.Plan.{Plan}
use Rattle.machine.specs.Rooms.{key_room, registration_room}
use Rattle.machine.specs.Tests.{present, regs, seek}
use Rattle.machine.specs.Types.{Bytes, Holder, Ledger, Registration}
use Rattle.records.proofs.Roles.{role_back}
use Rattle.records.specs.Roles.{role_number}
use Rattle.records.specs.declared.Principal.{Principal}
use Rattle.records.specs.declared.role.Role.{Role}
use Rattle.records.specs.declared.refusal.Refusal.{Refusal}
use Rattle.records.specs.declared.refusal.Refusal.TheVariants.{KeyAlreadyRegistered, KeysFull, LogFull, NotOwner}
use Rattle.rows.proofs.Padded.{snoc_map, zero_padded}
use Rattle.rows.proofs.Regions.{region_store}
use Rattle.rows.specs.Finds.{Finds}
use Rattle.rows.specs.Padded.{padded}
use Rattle.rows.specs.Zeros.{zero_key, zero_row}
use Rattle.tables.proofs.Seeks.{seek_found, seek_missing}
use Rattle.tables.proofs.Stored.{book_holds, keys_holds, stored, texts_hold}
use Rattle.tables.specs.Parts.{key_count, log_count, made, owner, request_count, text_used}
use Rattle.tables.specs.Tables.{Stands, Tables, book_of, head_row, holder_row, key_of, keys_of, revoked_row, tables, tables_of}

-- ---- what is stored: the holder's row and the head
abbrev pub new_row : Tables → ℕ → ℕ → List ℕ
new_row t account role = account ∷ role ∷ made t ∷ request_count t ∷ 0 ∷ 0 ∷ []

abbrev pub new_head : Tables → ℕ → List ℕ
new_head t caller = caller ∷ (key_count t + 1) ∷ (made t + 1) ∷ request_count t ∷ log_count t ∷ text_used t ∷ []

abbrev pub stores : Tables → ℕ → Bytes → ℕ → ℕ → Tables
stores t caller key account role = tables (set (set t.book (key_count t + 1) (new_row t account role)) 0 (new_head t caller)) (set t.keys (key_count t) key) t.texts

-- ---- region by region they lay the machine's ledger out
module _ {t : Tables} {L : Ledger} (st : Stands t L) (key : Bytes) (account : ℕ) (role : Role) (life : made t < registration_room) (room : key_count t < key_room) where
  n : Counts st
  n = counts st

  abbrev p : Holder
  p = newly L key account role

  abbrev after : Ledger
  after = (did_add L key account role).ledger

  holders_after : set (padded key_room zero_row (map holder_row L.keys)) (key_count t) (new_row t account (role_number role)) ≡ padded key_room zero_row (map holder_row after.keys)
  holders_after = rw (n.keys_n, n.made_n, n.asked_n) (snoc_map key_room zero_row holder_row L.keys p (omega (arith, n)))

  revoked_after : padded registration_room zero_row (map revoked_row L.revoked) ≡ padded registration_room zero_row (map revoked_row after.revoked)
  revoked_after =
      zero_padded registration_room zero_row (map revoked_row L.revoked) (omega (arith, n, length-map L.revoked revoked_row))
      ∙ ap (padded registration_room zero_row) (sym (map_snoc revoked_row L.revoked none))

  held_after : set (padded key_room zero_key (map key_of (regs L))) (key_count t) key ≡ padded key_room zero_key (map key_of (regs after))
  held_after =
      let m = length-map L.keys reg_of in
      ap (λ (k : ℕ). set (padded key_room zero_key (map key_of (regs L))) k key) (n.keys_n ∙ sym m)
      ∙ snoc_map key_room zero_key key_of (regs L) p.reg (omega (arith, n))
      ∙ ap (λ (rs : List Registration). padded key_room zero_key (map key_of rs)) (sym (map_snoc reg_of L.keys p))

  head_after : {caller : ℕ} → caller ≡ owner t → new_head t caller ≡ head_row after
  head_after own =
      let o = own ∙ n.owner_n in
      let k : key_count t + 1 ≡ length after.keys = omega (arith, n, length_snoc L.keys p) in
      let m : made t + 1 ≡ length after.revoked = omega (arith, n, length_snoc L.revoked none) in
      λ i. o i ∷ k i ∷ m i ∷ n.asked_n i ∷ n.logged_n i ∷ n.used_n i ∷ []

  pub added_laid : {caller : ℕ} → caller ≡ owner t → stores t caller key account (role_number role) ≡ tables_of after
  added_laid {caller} own =
      let row = region_store (book_holds st) 1 (omega arith) 1 64 refl refl (key_count t + 1) (key_count t) (new_row t account (role_number role)) (omega arith) (omega arith) in
      let b = region_store row 0 (omega arith) 0 1 refl refl 0 0 (new_head t caller) refl (omega arith) in
      let k = region_store (keys_holds st) 0 (omega arith) 0 64 refl refl (key_count t) (key_count t) key (omega arith) (omega arith) in
      let h = head_after own in
      stored after
      b (λ i. (h i ∷ []) ∷ holders_after i ∷ get_or (book_of L) 2 [] ∷ get_or (book_of L) 3 [] ∷ revoked_after i ∷ get_or (book_of L) 5 [] ∷ [])
      k (λ i. held_after i ∷ get_or (keys_of L) 1 [] ∷ get_or (keys_of L) 2 [] ∷ [])
      (texts_hold st)

-- ---- each return
module _ (t : Tables) (caller : Account) (key : Bytes) (account : Account) (role : Role) where
  abbrev planned : Ledger → Plan (Did Principal)
  planned L = add_to L caller.0 key account.0 role

  abbrev Added : Tables → Result Principal Refusal → Type 0
  Added t' r = Part (add_call caller key account role) t t' r

  pub not_owner : (caller.0 ≡ owner t → ⊥) → Added t (Err NotOwner)
  unfolding add_call
  not_owner other = part_refused registered planned {t = t} NotOwner (λ L st. rw (no_owner st other))

  -- whether the lent keys are found to hold the key is whether it is registered
  found : {L : Ledger} → Stands t L → (o : Option ℕ) → Finds (key_count t) t.keys key o → present (seek key L.keys) ≡ is_some o
  found st None f = ap present (seek_missing st key (key_count t) refl f)
  found st (Some i) f = ap present (seek_found st key (key_count t) i refl f).sought

  module _ (own : caller.0 ≡ owner t) (o : Option ℕ) (f : Finds (key_count t) t.keys key o) where
    pub already : is_some o ≡ true → Added t (Err KeyAlreadyRegistered)
    unfolding add_call
    already e = part_refused registered planned {t = t} KeyAlreadyRegistered (λ L st. rw (is_owner st own, found st o f, e))

    module _ (new : is_some o ≡ false) where
      pub log_full : registration_room ≤ made t → Added t (Err LogFull)
      unfolding add_call
      log_full h = part_refused registered planned {t = t} LogFull (λ L st.
          rw (is_owner st own, found st o f, new, le-leb registration_room (length L.revoked) (omega (arith, counts st))))

      module _ (life : made t < registration_room) where
        numbers_left : {L : Ledger} → Stands t L → leb registration_room (length L.revoked) ≡ false
        numbers_left {L} st = lt-leb registration_room (length L.revoked) (omega (arith, counts st))

        pub keys_full : key_room ≤ key_count t → Added t (Err KeysFull)
        unfolding add_call
        keys_full h = part_refused registered planned {t = t} KeysFull (λ L st.
            rw (is_owner st own, found st o f, new, numbers_left st, le-leb key_room (length L.keys) (omega (arith, counts st))))

        pub added : key_count t < key_room → {m : ℕ} → m ≡ role_number role → {r : Principal} → r ≡ principal_of_row (new_row t account.0 m)
            → Added (stores t caller.0 key account.0 m) (Ok r)
        unfolding add_call
        added room e q = part_did registered planned {t = t} (λ L s. sound_add L s caller.0 key account.0 role) (λ L st. (
          did_add L key account.0 role,
          rw (is_owner st own, found st o f, new, numbers_left st, lt-leb key_room (length L.keys) (omega (arith, counts st))),
          rw (q, e, role_back role, (counts st).made_n, (counts st).asked_n),
          rw e (added_laid st key account.0 role life room own),
        ))
