-- What stands at an index of the lent tables, as code reads it: `book[i + 1]`, `keys[n + 64]`. Assumes nothing.
use mathlib.Core.Path.{◌∙◌, ◌≡◌, ap, sym}
use Prim.Native.Nat.{◌+◌, ◌<◌, ◌≤◌, ℕ}
use lib.ListN.{drop, get_or, length, take}
use lib.Seq.{get_or-drop, get_or-take}
use mathlib.Core.List.{List, []}
use mathlib.Core.Option.{Option}
use native.Mathlib.Omega.{arith}
use Rattle.lists.proofs.Maps.{at_map}
use Rattle.lists.proofs.Places.{at_lt}
use Rattle.lists.specs.Places.{At}
use Rattle.machine.proofs.Keep.{asked_of}
use Rattle.machine.proofs.Pages.{log_short}
use Rattle.machine.specs.Tests.{asks, used}
use Rattle.machine.specs.Types.{Holder, Ledger, Request}
use Rattle.records.specs.declared.BlockTime.{BlockTime}
use Rattle.tables.proofs.Laid.{Laid, laid}
use Rattle.tables.proofs.Once.{text_fits, text_shown}
use Rattle.tables.proofs.Rows.{agent_row, approver_row, asked_row_lem, decided_row_lem, held_row, holder_row_lem, keys_room, log_row_lem, requests_room, revoked_row_lem}
use Rattle.tables.specs.Tables.{Stands, Tables, asked_row, decided_key, decided_row, head_row, holder_row, log_row, revoked_row}

indexed : (l : List (List ℕ)) (start len k at : ℕ) → k < len → at ≡ start + k → get_or l at [] ≡ get_or (take len (drop start l)) k []
indexed l start len k at h e = ap (λ (i : ℕ). get_or l i []) e ∙ sym (get_or-take len (drop start l) k [] h ∙ get_or-drop start l k [])

module _ {t : Tables} {L : Ledger} (st : Stands t L) where
  l : Laid t L
  l = laid L st.laid

  pub head_row_lem : get_or t.book 0 [] ≡ head_row L
  head_row_lem = l.head_is

  pub holder_index : {i : ℕ} {p : Holder} → At L.keys i p → (at : ℕ) → at ≡ 1 + i → get_or t.book at [] ≡ holder_row p
  holder_index {i} h at e = indexed t.book 1 64 i at (omega (arith, at_lt h, keys_room st.sound l)) e ∙ holder_row_lem st.sound l h

  pub asked_index : {n : ℕ} {r : Request} → At L.requests n r → (at : ℕ) → at ≡ 65 + n → get_or t.book at [] ≡ asked_row (used (take n (asks L))) r.asked
  asked_index {n} h at e = indexed t.book 65 256 n at (omega (arith, at_lt h, requests_room st.sound l)) e ∙ asked_row_lem st.sound l h

  pub decided_index : {n : ℕ} {r : Request} → At L.requests n r → (at : ℕ) → at ≡ 321 + n → get_or t.book at [] ≡ decided_row r.decision
  decided_index {n} h at e = indexed t.book 321 256 n at (omega (arith, at_lt h, requests_room st.sound l)) e ∙ decided_row_lem st.sound l h

  pub revoked_index : {g : ℕ} {o : Option BlockTime} → At L.revoked g o → (at : ℕ) → at ≡ 577 + g → get_or t.book at [] ≡ revoked_row o
  revoked_index {g} h at e = indexed t.book 577 256 g at (omega (arith, at_lt h, st.sound.rooms.registrations)) e ∙ revoked_row_lem st.sound l h

  pub log_index : {j n : ℕ} → At L.log j n → (at : ℕ) → at ≡ 833 + j → get_or t.book at [] ≡ log_row n
  log_index {j} h at e = indexed t.book 833 256 j at (omega (arith, at_lt h, log_short L st.sound)) e ∙ log_row_lem st.sound l h

  pub held_index : {i : ℕ} {p : Holder} → At L.keys i p → get_or t.keys i [] ≡ p.reg.key
  held_index {i} h = indexed t.keys 0 64 i i (omega (arith, at_lt h, keys_room st.sound l)) (omega arith) ∙ held_row st.sound l h

  pub agent_index : {n : ℕ} {r : Request} → At L.requests n r → (at : ℕ) → at ≡ 64 + n → get_or t.keys at [] ≡ r.asked.key
  agent_index {n} h at e = indexed t.keys 64 256 n at (omega (arith, at_lt h, requests_room st.sound l)) e ∙ agent_row st.sound l h

  pub approver_index : {n : ℕ} {r : Request} → At L.requests n r → (at : ℕ) → at ≡ 320 + n → get_or t.keys at [] ≡ decided_key r.decision
  approver_index {n} h at e = indexed t.keys 320 256 n at (omega (arith, at_lt h, requests_room st.sound l)) e ∙ approver_row st.sound l h

  -- the text of request n, as the part of the text table that holds it
  pub text_index : {n : ℕ} {r : Request} → At L.requests n r → take (length r.asked.text) (drop (used (take n (asks L))) t.texts) ≡ r.asked.text
  text_index h = rw (asked_row_lem st.sound l h) at (text_shown L st.sound l h)

  pub text_inside : {n : ℕ} {r : Request} → At L.requests n r → used (take n (asks L)) + length r.asked.text ≤ used (asks L)
  text_inside h = text_fits (asks L) (at_map asked_of h)
