-- The stores of a decision lay out the machine's `decided`; one more in the log, apart. Assumes nothing.
use mathlib.Core.Path.{◌∙◌, ◌≡◌, ap, refl, subst, sym}
use Prim.Native.Nat.{◌+◌, ◌-◌, ◌<◌, pred, ℕ}
use lib.ListN.{get_or, length, length-map, length-set, set}
use mathlib.Core.List.{List, [], ◌++◌, ◌∷◌, map}
use native.Mathlib.Numerals.{add-one}
use native.Mathlib.Omega.{arith}
use Rattle.ledger_decisions.specs.Stores.{lowered, settled}
use Rattle.ledger_requests.proofs.Cells.{place_in}
use Rattle.ledger_requests.proofs.Laying.{pending_laid}
use Rattle.lists.proofs.Getting.{map_set}
use Rattle.lists.proofs.Places.{at_lt, length_snoc}
use Rattle.lists.specs.Places.{At}
use Rattle.machine.proofs.Keep.{asks_kept, regs_kept}
use Rattle.machine.specs.Machine.{changed, decided}
use Rattle.machine.specs.Rooms.{log_room, request_room, text_room}
use Rattle.machine.specs.Tests.{asks, regs, used}
use Rattle.machine.specs.Types.{Asked, Decision, Holder, Ledger, Registration, Request}
use Rattle.rows.proofs.Padded.{set_map, snoc_map}
use Rattle.rows.proofs.Regions.{region_store}
use Rattle.rows.specs.Padded.{padded}
use Rattle.rows.specs.Regions.{Holds}
use Rattle.rows.specs.Zeros.{zero_key, zero_row}
use Rattle.tables.proofs.Laid.{book_lengths, key_lengths, laid}
use Rattle.tables.proofs.Rows.{requests_room}
use Rattle.tables.proofs.Stored.{book_holds, keys_holds, texts_hold}
use Rattle.tables.specs.Tables.{Stands, Tables, agent_of, asked_rows, book_of, decided_key, decided_row, decision_of, decisions, head_row, holder_row, key_of, keys_of, log_row, revoked_row, words}

module _ {t : Tables} {L : Ledger} (st : Stands t L) {n i : ℕ} {r : Request} {p : Holder} (hr : At L.requests n r) (hp : At L.keys i p) (d : Decision) where
  -- the ledger after the decision, its log as it was
  abbrev pub ruled : Ledger
  ruled = decided L n (record { req = r; agent = record { at = i; is = p } }) d L.log

  abbrev q : Holder
  q = record { reg = p.reg; pending = pred p.pending }

  regs_are : regs L ≡ regs ruled
  regs_are = sym (regs_kept (record { at = i; is = p }) (pred p.pending) L.keys hp)

  asks_are : asks L ≡ asks ruled
  asks_are = sym (asks_kept n d r L.requests hr)

  pub head_kept : head_row L ≡ head_row ruled
  head_kept =
      let ks = sym (length-set L.keys i q) in
      let rs = sym (length-set L.requests n (record { asked = r.asked; decision = d })) in
      let us = ap used asks_are in
      λ j. L.owner ∷ ks j ∷ length L.revoked ∷ rs j ∷ length L.log ∷ us j ∷ []

  holders_laid : set (padded 64 zero_row (map holder_row L.keys)) i (lowered (get_or t.book (i + 1) [])) ≡ padded 64 zero_row (map holder_row ruled.keys)
  holders_laid =
      let less : get_or (holder_row p) 4 0 - 1 ≡ pred p.pending = omega arith in
      pending_laid st hp lowered (pred p.pending) (λ j. p.reg.account ∷ get_or (holder_row p) 1 0 ∷ p.reg.number ∷ p.reg.active ∷ less j ∷ 0 ∷ [])

  -- a table of decisions
  decisions_laid : (z : List ℕ) (f : Decision → List ℕ) → set (padded request_room z (map f (decisions L))) n (f d) ≡ padded request_room z (map f (decisions ruled))
  decisions_laid z f =
      let m = length-map L.requests decision_of in
      set_map request_room z f (decisions L) n d (omega (arith, at_lt hr)) (omega (arith, requests_room st.sound (laid L st.laid)))
      ∙ ap (λ (ds : List Decision). padded request_room z (map f ds)) (sym (map_set decision_of L.requests n (record { asked = r.asked; decision = d })))

  in_room : n < request_room
  in_room = omega (arith, at_lt hr, requests_room st.sound (laid L st.laid))

  pub book_laid : Holds book_lengths (settled n i (decided_row d) t.book) (book_of ruled)
  book_laid =
      let e1 = holders_laid in
      let e2 = ap (λ (a : List Asked). padded request_room zero_row (asked_rows 0 a)) asks_are in
      let e3 = decisions_laid zero_row decided_row in
      subst (λ (rs : List (List (List ℕ))). Holds book_lengths (settled n i (decided_row d) t.book) rs)
      (λ j. (head_kept j ∷ []) ∷ e1 j ∷ e2 j ∷ e3 j ∷ padded 256 zero_row (map revoked_row L.revoked) ∷ padded 256 zero_row (map log_row L.log) ∷ [])
      (region_store (region_store (book_holds st)
      1 (omega arith) 1 64 refl refl (i + 1) i (lowered (get_or t.book (i + 1) [])) (omega arith) (place_in st hp))
      3 (omega arith) 321 256 refl refl (n + 321) n (decided_row d) (omega arith) in_room)

  pub keys_laid : Holds key_lengths (set t.keys (n + 320) (decided_key d)) (keys_of ruled)
  keys_laid =
      let e0 = ap (λ (g : List Registration). padded 64 zero_key (map key_of g)) regs_are in
      let e1 = ap (λ (a : List Asked). padded request_room zero_key (map agent_of a)) asks_are in
      let e2 = decisions_laid zero_key decided_key in
      subst (λ (rs : List (List (List ℕ))). Holds key_lengths (set t.keys (n + 320) (decided_key d)) rs) (λ j. e0 j ∷ e1 j ∷ e2 j ∷ [])
      (region_store (keys_holds st) 2 (omega arith) 320 256 refl refl (n + 320) n (decided_key d) (omega arith) in_room)

  pub texts_laid : t.texts ≡ padded text_room 0 (words (asks ruled))
  texts_laid = texts_hold st ∙ ap (λ (a : List Asked). padded text_room 0 (words a)) asks_are

-- one more in the log, and in the head's count of it
module _ (M : Ledger) {b : List (List ℕ)} (h : Holds book_lengths b (book_of M)) (n : ℕ) where
  abbrev pub with_log : Ledger
  with_log = changed M M.keys M.revoked M.requests (M.log ++ n ∷ [])

  pub log_laid : (j : ℕ) → j ≡ length M.log → j < log_room → Holds book_lengths (set (set b (j + 833) (log_row n)) 0 (set (head_row M) 4 (j + 1))) (book_of with_log)
  log_laid j e room =
      let more : j + 1 ≡ length (M.log ++ n ∷ []) = ap (λ (k : ℕ). k + 1) e ∙ add-one (length M.log) ∙ sym (length_snoc M.log n) in
      let e5 = ap (λ (k : ℕ). set (padded log_room zero_row (map log_row M.log)) k (log_row n)) e ∙ snoc_map log_room zero_row log_row M.log n (omega arith) in
      subst (λ (rs : List (List (List ℕ))). Holds book_lengths (set (set b (j + 833) (log_row n)) 0 (set (head_row M) 4 (j + 1))) rs)
      (λ k. ((M.owner ∷ length M.keys ∷ length M.revoked ∷ length M.requests ∷ more k ∷ used (asks M) ∷ []) ∷ [])
      ∷ padded 64 zero_row (map holder_row M.keys) ∷ padded 256 zero_row (asked_rows 0 (asks M)) ∷ padded 256 zero_row (map decided_row (decisions M))
      ∷ padded 256 zero_row (map revoked_row M.revoked) ∷ e5 k ∷ [])
      (region_store (region_store h
      5 (omega arith) 833 256 refl refl (j + 833) j (log_row n) (omega arith) room)
      0 (omega arith) 0 1 refl refl 0 0 (set (head_row M) 4 (j + 1)) (omega arith) (omega arith))
