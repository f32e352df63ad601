-- The stores of a request lay out the ledger with that request. Assumes nothing.
use mathlib.Core.Path.{◌∙◌, ◌≡◌, ap, refl, sym}
use Prim.Native.Nat.{◌+◌, ◌<◌, ◌≤◌, suc, ℕ}
use lib.ListN.{get_or, length, length-map, length-set, set}
use lib.Seq.{paste}
use mathlib.Core.List.{List, [], ◌++◌, ◌∷◌, map}
use native.Mathlib.Nat.{zero-add}
use native.Mathlib.Numerals.{add-one}
use native.Mathlib.Omega.{arith}
use Rattle.ledger_requests.specs.Stores.{Stored, headed, raised}
use Rattle.lists.proofs.Maps.{map_snoc}
use Rattle.lists.proofs.Places.{at_lt, length_snoc}
use Rattle.lists.specs.Places.{At}
use Rattle.machine.proofs.Keep.{asked_of, regs_kept}
use Rattle.machine.proofs.KeepRooms.{used_snoc}
use Rattle.machine.specs.Machine.{changed, with_pending}
use Rattle.machine.specs.Rooms.{request_room, text_room}
use Rattle.machine.specs.Tests.{asks, regs, used}
use Rattle.machine.specs.Types.{Asked, Decision, Holder, Ledger, Registration, Request, Undecided}
use Rattle.rows.proofs.Padded.{paste_padded, set_map, snoc_padded, zero_padded}
use Rattle.rows.proofs.Regions.{region_store}
use Rattle.rows.specs.Padded.{padded}
use Rattle.rows.specs.Zeros.{zero_key, zero_row}
use Rattle.tables.proofs.Indexed.{head_row_lem, holder_index}
use Rattle.tables.proofs.Laid.{laid}
use Rattle.tables.proofs.Relaid.{words_snoc}
use Rattle.tables.proofs.Rows.{asked_snoc, keys_room, length_asked, length_words, request_count_is, text_used_is}
use Rattle.tables.proofs.Stored.{book_holds, keys_holds, stored, texts_hold}
use Rattle.tables.specs.Parts.{request_count, text_used}
use Rattle.tables.specs.Tables.{Stands, Tables, agent_of, asked_row, asked_rows, decided_key, decided_row, decision_of, decisions, head_row, holder_row, key_of, log_row, revoked_row, tables, tables_of, words}

-- another pending count in a holder's row is another in its holder
pub pending_laid : {t : Tables} {L : Ledger} → Stands t L → {i : ℕ} {p : Holder} → At L.keys i p → (f : List ℕ → List ℕ) (m : ℕ) → f (holder_row p) ≡ holder_row (record { reg = p.reg; pending = m })
    → set (padded 64 zero_row (map holder_row L.keys)) i (f (get_or t.book (i + 1) [])) ≡ padded 64 zero_row (map holder_row (set L.keys i (record { reg = p.reg; pending = m })))
pending_laid {L = L} st {i} {p} hp f m e =
    ap (set (padded 64 zero_row (map holder_row L.keys)) i) (ap f (holder_index st hp (i + 1) (omega arith)) ∙ e)
    ∙ set_map 64 zero_row holder_row L.keys i (record { reg = p.reg; pending = m }) (at_lt hp) (keys_room st.sound (laid L st.laid))

module _ {t : Tables} {L : Ledger} (st : Stands t L) {i : ℕ} {p : Holder} (hp : At L.keys i p) (a : Asked) where
  -- the ledger with request a, undecided, and one Pending more of the key at place i
  abbrev pub grown : Ledger
  grown = changed L (with_pending (record { at = i; is = p }) (suc p.pending) L.keys) L.revoked (L.requests ++ record { asked = a; decision = Undecided } ∷ []) L.log

  abbrev q : Holder
  q = record { reg = p.reg; pending = suc p.pending }

  abbrev r : Request
  r = record { asked = a; decision = Undecided }

  asks_are : asks grown ≡ asks L ++ a ∷ []
  asks_are = map_snoc asked_of L.requests r

  regs_are : regs grown ≡ regs L
  regs_are = regs_kept (record { at = i; is = p }) (suc p.pending) L.keys hp

  count : request_count t ≡ length L.requests
  count = request_count_is st.sound (laid L st.laid)

  many : length (asks L) ≡ length L.requests
  many = length-map L.requests asked_of

  head_laid : headed (length a.text) (get_or t.book 0 []) ≡ head_row grown
  head_laid =
      let ks = sym (length-set L.keys i q) in
      let rs = add-one (length L.requests) ∙ sym (length_snoc L.requests r) in
      let us = sym (ap used asks_are ∙ used_snoc (asks L) a) in
      ap (headed (length a.text)) (head_row_lem st) ∙ (λ j. L.owner ∷ ks j ∷ length L.revoked ∷ rs j ∷ length L.log ∷ us j ∷ [])

  holders_laid : set (padded 64 zero_row (map holder_row L.keys)) i (raised (get_or t.book (i + 1) [])) ≡ padded 64 zero_row (map holder_row grown.keys)
  holders_laid =
      let one = add-one p.pending in
      pending_laid st hp raised (suc p.pending) (λ j. p.reg.account ∷ get_or (holder_row p) 1 0 ∷ p.reg.number ∷ p.reg.active ∷ one j ∷ 0 ∷ [])

  -- the next place of a list that grows with the requests
  next : {A : Type 0} (z : A) (xs : List A) (x : A) → length xs ≡ length L.requests → request_count t < request_room
      → set (padded request_room z xs) (request_count t) x ≡ padded request_room z (xs ++ x ∷ [])
  next z xs x e h =
      let k : request_count t ≡ length xs = count ∙ sym e in
      ap (λ (n : ℕ). set (padded request_room z xs) n x) k ∙ snoc_padded request_room z xs x (omega arith)

  asked_laid : request_count t < request_room
      → set (padded request_room zero_row (asked_rows 0 (asks L))) (request_count t) (asked_row (used (asks L)) a) ≡ padded request_room zero_row (asked_rows 0 (asks grown))
  asked_laid h =
      next zero_row (asked_rows 0 (asks L)) (asked_row (used (asks L)) a) (length_asked 0 (asks L) ∙ many) h
      ∙ ap (padded request_room zero_row) (sym (ap (asked_rows 0) asks_are ∙ asked_snoc 0 (asks L) a ∙ rw zero-add))

  agents_laid : request_count t < request_room
      → set (padded request_room zero_key (map agent_of (asks L))) (request_count t) a.key ≡ padded request_room zero_key (map agent_of (asks grown))
  agents_laid h =
      next zero_key (map agent_of (asks L)) a.key (length-map (asks L) agent_of ∙ many) h
      ∙ ap (padded request_room zero_key) (sym (ap (map agent_of) asks_are ∙ map_snoc agent_of (asks L) a))

  -- a table of decisions has the new one's zeros already
  decisions_laid : (f : Decision → List ℕ) → request_count t < request_room
      → padded request_room (f Undecided) (map f (decisions L)) ≡ padded request_room (f Undecided) (map f (decisions grown))
  decisions_laid f h =
      let n : length (map f (decisions L)) ≡ length L.requests = length-map (decisions L) f ∙ length-map L.requests decision_of in
      zero_padded request_room (f Undecided) (map f (decisions L)) (omega (arith, n, count))
      ∙ ap (padded request_room (f Undecided)) (sym (ap (map f) (map_snoc decision_of L.requests r) ∙ map_snoc f (decisions L) Undecided))

  texts_laid : text_used t + length a.text ≤ text_room → paste t.texts (text_used t) a.text (length a.text) ≡ padded text_room 0 (words (asks grown))
  texts_laid h =
      let k : text_used t ≡ length (words (asks L)) = text_used_is st.sound (laid L st.laid) ∙ sym (length_words (asks L)) in
      (λ j. paste (texts_hold st j) (k j) a.text (length a.text))
      ∙ paste_padded text_room 0 (words (asks L)) a.text (omega arith)
      ∙ ap (padded text_room 0) (sym (ap words asks_are ∙ words_snoc (asks L) a))

  pub request_laid : {b k : List (List ℕ)} {x : List ℕ} → request_count t < request_room → text_used t + length a.text ≤ text_room
      → Stored t i (asked_row (used (asks L)) a) a.key a.text (tables b k x) → tables b k x ≡ tables_of grown
  request_laid room text s =
      let hb =
      region_store (region_store (region_store (book_holds st)
      2 (omega arith) 65 256 refl refl (request_count t + 65) (request_count t) (asked_row (used (asks L)) a) (omega arith) room)
      1 (omega arith) 1 64 refl refl (i + 1) i (raised (get_or t.book (i + 1) [])) (omega arith) (omega (arith, at_lt hp, keys_room st.sound (laid L st.laid))))
      0 (omega arith) 0 1 refl refl 0 0 (headed (length a.text) (get_or t.book 0 [])) (omega arith) (omega arith) in
      let hk = region_store (keys_holds st) 1 (omega arith) 64 256 refl refl (request_count t + 64) (request_count t) a.key (omega arith) room in
      let e1 = holders_laid in
      let e2 = asked_laid room in
      let e3 = decisions_laid decided_row room in
      let f0 = ap (λ (g : List Registration). padded 64 zero_key (map key_of g)) (sym regs_are) in
      let f1 = agents_laid room in
      let f2 = decisions_laid decided_key room in
      rw (s.book, s.keys) (stored grown hb
      (λ j. (head_laid j ∷ []) ∷ e1 j ∷ e2 j ∷ e3 j ∷ padded 256 zero_row (map revoked_row L.revoked) ∷ padded 256 zero_row (map log_row L.log) ∷ [])
      hk
      (λ j. f0 j ∷ f1 j ∷ f2 j ∷ [])
      (s.texts ∙ texts_laid text))
