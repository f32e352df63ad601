-- Tables that pass every test of the check are the tables of the ledger that they show; so passing, holding a sound ledger and showing it are one. Assumes nothing.
use mathlib.Core.Path.{◌∙◌, ◌≡◌, ap, refl, sym}
use Prim.Native.Nat.{◌+◌, ◌<◌, ◌≤◌, suc, zero, ℕ}
use borrow.Author.Tests.{eqb-false, eqb-true}
use lib.Dec.{eqb}
use lib.ListN.{drop, get_or, length, length-drop, take}
use lib.Seq.{length-take-le, take-add, take_all}
use mathlib.Core.Bool.{Bool, cond, false, true}
use mathlib.Core.List.{List, [], ◌++◌, ◌∷◌, append_assoc, append-nil, map}
use mathlib.Core.Option.{none, some}
use native.Mathlib.Nat.{zero-add}
use native.Mathlib.Omega.{arith}
use Rattle.lists.proofs.Getting.{get_d_of_at}
use Rattle.lists.proofs.Tabs.{length_tab, map_tab, tab_at, tab_of, tab_snoc, take_tab}
use Rattle.lists.specs.Places.{tab}
use Rattle.machine.specs.Rooms.{key_room, log_room, registration_room, request_room, text_room}
use Rattle.machine.specs.Tests.{asks, regs, used}
use Rattle.machine.specs.Types.{Asked}
use Rattle.records.specs.Roles.{role_number, role_of}
use Rattle.rows.proofs.Padded.{decode}
use Rattle.rows.specs.Padded.{padded}
use Rattle.rows.specs.Zeros.{ZeroFrom, zero_key, zero_row}
use Rattle.tables.proofs.Laid.{Laid, laid_back}
use Rattle.tables.proofs.Rows.{length_asked, places}
use Rattle.tables.proofs.Views.{asks_view, decoded, regs_view, sound_view, text_long, used_all, used_view}
use Rattle.tables.specs.Fit.{Fit, begins}
use Rattle.tables.specs.Parts.{agents, approvers, asked, cell, decided, held, holders, key_count, log, log_count, made, owner, request_count, revoked, text_used}
use Rattle.tables.specs.Tables.{Stands, Tables, agent_of, asked_rows, decided_key, decided_row, decision_of, decisions, head_row, holder_row, key_of, log_row, revoked_row, words}
use Rattle.tables.specs.View.{asked_at, decision_at, holder_at, registration_at, request_at, revocation_at, slot_at, time_at, view}

pub words_snoc : (l : List Asked) (a : Asked) → words (l ++ a ∷ []) ≡ words l ++ a.text
words_snoc [] a = append-nil a.text
words_snoc (b ∷ rest) a = ap (λ (w : List ℕ). b.text ++ w) (words_snoc rest a) ∙ sym (append_assoc b.text (words rest) a.text)

named_role : (c : ℕ) → c ≤ 1 → c ≡ role_number (role_of c)
named_role zero h = refl
named_role (suc c) h = omega arith

-- a part whose rows below n are those of g, and zero from there on
part_is : (part : List (List ℕ)) (room n : ℕ) (z : List ℕ) (g : ℕ → List ℕ) → length part ≡ room → n ≤ room → ZeroFrom z n part → ((i : ℕ) → i < n → get_or part i [] ≡ g i)
    → part ≡ padded room z (tab n g)
part_is part room n z g long fits blank each = decode part room n z long blank ∙ ap (padded room z) (tab_of part n g [] (omega arith) each)

-- a part of a table that is long enough is as long as it says
part_long : (start len n : ℕ) (l : List (List ℕ)) → length l ≡ n → start + len ≤ n → length (take len (drop start l)) ≡ len
part_long start len n l e h = length-take-le len (drop start l) (rw length-drop (omega arith))

module _ {t : Tables} (f : Fit t) where
  book_part : (start len : ℕ) → start + len ≤ 1089 → length (take len (drop start t.book)) ≡ len
  book_part start len h = part_long start len 1089 t.book f.sized.book_long h

  keys_part : (start len : ℕ) → start + len ≤ 576 → length (take len (drop start t.keys)) ≡ len
  keys_part start len h = part_long start len 576 t.keys f.sized.keys_long h

  -- ---- the head
  counts_view : (length (view t).keys ≡ key_count t) × (length (view t).revoked ≡ made t) × (length (view t).requests ≡ request_count t) × (length (view t).log ≡ log_count t) × ((view t).owner ≡ owner t)
  unfolding view
  counts_view = (length_tab (key_count t) (holder_at t), length_tab (made t) (revocation_at t), length_tab (request_count t) (request_at t), length_tab (log_count t) (slot_at t), refl)

  head_view : get_or t.book 0 [] ≡ head_row (view t)
  head_view =
      let c = counts_view in
      f.head.plain ∙ sym (λ i. c.4 i ∷ c.0 i ∷ c.1 i ∷ c.2 i ∷ c.3 i ∷ used_all f i ∷ [])

  -- ---- the book's parts
  holders_view : holders t ≡ padded key_room zero_row (map holder_row (view t).keys)
  unfolding view
  holders_view =
      part_is (holders t) 64 (key_count t) zero_row (λ i. holder_row (holder_at t i)) (book_part 1 64 (omega arith)) f.head.keys f.blank.holders
      (λ i h. let o = f.holders_fit i h in o.plain ∙ ap (λ (c : ℕ). cell i 0 (holders t) ∷ c ∷ cell i 2 (holders t) ∷ cell i 3 (holders t) ∷ cell i 4 (holders t) ∷ 0 ∷ []) (named_role (cell i 1 (holders t)) o.role))
      ∙ ap (padded key_room zero_row) (sym (map_tab holder_row (key_count t) (holder_at t)))

  decided_view : decided t ≡ padded request_room zero_row (map decided_row (decisions (view t)))
  unfolding view
  decided_view =
      part_is (decided t) 256 (request_count t) zero_row (λ n. decided_row (decision_at t n)) (book_part 321 256 (omega arith)) f.head.requests f.blank.decided
      (λ n h. (decoded f n h).row_is)
      ∙ ap (padded request_room zero_row) (sym (ap (map decided_row) (map_tab decision_of (request_count t) (request_at t)) ∙ map_tab decided_row (request_count t) (decision_at t)))

  approvers_view : approvers t ≡ padded request_room zero_key (map decided_key (decisions (view t)))
  unfolding view
  approvers_view =
      part_is (approvers t) 256 (request_count t) zero_key (λ n. decided_key (decision_at t n)) (keys_part 320 256 (omega arith)) f.head.requests f.blank.approvers
      (λ n h. (decoded f n h).key_is)
      ∙ ap (padded request_room zero_key) (sym (ap (map decided_key) (map_tab decision_of (request_count t) (request_at t)) ∙ map_tab decided_key (request_count t) (decision_at t)))

  revoked_row_view : (g : ℕ) → g < made t → get_or (revoked t) g [] ≡ revoked_row (revocation_at t g)
  revoked_row_view g h = go (eqb (cell g 0 (revoked t)) 0) refl
    where
      go : (b : Bool) → eqb (cell g 0 (revoked t)) 0 ≡ b → get_or (revoked t) g [] ≡ revoked_row (cond b none (some (time_at (revoked t) g 1 2)))
      go true e =
          let o = f.revoked_fit g h in
          let mark = eqb-true (cell g 0 (revoked t)) 0 e in
          o.plain ∙ (λ i. mark i ∷ o.height mark i ∷ o.timestamp mark i ∷ 0 ∷ 0 ∷ 0 ∷ [])
      go false e =
          let o = f.revoked_fit g h in
          let mark : cell g 0 (revoked t) ≡ 1 = omega (arith, o.mark, eqb-false (cell g 0 (revoked t)) 0 e) in
          o.plain ∙ ap (λ (c : ℕ). c ∷ cell g 1 (revoked t) ∷ cell g 2 (revoked t) ∷ 0 ∷ 0 ∷ 0 ∷ []) mark

  revoked_view : revoked t ≡ padded registration_room zero_row (map revoked_row (view t).revoked)
  unfolding view
  revoked_view =
      part_is (revoked t) 256 (made t) zero_row (λ g. revoked_row (revocation_at t g)) (book_part 577 256 (omega arith)) f.head.made f.blank.revoked revoked_row_view
      ∙ ap (padded registration_room zero_row) (sym (map_tab revoked_row (made t) (revocation_at t)))

  log_view : log t ≡ padded log_room zero_row (map log_row (view t).log)
  unfolding view
  log_view =
      part_is (log t) 256 (log_count t) zero_row (λ j. log_row (slot_at t j)) (book_part 833 256 (omega arith)) f.head.log f.blank.log
      (λ j h. (f.log_fits.slots j h).plain)
      ∙ ap (padded log_room zero_row) (sym (map_tab log_row (log_count t) (slot_at t)))

  -- ---- the keys' parts
  held_view : held t ≡ padded key_room zero_key (map key_of (regs (view t)))
  held_view =
      part_is (held t) 64 (key_count t) zero_key (λ i. get_or (held t) i []) (keys_part 0 64 (omega arith)) f.head.keys f.blank.held (λ i h. refl)
      ∙ ap (padded key_room zero_key) (sym (ap (map key_of) (regs_view f) ∙ map_tab key_of (key_count t) (registration_at t)))

  agents_view : agents t ≡ padded request_room zero_key (map agent_of (asks (view t)))
  agents_view =
      part_is (agents t) 256 (request_count t) zero_key (λ n. get_or (agents t) n []) (keys_part 64 256 (omega arith)) f.head.requests f.blank.agents (λ n h. refl)
      ∙ ap (padded request_room zero_key) (sym (ap (map agent_of) (asks_view f) ∙ map_tab agent_of (request_count t) (asked_at t)))

  -- ---- what was asked, and the texts
  asked_row_view : (n : ℕ) → n < request_count t → get_or (asked t) n [] ≡ get_or (asked_rows 0 (tab (request_count t) (asked_at t))) n []
  asked_row_view n h =
      let at = places 0 (tab (request_count t) (asked_at t)) (tab_at (request_count t) (asked_at t) n h) in
      let start : cell n 2 (asked t) ≡ 0 + used (take n (tab (request_count t) (asked_at t))) =
      f.asked_fit.joined n h ∙ sym (rw (zero-add, take_tab n (request_count t) (asked_at t) (omega arith)) (used_view f n (omega arith))) in
      (f.asked_fit.each n h).plain
      ∙ (λ i. cell n 0 (asked t) ∷ cell n 1 (asked t) ∷ start i ∷ sym (text_long f n h) i ∷ cell n 4 (asked t) ∷ cell n 5 (asked t) ∷ [])
      ∙ sym (get_d_of_at [] at)

  asked_view : asked t ≡ padded request_room zero_row (asked_rows 0 (asks (view t)))
  asked_view =
      let rows = asked_rows 0 (tab (request_count t) (asked_at t)) in
      let long : length rows ≡ request_count t = length_asked 0 (tab (request_count t) (asked_at t)) ∙ length_tab (request_count t) (asked_at t) in
      part_is (asked t) 256 (request_count t) zero_row (λ n. get_or rows n []) (book_part 65 256 (omega arith)) f.head.requests f.blank.asked asked_row_view
      ∙ ap (padded request_room zero_row) (sym (tab_of rows (request_count t) (λ n. get_or rows n []) [] (omega arith) (λ n h. refl)) ∙ take_all (request_count t) rows (omega arith))
      ∙ ap (λ (l : List Asked). padded request_room zero_row (asked_rows 0 l)) (sym (asks_view f))

  words_none : words (tab 0 (asked_at t)) ≡ take (begins (asked t) 0) t.texts
  unfolding tab
  words_none = refl

  words_view : (n : ℕ) → n ≤ request_count t → words (tab n (asked_at t)) ≡ take (begins (asked t) n) t.texts
  words_view zero h = words_none
  words_view (suc n) h =
      let start = f.asked_fit.joined n h in
      ap words (tab_snoc n (asked_at t)) ∙ words_snoc (tab n (asked_at t)) (asked_at t n)
      ∙ (λ i. words_view n (omega arith) i ++ take (cell n 3 (asked t)) (drop (start i) t.texts))
      ∙ sym (take-add (begins (asked t) n) (cell n 3 (asked t)) t.texts)

  texts_view : t.texts ≡ padded text_room 0 (words (asks (view t)))
  texts_view =
      decode t.texts text_room (text_used t) 0 f.sized.texts_long f.blank.texts
      ∙ ap (padded text_room 0) (sym (ap words (asks_view f) ∙ words_view (request_count t) (omega arith) ∙ ap (λ (n : ℕ). take n t.texts) f.asked_fit.ends))

  pub laid_view : Laid t (view t)
  laid_view = record {
    head_is = head_view;
    holders_are = holders_view;
    asked_are = asked_view;
    decided_are = decided_view;
    revoked_are = revoked_view;
    log_is = log_view;
    held_are = held_view;
    agents_are = agents_view;
    approvers_are = approvers_view;
    texts_are = texts_view;
  }

  pub stands : Stands t (view t)
  stands = record { sound = sound_view f; laid = laid_back f.sized laid_view }
