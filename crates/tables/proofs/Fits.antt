-- The tables that a sound ledger lies in pass every test of the check. Assumes nothing.
use mathlib.Core.Logic.{◌≢◌, inl, inr}
use mathlib.Core.Path.{◌∙◌, ◌≡◌, ap, refl, sym}
use Prim.Native.Nat.{◌+◌, ◌<◌, ◌≤◌, suc, zero, ℕ}
use lib.Dec.{eqb}
use lib.ListN.{get_or, length, length-map, take}
use lib.Seq.{take_all}
use mathlib.Core.Bool.{◌&&◌}
use mathlib.Core.List.{List, [], ◌∷◌, map}
use mathlib.Core.Option.{Option, none, some}
use native.Mathlib.Omega.{arith}
use Rattle.ids.proofs.Flags.{lt_or_ge}
use Rattle.lists.proofs.Maps.{at_map, at_unmap}
use Rattle.lists.proofs.Places.{at_below, at_head, at_lt, at_nil, down}
use Rattle.lists.proofs.Tabs.{count_tally}
use Rattle.lists.specs.Places.{At}
use Rattle.machine.proofs.Keep.{asked_of, reg_of}
use Rattle.machine.proofs.Pages.{log_short}
use Rattle.machine.specs.Rooms.{key_room, log_room, registration_room, request_room, text_room}
use Rattle.machine.specs.Sound.{Sound, slot, undecided_yet, verdict, waits}
use Rattle.machine.specs.Tests.{approved, asks, regs, used}
use Rattle.machine.specs.Types.{Approved, Asked, Decision, Holder, Ledger, Registration, Rejected, Request, Undecided, Verdict}
use Rattle.records.proofs.Roles.{same_by_number}
use Rattle.records.specs.Roles.{role_number}
use Rattle.records.specs.declared.BlockTime.{BlockTime}
use Rattle.records.specs.declared.role.Role.{Role}
use Rattle.records.specs.declared.role.Role.TheVariants.{Agent, Approver}
use Rattle.rows.proofs.Apart.{distinct_of_places, distinct_padded}
use Rattle.rows.proofs.Padded.{zero_rest}
use Rattle.rows.specs.Apart.{Distinct}
use Rattle.rows.specs.Padded.{padded}
use Rattle.rows.specs.Zeros.{ZeroFrom, zero_key, zero_row}
use Rattle.tables.proofs.Laid.{Laid, laid, sized}
use Rattle.tables.proofs.Rows.{agent_row, approver_row, asked_row_lem, decided_row_lem, held_row, holder_row_lem, key_count_is, keys_room, length_asked, length_words, log_count_is, log_row_lem, made_is, request_count_is, requests_room, revoked_row_lem, text_used_is}
use Rattle.tables.specs.Fit.{AllAskedFit, AllDecidedFit, AllRevokedFit, Blank, DecidedFits, Fit, HeadFits, HoldersFit, Lived, LogFits, Registered, RevokedFits, Waits, begins}
use Rattle.tables.specs.Parts.{agents, approvers, asked, cell, decided, held, holders, key_count, log, log_count, made, request_count, revoked, text_used}
use Rattle.tables.specs.Tables.{Stands, Tables, agent_of, asked_rows, decided_key, decided_row, decision_of, decisions, holder_row, key_of, log_row, revoked_row, words}

role_small : (r : Role) → role_number r ≤ 1
role_small Agent = omega arith
role_small Approver = omega arith

mark_zero : (d : Decision) → eqb (get_or (decided_row d) 0 0) 0 ≡ undecided_yet d
mark_zero Undecided = refl
mark_zero (Approved j v) = refl
mark_zero (Rejected v) = refl

mark_one : (d : Decision) → eqb (get_or (decided_row d) 0 0) 1 ≡ approved d
mark_one Undecided = refl
mark_one (Approved j v) = refl
mark_one (Rejected v) = refl

used_more : (all : List Asked) {n : ℕ} {a : Asked} → At all n a → used (take (suc n) all) ≡ used (take n all) + length a.text
used_more [] h = absurd (at_nil h)
used_more (b ∷ rest) {n = zero} h = rw (at_head h) (omega arith)
used_more (b ∷ rest) {n = suc n} h = omega (arith, used_more rest (down h))

module _ {t : Tables} (L : Ledger) (s : Sound L) (l : Laid t L) where
  -- ---- a place below a count is a place of the ledger's list
  holder_below : (i : ℕ) → i < key_count t → (p : Holder) × At L.keys i p
  holder_below i h = at_below L.keys i (rw (key_count_is s l) at h)

  request_below : (n : ℕ) → n < request_count t → (r : Request) × At L.requests n r
  request_below n h = at_below L.requests n (rw (request_count_is s l) at h)

  revoked_below : (g : ℕ) → g < made t → (o : Option BlockTime) × At L.revoked g o
  revoked_below g h = at_below L.revoked g (rw (made_is s l) at h)

  -- ---- head and blanks
  head_fits : HeadFits (get_or t.book 0 [])
  head_fits = rw l.head_is (record { plain = refl; keys = keys_room s l; made = s.rooms.registrations; requests = requests_room s l; log = log_short L s; text = s.rooms.text })

  blank_rows : {part : List (List ℕ)} {A : Type 0} (f : A → List ℕ) (xs : List A) (room : ℕ) (z : List ℕ) (n : ℕ) → part ≡ padded room z (map f xs) → n ≡ length xs → ZeroFrom z n part
  blank_rows f xs room z n e k = rw e (zero_rest room z (map f xs) n (length-map xs f ∙ sym k))

  blank : Blank t
  blank = record {
    holders = blank_rows holder_row L.keys key_room zero_row (key_count t) l.holders_are (key_count_is s l);
    asked = rw l.asked_are (zero_rest request_room zero_row (asked_rows 0 (asks L)) (request_count t) (length_asked 0 (asks L) ∙ length-map L.requests asked_of ∙ sym (request_count_is s l)));
    decided = blank_rows decided_row (decisions L) request_room zero_row (request_count t) l.decided_are (request_count_is s l ∙ sym (length-map L.requests decision_of));
    revoked = blank_rows revoked_row L.revoked registration_room zero_row (made t) l.revoked_are (made_is s l);
    log = blank_rows log_row L.log log_room zero_row (log_count t) l.log_is (log_count_is s l);
    held = blank_rows key_of (regs L) key_room zero_key (key_count t) l.held_are (key_count_is s l ∙ sym (length-map L.keys reg_of));
    agents = blank_rows agent_of (asks L) request_room zero_key (request_count t) l.agents_are (request_count_is s l ∙ sym (length-map L.requests asked_of));
    approvers = blank_rows decided_key (decisions L) request_room zero_key (request_count t) l.approvers_are (request_count_is s l ∙ sym (length-map L.requests decision_of));
    texts = rw l.texts_are (zero_rest text_room 0 (words (asks L)) (text_used t) (length_words (asks L) ∙ sym (text_used_is s l)));
  }

  -- ---- rows by themselves
  holders_fit : HoldersFit (key_count t) (made t) (request_count t) (holders t)
  holders_fit i h =
      let (p, hp) = holder_below i h in
      let reg = at_map reg_of hp in
      rw (holder_row_lem s l hp, made_is s l, request_count_is s l) (record {
        role = role_small p.reg.role;
        number = at_lt (s.roll.in_force reg);
        active = rw (length-map L.requests asked_of) at (s.roll.since reg);
        pending = s.counted.few hp;
        idle = λ e. s.counted.idle hp (same_by_number p.reg.role Approver e);
        plain = refl;
      })

  revoked_fits : (o : Option BlockTime) → RevokedFits (revoked_row o)
  revoked_fits none = record { mark = omega arith; height = λ e. refl; timestamp = λ e. refl; plain = refl }
  revoked_fits (some w) = record { mark = omega arith; height = λ e. absurd (omega arith); timestamp = λ e. absurd (omega arith); plain = refl }

  all_revoked_fit : AllRevokedFit (made t) (revoked t)
  all_revoked_fit g h = let (o, ho) = revoked_below g h in rw (revoked_row_lem s l ho) (revoked_fits o)

  -- ---- what was asked
  begins_is : (n : ℕ) → n ≤ request_count t → begins (asked t) n ≡ used (take n (asks L))
  begins_is zero h = refl
  begins_is (suc n) h =
      let (r, hr) = request_below n h in
      let here : cell n 3 (asked t) ≡ length r.asked.text = ap (λ (row : List ℕ). get_or row 3 0) (asked_row_lem s l hr) in
      omega (arith, begins_is n (omega arith), here, used_more (asks L) (at_map asked_of hr))

  all_asked_fit : AllAskedFit (request_count t) (made t) (text_used t) (asked t)
  all_asked_fit = record {
    each = λ n h.
        let (r, hr) = request_below n h in
        let legal = s.rooms.legal (at_map asked_of hr) in
        rw (asked_row_lem s l hr, made_is s l) (record { number = s.roll.known (at_map asked_of hr); some_text = legal.0; short = legal.1; plain = refl });
    joined = λ n h. let (r, hr) = request_below n h in ap (λ (row : List ℕ). get_or row 2 0) (asked_row_lem s l hr) ∙ sym (begins_is n (omega arith));
    ends =
        begins_is (request_count t) (omega arith)
        ∙ ap used (take_all (request_count t) (asks L) (omega (arith, length-map L.requests asked_of, request_count_is s l)))
        ∙ sym (text_used_is s l);
  }

  -- ---- decisions
  decided_fits : (n : ℕ) (r : Request) → At L.requests n r → DecidedFits (length L.revoked) r.asked.account (decided_row r.decision) (decided_key r.decision)
  decided_fits n r hr = go r.decision (λ v e. s.judged.other hr e)
    where
      go : (d : Decision) → ((v : Verdict) → verdict d ≡ some v → (v.account ≢ r.asked.account) × (v.number < length L.revoked))
          → DecidedFits (length L.revoked) r.asked.account (decided_row d) (decided_key d)
      go Undecided o = record { mark = omega arith; absent = λ e. (refl, refl); known = λ n. absurd (n refl); other = λ n. absurd (n refl); unindexed = λ e. absurd (omega arith); plain = refl }
      go (Approved j v) o = record { mark = omega arith; absent = λ e. absurd (omega arith); known = λ n. (o v refl).1; other = λ n. (o v refl).0; unindexed = λ e. absurd (omega arith); plain = refl }
      go (Rejected v) o = record { mark = omega arith; absent = λ e. absurd (omega arith); known = λ n. (o v refl).1; other = λ n. (o v refl).0; unindexed = λ e. refl; plain = refl }

  all_decided_fit : AllDecidedFit (request_count t) (made t) (asked t) (decided t) (approvers t)
  all_decided_fit n h = let (r, hr) = request_below n h in rw (asked_row_lem s l hr, decided_row_lem s l hr, approver_row s l hr, made_is s l) (decided_fits n r hr)

  -- ---- the log
  approved_cells : (d : Decision) {j : ℕ} → slot d ≡ some j → (get_or (decided_row d) 0 0 ≡ 1) × (get_or (decided_row d) 1 0 ≡ j)
  approved_cells Undecided e = cc
  approved_cells (Approved i v) e = (refl, cc)
  approved_cells (Rejected v) e = cc

  approved_slot : (d : Decision) → get_or (decided_row d) 0 0 ≡ 1 → slot d ≡ some (get_or (decided_row d) 1 0)
  approved_slot Undecided e = absurd (omega arith)
  approved_slot (Approved i v) e = refl
  approved_slot (Rejected v) e = absurd (omega arith)

  log_fits : LogFits (log_count t) (request_count t) (log t) (decided t)
  log_fits = record {
    slots = λ j h.
        let (n, hn) = at_below L.log j (rw (log_count_is s l) at h) in
        let o = s.judged.logged hn in
        let c = approved_cells o.0.decision o.2 in
        rw (log_row_lem s l hn) (record {
          request = rw (request_count_is s l) (at_lt o.1);
          approved = ap (λ (row : List ℕ). get_or row 0 0) (decided_row_lem s l o.1) ∙ c.0;
          index = ap (λ (row : List ℕ). get_or row 1 0) (decided_row_lem s l o.1) ∙ c.1;
          plain = refl;
        });
    indices = λ n h e.
        let (r, hr) = request_below n h in
        let row = decided_row_lem s l hr in
        let k = s.judged.slotted hr (approved_slot r.decision (sym (ap (λ (x : List ℕ). get_or x 0 0) row) ∙ e)) in
        rw (row, log_count_is s l) (at_lt k, ap (λ (x : List ℕ). get_or x 0 0) (log_row_lem s l k));
    long =
        log_count_is s l ∙ s.judged.log_length
        ∙ sym (rw (request_count_is s l) (count_tally L.requests (λ n. eqb (cell n 0 (decided t)) 1) (λ r. approved r.decision)
        (λ n r hr. ap (λ (row : List ℕ). eqb (get_or row 0 0) 1) (decided_row_lem s l hr) ∙ mark_one r.decision)));
  }

  -- ---- keys and registrations
  distinct : Distinct (key_count t) (held t)
  distinct =
      let keys = map key_of (regs L) in
      let m : length keys ≡ key_count t = length-map (regs L) key_of ∙ length-map L.keys reg_of ∙ sym (key_count_is s l) in
      rw l.held_are (distinct_padded key_room zero_key keys (key_count t) m (rw (key_count_is s l) (keys_room s l)) (distinct_of_places keys (key_count t) m
      (λ i j x y hx hy e.
      let a = at_unmap key_of (regs L) hx in
      let b = at_unmap key_of (regs L) hy in
      s.roll.distinct a.1 b.1 (a.2 ∙ e ∙ sym b.2))))

  number_is : {i : ℕ} {p : Holder} → At L.keys i p → cell i 2 (holders t) ≡ p.reg.number
  number_is hp = ap (λ (row : List ℕ). get_or row 2 0) (holder_row_lem s l hp)

  asked_number_is : {n : ℕ} {r : Request} → At L.requests n r → cell n 1 (asked t) ≡ r.asked.number
  asked_number_is hr = ap (λ (row : List ℕ). get_or row 1 0) (asked_row_lem s l hr)

  -- a row of marks with mark 0 is that of a registration in force
  unended : (o : Option BlockTime) → get_or (revoked_row o) 0 0 ≡ 0 → o ≡ none
  unended none e = refl
  unended (some w) e = absurd (omega arith)

  registered : Registered (key_count t) (made t) (holders t) (revoked t)
  registered = record {
    in_force = λ i h.
        let (p, hp) = holder_below i h in
        ap (λ (g : ℕ). cell g 0 (revoked t)) (number_is hp) ∙ ap (λ (row : List ℕ). get_or row 0 0) (revoked_row_lem s l (s.roll.in_force (at_map reg_of hp)));
    one_key = λ i j h k e.
        let (p, hp) = holder_below i h in
        let (q, hq) = holder_below j k in
        s.roll.one_key (at_map reg_of hp) (at_map reg_of hq) (sym (number_is hp) ∙ e ∙ number_is hq);
    every = λ g h e.
        let (o, ho) = revoked_below g h in
        let free : o ≡ none = unended o (sym (ap (λ (row : List ℕ). get_or row 0 0) (revoked_row_lem s l ho)) ∙ e) in
        let w = s.roll.every (rw free at ho) in
        let (p, hp, q) = at_unmap reg_of L.keys w.2 in
        (w.0, rw (key_count_is s l) (at_lt hp), number_is hp ∙ ap (λ (x : Registration). x.number) q ∙ w.3);
  }

  -- ---- requests and their keys
  lived : Lived (key_count t) (request_count t) (holders t) (held t) (asked t) (agents t)
  lived = record {
    own = λ n h i k e.
        let (p, hp) = holder_below i k in
        let (r, hr) = request_below n h in
        let reg = at_map reg_of hp in
        let ask = at_map asked_of hr in
        let number : r.asked.number ≡ p.reg.number = sym (asked_number_is hr) ∙ sym e ∙ number_is hp in
        let o = s.roll.own reg ask number in
        record {
          same_key = held_row s l hp ∙ sym o.same_key ∙ sym (agent_row s l hr);
          agent = ap (λ (row : List ℕ). get_or row 1 0) (holder_row_lem s l hp) ∙ ap role_number o.agent;
          same_account = ap (λ (row : List ℕ). get_or row 0 0) (holder_row_lem s l hp) ∙ sym o.same_account ∙ sym (ap (λ (row : List ℕ). get_or row 0 0) (asked_row_lem s l hr));
          since = rw (holder_row_lem s l hp) ((s.roll.alive reg ask o.same_key).1 number);
        };
    younger = λ n h none_has i k e.
        let (p, hp) = holder_below i k in
        let (r, hr) = request_below n h in
        let reg = at_map reg_of hp in
        let ask = at_map asked_of hr in
        let same_key : r.asked.key ≡ p.reg.key = sym (agent_row s l hr) ∙ sym e ∙ held_row s l hp in
        let row : cell i 3 (holders t) ≡ p.reg.active = ap (λ (x : List ℕ). get_or x 3 0) (holder_row_lem s l hp) in
        elim (lt_or_ge n p.reg.active) [
          | inl young ↦ rw row young
          | inr old ↦ absurd (none_has i k (number_is hp ∙ sym ((s.roll.alive reg ask same_key).0 old) ∙ sym (asked_number_is hr)))
        ];
  }

  -- ---- pending counts
  waits_fit : Waits (key_count t) (request_count t) (holders t) (asked t) (decided t)
  waits_fit i h =
      let (p, hp) = holder_below i h in
      ap (λ (row : List ℕ). get_or row 4 0) (holder_row_lem s l hp) ∙ s.counted.pending hp
      ∙ sym (rw (number_is hp, request_count_is s l) (count_tally L.requests (λ n. eqb (cell n 0 (decided t)) 0 && eqb (cell n 1 (asked t)) p.reg.number) (waits p.reg.number)
      (λ n r hr. rw (decided_row_lem s l hr, asked_row_lem s l hr, mark_zero r.decision))))

-- ---- all together
pub fits : {t : Tables} {L : Ledger} → Stands t L → Fit t
fits {t} {L} st =
    let s = st.sound in
    let l = laid L st.laid in
    record {
      sized = sized L st.laid;
      head = head_fits L s l;
      blank = blank L s l;
      holders_fit = holders_fit L s l;
      revoked_fit = all_revoked_fit L s l;
      asked_fit = all_asked_fit L s l;
      decided_fit = all_decided_fit L s l;
      log_fits = log_fits L s l;
      distinct = distinct L s l;
      registered = registered L s l;
      lived = lived L s l;
      waits = waits_fit L s l;
    }
