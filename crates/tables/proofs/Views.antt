-- Tables that pass every test of the check hold the sound ledger that they show: it is sound. (Relaid.antt: and it lies in them.) Assumes nothing.
use mathlib.Core.Logic.{◌≢◌, inl, inr}
use mathlib.Core.Path.{◌∙◌, ◌≡◌, ap, refl, sym}
use Prim.Native.Nat.{◌+◌, ◌-◌, ◌<◌, ◌≤◌, suc, zero, ℕ}
use borrow.Author.Tests.{eq-eqb, eqb-false, eqb-true, ne_eqb}
use lib.Dec.{eqb}
use lib.ListN.{drop, get_or, length, length-drop}
use lib.Seq.{length-take-le}
use mathlib.Core.Bool.{Bool, ◌&&◌, cond, false, true}
use mathlib.Core.List.{List, []}
use mathlib.Core.Option.{Option, none, some}
use native.Mathlib.Nat.{add-suc, add-zero}
use native.Mathlib.Omega.{arith}
use Rattle.ids.proofs.Flags.{lt_or_ge}
use Rattle.lists.proofs.Tabs.{at_tab, count_tally, length_tab, map_tab, tab_at, tab_snoc}
use Rattle.lists.specs.Places.{At, tab}
use Rattle.lists.specs.Tallies.{count}
use Rattle.machine.proofs.Keep.{asked_of, reg_of}
use Rattle.machine.proofs.KeepRooms.{used_snoc}
use Rattle.machine.specs.Sound.{Counted, Judged, Roll, Rooms, Sound, slot, undecided_yet, verdict, waits}
use Rattle.machine.specs.Tests.{approved, asks, regs, same, used}
use Rattle.machine.specs.Types.{Approved, Asked, Decision, Holder, Registration, Rejected, Request, Undecided, Verdict}
use Rattle.records.specs.Roles.{role_of}
use Rattle.records.specs.declared.BlockTime.{BlockTime}
use Rattle.records.specs.declared.role.Role.TheVariants.{Approver}
use Rattle.rows.specs.Apart.{Distinct}
use Rattle.tables.specs.Fit.{DecidedFits, Fit, begins, waiting}
use Rattle.tables.specs.Parts.{agents, approvers, asked, cell, decided, held, holders, key_count, log_count, made, request_count, revoked, text_used}
use Rattle.tables.specs.Tables.{Tables, decided_key, decided_row}
use Rattle.tables.specs.View.{asked_at, decision_at, holder_at, registration_at, request_at, revocation_at, slot_at, text_at, time_at, verdict_at, view}

-- ---- decisions, by their rows
-- what a decision's row says of the decision
pub record Decoded (row key : List ℕ) (j : ℕ) (v : Verdict) (d : Decision) : Type 0 where
  pub row_is : row ≡ decided_row d
  pub key_is : key ≡ decided_key d
  pub open_is : undecided_yet d ≡ eqb (get_or row 0 0) 0
  pub approved_is : approved d ≡ eqb (get_or row 0 0) 1
  pub slot_is : (i : ℕ) → slot d ≡ some i → (get_or row 0 0 ≡ 1) × (get_or row 1 0 ≡ i)
  pub slot_of : get_or row 0 0 ≡ 1 → slot d ≡ some (get_or row 1 0)
  pub verdict_is : (w : Verdict) → verdict d ≡ some w → (w ≡ v) × (get_or row 0 0 ≡ 0 → ⊥)

decode_decision : {made agent : ℕ} {row key : List ℕ} (v : Verdict) → DecidedFits made agent row key
    → v ≡ record { key = key; account = get_or row 2 0; number = get_or row 3 0; time = record { height = get_or row 4 0; timestamp_ns = get_or row 5 0 } }
    → Decoded row key (get_or row 1 0) v (cond (eqb (get_or row 0 0) 0) Undecided (cond (eqb (get_or row 0 0) 1) (Approved (get_or row 1 0) v) (Rejected v)))
decode_decision {row = row} {key} v f e = go (eqb (get_or row 0 0) 0) refl (eqb (get_or row 0 0) 1) refl
  where
    go : (a : Bool) → eqb (get_or row 0 0) 0 ≡ a → (b : Bool) → eqb (get_or row 0 0) 1 ≡ b → Decoded row key (get_or row 1 0) v (cond a Undecided (cond b (Approved (get_or row 1 0) v) (Rejected v)))
    go true p b q =
        let mark = eqb-true (get_or row 0 0) 0 p in
        let z = f.absent mark in
        let not-one : eqb (get_or row 0 0) 1 ≡ false = ne_eqb (get_or row 0 0) 1 (λ w. omega arith) in
        record {
          row_is = z.0;
          key_is = z.1;
          open_is = sym p;
          approved_is = sym not-one;
          slot_is = λ i w. cc;
          slot_of = λ w. absurd (omega arith);
          verdict_is = λ u w. cc;
        }
    go false p true q =
        let mark = eqb-true (get_or row 0 0) 1 q in
        record {
          row_is = f.plain ∙ cc (mark, e);
          key_is = cc e;
          open_is = sym p;
          approved_is = sym q;
          slot_is = λ i w. (mark, cc);
          slot_of = λ w. refl;
          verdict_is = λ u w. (cc, eqb-false (get_or row 0 0) 0 p);
        }
    go false p false q =
        let zero-not = eqb-false (get_or row 0 0) 0 p in
        let one-not = eqb-false (get_or row 0 0) 1 q in
        let mark : get_or row 0 0 ≡ 2 = omega (arith, f.mark, zero-not, one-not) in
        record {
          row_is = f.plain ∙ cc (mark, f.unindexed mark, e);
          key_is = cc e;
          open_is = sym p;
          approved_is = sym q;
          slot_is = λ i w. cc;
          slot_of = λ w. absurd (one-not w);
          verdict_is = λ u w. (cc, zero-not);
        }

-- ---- what two distinct rows are
apart_same : (n : ℕ) (rows : List (List ℕ)) → Distinct n rows → (i j : ℕ) → i < n → j < n → get_or rows i [] ≡ get_or rows j [] → i ≡ j
apart_same n rows d i j h k e = elim (lt_or_ge i j) [
  | inl less ↦ absurd (d i h j less k e)
  | inr more ↦ elim (lt_or_ge j i) [ inl less ↦ absurd (d j k i less h (sym e)) | inr same ↦ omega arith ]
]

-- ---- texts lie within their table
begins_rises : (rows : List (List ℕ)) (n k : ℕ) → begins rows n ≤ begins rows (n + k)
begins_rises rows n zero = rw add-zero (omega arith)
begins_rises rows n (suc k) = rw add-suc (omega (arith, begins_rises rows n k))

module _ {t : Tables} (f : Fit t) where
  pub text_within : (n : ℕ) → n < request_count t → cell n 2 (asked t) + cell n 3 (asked t) ≤ text_used t
  text_within n h =
      let e : suc n + (request_count t - suc n) ≡ request_count t = omega arith in
      let up_to : begins (asked t) (suc n) ≤ begins (asked t) (request_count t) = rw e at (begins_rises (asked t) (suc n) (request_count t - suc n)) in
      omega (arith, f.asked_fit.joined n h, f.asked_fit.ends, up_to)

  pub text_long : (n : ℕ) → n < request_count t → length (text_at t n) ≡ cell n 3 (asked t)
  text_long n h =
      length-take-le (cell n 3 (asked t)) (drop (cell n 2 (asked t)) t.texts) (rw length-drop (omega (arith, text_within n h, f.head.text, f.sized.texts_long)))

  -- ---- the columns shown
  pub regs_view : regs (view t) ≡ tab (key_count t) (registration_at t)
  unfolding view
  regs_view = map_tab reg_of (key_count t) (holder_at t)

  pub asks_view : asks (view t) ≡ tab (request_count t) (asked_at t)
  unfolding view
  asks_view = map_tab asked_of (request_count t) (request_at t)

  at_reg : {i : ℕ} {p : Registration} → At (regs (view t)) i p → (i < key_count t) × (p ≡ registration_at t i)
  at_reg h = at_tab (key_count t) (registration_at t) (rw regs_view at h)

  reg_at : (i : ℕ) → i < key_count t → At (regs (view t)) i (registration_at t i)
  reg_at i h = rw regs_view (tab_at (key_count t) (registration_at t) i h)

  at_ask : {n : ℕ} {a : Asked} → At (asks (view t)) n a → (n < request_count t) × (a ≡ asked_at t n)
  at_ask h = at_tab (request_count t) (asked_at t) (rw asks_view at h)

  at_revoked : {g : ℕ} {o : Option BlockTime} → At (view t).revoked g o → (g < made t) × (o ≡ revocation_at t g)
  unfolding view
  at_revoked h = at_tab (made t) (revocation_at t) h

  at_request : {n : ℕ} {r : Request} → At (view t).requests n r → (n < request_count t) × (r ≡ request_at t n)
  unfolding view
  at_request h = at_tab (request_count t) (request_at t) h

  request_there : (n : ℕ) → n < request_count t → At (view t).requests n (request_at t n)
  unfolding view
  request_there n h = tab_at (request_count t) (request_at t) n h

  at_slot : {j n : ℕ} → At (view t).log j n → (j < log_count t) × (n ≡ slot_at t j)
  unfolding view
  at_slot h = at_tab (log_count t) (slot_at t) h

  slot_there : (j : ℕ) → j < log_count t → At (view t).log j (slot_at t j)
  unfolding view
  slot_there j h = tab_at (log_count t) (slot_at t) j h

  at_holder : {i : ℕ} {p : Holder} → At (view t).keys i p → (i < key_count t) × (p ≡ holder_at t i)
  unfolding view
  at_holder h = at_tab (key_count t) (holder_at t) h

  revoked_long : length (view t).revoked ≡ made t
  unfolding view
  revoked_long = length_tab (made t) (revocation_at t)

  log_long : length (view t).log ≡ log_count t
  unfolding view
  log_long = length_tab (log_count t) (slot_at t)

  requests_long : length (view t).requests ≡ request_count t
  unfolding view
  requests_long = length_tab (request_count t) (request_at t)

  asks_long : length (asks (view t)) ≡ request_count t
  asks_long = ap length asks_view ∙ length_tab (request_count t) (asked_at t)

  pub decoded : (n : ℕ) → n < request_count t → Decoded (get_or (decided t) n []) (get_or (approvers t) n []) (cell n 1 (decided t)) (verdict_at t n) (decision_at t n)
  decoded n h = decode_decision (verdict_at t n) (f.decided_fit n h) refl

  -- ---- registrations and requests
  -- no registered key has a registration with a mark
  unheld : (g : ℕ) → (cell g 0 (revoked t) ≡ 0 → ⊥) → (i : ℕ) → i < key_count t → cell i 2 (holders t) ≢ g
  unheld g marked i h e = marked (ap (λ (k : ℕ). cell k 0 (revoked t)) (sym e) ∙ f.registered.in_force i h)

  alive_there : (i n : ℕ) → i < key_count t → n < request_count t → get_or (agents t) n [] ≡ get_or (held t) i [] → cell i 3 (holders t) ≤ n → cell n 1 (asked t) ≡ cell i 2 (holders t)
  alive_there i n h k e since = go (eqb (cell (cell n 1 (asked t)) 0 (revoked t)) 0) refl
    where
      g : ℕ
      g = cell n 1 (asked t)

      go : (b : Bool) → eqb (cell g 0 (revoked t)) 0 ≡ b → g ≡ cell i 2 (holders t)
      go true q =
          let w = f.registered.every g (f.asked_fit.each n k).number (eqb-true (cell g 0 (revoked t)) 0 q) in
          let own = f.lived.own n k w.0 w.1 w.2 in
          let same = apart_same (key_count t) (held t) f.distinct w.0 i w.1 h (own.same_key ∙ e) in
          sym w.2 ∙ ap (λ (j : ℕ). cell j 2 (holders t)) same
      go false q =
          let young = f.lived.younger n k (unheld g (eqb-false (cell g 0 (revoked t)) 0 q)) i h (sym e) in
          absurd (omega arith)

  revoked_none : (g : ℕ) → none ≡ revocation_at t g → cell g 0 (revoked t) ≡ 0
  revoked_none g e = go (eqb (cell g 0 (revoked t)) 0) refl e
    where
      go : (b : Bool) → eqb (cell g 0 (revoked t)) 0 ≡ b → none ≡ cond b none (some (time_at (revoked t) g 1 2)) → cell g 0 (revoked t) ≡ 0
      go true q w = eqb-true (cell g 0 (revoked t)) 0 q
      go false q w = cc

  none_there : (g : ℕ) → g < made t → cell g 0 (revoked t) ≡ 0 → At (view t).revoked g none
  unfolding view
  none_there g h e =
      let is : revocation_at t g ≡ none = rw (eq-eqb (cell g 0 (revoked t)) 0 e) in
      rw (← is) (tab_at (made t) (revocation_at t) g h)

  roll_view : Roll (regs (view t)) (view t).revoked (asks (view t))
  roll_view = record {
    distinct = λ hp hq k.
        let a = at_reg hp in
        let b = at_reg hq in
        apart_same (key_count t) (held t) f.distinct _ _ a.0 b.0 (cc (a.1, b.1));
    in_force = λ hp. let a = at_reg hp in rw a.1 (none_there _ (f.holders_fit _ a.0).number (f.registered.in_force _ a.0));
    one_key = λ hp hq k.
        let a = at_reg hp in
        let b = at_reg hq in
        f.registered.one_key _ _ a.0 b.0 (cc (a.1, b.1));
    every = λ hg.
        let a = at_revoked hg in
        let w = f.registered.every _ a.0 (revoked_none _ a.1) in
        (w.0, registration_at t w.0, reg_at w.0 w.1, w.2);
    since = λ hp. let a = at_reg hp in rw (a.1, asks_long) (f.holders_fit _ a.0).active;
    alive = λ hp hn k.
        let a = at_reg hp in
        let b = at_ask hn in
        rw (a.1, b.1) (
          (λ since. alive_there _ _ a.0 b.0 (ap (λ (x : Asked). x.key) (sym b.1) ∙ k ∙ ap (λ (x : Registration). x.key) a.1) since),
          (λ e. (f.lived.own _ b.0 _ a.0 (sym e)).since),
        );
    own = λ hp hn k.
        let a = at_reg hp in
        let b = at_ask hn in
        let o = f.lived.own _ b.0 _ a.0 (ap (λ (x : Registration). x.number) (sym a.1) ∙ sym k ∙ ap (λ (x : Asked). x.number) b.1) in
        rw (a.1, b.1) (record { same_key = sym o.same_key; agent = ap role_of o.agent; same_account = sym o.same_account });
    known = λ hn. let b = at_ask hn in rw (b.1, revoked_long) (f.asked_fit.each _ b.0).number;
  }

  -- ---- rooms
  used_none : used (tab 0 (asked_at t)) ≡ 0
  unfolding tab
  used_none = refl

  pub used_view : (n : ℕ) → n ≤ request_count t → used (tab n (asked_at t)) ≡ begins (asked t) n
  used_view zero h = used_none
  used_view (suc n) h = rw (tab_snoc, used_snoc) (omega (arith, used_view n (omega arith), text_long n (omega arith)))

  pub used_all : used (asks (view t)) ≡ text_used t
  used_all = ap used asks_view ∙ used_view (request_count t) (omega arith) ∙ f.asked_fit.ends

  rooms_view : Rooms (regs (view t)) (view t).revoked (asks (view t))
  rooms_view = record {
    keys = rw (regs_view, length_tab) f.head.keys;
    registrations = rw revoked_long f.head.made;
    requests = rw asks_long f.head.requests;
    text = rw used_all f.head.text;
    legal = λ hn.
        let b = at_ask hn in
        let a = f.asked_fit.each _ b.0 in
        rw (b.1, text_long _ b.0) (a.some_text, a.short);
  }

  -- ---- decisions and the log
  judged_view : Judged (view t).revoked (view t).requests (view t).log
  judged_view = record {
    other = λ {n = n} {v = v} hn hv.
        let a = at_request hn in
        let d = decoded n a.0 in
        let w = d.verdict_is v (ap (λ (r : Request). verdict r.decision) (sym a.1) ∙ hv) in
        let o = f.decided_fit n a.0 in
        rw (w.0, a.1, revoked_long) (o.other w.1, o.known w.1);
    logged = λ {j} hj.
        let a = at_slot hj in
        let o = f.log_fits.slots j a.0 in
        rw a.1 (request_at t (slot_at t j), request_there (slot_at t j) o.request, (decoded (slot_at t j) o.request).slot_of o.approved ∙ ap some o.index);
    slotted = λ {j} {n} hn hs.
        let a = at_request hn in
        let c = (decoded n a.0).slot_is j (ap (λ (r : Request). slot r.decision) (sym a.1) ∙ hs) in
        let o = f.log_fits.indices n a.0 c.0 in
        rw (← (ap (λ (i : ℕ). slot_at t i) (sym c.1) ∙ o.1)) (slot_there j (rw c.1 at o.0));
    log_length =
        log_long ∙ f.log_fits.long
        ∙ ap (λ (n : ℕ). count n (λ i. eqb (cell i 0 (decided t)) 1)) (sym requests_long)
        ∙ count_tally (view t).requests (λ n. eqb (cell n 0 (decided t)) 1) (λ r. approved r.decision)
        (λ n r hr. let a = at_request hr in sym (decoded n a.0).approved_is ∙ ap (λ (x : Request). approved x.decision) (sym a.1));
  }

  -- ---- pending counts
  counted_view : Counted (view t).keys (view t).requests
  counted_view = record {
    pending = λ {i} hp.
        let a = at_holder hp in
        let g = cell i 2 (holders t) in
        rw a.1 (
        f.waits i a.0
        ∙ ap (λ (n : ℕ). waiting n (asked t) (decided t) g) (sym requests_long)
        ∙ count_tally (view t).requests (λ n. eqb (cell n 0 (decided t)) 0 && eqb (cell n 1 (asked t)) g) (waits g)
        (λ n r hr. let b = at_request hr in rw (b.1, (decoded n b.0).open_is))
        );
    few = λ hp. let a = at_holder hp in rw a.1 (f.holders_fit _ a.0).pending;
    idle = λ {i} hp w.
        let a = at_holder hp in
        let o = f.holders_fit i a.0 in
        let one : cell i 1 (holders t) ≡ 1 = approvers_number (cell i 1 (holders t)) o.role (ap (λ (x : Holder). x.reg.role) (sym a.1) ∙ w) in
        rw a.1 (o.idle one);
  }
    where
      approvers_number : (n : ℕ) → n ≤ 1 → role_of n ≡ Approver → n ≡ 1
      approvers_number zero h e = cc
      approvers_number (suc n) h e = omega arith

  pub sound_view : Sound (view t)
  sound_view = record { roll = roll_view; rooms = rooms_view; judged = judged_view; counted = counted_view }
